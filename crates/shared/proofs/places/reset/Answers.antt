-- A fill empties the places that stay, and those that are missing come empty.
use Rattle.std.proofs.Common.{◌≡◌, ℕ, ◌+◌, ◌-◌, ◌<◌, ◌≤◌, List, ◌++◌, None, length, take, drop, replicate, sym, ap, ◌∙◌, rules, arith}
use Rattle.std.specs.List.{refill}
use Rattle.std.proofs.lemmas.List.{drop-replicate, length-replicate, length-take, replicate-append-replicate, take-replicate}
use Rattle.shared.specs.Places.{Place}
use Rattle.shared.proofs.Steps.{cleared}
use Rattle.shared.proofs.places.reset.Goals as goal

-- empty places, and more of 256 empty ones up to n
filled_up : (n m : ℕ) → m < n → n ≤ 256 → replicate {A = Place} m None ++ take (n - m) (drop m (replicate 256 None)) ≡ replicate n None
filled_up n m l few =
    let more = ap (take (n - m)) (drop-replicate {X = Place} m 256 None) ∙ take-replicate {X = Place} (n - m) (256 - m) None (omega arith) in
    let all : m + (n - m) ≡ n = omega arith in
    ap (λ (ps : List Place). replicate m None ++ ps) more ∙ replicate-append-replicate m (n - m) None ∙ ap (λ (k : ℕ). replicate k None) all

pub returns-then-count-places : goal.returns-then-count-places
returns-then-count-places c =
    let n = c.args.places in
    let m = c.len-count.result in
    let stay = c.truncate.new.self.items in
    let empty = cleared _ stay _ c.as_mut_slice.ensures.value (c.fill.ensures.after (λ _ e. search rules)) in
    let count : m ≡ length stay = c.len-count.ensures.value ∙ ap length empty ∙ length-replicate (length stay) None in
    let more : c.try_extend_from_slice-extended.new.self.items ≡ refill (length stay) stay c.fill.new.self ++ take (n - m) (drop m (replicate 256 None)) = grind arith in
    more ∙ ap (λ (ps : List Place). ps ++ take (n - m) (drop m (replicate 256 None))) (empty ∙ ap (λ (k : ℕ). replicate k None) (sym count)) ∙ filled_up n m c.if-count-places.true c.requires

pub returns-else-count-places : goal.returns-else-count-places
returns-else-count-places c =
    let n = c.args.places in
    let stay = c.truncate.new.self.items in
    let empty = cleared _ stay _ c.as_mut_slice.ensures.value (c.fill.ensures.after (λ _ e. search rules)) in
    let count : c.len-count.result ≡ length stay = c.len-count.ensures.value ∙ ap length empty ∙ length-replicate (length stay) None in
    let all : length stay ≡ n = omega (arith, count, c.if-count-places.false, ap length c.truncate.ensures.items, length-take n c.args.cells.now.items) in
    empty ∙ ap (λ (k : ℕ). replicate k None) all
