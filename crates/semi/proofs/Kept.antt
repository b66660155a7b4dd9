-- What a line and a counter keep.
use Rattle.std.proofs.Common.{◌≡◌, ℕ, ◌+◌, ◌-◌, ◌*◌, ◌<◌, ◌≤◌, true, List, length, ap, subst, sym, mul-le-mul, arith}
use Rattle.semi.specs.Adding.{added_lawful}
use Rattle.semi.proofs.Orders.{orderly_from, orderly_test}
use Rattle.semi.proofs.Steps.{value-start}
use Rattle.semi.specs.Line.{Lawful, added, orderly, start, total, value}
use Rattle.semi.specs.declared.entry.Entry.{Entry}
use Rattle.semi.specs.declared.counter.SemiOrdered.{SemiOrdered}
use Rattle.flow.specs.Limits.{most_packets, most_step, most_bound}
use Rattle.flow.specs.declared.code.Code.{Code}

pub line_lawful : (n s t v : ℕ) (xs : List Entry) → length xs ≤ n → orderly s xs ≡ true → total s xs ≤ v + t * (s - 1) → Lawful n s t v xs
line_lawful n s t v xs few o sum =
    let p = orderly_from s xs o in
    record { few = few; rising = p.0; distinct = p.1; small = p.2; sum = sum }

-- a line after an add
pub line_kept : (n s w : ℕ) (xs : List Entry) (k : Code) (ys : List Entry) → 0 < n → 0 < s → length xs ≤ n → orderly s xs ≡ true → ys ≡ added n s xs k w →
    (length ys ≤ n) × (orderly s ys ≡ true)
line_kept n s w xs k ys some step few o e =
    let l = line_lawful n s 0 (total s xs) xs few o (omega arith) in
    let m : Lawful n s (0 + 1) (total s xs + w) ys = subst (Lawful n s (0 + 1) (total s xs + w)) (sym e) (added_lawful n s 0 (total s xs) w xs k some step l) in
    (m.few, orderly_test s ys m.rising m.distinct m.small)

-- the line of a counter is lawful
pub lawful : (c : SemiOrdered) → Lawful c.line.sizes.places c.line.sizes.step c.tally.packets c.tally.volume c.line.entries.items
lawful c = line_lawful _ _ _ _ _ c.line.few c.line.order c.sum

pub total_fits : (c : SemiOrdered) → total c.line.sizes.step c.line.entries.items ≤ most_bound
total_fits c =
    let m : c.tally.packets * (c.line.sizes.step - 1) ≤ most_packets * (most_step - 1) = let q : c.line.sizes.step - 1 ≤ most_step - 1 = omega (arith, c.line.fine) in mul-le-mul c.tally.few q in
    omega (arith, c.sum, m, c.tally.few, c.tally.light)

-- what a code counts from is small
pub start_fits : (c : SemiOrdered) (k : Code) (e : Entry) → e ≡ start c.line.sizes.places c.line.sizes.step c.line.entries.items k → value c.line.sizes.step e ≤ most_bound
start_fits c k e q =
    omega (
      arith,
      ap (value c.line.sizes.step) q,
      value-start c.line.sizes.places c.line.sizes.step c.tally.packets c.tally.volume c.line.entries.items k c.line.sizes.places_in.0 c.line.sizes.step_in (lawful c),
      total_fits c,
    )
