-- Every add keeps the line lawful.
use Rattle.std.specs.Prelude.{◌≡◌, ℕ, ◌+◌, ◌-◌, ◌*◌, ◌/◌, ◌<◌, ◌≤◌, true, false, cond, ◌&&◌, List, [], ◌∷◌, length, ◌==◌, nat_lt, refl}
use Rattle.std.proofs.Common.{ap, arith, add-mul, mod-lt, mul-add, mul_comm, mul-le-mul_left, one-mul, suc-mul}
use Rattle.std.proofs.Math.Nat.{div-add-mod}
use Rattle.semi.specs.Entries.{code_entry_of, distinct_placed, distinct_replaced, distinct_rest, distinct_without, entry_of_absent, holds-rest, holds-without, length-placed, length-replaced, length_without, small-entry_of, small-placed, small-replaced, small-rest, small-without, total-placed, total-replaced, total-without}
use Rattle.semi.specs.Groups.{rising_placed, rising_replaced, rising_rest, rising_without}
use Rattle.semi.specs.Line.{AtLeast, CodesDiffer, Lawful, Rising, Small, added, entering, first_group, holds, others, placed, raised, replaced, rest, start, total, value, without}
use Rattle.semi.specs.declared.entry.Entry.{Entry}
use Rattle.flow.specs.declared.code.Code.{Code}
use Rattle.std.proofs.lemmas.Bool.{and_parts, cond_both, eqb-true, ltb-false, ltb-true}

-- what an entry counts
pub value-raised : (s w : ℕ) (k : Code) (e : Entry) → value s (raised s w k e) ≡ value s e + w
value-raised s w k e = omega (arith, div-add-mod (e.remainder + w) s, mul-add s e.group ((e.remainder + w) / s))

pub group_raised : (s w : ℕ) (k : Code) (e : Entry) → s * (raised s w k e).group ≤ s * e.group + (e.remainder + w)
group_raised s w k e = omega (arith, div-add-mod (e.remainder + w) s, mul-add s e.group ((e.remainder + w) / s))

pub rises : (s w : ℕ) (k : Code) (e : Entry) → e.group ≤ (raised s w k e).group
rises s w k e = omega arith

-- the start of an add
pub code_start : (n s : ℕ) (line : List Entry) (k : Code) → (start n s line k).code ≡ k
code_start n s line k = code_entry_of k line (entering n s line k) (grind arith)

pub small-start : (n s : ℕ) (line : List Entry) (k : Code) → 0 < s → Small s line → (start n s line k).remainder < s
small-start n s line k h m = small-entry_of s k line (entering n s line k) (grind arith) m

pub small-raised : (s w : ℕ) (k : Code) (e : Entry) → 0 < s → (raised s w k e).remainder < s
small-raised s w k e h = mod-lt (e.remainder + w) h

-- the sum over a line whose groups are at least g
pub total-least : (s g : ℕ) (xs : List Entry) → AtLeast g xs → length xs * (s * g + (s - 1)) ≤ total s xs
total-least s g [] a = omega (arith, mul_comm 0 (s * g + (s - 1)))
total-least s g (x ∷ xs) a = omega (arith, suc-mul (length xs) (s * g + (s - 1)), total-least s g xs a.1, mul-le-mul_left s a.0)

pub slack_more : (t s : ℕ) → (t + 1) * (s - 1) ≡ t * (s - 1) + (s - 1)
slack_more t s = omega (arith, add-mul t 1 (s - 1), one-mul (s - 1))

-- an entry that comes in keeps the line lawful, where the sum allows it
pub lawful_placed : (n s t v w : ℕ) (e : Entry) (xs : List Entry) → length xs < n → Rising xs → CodesDiffer xs → Small s xs →
    holds e.code xs ≡ false → e.remainder < s → s * e.group + total s xs ≤ (v + w) + t * (s - 1) →
    Lawful n s (t + 1) (v + w) (placed e xs)
lawful_placed n s t v w e xs few ri di sm h r sum = record {
  few = omega (arith, length-placed e xs);
  rising = rising_placed e xs ri;
  distinct = distinct_placed e xs h di;
  small = small-placed s e xs r sm;
  sum = omega (arith, total-placed s e xs, slack_more t s);
}

-- an add is one of four: a held code whose group stays, one that moves, an absent one that finds room, and one that does not
pub by_step : (n s : ℕ) (line : List Entry) (k : Code) (w : ℕ) (P : List Entry → Type 0) →
    (holds k line ≡ true → (raised s w k (start n s line k)).group ≡ (start n s line k).group → P (replaced (raised s w k (start n s line k)) line)) →
    (holds k line ≡ true → P (placed (raised s w k (start n s line k)) (without k line))) →
    (holds k line ≡ false → length line < n → P (placed (raised s w k (start n s line k)) line)) →
    (holds k line ≡ false → n ≤ length line → P (placed (raised s w k (start n s line k)) (rest line))) →
    P (added n s line k w)
by_step n s line k w P stay move enter evict =
    let e = raised s w k (start n s line k) in
    cond_both (holds k line && e.group == (start n s line k).group) (replaced e line) (placed e (others n line k)) P
    (λ q. let b = and_parts _ _ q in stay b.0 (eqb-true _ _ b.1))
    (λ _. cond_both (holds k line) (without k line) (cond (nat_lt (length line) n) line (rest line)) (λ xs. P (placed e xs)) move
    (λ h. cond_both (nat_lt (length line) n) line (rest line) (λ xs. P (placed e xs)) (λ q. enter h (ltb-true _ _ q)) (λ q. evict h (ltb-false _ _ q))))

-- the three steps, and a held code whose group stays

module _ (n s t v w : ℕ) (line : List Entry) (k : Code) (step : 0 < s) (l : Lawful n s t v line) where
  kept_sum : s * (raised s w k (start n s line k)).group ≤ s * (start n s line k).group + (s - 1) + w
  kept_sum = omega (arith, group_raised s w k (start n s line k), small-start n s line k step l.small)

  stays : holds k line ≡ true → (raised s w k (start n s line k)).group ≡ (start n s line k).group →
      Lawful n s (t + 1) (v + w) (replaced (raised s w k (start n s line k)) line)
  stays h q = record {
    few = omega (arith, length-replaced (raised s w k (start n s line k)) line, l.few);
    rising = rising_replaced (raised s w k (start n s line k)) line (entering n s line k) h q l.rising;
    distinct = distinct_replaced (raised s w k (start n s line k)) line l.distinct;
    small = small-replaced s (raised s w k (start n s line k)) line (small-raised s w k (start n s line k) step) l.small;
    sum = omega (arith, total-replaced s (raised s w k (start n s line k)) line (entering n s line k) q, slack_more t s, l.sum);
  }

  moves : holds k line ≡ true → Lawful n s (t + 1) (v + w) (placed (raised s w k (start n s line k)) (without k line))
  moves h =
      lawful_placed n s t v w (raised s w k (start n s line k)) (without k line)
      (omega (arith, length_without k line h, l.few))
      (rising_without k line l.rising) (distinct_without k line l.distinct) (small-without s k line l.small)
      (holds-without k line l.distinct)
      (small-raised s w k (start n s line k) step)
      (omega (arith, kept_sum, total-without s k line (entering n s line k) h, l.sum))

  enters : holds k line ≡ false → length line < n → Lawful n s (t + 1) (v + w) (placed (raised s w k (start n s line k)) line)
  enters h room =
      let z : start n s line k ≡ record { code = k; group = 0; remainder = 0 } = grind (arith, entry_of_absent k line (entering n s line k) h) in
      let g = ap (λ (e : Entry). e.group) z in
      let r = ap (λ (e : Entry). e.remainder) z in
      lawful_placed n s t v w (raised s w k (start n s line k)) line room l.rising l.distinct l.small
      h
      (small-raised s w k (start n s line k) step)
      (omega (arith, group_raised s w k (start n s line k), g, r, ap (λ (x : ℕ). s * x) g, mul_comm s 0, l.sum))

-- a line by its first entry and the rest
pub rest_parts : (s : ℕ) (line : List Entry) → 0 < length line → (total s line ≡ (s * first_group line + (s - 1)) + total s (rest line)) × (length line ≡ length (rest line) + 1)
rest_parts s [] h = grind arith
rest_parts s (x ∷ xs) h = (refl, omega arith)

module _ (n s t v w : ℕ) (line : List Entry) (k : Code) (some : 0 < n) (step : 0 < s) (l : Lawful n s t v line) where
  evicts : holds k line ≡ false → n ≤ length line → Lawful n s (t + 1) (v + w) (placed (raised s w k (start n s line k)) (rest line))
  evicts h full =
      let z : start n s line k ≡ record { code = k; group = first_group line; remainder = s - 1 } = grind (arith, entry_of_absent k line (entering n s line k) h) in
      let g = ap (λ (e : Entry). e.group) z in
      let r = ap (λ (e : Entry). e.remainder) z in
      let p = rest_parts s line (omega arith) in
      lawful_placed n s t v w (raised s w k (start n s line k)) (rest line) (omega (arith, p.1, l.few))
      (rising_rest line l.rising) (distinct_rest line l.distinct) (small-rest s line l.small)
      (holds-rest k line h)
      (small-raised s w k (start n s line k) step)
      (omega (arith, group_raised s w k (start n s line k), g, r, ap (λ (x : ℕ). s * x) g, p.0, l.sum))

  -- every add keeps the line lawful
  pub added_lawful : Lawful n s (t + 1) (v + w) (added n s line k w)
  added_lawful =
      by_step n s line k w (Lawful n s (t + 1) (v + w)) (stays n s t v w line k step l) (moves n s t v w line k step l)
      (enters n s t v w line k step l) evicts
