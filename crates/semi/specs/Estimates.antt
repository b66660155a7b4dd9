-- What an add does to the estimates.
use Rattle.std.specs.Prelude.{◌≡◌, ℕ, ◌+◌, ◌-◌, ◌*◌, ◌<◌, ◌≤◌, true, false, List, [], ◌∷◌, length}
use Rattle.std.proofs.Common.{◌∙◌, ap, sym, inl, inr, arith, mul_comm, mul-le-mul_left}
use Rattle.semi.specs.Adding.{added_lawful, by_step, rest_parts, rises, total-least, value-raised}
use Rattle.semi.specs.Entries.{entry_of_absent, entry_of_held, entry_of-placed, entry_of-placed_other, entry_of-replaced, entry_of-replaced_other, entry_of-rest, entry_of-without, holds-placed_other, holds-replaced, holds-rest, holds-without, holds-without_other, length-placed, length-replaced, length_without}
use Rattle.semi.specs.Groups.{at_least-entry_of, at_least-placed, at_least-replaced, at_least-rest, at_least-without, first-least, least_first}
use Rattle.semi.specs.Line.{CodesDiffer, Lawful, Small, added, entering, entry_of, estimate, first_group, holds, placed, raised, replaced, rest, start, value, without}
use Rattle.semi.specs.declared.entry.Entry.{Entry}
use Rattle.flow.specs.Codes.{same}
use Rattle.flow.specs.Meanings.{Rises}
use Rattle.flow.specs.declared.code.Code.{Code}
use Rattle.std.proofs.lemmas.Bool.{cases_Bool, cases_lt}

module _ (n s : ℕ) (line : List Entry) (k : Code) (w : ℕ) where
  -- an entry of the code with w more stands for w more
  own : (line' : List Entry) → entry_of k line' (entering n s line' k) ≡ raised s w k (start n s line k) → estimate n s line' k ≡ estimate n s line k + w
  own line' e = ap (value s) e ∙ value-raised s w k (start n s line k)

  own_placed : (xs : List Entry) → holds k xs ≡ false → estimate n s (placed (raised s w k (start n s line k)) xs) k ≡ estimate n s line k + w
  own_placed xs h =
      let line' = placed (raised s w k (start n s line k)) xs in
      own line' (entry_of-placed (raised s w k (start n s line k)) xs (entering n s line' k) h)

  own_replaced : holds k line ≡ true → estimate n s (replaced (raised s w k (start n s line k)) line) k ≡ estimate n s line k + w
  own_replaced h =
      let line' = replaced (raised s w k (start n s line k)) line in
      own line' (entry_of-replaced (raised s w k (start n s line k)) line (entering n s line' k) h)

  -- the code's own estimate rises by exactly w
  pub own_rise : CodesDiffer line → estimate n s (added n s line k w) k ≡ estimate n s line k + w
  own_rise d =
      by_step n s line k w (λ line'. estimate n s line' k ≡ estimate n s line k + w) (λ h _. own_replaced h)
      (λ h. own_placed (without k line) (holds-without k line d)) (λ h _. own_placed line h) (λ h _. own_placed (rest line) (holds-rest k line h))

-- a held code that is not in the rest is the first
pub only_first : (s : ℕ) (j : Code) (line : List Entry) (d : Entry) → Small s line → holds j line ≡ true → holds j (rest line) ≡ false → value s (entry_of j line d) ≤ s * first_group line + (s - 1)
only_first s j [] d m h q = grind arith
only_first s j (x ∷ xs) d m h q = grind arith

-- what an add does to the estimate of another code
pub record Other (n s : ℕ) (line : List Entry) (j : Code) (line' : List Entry) : Type 0 where
  pub held : (d e : Entry) → holds j line' ≡ true → entry_of j line' d ≡ entry_of j line e
  pub room : holds j line' ≡ false → length line' < n → estimate n s line j ≡ 0
  pub full : holds j line' ≡ false → n ≤ length line' → estimate n s line j ≤ s * first_group line' + (s - 1)

module _ (n s t v w : ℕ) (line : List Entry) (j : Code) (some : 0 < n) (step : 0 < s) (l : Lawful n s t v line) where
  absent_room : holds j line ≡ false → length line < n → estimate n s line j ≡ 0
  absent_room h q = grind (arith, entry_of_absent j line (entering n s line j) h, mul_comm s 0)

  absent_full : holds j line ≡ false → (g : ℕ) → first_group line ≤ g → estimate n s line j ≤ s * g + (s - 1)
  absent_full h g q = grind (arith, entry_of_absent j line (entering n s line j) h, mul_comm s 0, mul-le-mul_left s q)

  module _ (k : Code) (apart : same j k ≡ false) where
    other_stays : holds k line ≡ true → (raised s w k (start n s line k)).group ≡ (start n s line k).group → Other n s line j (replaced (raised s w k (start n s line k)) line)
    other_stays h q =
        let e = raised s w k (start n s line k) in
        record {
          held = λ d f m. entry_of-replaced_other j e line d apart ∙ entry_of_held j line d f (sym (holds-replaced j e line) ∙ m);
          room = λ m r. absent_room (sym (holds-replaced j e line) ∙ m) (omega (arith, length-replaced e line));
          full = λ m r. absent_full (sym (holds-replaced j e line) ∙ m) _
              (least_first (first_group line) (replaced e line) (omega arith)
              (at_least-replaced (first_group line) e line (omega (arith, q, at_least-entry_of (first_group line) k line (entering n s line k) (first-least line l.rising) h)) (first-least line l.rising)));
        }

    other_moves : holds k line ≡ true → Other n s line j (placed (raised s w k (start n s line k)) (without k line))
    other_moves h =
        let e = raised s w k (start n s line k) in
        let same-holds = holds-placed_other j e (without k line) apart ∙ holds-without_other j k line apart in
        let g : first_group line ≤ (raised s w k (start n s line k)).group = omega (arith, rises s w k (start n s line k), at_least-entry_of (first_group line) k line (entering n s line k) (first-least line l.rising) h) in
        record {
          held = λ d f m. entry_of-placed_other j e (without k line) d apart ∙ entry_of-without j k line d apart ∙ entry_of_held j line d f (sym same-holds ∙ m);
          room = λ m r. absent_room (sym same-holds ∙ m) (omega (arith, length-placed e (without k line), length_without k line h));
          full = λ m r. absent_full (sym same-holds ∙ m) _
              (least_first (first_group line) (placed e (without k line)) (omega arith)
              (at_least-placed (first_group line) e (without k line) g (at_least-without (first_group line) k line (first-least line l.rising))));
        }

    other_enters : holds k line ≡ false → length line < n → Other n s line j (placed (raised s w k (start n s line k)) line)
    other_enters h q =
        let e = raised s w k (start n s line k) in
        let same-holds = holds-placed_other j e line apart in
        record {
          held = λ d f m. entry_of-placed_other j e line d apart ∙ entry_of_held j line d f (sym same-holds ∙ m);
          room = λ m r. absent_room (sym same-holds ∙ m) q;
          full = λ m r. omega (arith, absent_room (sym same-holds ∙ m) q);
        }

    other_evicts : holds k line ≡ false → n ≤ length line → Other n s line j (placed (raised s w k (start n s line k)) (rest line))
    other_evicts h q =
        let e = raised s w k (start n s line k) in
        let same-holds = holds-placed_other j e (rest line) apart in
        let z : start n s line k ≡ record { code = k; group = first_group line; remainder = s - 1 } = grind (arith, entry_of_absent k line (entering n s line k) h) in
        let g : first_group line ≤ (raised s w k (start n s line k)).group = omega (arith, rises s w k (start n s line k), ap (λ (x : Entry). x.group) z) in
        let up : first_group line ≤ first_group (placed (raised s w k (start n s line k)) (rest line)) =
        least_first (first_group line) (placed e (rest line)) (omega (arith, length-placed e (rest line)))
        (at_least-placed (first_group line) e (rest line) g (at_least-rest (first_group line) line (first-least line l.rising))) in
        record {
          held = λ d f m. entry_of-placed_other j e (rest line) d apart ∙ entry_of-rest j line d f l.distinct (sym same-holds ∙ m);
          room = λ m r. absurd (omega (arith, length-placed e (rest line), (rest_parts s line (omega arith)).1));
          full = λ m r. elim (cases_Bool (holds j line)) [
            | inl y ↦ omega (arith, only_first s j line (entering n s line j) l.small y (sym same-holds ∙ m), mul-le-mul_left s up)
            | inr y ↦ absent_full y _ up
          ];
        }

    pub other_added : Other n s line j (added n s line k w)
    other_added = by_step n s line k w (Other n s line j) other_stays other_moves other_enters other_evicts

-- on a full line every absent code's estimate is small enough for all n places
pub full_bound : (n s t v : ℕ) (line : List Entry) → Lawful n s t v line → n ≤ length line → n * (s * first_group line + (s - 1)) ≤ v + t * (s - 1)
full_bound n s t v line l q =
    let e : length line ≡ n = omega (arith, l.few) in
    omega (arith, rw e at (total-least s (first_group line) line (first-least line l.rising)), l.sum)

pub estimate_full : (n s : ℕ) (line : List Entry) (j : Code) → holds j line ≡ false → n ≤ length line → estimate n s line j ≡ s * first_group line + (s - 1)
estimate_full n s line j h q = grind (arith, entry_of_absent j line (entering n s line j) h)

pub estimate_room : (n s : ℕ) (line : List Entry) (j : Code) → holds j line ≡ false → length line < n → estimate n s line j ≡ 0
estimate_room n s line j h q = grind (arith, entry_of_absent j line (entering n s line j) h, mul_comm s 0)

pub other_from : (n s t v : ℕ) (line line' : List Entry) (j : Code) → Lawful n s t v line' → Other n s line j line' →
    Rises n (v + t * (s - 1)) (estimate n s line j) (estimate n s line' j)
other_from n s t v line line' j l o =
    elim (cases_Bool (holds j line')) [
      | inl y ↦ inl (ap (value s) (o.held _ _ y))
      | inr y ↦ elim (cases_lt (length line') n) [
        | inl q ↦ inl (estimate_room n s line' j y q ∙ sym (o.room y q))
        | inr q ↦ let e = estimate_full n s line' j y q in
            inr (rw e (o.full y q), rw e (full_bound n s t v line' l q))
      ]
    ]

pub other_rise : (n s t v w : ℕ) (line : List Entry) (j k : Code) → 0 < n → 0 < s → Lawful n s t v line → same j k ≡ false →
    Rises n ((v + w) + (t + 1) * (s - 1)) (estimate n s line j) (estimate n s (added n s line k w) j)
other_rise n s t v w line j k some step l apart =
    other_from n s (t + 1) (v + w) line (added n s line k w) j (added_lawful n s t v w line k some step l)
    (other_added n s t v w line j some step l k apart)
