-- The worked day: each of its rows holds of whatever the guarantee allows.
use Rattle.std.proofs.Common.{◌≡◌, ℕ, ◌≤◌, ◌⊎◌, cond, ltb, false, List, [], ◌∷◌, length, refl, ap, ◌∙◌, subst, inl, inr, ⊎_elim, arith}
use Rattle.std.specs.List.{AllByRecursion}
use Rattle.flow.specs.Answers.{answered, refused}
use Rattle.flow.specs.Codes.{same}
use Rattle.flow.specs.declared.code.Code.{Code}
use Rattle.frame.specs.Plans.{block_of, unit_of}
use Rattle.frame.specs.Rolls.{Packet, true_volume}
use Rattle.meter.specs.declared.record.Record.{Record}
use Rattle.meter.specs.Ledgers.{fresh}
use Rattle.meter.proofs.Dailies.{day_right}
use Rattle.shared.specs.Shared.{shared_opened, shared_meaning}
use Rattle.shared.specs.Laws.{shared_opens, shared_flushes, shared_adds, shared_heavy}
use Rattle.meter.specs.Guarantees.{Within, Lists, records_of}
use Rattle.meter.specs.Days.{Said, estimate_said, list_said, says_list, says_refused}
use Rattle.sheets.specs.CounterSheets.{A, B}
use Rattle.sheets.specs.DaySheets.{ListsOne, ListsOneOrNone, day_plan, day_rows, calls_of, DayMet, DaySheet}
use Rattle.sheets.proofs.Fixing.{Sure, runs_meet, estimated, quiet, alone}

abbrev ten : Packet
ten = record { code = A; weight = 10 }

-- the window full of A, and then with a packet of B
abbrev full : List Packet
full = ten ∷ ten ∷ ten ∷ ten ∷ ten ∷ ten ∷ ten ∷ ten ∷ []

abbrev with_b : List Packet
with_b = record { code = B; weight = 1 } ∷ full

others_none : (j : Code) → same A j ≡ false → true_volume 8 j full ≡ 0
others_none j s = omega (arith, quiet A j 10 s)

unit : unit_of day_plan ≡ 20
unfolding block_of unit_of
unit = refl

-- what a list is said to be, that a table of so many records is lent for
abbrev told : ℕ → List Record → Said
told table rs = list_said (cond (ltb table (length rs)) (refused 13) (answered rs))

-- the lists that keep the guarantee with the window full of A, at a level that keeps out what has no volume
module _ (level : ℕ) (high : 80 ≤ level) (rs : List Record) (right : Lists day_plan full level rs) where
  a_alone : (rs ≡ []) ⊎ ((e : ℕ) × (rs ≡ record { code = A; estimate = e } ∷ []))
  a_alone = alone A rs (λ j s. right.light j (omega (arith, others_none j s, unit))) (right.once A)

  one : (a : Said) → a ≡ told 510 rs → (e : ℕ) → rs ≡ record { code = A; estimate = e } ∷ [] → ListsOne A 80 159 a
  one a said e is =
      let within = (subst (AllByRecursion (λ (r : Record). Within day_plan full r.code r.estimate)) is right.within).0 in
      (e, omega (arith, within.0), omega (arith, within.1, unit), said ∙ ap (told 510) is)

  one_or_none : (a : Said) → a ≡ told 510 rs → ListsOneOrNone A 80 159 a
  one_or_none a said = ⊎_elim (λ is. inl (said ∙ ap (told 510) is)) (λ h. inr (one a said h.0 h.1)) a_alone

  -- a level that A has
  heavy_one : level ≤ 80 → (a : Said) → a ≡ told 510 rs → ListsOne A 80 159 a
  heavy_one low a said = ⊎_elim (λ is. absurd (omega (arith, right.heavy A low, ap (records_of A) is))) (λ h. one a said h.0 h.1) a_alone

  heavy_short : level ≤ 80 → (a : Said) → a ≡ told 0 rs → a ≡ says_refused 13
  heavy_short low a said = ⊎_elim (λ is. absurd (omega (arith, right.heavy A low, ap (records_of A) is))) (λ h. said ∙ ap (told 0) h.1) a_alone

  -- a level that A is kept out of
  light_none : 160 ≤ level → (a : Said) → a ≡ told 0 rs → a ≡ says_list []
  light_none low a said = ⊎_elim (λ is. said ∙ ap (told 0) is) (λ h. absurd (omega (arith, right.light A (omega (arith, unit)), ap (records_of A) h.1))) a_alone

-- a row, and the rows behind it
infixr 5 ◌then◌
◌then◌ : {A B : Type 0} → A → B → A × B
a then b = (a, b)

sure : Sure (fresh 1) day_rows
unfolding block_of unit_of
sure =
    (λ a h. h.2 ∙ ap estimate_said h.1) then
    (λ a h. h.2 ∙ ap list_said h.1) then
    (λ a h. h) then
    (λ a h. h.2) then
    (λ a h. h.2) then
    (λ a h. h) then
    (λ a h. h) then
    (λ a h. h) then
    (λ a h. h) then
    (λ a h. h) then
    (λ a h. h) then
    (λ a h. h) then
    (λ a h. h) then
    (λ a h. h) then
    estimated day_plan [] A 0 79 (omega arith) (omega arith) then
    (λ a h. h.2) then
    (λ a h. h.2) then
    (λ a h. h) then
    (λ a h. h) then
    (λ a h. h) then
    (λ a h. h) then
    (λ a h. h) then
    (λ a h. h) then
    (λ a h. h) then
    (λ a h. h) then
    estimated day_plan full A 80 159 (omega arith) (omega arith) then
    estimated day_plan full B 0 79 (omega arith) (omega arith) then
    (λ a h. heavy_one 80 (omega arith) h.1.0 h.1.1 (omega arith) a (h.2 ∙ ap list_said h.1.2)) then
    (λ a h. one_or_none 159 (omega arith) h.1.0 h.1.1 a (h.2 ∙ ap list_said h.1.2)) then
    (λ a h. light_none 160 (omega arith) h.1.0 h.1.1 (omega arith) a (h.2 ∙ ap list_said h.1.2)) then
    (λ a h. h.2 ∙ ap list_said h.1) then
    (λ a h. h.2 ∙ ap list_said h.1) then
    (λ a h. heavy_short 80 (omega arith) h.1.0 h.1.1 (omega arith) a (h.2 ∙ ap list_said h.1.2)) then
    (λ a h. h) then
    estimated day_plan with_b A 70 149 (omega arith) (omega arith) then
    estimated day_plan with_b B 1 80 (omega arith) (omega arith) then
    (λ a h. h) then
    estimated day_plan [] A 0 79 (omega arith) (omega arith) then
    (λ a h. h) then
    estimated day_plan (ten ∷ []) A 10 89 (omega arith) (omega arith) then
    tt

pub day_sheet : DaySheet
day_sheet answers runs = runs_meet (fresh 1) day_rows answers sure runs

pub day_met : DayMet
day_met = day_right shared_meaning shared_opens shared_flushes shared_adds shared_heavy (λ (k : Code). k) (shared_opened 1) (calls_of day_rows)
