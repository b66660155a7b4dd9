-- What the steps of an add do to the places: their number, their codes and their counts.
use Rattle.std.specs.Prelude.{◌≡◌, ℕ, ◌+◌, ◌-◌, ◌*◌, ◌<◌, ◌≤◌, min, true, false, List, [], ◌∷◌, length, Some, None, nat_lt, refl}
use Rattle.std.proofs.Common.{inl, inr, arith, suc-mul}
use Rattle.std.proofs.lemmas.Bool.{cases_lt}
use Rattle.std.proofs.lemmas.Bool.Decides.{nat_tests}
use Rattle.flow.specs.Codes.{same}
use Rattle.flow.proofs.Codes.{same_refl, same_true, same_sym}
use Rattle.flow.specs.declared.code.Code.{Code}
use Rattle.shared.specs.Places.{Place, holds, count_of, any_empty, raised, entered, least, lowered, counted, tidy}
use Rattle.shared.specs.Searches.{count_of_missing}

-- the number of the places
pub length-raised : (k : Code) (w : ℕ) (ps : List Place) → length (raised k w ps) ≡ length ps
length-raised k w [] = refl
length-raised k w (None ∷ ps) = grind (arith, length-raised k w ps)
length-raised k w (Some x ∷ ps) = grind (arith, length-raised k w ps)

pub length-entered : (k : Code) (w : ℕ) (ps : List Place) → length (entered k w ps) ≡ length ps
length-entered k w [] = refl
length-entered k w (None ∷ ps) = refl
length-entered k w (Some x ∷ ps) = grind (arith, length-entered k w ps)

-- the sum of the counts
pub counted-raised : (k : Code) (w : ℕ) (ps : List Place) → holds k ps ≡ true → counted (raised k w ps) ≡ counted ps + w
counted-raised k w [] h = grind arith
counted-raised k w (None ∷ ps) h = counted-raised k w ps h
counted-raised k w (Some x ∷ ps) h = grind (arith, counted-raised k w ps)

pub counted-entered : (k : Code) (w : ℕ) (ps : List Place) → any_empty ps ≡ true → counted (entered k w ps) ≡ counted ps + w
counted-entered k w [] h = grind arith
counted-entered k w (None ∷ ps) h = omega arith
counted-entered k w (Some x ∷ ps) h = grind (arith, counted-entered k w ps)

-- a place has the code exactly where its count is above 0
pub held_counts : (k : Code) (ps : List Place) → tidy ps ≡ true → nat_lt 0 (count_of k ps) ≡ holds k ps
held_counts k [] t = refl
held_counts k (None ∷ ps) t = held_counts k ps t
held_counts k (Some x ∷ ps) t = grind (arith, held_counts k ps)

-- each count is at least m
abbrev pub AtLeast : ℕ → List Place → Type 0
AtLeast m [] = Unit {0}
AtLeast m (None ∷ ps) = AtLeast m ps
AtLeast m (Some x ∷ ps) = (m ≤ x.count) × AtLeast m ps

pub counted-lowered : (m : ℕ) (ps : List Place) → any_empty ps ≡ false → AtLeast m ps → counted (lowered m ps) + length ps * m ≡ counted ps
counted-lowered m [] f a = grind arith
counted-lowered m (None ∷ ps) f a = grind arith
counted-lowered m (Some x ∷ ps) f a = grind (arith, nat_tests, suc-mul (length ps) m, counted-lowered m ps f a.1)

pub least_within : (w : ℕ) (ps : List Place) → least w ps ≤ w
least_within w [] = omega arith
least_within w (None ∷ ps) = least_within w ps
least_within w (Some x ∷ ps) = omega (arith, least_within (min w x.count) ps)

pub above_least : (w : ℕ) (ps : List Place) → AtLeast (least w ps) ps
above_least w [] = tt
above_least w (None ∷ ps) = above_least w ps
above_least w (Some x ∷ ps) = (omega (arith, least_within (min w x.count) ps), above_least (min w x.count) ps)

-- where the weight is above the least, some count is used up
pub any_empty-lowered : (w : ℕ) (ps : List Place) → least w ps < w → any_empty (lowered (least w ps) ps) ≡ true
any_empty-lowered w [] l = grind arith
any_empty-lowered w (None ∷ ps) l = refl
any_empty-lowered w (Some x ∷ ps) l =
    elim (cases_lt (least (min w x.count) ps) (min w x.count)) [
      | inl q ↦ grind (arith, nat_tests, any_empty-lowered (min w x.count) ps q)
      | inr q ↦ let e : least (min w x.count) ps ≡ x.count = omega (arith, least_within (min w x.count) ps) in grind (arith, nat_tests)
    ]

-- which codes are held
pub holds-raised : (j k : Code) (w : ℕ) (ps : List Place) → holds j (raised k w ps) ≡ holds j ps
holds-raised j k w [] = refl
holds-raised j k w (None ∷ ps) = holds-raised j k w ps
holds-raised j k w (Some x ∷ ps) = grind (arith, holds-raised j k w ps)

pub holds-entered : (j k : Code) (w : ℕ) (ps : List Place) → same j k ≡ false → holds j (entered k w ps) ≡ holds j ps
holds-entered j k w [] s = refl
holds-entered j k w (None ∷ ps) s = grind arith
holds-entered j k w (Some x ∷ ps) s = grind (arith, holds-entered j k w ps)

pub holds-lowered : (j : Code) (m : ℕ) (ps : List Place) → holds j ps ≡ false → holds j (lowered m ps) ≡ false
holds-lowered j m [] h = refl
holds-lowered j m (None ∷ ps) h = holds-lowered j m ps h
holds-lowered j m (Some x ∷ ps) h = grind (arith, holds-lowered j m ps)

-- tidy places stay so
pub tidy-raised : (k : Code) (w : ℕ) (ps : List Place) → tidy ps ≡ true → tidy (raised k w ps) ≡ true
tidy-raised k w [] t = refl
tidy-raised k w (None ∷ ps) t = tidy-raised k w ps t
tidy-raised k w (Some x ∷ ps) t = grind (arith, nat_tests, holds-raised x.code k w ps, tidy-raised k w ps)

pub tidy-entered : (k : Code) (w : ℕ) (ps : List Place) → 0 < w → holds k ps ≡ false → tidy ps ≡ true → tidy (entered k w ps) ≡ true
tidy-entered k w [] p h t = refl
tidy-entered k w (None ∷ ps) p h t = grind (arith, nat_tests)
tidy-entered k w (Some x ∷ ps) p h t = grind (arith, nat_tests, same_sym x.code k, holds-entered x.code k w ps, tidy-entered k w ps p)

pub tidy-lowered : (m : ℕ) (ps : List Place) → tidy ps ≡ true → tidy (lowered m ps) ≡ true
tidy-lowered m [] t = refl
tidy-lowered m (None ∷ ps) t = tidy-lowered m ps t
tidy-lowered m (Some x ∷ ps) t = grind (arith, nat_tests, holds-lowered x.code m ps, tidy-lowered m ps)

-- the count of a code
pub count_of-raised : (k : Code) (w : ℕ) (ps : List Place) → holds k ps ≡ true → count_of k (raised k w ps) ≡ count_of k ps + w
count_of-raised k w [] h = grind arith
count_of-raised k w (None ∷ ps) h = count_of-raised k w ps h
count_of-raised k w (Some x ∷ ps) h = grind (arith, count_of-raised k w ps)

pub count_of-entered : (k : Code) (w : ℕ) (ps : List Place) → holds k ps ≡ false → any_empty ps ≡ true → count_of k (entered k w ps) ≡ w
count_of-entered k w [] h e = grind arith
count_of-entered k w (None ∷ ps) h e = grind (arith, same_refl)
count_of-entered k w (Some x ∷ ps) h e = grind (arith, count_of-entered k w ps)

pub count_of-lowered : (j : Code) (m : ℕ) (ps : List Place) → tidy ps ≡ true → count_of j (lowered m ps) ≡ count_of j ps - m
count_of-lowered j m [] t = grind arith
count_of-lowered j m (None ∷ ps) t = count_of-lowered j m ps t
count_of-lowered j m (Some x ∷ ps) t = grind (arith, nat_tests, same_true, count_of_missing j ps, count_of-lowered j m ps)

pub count_of_above : (j : Code) (m : ℕ) (ps : List Place) → holds j ps ≡ true → AtLeast m ps → m ≤ count_of j ps
count_of_above j m [] h a = grind arith
count_of_above j m (None ∷ ps) h a = count_of_above j m ps h a
count_of_above j m (Some x ∷ ps) h a = grind (arith, count_of_above j m ps)

-- the count of another code
module _ (j k : Code) (s : same j k ≡ false) where
  pub count_of-raised_other : (w : ℕ) (ps : List Place) → count_of j (raised k w ps) ≡ count_of j ps
  count_of-raised_other w [] = refl
  count_of-raised_other w (None ∷ ps) = count_of-raised_other w ps
  count_of-raised_other w (Some x ∷ ps) = grind (arith, same_true, count_of-raised_other w ps)

  pub count_of-entered_other : (w : ℕ) (ps : List Place) → count_of j (entered k w ps) ≡ count_of j ps
  count_of-entered_other w [] = refl
  count_of-entered_other w (None ∷ ps) = grind arith
  count_of-entered_other w (Some x ∷ ps) = grind (arith, count_of-entered_other w ps)
