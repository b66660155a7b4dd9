-- The sum of the estimates of different codes that are all held.
use Rattle.std.specs.Prelude.{◌≡◌, ℕ, ◌+◌, ◌*◌, ◌≤◌, true, false, cond, List, [], ◌∷◌, length, Some, None, refl}
use Rattle.std.proofs.Common.{ap, arith, suc-mul}
use Rattle.std.specs.List.{AllByRecursion}
use Rattle.flow.specs.Codes.{same}
use Rattle.flow.specs.Meanings.{sum_of, Distinct}
use Rattle.flow.proofs.Codes.{same_true}
use Rattle.flow.proofs.Sums.{Holding, Shown, sum_held}
use Rattle.flow.specs.declared.code.Code.{Code}
use Rattle.shared.specs.Places.{Place, holds, count_of, counted}

-- the sum of the counts, each with the deduction d
abbrev pub worth : ℕ → List Place → ℕ
worth d [] = 0
worth d (None ∷ ps) = worth d ps
worth d (Some x ∷ ps) = (x.count + d) + worth d ps

worth_within : (d : ℕ) (ps : List Place) → worth d ps ≤ counted ps + length ps * d
worth_within d [] = omega arith
worth_within d (None ∷ ps) = omega (arith, suc-mul (length ps) d, worth_within d ps)
worth_within d (Some x ∷ ps) = omega (arith, suc-mul (length ps) d, worth_within d ps)

-- the places with the code's place empty
abbrev pub emptied : Code → List Place → List Place
emptied k [] = []
emptied k (None ∷ ps) = None ∷ emptied k ps
emptied k (Some x ∷ ps) = cond (same k x.code) (None ∷ ps) (Some x ∷ emptied k ps)

pub worth-emptied : (d : ℕ) (k : Code) (ps : List Place) → holds k ps ≡ true → worth d ps ≡ (count_of k ps + d) + worth d (emptied k ps)
worth-emptied d k [] h = grind arith
worth-emptied d k (None ∷ ps) h = worth-emptied d k ps h
worth-emptied d k (Some x ∷ ps) h = grind (arith, worth-emptied d k ps)

pub holds-emptied : (j k : Code) (ps : List Place) → same j k ≡ false → holds j (emptied k ps) ≡ holds j ps
holds-emptied j k [] s = refl
holds-emptied j k (None ∷ ps) s = holds-emptied j k ps s
holds-emptied j k (Some x ∷ ps) s = grind (arith, same_true, holds-emptied j k ps)

pub count_of-emptied : (j k : Code) (ps : List Place) → same j k ≡ false → count_of j (emptied k ps) ≡ count_of j ps
count_of-emptied j k [] s = refl
count_of-emptied j k (None ∷ ps) s = count_of-emptied j k ps s
count_of-emptied j k (Some x ∷ ps) s = grind (arith, same_true, count_of-emptied j k ps)

-- places hold the codes of the places that are not empty, each worth its count and the deduction d
abbrev pub holding : ℕ → Holding (List Place)
holding d = record {
  holds = holds;
  worth = λ k ps. count_of k ps + d;
  whole = worth d;
  without = emptied;
  taken = λ k ps h. omega (arith, worth-emptied d k ps h);
  holds_other = holds-emptied;
  worth_other = λ j k ps s. ap (λ (x : ℕ). x + d) (count_of-emptied j k ps s);
}

pub sum_shown : (d : ℕ) (f : Code → ℕ) (ps : List Place) (codes : List Code) → Distinct codes → AllByRecursion (Shown (holding d) f ps) codes → sum_of f codes ≤ counted ps + length ps * d
sum_shown d f ps codes a h = omega (arith, sum_held (holding d) f ps codes a h, worth_within d ps)
