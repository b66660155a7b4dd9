-- The sum of the counts of different codes that are all counted.
use Rattle.std.specs.Prelude.{◌≡◌, ◌+◌, false, cond, List, [], ◌∷◌, refl}
use Rattle.std.proofs.Common.{arith}
use Rattle.std.proofs.lemmas.Bool.Decides.{nat_tests}
use Rattle.flow.specs.Codes.{same}
use Rattle.flow.proofs.Codes.{same_true}
use Rattle.flow.proofs.Sums.{Holding}
use Rattle.flow.specs.declared.code.Code.{Code}
use Rattle.fitting.specs.declared.entry.Entry.{Entry}
use Rattle.fitting.specs.Entries.{counts, holds, count_of, total}

-- the entries without the code's own
abbrev pub without : Code → List Entry → List Entry
without k [] = []
without k (e ∷ es) = cond (counts k e) es (e ∷ without k es)

pub total-without : (k : Code) (es : List Entry) → count_of k es + total (without k es) ≡ total es
total-without k [] = grind arith
total-without k (e ∷ es) = grind (arith, total-without k es)

pub holds-without : (j k : Code) (es : List Entry) → same j k ≡ false → holds j (without k es) ≡ holds j es
holds-without j k [] s = refl
holds-without j k (e ∷ es) s = grind (arith, nat_tests, same_true, holds-without j k es)

pub count_of-without : (j k : Code) (es : List Entry) → same j k ≡ false → count_of j (without k es) ≡ count_of j es
count_of-without j k [] s = refl
count_of-without j k (e ∷ es) s = grind (arith, nat_tests, same_true, count_of-without j k es)

abbrev pub holding : Holding (List Entry)
holding = record {
  holds = holds;
  worth = count_of;
  whole = total;
  without = without;
  taken = λ k es h. omega (arith, total-without k es);
  holds_other = holds-without;
  worth_other = count_of-without;
}
