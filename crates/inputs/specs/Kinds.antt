-- Names, and those of the kinds of counter. Assumes nothing.
--   Named       the one of several things that a word names, or none where it names none
--   kind_text   the name of a kind of counter
--   KindRead    the kind of counter that a word names
use Rattle.std.specs.Prelude.{◌≡◌, ◌≢◌, ℕ, List, Some, None, codes, Option}
use Rattle.inputs.specs.declared.kind.CounterKind.{CounterKind}
use Rattle.inputs.specs.declared.kind.CounterKind.TheVariants.{SemiOrdered, SharedDeduction}

abbrev pub Named : {K : Type 0} → (K → List ℕ) → List ℕ → Option K → Type 0
Named text_of word (Some k) = word ≡ text_of k
Named {K} text_of word None = (k : K) → word ≢ text_of k

abbrev pub kind_text : CounterKind → List ℕ
kind_text SemiOrdered = codes "semi-ordered"
kind_text SharedDeduction = codes "shared-deduction"

abbrev pub KindRead : List ℕ → Option CounterKind → Type 0
KindRead word o = Named kind_text word o
