-- The kinds that a tape names, and what is printed for it. Assumes nothing.
--   key_kind       the kind of key that the first byte names: prefixes where it names none, or is missing
--   counter_kind   the kind of counter that the second byte names: semi-ordered where it names none, or is missing
--   over_kinds     something of the kinds of a tape: the codes that bytes spell, the bytes of a key, the numbers of both kinds, and the meaning and a new model of the counter
--   MarkedOver     what may be printed for a tape over its kinds: the guarantee
use Rattle.std.specs.Prelude.{ℕ, cond, List, Option, slice_index, ◌==◌}
use Rattle.flow.specs.Meanings.{Meaning}
use Rattle.flow.specs.Spellings.{prefix_spelled, account_spelled}
use Rattle.flow.specs.declared.code.Code.{Code}
use Rattle.semi.specs.Semi.{semi_opened, semi_meaning}
use Rattle.shared.specs.Shared.{shared_opened, shared_meaning}
use Rattle.inputs.specs.declared.kind.CounterKind.{CounterKind}
use Rattle.inputs.specs.declared.kind.CounterKind.TheVariants.{SemiOrdered, SharedDeduction}
use Rattle.meter.specs.declared.day.Areas.{Areas}
use Rattle.sitting.specs.Markings.{Marked}
use Rattle.mark.specs.declared.kinds.KeyKind.{KeyKind}
use Rattle.mark.specs.declared.kinds.KeyKind.TheVariants.{Prefix, Account}

abbrev pub key_kind : List ℕ → KeyKind
key_kind tape = cond (slice_index tape 0 == 2) Account Prefix

abbrev pub counter_kind : List ℕ → CounterKind
counter_kind tape = cond (slice_index tape 1 == 2) SharedDeduction SemiOrdered

abbrev pub over_kinds {ℓ} : {R : Type ℓ} → KeyKind → CounterKind → ((List ℕ → Option Code) → ℕ → ℕ → ℕ → (C : Type 0) (m : Meaning C) → m.Model → R) → R
over_kinds Prefix SemiOrdered f = f prefix_spelled 5 1 1 _ semi_meaning (semi_opened 1 1)
over_kinds Prefix SharedDeduction f = f prefix_spelled 5 1 2 _ shared_meaning (shared_opened 1)
over_kinds Account SemiOrdered f = f account_spelled 10 2 1 _ semi_meaning (semi_opened 1 1)
over_kinds Account SharedDeduction f = f account_spelled 10 2 2 _ shared_meaning (shared_opened 1)

abbrev pub MarkedOver : KeyKind → CounterKind → List ℕ → ℕ → Areas → List ℕ → Type 0
MarkedOver key counter tape text areas lines =
    over_kinds key counter (λ spelled key_bytes k c C m x. Marked spelled areas key_bytes k c tape text (m.greatest x) lines)
