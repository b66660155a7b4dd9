-- A log: the calls that its lines ask for, and what stands on each line. Assumes nothing.
--   level_of      the level of its lists, 0 where the heading has none
--   planned       the plan that its heading asks for, if any, as the first call
--   asked         the call of a line, if it has one
--   note_of       what stands on a line
--   LineTaken     the calls and the notes, with a line more
--   LinesRead     the calls, that of the heading first, and the notes, one for each line, once these lines were read
--   LogRead       the same for a whole log, with one more list at the end
--   LayoutRead    the layout of the plan, where a counter with this greatest step takes it
--   counter_of    the kind of counter that the heading asks for
--   greatest_of   the greatest step of a kind
--   said_by       the answers to calls on a new meter over a new counter of a kind, by the rules
use Rattle.std.specs.Prelude.{◌≡◌, ◌≢◌, ℕ, List, [], ◌∷◌, ◌++◌, Some, None, Ok, Err, Option, Result}
use Rattle.flow.specs.Answers.{answered}
use Rattle.flow.specs.Limits.{most_step}
use Rattle.flow.specs.declared.code.Code.{Code}
use Rattle.semi.specs.Semi.{semi_opened, semi_meaning}
use Rattle.shared.specs.Shared.{shared_opened, shared_meaning}
use Rattle.meter.specs.States.{unplanned}
use Rattle.meter.specs.Days.{Said}
use Rattle.meter.specs.Sequences.{day_said}
use Rattle.meter.specs.Tables.{ample}
use Rattle.frame.specs.Plans.{judged}
use Rattle.frame.specs.declared.layout.Layout.{Layout}
use Rattle.meter.specs.declared.day.Call.{Call}
use Rattle.meter.specs.declared.day.Call.TheVariants as call
use Rattle.logs.specs.declared.heading.Asks.{Asks}
use Rattle.inputs.specs.declared.failure.Failure.{Failure}
use Rattle.inputs.specs.declared.kind.CounterKind.{CounterKind}
use Rattle.inputs.specs.declared.kind.CounterKind.TheVariants as kind
use Rattle.logs.specs.declared.line.Unread.{Unread}
use Rattle.logs.specs.declared.log.Note.{Note}
use Rattle.logs.specs.declared.log.Note.TheVariants as note
use Rattle.logs.specs.Lines.{LineRead}

abbrev pub level_of : Option Asks → ℕ
level_of None = 0
level_of (Some a) = a.level

abbrev pub planned : {K : Type 0} → Option Asks → List (Call K)
planned None = []
planned (Some a) = call.Plan a.plan ∷ []

abbrev pub asked : {K : Type 0} → Option (Result (Call K) (Failure Unread)) → List (Call K)
asked None = []
asked (Some (Ok c)) = c ∷ []
asked (Some (Err e)) = []

abbrev pub note_of : {K : Type 0} → Option (Result (Call K) (Failure Unread)) → Note
note_of None = note.Blank
note_of (Some (Ok c)) = note.Call
note_of (Some (Err e)) = note.Wrong e

module _ {K : Type 0} (text_of : K → List ℕ) where
  abbrev pub LineTaken : ℕ → List ℕ → List (Call K) → List Note → List (Call K) → List Note → Type 0
  LineTaken level line cs ns ds ms = (r : Option (Result (Call K) (Failure Unread))) × LineRead text_of level line r × (ds ≡ cs ++ asked r) × (ms ≡ ns ++ note_of r ∷ [])

  pub data LinesRead (asks : Option Asks) : List (List ℕ) → List (Call K) → List Note → Type 0 where
    none : LinesRead asks [] (planned asks) []
    more : (lines : List (List ℕ)) (line : List ℕ) (cs ds : List (Call K)) (ns ms : List Note) → LinesRead asks lines cs ns →
        LineTaken (level_of asks) line cs ns ds ms → LinesRead asks (lines ++ line ∷ []) ds ms

  abbrev pub LogRead : Option Asks → List (List ℕ) → List (Call K) → List Note → Type 0
  LogRead asks lines calls ns = (cs : List (Call K)) × LinesRead asks lines cs ns × (calls ≡ cs ++ call.List (level_of asks) ample ∷ [])

abbrev pub LayoutRead : ℕ → Option Asks → Option Layout → Type 0
LayoutRead g None o = o ≡ None
LayoutRead g (Some a) None = judged g a.plan ≢ answered tt
LayoutRead g (Some a) (Some l) = (judged g a.plan ≡ answered tt) × (l.plan ≡ a.plan)

abbrev pub counter_of : Option Asks → CounterKind
counter_of None = kind.SemiOrdered
counter_of (Some a) = a.counter

abbrev pub greatest_of : CounterKind → ℕ
greatest_of kind.SemiOrdered = most_step
greatest_of kind.SharedDeduction = 1

abbrev pub said_by : CounterKind → {K : Type 0} → (K → Code) → List (Call K) → List Said
said_by kind.SemiOrdered coded calls = day_said coded semi_meaning (unplanned (semi_opened 1 1)) calls
said_by kind.SharedDeduction coded calls = day_said coded shared_meaning (unplanned (shared_opened 1)) calls
