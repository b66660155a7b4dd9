-- The lines of a log behind its heading. Assumes nothing.
-- A key writes a word where the word is the key's written form.
--   FormRead       what a line with this first word asks for: a list, a restart, an estimate, or else a packet
--   Ends           what the rest of a line is read as that has to be blank
--   Written        some key writes a word
--   EstimateRead   what follows the word `estimate` is read as: the call with the key that it names, or the first thing that is wrong with it
--   PacketRead     what a packet line is read as: the call with its key and weight, or the first thing that is wrong with it
--   BareRead       what follows `list` or `restart` is read as: the call, unless there is more on the line
--   ReadAs         what a line of a form is read as
--   CallRead       what a line is read as: a call, or the first thing that is wrong with it
--   LineRead       the same, or nothing where the line is blank
use Rattle.std.specs.Prelude.{◌≡◌, ◌≢◌, ℕ, List, [], Some, None, Ok, Err, codes, Option, Result}
use Rattle.std.specs.Str.Parse.{IsNumeral}
use Rattle.text.specs.Reading.{word_of, after_word, first, second, third, Writes}
use Rattle.flow.specs.Refusals.{number}
use Rattle.meter.specs.declared.day.Call.{Call}
use Rattle.meter.specs.declared.day.Call.TheVariants as call
use Rattle.meter.specs.Tables.{ample}
use Rattle.logs.specs.declared.line.Form.{Form}
use Rattle.logs.specs.declared.line.Form.TheVariants as form
use Rattle.logs.specs.declared.line.Unread.{Unread}
use Rattle.logs.specs.declared.line.Unread.TheVariants as unread
use Rattle.inputs.specs.declared.failure.Failure.{Failure}
use Rattle.inputs.specs.declared.failure.Failure.TheVariants as failure

abbrev pub FormRead : List ℕ → Form → Type 0
FormRead word form.List = word ≡ codes "list"
FormRead word form.Restart = word ≡ codes "restart"
FormRead word form.Estimate = word ≡ codes "estimate"
FormRead word form.Packet = (word ≢ codes "list") × (word ≢ codes "restart") × (word ≢ codes "estimate")

abbrev pub Ends : List ℕ → Result (Unit {0}) (Failure Unread) → Type 0
Ends rest (Ok x) = word_of rest ≡ []
Ends rest (Err (failure.Unread unread.More)) = word_of rest ≢ []
Ends rest (Err e) = ⊥

module _ {K : Type 0} (text_of : K → List ℕ) where
  abbrev pub Written : List ℕ → Type 0
  Written word = (k : K) × (text_of k ≡ word)

  abbrev pub EstimateRead : List ℕ → Result (Call K) (Failure Unread) → Type 0
  EstimateRead rest (Ok (call.Estimate k)) = (text_of k ≡ first rest) × (second rest ≡ [])
  EstimateRead rest (Ok c) = ⊥
  EstimateRead rest (Err (failure.Refused e)) = (number e ≡ 14) × ((k : K) → text_of k ≡ first rest → ⊥)
  EstimateRead rest (Err (failure.Unread unread.More)) = Written (first rest) × (second rest ≢ [])
  EstimateRead rest (Err (failure.Unread e)) = ⊥

  abbrev pub PacketRead : List ℕ → Result (Call K) (Failure Unread) → Type 0
  PacketRead line (Ok (call.Packet k w)) = (text_of k ≡ first line) × Writes 32 (second line) w × (third line ≡ [])
  PacketRead line (Ok c) = ⊥
  PacketRead line (Err (failure.Refused e)) = (number e ≡ 14) × ((k : K) → text_of k ≡ first line → ⊥)
  PacketRead line (Err (failure.Unread unread.Weight)) = Written (first line) × (IsNumeral 10 (second line) → ⊥)
  PacketRead line (Err (failure.Unread unread.More)) = Written (first line) × IsNumeral 10 (second line) × (third line ≢ [])
  PacketRead line (Err (failure.Unread unread.Heading)) = ⊥

  abbrev pub BareRead : List ℕ → Call K → Result (Call K) (Failure Unread) → Type 0
  BareRead rest c (Ok d) = (d ≡ c) × (word_of rest ≡ [])
  BareRead rest c (Err (failure.Unread unread.More)) = word_of rest ≢ []
  BareRead rest c (Err e) = ⊥

  abbrev pub ReadAs : ℕ → List ℕ → Form → Result (Call K) (Failure Unread) → Type 0
  ReadAs level line form.List r = BareRead (after_word line) (call.List level ample) r
  ReadAs level line form.Restart r = BareRead (after_word line) call.Restart r
  ReadAs level line form.Estimate r = EstimateRead (after_word line) r
  ReadAs level line form.Packet r = PacketRead line r

  abbrev pub CallRead : ℕ → List ℕ → Result (Call K) (Failure Unread) → Type 0
  CallRead level line r = (f : Form) × FormRead (first line) f × ReadAs level line f r

  abbrev pub LineRead : ℕ → List ℕ → Option (Result (Call K) (Failure Unread)) → Type 0
  LineRead level line None = word_of line ≡ []
  LineRead level line (Some r) = (word_of line ≢ []) × CallRead level line r
