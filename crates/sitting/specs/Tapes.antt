-- A whole tape: its lines by the rules. Assumes nothing.
--   most_turns    the turns that are enough for every tape
--   lines_text    the lines of some commands
--   ending_of     how a sitting ended: broken, unless a close was taken
--   last_text     the last line of a sitting
--   turns_from    a turn, if it is taken, and those that follow it
--   outcomes_of   what is said of the commands of some turns
--   left_by       what some turns leave, by what each leaves
--   ended         the course at the end of some turns
--   Drives        some turns lead from one course to another, with these lines and these areas
--   turns         the turns of a tape, at most so many
--   tape_turns    the turns of a whole tape
--   tape_text     the lines of a whole tape, the last one too
use Rattle.std.specs.Prelude.{◌≡◌, ℕ, ◌+◌, ◌-◌, List, [], ◌∷◌, ◌++◌, map, Option}
use Rattle.std.proofs.Common.{zero, suc}
use Rattle.flow.specs.Answers.{Answer, answered, refused}
use Rattle.flow.specs.Limits.{most_tape}
use Rattle.flow.specs.Meanings.{Meaning}
use Rattle.flow.specs.declared.code.Code.{Code}
use Rattle.meter.specs.declared.day.Areas.{Areas}
use Rattle.meter.specs.declared.record.Record.{Record}
use Rattle.meter.specs.States.{State, unplanned}
use Rattle.sitting.specs.declared.ending.Ending.{Ending}
use Rattle.sitting.specs.declared.ending.Ending.TheVariants as ending
use Rattle.sitting.specs.declared.stage.Stage.{Stage}
use Rattle.sitting.specs.declared.stage.Stage.TheVariants as stage
use Rattle.sitting.specs.Lines.{last_line}
use Rattle.sitting.specs.Courses.{Course, begun}
use Rattle.sitting.specs.Turns.{Outcome, outcome_text, Turn, next_turn, course_left, text_left, table_left, scratch_left}

-- two bytes name the kinds, every command takes a byte at least, and behind the last one a turn finds that the tape ends
abbrev pub most_turns : ℕ
most_turns = most_tape - 2 + 1

abbrev pub lines_text : List Outcome → List ℕ
lines_text [] = []
lines_text (t ∷ ts) = outcome_text t ++ lines_text ts

abbrev pub ending_of : Stage → Ending
ending_of (stage.Done e) = e
ending_of s = ending.Broken

abbrev pub last_text : {M : Type 0} → Course M → List ℕ
last_text s = last_line (ending_of s.stage) s.packets s.volume

module _ {M : Type 0} where
  -- the turns that follow a turn, if it was taken
  abbrev pub turns_from : (Course M → List (Turn M)) → Answer (Turn M) → List (Turn M)
  turns_from more (answered t) = t ∷ more t.after
  turns_from more (refused n) = []

  abbrev pub outcomes_of : List (Turn M) → List Outcome
  outcomes_of ts = map (λ (t : Turn M). t.outcome) ts

  abbrev pub left_by : {A : Type 0} → (Answer (Turn M) → A → A) → List (Turn M) → A → A
  left_by leaves [] a = a
  left_by leaves (t ∷ ts) a = left_by leaves ts (leaves (answered t) a)

  abbrev pub ended : Course M → List (Turn M) → Course M
  ended s ts = left_by course_left ts s

-- some turns lead from one course to another: these lines, and what each area holds before and after
pub record Drives {M : Type 0} (ts : List (Turn M)) (first last : Course M) (lines text text' scratch scratch' : List ℕ) (table table' : List Record) : Type 0 where
  pub lines_is : lines ≡ lines_text (outcomes_of ts)
  pub course_is : last ≡ ended first ts
  pub text_is : text' ≡ left_by text_left ts text
  pub scratch_is : scratch' ≡ left_by scratch_left ts scratch
  pub table_is : table' ≡ left_by table_left ts table

-- by the codes that bytes spell, with a scratch and a table of some lengths, for keys of so many bytes and kinds of these numbers, a tape, a text area of some length, and over a counter of any meaning
module _ (spelled : List ℕ → Option Code) (areas : Areas) (key_bytes key_kind counter_kind : ℕ) (tape : List ℕ) (text : ℕ) {C : Type 0} (m : Meaning C) where
  unfoldable pub turns : ℕ → Course (State m.Model) → List (Turn (State m.Model))
  turns zero s = []
  turns (suc n) s = turns_from (turns n) (next_turn m spelled key_bytes key_kind counter_kind s tape text areas)

  abbrev pub tape_turns : m.Model → List (Turn (State m.Model))
  tape_turns x = turns most_turns (begun (unplanned x))

  abbrev pub tape_text : m.Model → List ℕ
  tape_text x = lines_text (outcomes_of (tape_turns x)) ++ last_text (ended (begun (unplanned x)) (tape_turns x))
