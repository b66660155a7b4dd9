-- The commands of a tape, marked one after the other, by the rules. Assumes nothing.
--   Outcome         what is said of a command: the offset of its first byte, and its answer
--   answer_text     the lines that are printed for an answer at an offset
--   outcome_text    the lines that are printed for what is said of a command
--   table_after     the table after an answer: the records of a list in front
--   scratch_after   the scratch after an answer: all zero after a list
--   listed          the reply to a command that lists
--   replied         what the meter says, as the answer to a command
--   Turn            what is said of a command, and the course after it
--   unless_done     what stands, or 17 in a stage that is done
--   ask_answer      what an ask is answered
--   ask_leaves      the meter after an ask
--   answer_of       what a command is answered, by what it asks
--   meter_after     the meter after it
--   answer_in       what a command is answered on a course
--   turned          the turn of what stands on the tape
--   next_turn       the next turn, for a text area of some length: 18 where that is too short, else 17 where the sitting is done
--   course_left     the course after a turn
--   text_left       the text after a turn
--   table_left      the table after a turn
--   scratch_left    the scratch after a turn
--   Follows         a call says how many bytes the lines of a turn have, and leaves the course and the areas as the turn does
use Rattle.std.specs.Prelude.{◌≡◌, ℕ, cond, List, length, Option, nat_lt}
use Rattle.flow.specs.Answers.{Answer, answered, refused, answer_map}
use Rattle.flow.specs.Limits.{least_text}
use Rattle.flow.specs.Meanings.{Meaning}
use Rattle.flow.specs.declared.code.Code.{Code}
use Rattle.meter.specs.declared.day.Areas.{Areas}
use Rattle.meter.specs.declared.record.Record.{Record}
use Rattle.meter.specs.Days.{Said, says_planned, says_took, says_estimate, says_list, says_restarted, says_refused}
use Rattle.meter.specs.Ledgers.{level_verdict}
use Rattle.meter.specs.Sequences.{call_said, call_leaves}
use Rattle.meter.specs.States.{State, table_leaves, scratch_leaves}
use Rattle.tape.specs.declared.command.Command.{Command}
use Rattle.tape.specs.declared.command.Command.TheVariants as command
use Rattle.tape.specs.Readings.{Found, found, stopped, next_command}
use Rattle.sitting.specs.declared.reply.Reply.{Reply}
use Rattle.sitting.specs.declared.reply.Reply.TheVariants as reply
use Rattle.sitting.specs.declared.stage.Stage.{Stage}
use Rattle.sitting.specs.declared.stage.Stage.TheVariants as stage
use Rattle.sitting.specs.Lines.{reply_lines, refusal_line, over}
use Rattle.sitting.specs.Courses.{Course, Ask, calls, sets, closes, asked, advanced, broken}

pub record Outcome : Type 0 where
  pub offset : ℕ
  pub answer : Answer (Reply (List Record))

abbrev pub answer_text : ℕ → Answer (Reply (List Record)) → List ℕ
answer_text offset (answered r) = reply_lines r
answer_text offset (refused n) = refusal_line n offset

abbrev pub outcome_text : Outcome → List ℕ
outcome_text t = answer_text t.offset t.answer

abbrev pub table_after : Answer (Reply (List Record)) → List Record → List Record
table_after (answered (reply.Listed rs)) table = table_leaves (answered rs) table
table_after (answered (reply.Tried h rs)) table = table_leaves (answered rs) table
table_after a table = table

abbrev pub scratch_after : Answer (Reply (List Record)) → List ℕ → List ℕ
scratch_after (answered (reply.Listed rs)) scratch = scratch_leaves (answered rs) scratch
scratch_after (answered (reply.Tried h rs)) scratch = scratch_leaves (answered rs) scratch
scratch_after a scratch = scratch

abbrev pub listed : {K R : Type 0} → Command K → R → Reply R
listed (command.Trial h) rs = reply.Tried h rs
listed c rs = reply.Listed rs

abbrev pub replied : {K : Type 0} → Command K → Said → Answer (Reply (List Record))
replied c says_planned = answered reply.Opened
replied c (says_took x) = answered (reply.Took x)
replied c (says_estimate e) = answered (reply.Estimated e)
replied c (says_list rs) = answered (listed c rs)
replied c says_restarted = answered reply.Restarted
replied c (says_refused n) = refused n

pub record Turn (M : Type 0) : Type 0 where
  pub outcome : Outcome
  pub after : Course M

abbrev pub unless_done : {A : Type 0} → Stage → A → Answer A
unless_done (stage.Done e) a = refused 17
unless_done s a = answered a

-- over a counter of any meaning
module _ {C : Type 0} (m : Meaning C) where
  abbrev pub ask_answer : {K : Type 0} → State m.Model → Command K → Ask → Answer (Reply (List Record))
  ask_answer s c (calls q) = replied c (call_said (λ k. k) m s q)
  ask_answer s c (sets h) = answer_map (λ x. reply.LevelSet h) (level_verdict s.plan h)
  ask_answer s c closes = answered reply.Closed

  abbrev pub ask_leaves : State m.Model → Ask → State m.Model
  ask_leaves s (calls q) = call_leaves (λ k. k) m s q
  ask_leaves s (sets h) = s
  ask_leaves s closes = s

  abbrev pub answer_of : {K : Type 0} → State m.Model → Command K → Answer Ask → Answer (Reply (List Record))
  answer_of s c (answered q) = ask_answer s c q
  answer_of s c (refused n) = refused n

  abbrev pub meter_after : State m.Model → Answer Ask → State m.Model
  meter_after s (answered q) = ask_leaves s q
  meter_after s (refused n) = s

  -- by the codes that bytes spell
  module _ (spelled : List ℕ → Option Code) where
    abbrev pub answer_in : Course (State m.Model) → Command (List ℕ) → Areas → Answer (Reply (List Record))
    answer_in s c areas = answer_of s.meter c (asked spelled areas s.stage c)

    abbrev pub turned : Course (State m.Model) → Areas → Found → Turn (State m.Model)
    turned s areas (found offset c end) =
        record { outcome = record { offset = offset; answer = answer_in s c areas }; after = advanced s c end (answer_in s c areas) (meter_after s.meter (asked spelled areas s.stage c)) }
    turned s areas (stopped n offset) = record { outcome = record { offset = offset; answer = refused n }; after = broken s }

    -- for keys of so many bytes, and kinds of these numbers
    module _ (key_bytes key_kind counter_kind : ℕ) where
      abbrev pub next_turn : Course (State m.Model) → List ℕ → ℕ → Areas → Answer (Turn (State m.Model))
      next_turn s tape text areas =
          cond (nat_lt text least_text) (refused 18)
          (unless_done s.stage (turned s areas (next_command key_bytes key_kind counter_kind s.place tape)))

module _ {M : Type 0} where
  abbrev pub course_left : Answer (Turn M) → Course M → Course M
  course_left (answered t) s = t.after
  course_left (refused n) s = s

  abbrev pub text_left : Answer (Turn M) → List ℕ → List ℕ
  text_left (answered t) text = over (outcome_text t.outcome) text
  text_left (refused n) text = text

  abbrev pub table_left : Answer (Turn M) → List Record → List Record
  table_left (answered t) table = table_after t.outcome.answer table
  table_left (refused n) table = table

  abbrev pub scratch_left : Answer (Turn M) → List ℕ → List ℕ
  scratch_left (answered t) scratch = scratch_after t.outcome.answer scratch
  scratch_left (refused n) scratch = scratch

  pub record Follows (a : Answer (Turn M)) (said : Answer ℕ) (s s' : Course M) (text text' scratch scratch' : List ℕ) (table table' : List Record) : Type 0 where
    pub answer_is : said ≡ answer_map (λ t. length (outcome_text t.outcome)) a
    pub course_is : s' ≡ course_left a s
    pub text_is : text' ≡ text_left a text
    pub scratch_is : scratch' ≡ scratch_left a scratch
    pub table_is : table' ≡ table_left a table
