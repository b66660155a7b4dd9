-- The guarantee over a whole tape, in terms of its commands, their answers and true volumes alone. Assumes nothing.
--   ledger_after    the ledger after what a command asks: what the calls alone decide, the roll of accepted packets among it
--   AskRight        what an ask may be answered under a ledger: a call on the meter what is right for it, by the true volumes of the roll
--   AnswerRight     what a command may be answered
--   with_ledger     a course with a ledger in place of its meter
--   is_over         no command is taken any more: the text area is too short, or the sitting is done
--   weight_taken    the weight of the packet that an answer says was taken: what stands on the tape behind its key
--   weights_taken   the weights of all packets that were taken
--   ledger_at       the ledger after what stands on the tape
--   OutcomeRight    what may be said of what stands on the tape
--   after_outcome   the course after that, with the ledger in place of the meter
--   ledger_left     the ledger after a turn
--   PrintsRight     what may be printed for what stands on the tape
--   Outcomes        what may be said of the commands of a tape, one after the other, until it is over
--   Marked          what may be printed for a whole tape over a counter of this greatest step: the guarantee. The last line has the number of the packets that were taken, and the sum of their weights
use Rattle.std.specs.Prelude.{◌≡◌, ℕ, ◌+◌, Bool, true, false, List, [], ◌∷◌, ◌++◌, length, sum, Option, nat_lt}
use Rattle.flow.specs.Answers.{Answer, answered, refused, answer_map, after}
use Rattle.flow.specs.Limits.{least_text}
use Rattle.flow.specs.Spellings.{be32}
use Rattle.flow.specs.declared.code.Code.{Code}
use Rattle.meter.specs.declared.day.Areas.{Areas}
use Rattle.meter.specs.declared.record.Record.{Record}
use Rattle.meter.specs.Days.{Said, step, Right}
use Rattle.meter.specs.Ledgers.{Ledger, fresh, level_verdict}
use Rattle.tape.specs.declared.command.Command.{Command}
use Rattle.tape.specs.Readings.{Found, found, stopped, next_command}
use Rattle.sitting.specs.declared.reply.Reply.{Reply}
use Rattle.sitting.specs.declared.reply.Reply.TheVariants as reply
use Rattle.sitting.specs.declared.stage.Stage.{Stage}
use Rattle.sitting.specs.declared.stage.Stage.TheVariants as stage
use Rattle.sitting.specs.Courses.{Course, begun, Ask, calls, sets, closes, asked, advanced, broken}
use Rattle.sitting.specs.Lines.{last_line}
use Rattle.sitting.specs.Tapes.{lines_text, ending_of}
use Rattle.sitting.specs.Turns.{Outcome, outcome_text, replied, Turn}

abbrev pub ledger_after : Ledger → Answer Ask → Ledger
ledger_after l (answered (calls q)) = step (λ k. k) l q
ledger_after l (answered (sets h)) = l
ledger_after l (answered closes) = l
ledger_after l (refused n) = l

abbrev pub AskRight : Ledger → Command (List ℕ) → Ask → Answer (Reply (List Record)) → Type 0
AskRight l c (calls q) a = (x : Said) × Right (λ k. k) l q x × (a ≡ replied c x)
AskRight l c (sets h) a = a ≡ answer_map (λ x. reply.LevelSet h) (level_verdict l.plan h)
AskRight l c closes a = a ≡ answered reply.Closed

abbrev pub AnswerRight : Ledger → Command (List ℕ) → Answer Ask → Answer (Reply (List Record)) → Type 0
AnswerRight l c (answered q) a = AskRight l c q a
AnswerRight l c (refused n) a = a ≡ refused n

abbrev pub with_ledger : {M : Type 0} → Course M → Ledger → Course Ledger
with_ledger s l = record { place = s.place; stage = s.stage; meter = l; packets = s.packets; volume = s.volume }

abbrev pub is_over : ℕ → Stage → Bool
is_over text (stage.Done e) = true
is_over text s = nat_lt text least_text

-- on a tape, for keys of so many bytes
module _ (key_bytes : ℕ) (tape : List ℕ) where
  abbrev pub weight_taken : ℕ → Answer (Reply (List Record)) → List ℕ
  weight_taken offset (answered (reply.Took x)) = be32 tape (offset + (1 + key_bytes)) ∷ []
  weight_taken offset a = []

  abbrev pub weights_taken : List Outcome → List ℕ
  weights_taken [] = []
  weights_taken (t ∷ ts) = weight_taken t.offset t.answer ++ weights_taken ts

-- by the codes that bytes spell, with a scratch and a table of some lengths
module _ (spelled : List ℕ → Option Code) (areas : Areas) where
  abbrev pub ledger_at : Ledger → Stage → Found → Ledger
  ledger_at l s (found offset c end) = ledger_after l (asked spelled areas s c)
  ledger_at l s (stopped n offset) = l

  abbrev pub OutcomeRight : Course Ledger → Found → Outcome → Type 0
  OutcomeRight s (found offset c end) t = (t.offset ≡ offset) × AnswerRight s.meter c (asked spelled areas s.stage c) t.answer
  OutcomeRight s (stopped n offset) t = t ≡ record { offset = offset; answer = refused n }

  abbrev pub after_outcome : Course Ledger → Found → Outcome → Course Ledger
  after_outcome s (found offset c end) t = advanced s c end t.answer (ledger_at s.meter s.stage (found offset c end))
  after_outcome s (stopped n offset) t = broken s

  -- for keys of so many bytes and kinds of these numbers, and a tape
  module _ (key_bytes key_kind counter_kind : ℕ) (tape : List ℕ) where
    abbrev pub ledger_left : {M : Type 0} → Course M → Answer (Turn M) → Ledger → Ledger
    ledger_left s t l = after t l (ledger_at l s.stage (next_command key_bytes key_kind counter_kind s.place tape))

    abbrev pub PrintsRight : Course Ledger → List ℕ → Type 0
    PrintsRight s lines = (t : Outcome) × OutcomeRight s (next_command key_bytes key_kind counter_kind s.place tape) t × (lines ≡ outcome_text t)

    -- and a text area of some length
    module _ (text : ℕ) where
      abbrev pub Outcomes : Course Ledger → List Outcome → Course Ledger → Type 0
      Outcomes s [] e = (is_over text s.stage ≡ true) × (e ≡ s)
      Outcomes s (t ∷ ts) e =
          let here = next_command key_bytes key_kind counter_kind s.place tape in
          (is_over text s.stage ≡ false) × OutcomeRight s here t × Outcomes (after_outcome s here t) ts e

      abbrev pub Marked : ℕ → List ℕ → Type 0
      Marked greatest lines =
          (ts : List Outcome) × (e : Course Ledger) × Outcomes (begun (fresh greatest)) ts e ×
          (let weights = weights_taken key_bytes tape ts in lines ≡ lines_text ts ++ last_line (ending_of e.stage) (length weights) (sum weights))
