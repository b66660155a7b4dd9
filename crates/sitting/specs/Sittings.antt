-- The course of a sitting. Assumes nothing.
--   course_of      the course that a sitting is on
--   UnderLedgers   a fact of every ledger that the meter of a sitting holds
--   with_count     an answer with the number of its records in place of them
--   lent           the lengths of a scratch and a table
--   turn_at        the turn of what stands on the tape
--   turn_of        the next turn of a sitting
use Rattle.std.specs.Prelude.{ℕ, List, length, Option}
use Rattle.flow.specs.Answers.{Answer, answer_map}
use Rattle.flow.specs.Meanings.{Meaning}
use Rattle.flow.specs.declared.code.Code.{Code}
use Rattle.meter.specs.declared.day.Areas.{Areas}
use Rattle.meter.specs.declared.record.Record.{Record}
use Rattle.meter.specs.Holding.{Holds}
use Rattle.meter.specs.Ledgers.{Ledger}
use Rattle.meter.specs.Meters.{state_of}
use Rattle.meter.specs.States.{State}
use Rattle.sitting.specs.declared.reply.Reply.{Reply}
use Rattle.sitting.specs.declared.sitting.Sitting.{Sitting}
use Rattle.sitting.specs.Lines.{reply_map}
use Rattle.tape.specs.Readings.{Found}
use Rattle.sitting.specs.Courses.{Course}
use Rattle.sitting.specs.Turns.{Turn, turned, next_turn}

abbrev pub course_of : {K C : Type 0} (m : Meaning C) → Sitting K C → Course (State m.Model)
course_of m s = record {
  place = s.progress.place;
  stage = s.stage;
  meter = state_of m s.meter;
  packets = s.progress.packets;
  volume = s.progress.volume;
}

abbrev pub UnderLedgers : {K C : Type 0} (m : Meaning C) → Sitting K C → (Ledger → Type 0) → Type 0
UnderLedgers m s P = (l : Ledger) → Holds m (course_of m s).meter l → P l

abbrev pub with_count : Answer (Reply (List Record)) → Answer (Reply ℕ)
with_count a = answer_map (reply_map length) a

abbrev pub lent : List ℕ → List Record → Areas
lent scratch table = record { scratch = length scratch; table = length table }

module _ {K C : Type 0} (m : Meaning C) (spelled : List ℕ → Option Code) where
  abbrev pub turn_at : Sitting K C → Found → List ℕ → List Record → Turn (State m.Model)
  turn_at s f scratch table = turned m spelled (course_of m s) (lent scratch table) f

  abbrev pub turn_of : ℕ → ℕ → ℕ → Sitting K C → List ℕ → List ℕ → List ℕ → List Record → Answer (Turn (State m.Model))
  turn_of key_bytes key_kind counter_kind s tape text scratch table =
      next_turn m spelled key_bytes key_kind counter_kind (course_of m s) tape (length text) (lent scratch table)
