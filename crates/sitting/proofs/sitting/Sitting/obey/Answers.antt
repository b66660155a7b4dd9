-- A packet makes no list, so the table and the scratch stay.
use Rattle.std.proofs.Common.{◌≡◌, ℕ, List, refl, arith}
use Rattle.std.proofs.lemmas.Grind.{common_steps}
use Rattle.flow.specs.Answers.{Answer, answered, refused, answer_map}
use Rattle.flow.specs.Meanings.{Meaning}
use Rattle.flow.specs.declared.code.Code.{Code}
use Rattle.meter.specs.declared.day.Call.TheVariants as call
use Rattle.meter.specs.declared.record.Record.{Record}
use Rattle.meter.specs.Days.{packet_said}
use Rattle.meter.specs.States.{State, packet_answer}
use Rattle.sitting.specs.declared.reply.Reply.{Reply}
use Rattle.sitting.specs.declared.reply.Reply.TheVariants as reply
use Rattle.sitting.specs.Courses.{calls}
use Rattle.sitting.specs.Turns.{answer_of, replied, table_after, scratch_after}
use Rattle.tape.specs.declared.command.Command.TheVariants as command
use Rattle.sitting.proofs.sitting.Sitting.obey.Goals as goal

module _ {C : Type 0} (m : Meaning C) (s : State m.Model) (key : List ℕ) (w : ℕ) where
  -- what stays at an answer of passes and at a refusal
  stays : {X : Type 0} (left : Answer (Reply (List Record)) → X → X) (x : X) → ((p : ℕ) → x ≡ left (answered (reply.Took p)) x) → ((n : ℕ) → x ≡ left (refused n) x) →
      (code : Answer Code) → x ≡ left (answer_of m s (command.Packet key w) (answer_map (λ k. calls (call.Packet k w)) code)) x
  stays left x took not (refused n) = not n
  stays left x took not (answered k) = by (packet_answer m s k w)
    where
      by : (a : Answer ℕ) → x ≡ left (replied (command.Packet key w) (packet_said a)) x
      by (answered p) = took p
      by (refused n) = not n

  table_stays : (code : Answer Code) (table : List Record) → table ≡ table_after (answer_of m s (command.Packet key w) (answer_map (λ k. calls (call.Packet k w)) code)) table
  table_stays code table = stays table_after table (λ p. refl) (λ n. refl) code

  scratch_stays : (code : Answer Code) (scratch : List ℕ) → scratch ≡ scratch_after (answer_of m s (command.Packet key w) (answer_map (λ k. calls (call.Packet k w)) code)) scratch
  scratch_stays code scratch = stays scratch_after scratch (λ p. refl) (λ n. refl) code

pub returns-in-Planned-Packet-clause-table : goal.returns-in-Planned-Packet-clause-table
returns-in-Planned-Packet-clause-table g c = grind (arith, common_steps, table_stays)

pub returns-in-Planned-Packet-clause-scratch : goal.returns-in-Planned-Packet-clause-scratch
returns-in-Planned-Packet-clause-scratch g c = grind (arith, common_steps, scratch_stays)
