-- The packets and the volume of a sitting are those of the packets that its lines say were taken.
use Rattle.std.proofs.Common.{◌≡◌, ℕ, ◌+◌, List, [], ◌∷◌, ◌++◌, length, Some, None, Option, refl, ap, sym, ◌∙◌, subst, arith, length-append}
use Rattle.std.proofs.lemmas.List.Sums.{sum_by-append}
use Rattle.std.specs.List.{sum}
use Rattle.flow.specs.Answers.{Answer, answered, refused, answer_map}
use Rattle.flow.specs.Keys.{read_answer}
use Rattle.flow.specs.Meanings.{Meaning}
use Rattle.flow.specs.Spellings.{be32}
use Rattle.flow.specs.declared.code.Code.{Code}
use Rattle.frame.specs.declared.plan.Plan.{Plan}
use Rattle.meter.specs.declared.day.Areas.{Areas}
use Rattle.meter.specs.declared.day.Call.TheVariants as call
use Rattle.meter.specs.declared.record.Record.{Record}
use Rattle.meter.specs.Days.{Said, plan_said, packet_said, estimate_said, list_said, restart_said}
use Rattle.meter.specs.Ledgers.{level_verdict}
use Rattle.meter.specs.States.{State, plan_answer, packet_answer, estimate_answer, list_answer, restart_answer}
use Rattle.tape.specs.declared.command.Command.{Command}
use Rattle.tape.specs.declared.command.Command.TheVariants as command
use Rattle.tape.specs.Readings.{Found, found, stopped, next_command}
use Rattle.tape.proofs.Weights.{weight_stands}
use Rattle.sitting.specs.declared.reply.Reply.{Reply}
use Rattle.sitting.specs.declared.reply.Reply.TheVariants as reply
use Rattle.sitting.specs.declared.stage.Stage.{Stage}
use Rattle.sitting.specs.declared.stage.Stage.TheVariants as stage
use Rattle.sitting.specs.Courses.{Course, calls, asked, packets_after, volume_after, accepted}
use Rattle.sitting.specs.Markings.{weight_taken}
use Rattle.sitting.specs.Turns.{replied, answer_of, answer_in, turned}

-- the weights of the packet that is accepted, if one is
weights : Option ℕ → List ℕ
weights None = []
weights (Some w) = w ∷ []

-- so many packets of such a volume, and then packets of these weights
pub record Tallied (packets volume : ℕ) (ws : List ℕ) (packets' volume' : ℕ) : Type 0 where
  pub packets_are : packets' ≡ packets + length ws
  pub volume_is : volume' ≡ volume + sum ws

one_more : (packets volume : ℕ) (o : Option ℕ) → Tallied packets volume (weights o) (packets_after packets o) (volume_after volume o)
unfolding weights
one_more packets volume None = record { packets_are = omega arith; volume_is = omega arith }
one_more packets volume (Some w) = record { packets_are = omega arith; volume_is = omega arith }

pub none_tallied : (packets volume : ℕ) → Tallied packets volume [] packets volume
none_tallied packets volume = record { packets_are = omega arith; volume_is = omega arith }

pub more_tallied : {n v n' v' n'' v'' : ℕ} (xs ys : List ℕ) → Tallied n v xs n' v' → Tallied n' v' ys n'' v'' → Tallied n v (xs ++ ys) n'' v''
more_tallied xs ys h k = record {
  packets_are = simp length-append (omega (arith, h.packets_are, k.packets_are));
  volume_is = simp sum_by-append (omega (arith, h.volume_is, k.volume_is));
}

abbrev reply_to : Command (List ℕ) → Said → Answer (Reply (List Record))
reply_to c x = replied c x

module _ (key_bytes : ℕ) (tape : List ℕ) (offset : ℕ) where
  -- the weight that an answer accepts is that of the packet that its line says was taken
  abbrev Fits : Command (List ℕ) → Answer (Reply (List Record)) → Type 0
  Fits c a = weights (accepted c a) ≡ weight_taken key_bytes tape offset a

  by_plan : (q : Plan) (a : Answer (Unit {0})) → Fits (command.Plan q) (reply_to (command.Plan q) (plan_said a))
  unfolding weights
  by_plan q (answered x) = refl
  by_plan q (refused n) = refl

  by_packet : (key : List ℕ) (w : ℕ) → be32 tape (offset + (1 + key_bytes)) ≡ w → (a : Answer ℕ) → Fits (command.Packet key w) (reply_to (command.Packet key w) (packet_said a))
  unfolding weights
  by_packet key w stands (answered x) = ap (λ v. v ∷ []) (sym stands)
  by_packet key w stands (refused n) = refl

  by_estimate : (key : List ℕ) (a : Answer ℕ) → Fits (command.Estimate key) (reply_to (command.Estimate key) (estimate_said a))
  unfolding weights
  by_estimate key (answered x) = refl
  by_estimate key (refused n) = refl

  by_list : (a : Answer (List Record)) → Fits command.List (reply_to command.List (list_said a))
  unfolding weights
  by_list (answered x) = refl
  by_list (refused n) = refl

  by_trial : (h : ℕ) (a : Answer (List Record)) → Fits (command.Trial h) (reply_to (command.Trial h) (list_said a))
  unfolding weights
  by_trial h (answered x) = refl
  by_trial h (refused n) = refl

  by_restart : (a : Answer (Unit {0})) → Fits command.Restart (reply_to command.Restart (restart_said a))
  unfolding weights
  by_restart (answered x) = refl
  by_restart (refused n) = refl

  by_level : (h : ℕ) (a : Answer (Unit {0})) → Fits (command.Level h) (answer_map (λ x. reply.LevelSet h) a)
  unfolding weights
  by_level h (answered x) = refl
  by_level h (refused n) = refl

  module _ {C : Type 0} (m : Meaning C) (spelled : List ℕ → Option Code) (areas : Areas) where
    fits : (s : Course (State m.Model)) (g : Stage) (c : Command (List ℕ)) → ((key : List ℕ) (w : ℕ) → c ≡ command.Packet key w → be32 tape (offset + (1 + key_bytes)) ≡ w) →
        Fits c (answer_of m s.meter c (asked spelled areas g c))
    unfolding weights
    fits s (stage.Done e) c stands = refl
    fits s stage.Unplanned (command.Plan q) stands = by_plan q (plan_answer m s.meter q)
    fits s stage.Unplanned (command.Packet key w) stands = refl
    fits s stage.Unplanned (command.Estimate key) stands = refl
    fits s stage.Unplanned command.List stands = refl
    fits s stage.Unplanned command.Restart stands = refl
    fits s stage.Unplanned (command.Level h) stands = refl
    fits s stage.Unplanned (command.Trial h) stands = refl
    fits s stage.Unplanned command.Close stands = refl
    fits s (stage.Planned x) (command.Plan q) stands = refl
    fits s (stage.Planned x) (command.Packet key w) stands = by (read_answer (spelled key))
      where
        by : (a : Answer Code) → Fits (command.Packet key w) (answer_of m s.meter (command.Packet key w) (answer_map (λ k. calls (call.Packet k w)) a))
        by (answered k) = by_packet key w (stands key w refl) (packet_answer m s.meter k w)
        by (refused n) = refl
    fits s (stage.Planned x) (command.Estimate key) stands = by (read_answer (spelled key))
      where
        by : (a : Answer Code) → Fits (command.Estimate key) (answer_of m s.meter (command.Estimate key) (answer_map (λ k. calls (call.Estimate k)) a))
        by (answered k) = by_estimate key (estimate_answer m s.meter k)
        by (refused n) = refl
    fits s (stage.Planned x) command.List stands = by_list (list_answer m s.meter x.level areas.scratch areas.table)
    fits s (stage.Planned x) command.Restart stands = by_restart (restart_answer m s.meter)
    fits s (stage.Planned x) (command.Level h) stands = by_level h (level_verdict s.meter.plan h)
    fits s (stage.Planned x) (command.Trial h) stands = by_trial h (list_answer m s.meter h areas.scratch areas.table)
    fits s (stage.Planned x) command.Close stands = refl

module _ {C : Type 0} (m : Meaning C) (spelled : List ℕ → Option Code) (areas : Areas) (key_bytes key_kind counter_kind : ℕ) (tape : List ℕ) where
  -- so does a turn
  pub turn_tallied : (s : Course (State m.Model)) (f : Found) → next_command key_bytes key_kind counter_kind s.place tape ≡ f →
      let t = turned m spelled s areas f in
      Tallied s.packets s.volume (weight_taken key_bytes tape t.outcome.offset t.outcome.answer) t.after.packets t.after.volume
  turn_tallied s (found offset c end) is =
      let a = answer_in m spelled s c areas in
      subst (λ (ws : List ℕ). Tallied s.packets s.volume ws (packets_after s.packets (accepted c a)) (volume_after s.volume (accepted c a)))
      (fits key_bytes tape offset m spelled areas s s.stage c (λ key w e. weight_stands key_bytes key w key_kind counter_kind s.place tape offset end (is ∙ ap (λ (x : Command (List ℕ)). found offset x end) e)))
      (one_more s.packets s.volume (accepted c a))
  turn_tallied s (stopped n offset) is = none_tallied s.packets s.volume
