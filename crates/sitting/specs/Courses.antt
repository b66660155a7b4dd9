-- What a command asks of a sitting, and how a sitting goes on behind it. Assumes nothing.
--   Course          the place on the tape, the stage, the meter in whatever form, and the packets accepted so far with their volume
--   begun           a sitting that has read nothing
--   Ask             what a command asks: a call on the meter, another standing level, or the end
--   first_asked     what a command asks before a plan: only a plan is taken
--   later_asked     what a command asks under a plan and a standing level: all but a plan is taken, and a key must be one
--   asked           what a command asks in a stage, for areas of some lengths: 17 where it is not taken, else 14 where its key is none
--   levelled        the settings with a standing level
--   first_level     the standing level under a new plan
--   packets_after   the packets accepted, with one more of some weight or without
--   volume_after    their volume
--   stage_after     the stage after a command and its answer
--   accepted        the weight of the packet that a command and its answer accept, if they do
--   advanced        the course after a command that was read, with its answer, and with the meter after it
--   broken          the course after bytes that could not be read
use Rattle.std.specs.Prelude.{ℕ, ◌+◌, List, Some, None, Option}
use Rattle.flow.specs.Answers.{Answer, answered, refused, answer_map}
use Rattle.flow.specs.Keys.{read_answer}
use Rattle.flow.specs.declared.code.Code.{Code}
use Rattle.frame.specs.declared.plan.Plan.{Plan}
use Rattle.frame.specs.Plans.{error_of}
use Rattle.meter.specs.declared.day.Areas.{Areas}
use Rattle.meter.specs.declared.day.Call.{Call}
use Rattle.meter.specs.declared.day.Call.TheVariants as call
use Rattle.tape.specs.declared.command.Command.{Command}
use Rattle.tape.specs.declared.command.Command.TheVariants as command
use Rattle.sitting.specs.declared.ending.Ending.TheVariants as ending
use Rattle.sitting.specs.declared.settings.Settings.{Settings}
use Rattle.sitting.specs.declared.stage.Stage.{Stage}
use Rattle.sitting.specs.declared.stage.Stage.TheVariants as stage

pub record Course (M : Type 0) : Type 0 where
  pub place : ℕ
  pub stage : Stage
  pub meter : M
  pub packets : ℕ
  pub volume : ℕ

abbrev pub begun : {M : Type 0} → M → Course M
begun m = record { place = 0; stage = stage.Unplanned; meter = m; packets = 0; volume = 0 }

pub data Ask : Type 0 where
  calls : Call Code → Ask
  sets : ℕ → Ask
  closes : Ask

-- by the codes that bytes spell, and the lengths of scratch and table
module _ (spelled : List ℕ → Option Code) (areas : Areas) where
  abbrev pub first_asked : Command (List ℕ) → Answer Ask
  first_asked (command.Plan q) = answered (calls (call.Plan q))
  first_asked c = refused 17

  abbrev pub later_asked : Settings → Command (List ℕ) → Answer Ask
  later_asked s (command.Plan q) = refused 17
  later_asked s (command.Packet key w) = answer_map (λ k. calls (call.Packet k w)) (read_answer (spelled key))
  later_asked s (command.Estimate key) = answer_map (λ k. calls (call.Estimate k)) (read_answer (spelled key))
  later_asked s command.List = answered (calls (call.List s.level areas))
  later_asked s command.Restart = answered (calls call.Restart)
  later_asked s (command.Level h) = answered (sets h)
  later_asked s (command.Trial h) = answered (calls (call.List h areas))
  later_asked s command.Close = answered closes

  abbrev pub asked : Stage → Command (List ℕ) → Answer Ask
  asked stage.Unplanned c = first_asked c
  asked (stage.Planned s) c = later_asked s c
  asked (stage.Done e) c = refused 17

abbrev pub levelled : ℕ → Settings
levelled h = record { level = h }

-- no flow without a packet in the window is on a list at this level
abbrev pub first_level : Plan → ℕ
first_level q = error_of q

abbrev pub packets_after : ℕ → Option ℕ → ℕ
packets_after n None = n
packets_after n (Some w) = n + 1

abbrev pub volume_after : ℕ → Option ℕ → ℕ
volume_after v None = v
volume_after v (Some w) = v + w

module _ {K R : Type 0} where
  abbrev pub stage_after : Stage → Command K → Answer R → Stage
  stage_after s c (refused n) = s
  stage_after s (command.Plan q) (answered r) = stage.Planned (levelled (first_level q))
  stage_after s (command.Level h) (answered r) = stage.Planned (levelled h)
  stage_after s command.Close (answered r) = stage.Done ending.Closed
  stage_after s c (answered r) = s

  abbrev pub accepted : Command K → Answer R → Option ℕ
  accepted c (refused n) = None
  accepted (command.Packet key w) (answered r) = Some w
  accepted c (answered r) = None

  abbrev pub advanced : {M : Type 0} → Course M → Command K → ℕ → Answer R → M → Course M
  advanced s c end a m = record {
    place = end;
    stage = stage_after s.stage c a;
    meter = m;
    packets = packets_after s.packets (accepted c a);
    volume = volume_after s.volume (accepted c a);
  }

abbrev pub broken : {M : Type 0} → Course M → Course M
broken s = record s { stage = stage.Done ending.Broken }
