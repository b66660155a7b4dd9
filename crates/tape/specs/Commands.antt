-- Commands on a tape. Assumes nothing.
--   plan_bytes         the bytes of a plan
--   level_bytes        the bytes of a level
--   weight_bytes       the bytes of a weight
--   plan_of            the plan that the operands of a plan command write
--   command_map        a command with other keys
--   due                what some bytes write, or 16 where there are fewer than due
--   command_named      the command that a first byte names, with its operands: 15 where it names none
--   command_at         the command at the front of some bytes: 16 where there is no byte
--   size               how many bytes a command takes, its first byte among them
use Rattle.std.specs.Prelude.{ℕ, ◌+◌, cond, List, [], ◌∷◌, length, take, ◌==◌, nat_lt}
use Rattle.flow.specs.Answers.{Answer, answered, refused}
use Rattle.flow.specs.Spellings.{be16, be32, be64}
use Rattle.frame.specs.declared.plan.Plan.{Plan}
use Rattle.tape.specs.declared.command.Command.{Command}
use Rattle.tape.specs.declared.command.Command.TheVariants as command

abbrev pub plan_bytes : ℕ
plan_bytes = 16

abbrev pub level_bytes : ℕ
level_bytes = 8

abbrev pub weight_bytes : ℕ
weight_bytes = 4

abbrev pub plan_of : List ℕ → Plan
plan_of operands = record { places = be16 operands 0; step = be32 operands 2; most = be32 operands 6; window = be32 operands 10; blocks = be16 operands 14 }

abbrev pub command_map : {A B : Type 0} → (A → B) → Command A → Command B
command_map f (command.Plan q) = command.Plan q
command_map f (command.Packet key w) = command.Packet (f key) w
command_map f (command.Estimate key) = command.Estimate (f key)
command_map f command.List = command.List
command_map f command.Restart = command.Restart
command_map f (command.Level h) = command.Level h
command_map f (command.Trial h) = command.Trial h
command_map f command.Close = command.Close

abbrev pub due : {A : Type 0} → ℕ → List ℕ → A → Answer A
due n bytes a = cond (nat_lt (length bytes) n) (refused 16) (answered a)

-- for keys of so many bytes
module _ (key_bytes : ℕ) where
  abbrev pub command_named : ℕ → List ℕ → Answer (Command (List ℕ))
  command_named byte operands =
      cond (byte == 1) (due plan_bytes operands (command.Plan (plan_of operands)))
      (cond (byte == 2) (due (key_bytes + weight_bytes) operands (command.Packet (take key_bytes operands) (be32 operands key_bytes)))
      (cond (byte == 3) (due key_bytes operands (command.Estimate (take key_bytes operands)))
      (cond (byte == 4) (answered command.List)
      (cond (byte == 5) (answered command.Restart)
      (cond (byte == 6) (due level_bytes operands (command.Level (be64 operands 0)))
      (cond (byte == 7) (due level_bytes operands (command.Trial (be64 operands 0)))
      (cond (byte == 8) (answered command.Close) (refused 15))))))))

  abbrev pub command_at : List ℕ → Answer (Command (List ℕ))
  command_at [] = refused 16
  command_at (byte ∷ operands) = command_named byte operands

  abbrev pub size : {A : Type 0} → Command A → ℕ
  size (command.Plan q) = plan_bytes + 1
  size (command.Packet key w) = key_bytes + weight_bytes + 1
  size (command.Estimate key) = key_bytes + 1
  size command.List = 1
  size command.Restart = 1
  size (command.Level h) = level_bytes + 1
  size (command.Trial h) = level_bytes + 1
  size command.Close = 1
