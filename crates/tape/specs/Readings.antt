-- Reading a tape from a place on. Assumes nothing.
--   Found           a command, with the offset of its first byte and that of what follows it, or the number and the offset of a refusal
--   placed_found    a command on the tape, by the bytes of its key
--   found_of        what a reading found
--   placed          a command at an offset, or the refusal there
--   command_from    the command at a place
--   first_command   the first command, behind the two bytes of the kinds: a kind byte that differs is refused with 15, one that is missing with 16, each at its own offset
--   next_command    the next command from a place on: 19 at offset 0 where the tape is too long
use Rattle.std.specs.Prelude.{ℕ, ◌+◌, cond, List, [], ◌∷◌, length, drop, Ok, Err, Result, ◌==◌, nat_lt}
use Rattle.flow.specs.Answers.{Answer, answered, refused}
use Rattle.flow.specs.Limits.{most_tape}
use Rattle.flow.specs.Refusals.{number}
use Rattle.tape.specs.declared.command.Command.{Command}
use Rattle.tape.specs.declared.reading.Placed.{Placed}
use Rattle.tape.specs.declared.reading.Fault.{Fault}
use Rattle.tape.specs.Commands.{command_map, command_at, size}

pub data Found : Type 0 where
  found : ℕ → Command (List ℕ) → ℕ → Found
  stopped : ℕ → ℕ → Found

abbrev pub placed_found : {A : Type 0} → (A → List ℕ) → Placed A → Found
placed_found bytes p = found p.offset (command_map bytes p.command) p.end

abbrev pub found_of : {A : Type 0} → (A → List ℕ) → Result (Placed A) Fault → Found
found_of bytes (Ok p) = placed_found bytes p
found_of bytes (Err f) = stopped (number f.refusal) f.offset

-- for keys of so many bytes
module _ (key_bytes : ℕ) where
  abbrev pub placed : ℕ → Answer (Command (List ℕ)) → Found
  placed offset (answered c) = found offset c (offset + size key_bytes c)
  placed offset (refused n) = stopped n offset

  abbrev pub command_from : ℕ → List ℕ → Found
  command_from place tape = placed place (command_at key_bytes (drop place tape))

  -- for a key kind and a counter kind of these numbers
  module _ (key_kind counter_kind : ℕ) where
    abbrev pub first_command : List ℕ → Found
    first_command [] = stopped 16 0
    first_command (a ∷ []) = cond (a == key_kind) (stopped 16 1) (stopped 15 0)
    first_command (a ∷ b ∷ rest) =
        cond (a == key_kind) (cond (b == counter_kind) (placed 2 (command_at key_bytes rest)) (stopped 15 1)) (stopped 15 0)

    abbrev pub next_command : ℕ → List ℕ → Found
    next_command place tape =
        cond (nat_lt most_tape (length tape)) (stopped 19 0) (cond (place == 0) (first_command tape) (command_from place tape))
