-- The weight of a packet stands on the tape behind its key.
use Rattle.std.proofs.Common.{◌≡◌, ℕ, ◌+◌, Bool, true, false, refl, cond, eqb, ltb, List, [], ◌∷◌, length, drop, arith, sym, ap, ◌∙◌, add_assoc}
use Rattle.std.proofs.lemmas.Bool.Decides.{nat_tests}
use Rattle.std.proofs.lemmas.List.{get_or-drop}
use Rattle.flow.specs.Answers.{Answer, answered, refused}
use Rattle.flow.specs.Limits.{most_tape}
use Rattle.flow.specs.Spellings.{be32}
use Rattle.tape.specs.declared.command.Command.{Command}
use Rattle.tape.specs.declared.command.Command.TheVariants as command
use Rattle.tape.specs.Commands.{command_named, command_at}
use Rattle.tape.specs.Readings.{found, stopped, placed, first_command, command_from, next_command}
use Rattle.tape.proofs.Ahead.{due_fits}

-- four bytes of what is left of a list
be32-drop : (n : ℕ) (bytes : List ℕ) (at : ℕ) → be32 (drop n bytes) at ≡ be32 bytes (n + at)
be32-drop n bytes at = simp (get_or-drop, add_assoc) refl

module _ (key_bytes : ℕ) (key : List ℕ) (w : ℕ) where
  named_weight : (byte : ℕ) (operands : List ℕ) → command_named key_bytes byte operands ≡ answered (command.Packet key w) → be32 operands key_bytes ≡ w
  named_weight byte operands e = grind (arith, nat_tests, due_fits)

  command_weight : (bytes : List ℕ) → command_at key_bytes bytes ≡ answered (command.Packet key w) → be32 bytes (1 + key_bytes) ≡ w
  command_weight [] e = cc
  command_weight (byte ∷ operands) e = sym (be32-drop 1 (byte ∷ operands) key_bytes) ∙ named_weight byte operands e

  -- of bytes that stand on a tape from an offset on
  placed_weight : (tape : List ℕ) (offset o end : ℕ) → placed key_bytes offset (command_at key_bytes (drop offset tape)) ≡ found o (command.Packet key w) end → be32 tape (o + (1 + key_bytes)) ≡ w
  placed_weight tape offset o end = by (command_at key_bytes (drop offset tape)) refl
    where
      by : (a : Answer (Command (List ℕ))) → command_at key_bytes (drop offset tape) ≡ a → placed key_bytes offset a ≡ found o (command.Packet key w) end → be32 tape (o + (1 + key_bytes)) ≡ w
      by (answered x) is e =
          let same : x ≡ command.Packet key w = cc in
          let here : offset ≡ o = cc in
          ap (λ n. be32 tape (n + (1 + key_bytes))) (sym here) ∙ sym (be32-drop offset tape (1 + key_bytes)) ∙ command_weight (drop offset tape) (is ∙ ap answered same)
      by (refused n) is e = cc

  module _ (key_kind counter_kind : ℕ) where
    first_weight : (tape : List ℕ) (o end : ℕ) → first_command key_bytes key_kind counter_kind tape ≡ found o (command.Packet key w) end → be32 tape (o + (1 + key_bytes)) ≡ w
    first_weight [] o end = λ e. cc
    first_weight (a ∷ []) o end = by (eqb a key_kind)
      where
        by : (d : Bool) → cond d (stopped 16 1) (stopped 15 0) ≡ found o (command.Packet key w) end → be32 (a ∷ []) (o + (1 + key_bytes)) ≡ w
        by true e = cc
        by false e = cc
    first_weight (a ∷ b ∷ rest) o end = by (eqb a key_kind) (eqb b counter_kind)
      where
        by : (d f : Bool) → cond d (cond f (placed key_bytes 2 (command_at key_bytes rest)) (stopped 15 1)) (stopped 15 0) ≡ found o (command.Packet key w) end → be32 (a ∷ b ∷ rest) (o + (1 + key_bytes)) ≡ w
        by true true e = placed_weight (a ∷ b ∷ rest) 2 o end e
        by true false e = cc
        by false f e = cc

    pub weight_stands : (place : ℕ) (tape : List ℕ) (o end : ℕ) → next_command key_bytes key_kind counter_kind place tape ≡ found o (command.Packet key w) end → be32 tape (o + (1 + key_bytes)) ≡ w
    weight_stands place tape o end = by (ltb most_tape (length tape)) (eqb place 0)
      where
        by : (d f : Bool) → cond d (stopped 19 0) (cond f (first_command key_bytes key_kind counter_kind tape) (command_from key_bytes place tape)) ≡ found o (command.Packet key w) end → be32 tape (o + (1 + key_bytes)) ≡ w
        by true f e = cc
        by false true e = first_weight tape o end e
        by false false e = placed_weight tape place o end e
