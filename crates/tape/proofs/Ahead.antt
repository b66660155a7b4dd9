-- A command that was read lies ahead of the place, on the tape.
use Rattle.std.proofs.Common.{◌≡◌, ℕ, ◌+◌, ◌<◌, ◌≤◌, Bool, true, false, refl, cond, eqb, ltb, List, [], ◌∷◌, length, drop, arith, inl, inr, length-drop}
use Rattle.std.proofs.lemmas.Bool.{cases_Bool, ltb-false}
use Rattle.std.proofs.lemmas.Bool.Decides.{nat_tests}
use Rattle.flow.specs.Answers.{Answer, answered, refused}
use Rattle.flow.specs.Limits.{most_tape}
use Rattle.tape.specs.declared.command.Command.{Command}
use Rattle.tape.specs.declared.command.Command.TheVariants as command
use Rattle.tape.specs.Commands.{due, command_named, command_at, size}
use Rattle.tape.specs.Readings.{found, stopped, placed, first_command, command_from, next_command}

pub due_fits : (n : ℕ) (operands : List ℕ) (x c : Command (List ℕ)) → due n operands x ≡ answered c → (x ≡ c) × (n ≤ length operands)
due_fits n operands x c e =
    elim (cases_Bool (ltb (length operands) n)) [
      | inl short ↦ absurd (grind (arith, nat_tests))
      | inr enough ↦ (grind (arith, nat_tests), grind (arith, nat_tests))
    ]

module _ (key_bytes : ℕ) where
  named_fits : (byte : ℕ) (operands : List ℕ) (c : Command (List ℕ)) → command_named key_bytes byte operands ≡ answered c → size key_bytes c ≤ length operands + 1
  named_fits byte operands c e = grind (arith, nat_tests, due_fits)

  some_byte : (c : Command (List ℕ)) → 1 ≤ size key_bytes c
  some_byte (command.Plan q) = omega arith
  some_byte (command.Packet key w) = omega arith
  some_byte (command.Estimate key) = omega arith
  some_byte command.List = omega arith
  some_byte command.Restart = omega arith
  some_byte (command.Level h) = omega arith
  some_byte (command.Trial h) = omega arith
  some_byte command.Close = omega arith

  command_fits : (bytes : List ℕ) (c : Command (List ℕ)) → command_at key_bytes bytes ≡ answered c → size key_bytes c ≤ length bytes
  command_fits [] c e = cc
  command_fits (byte ∷ operands) c e = omega (arith, named_fits byte operands c e)

  placed_fits : (offset : ℕ) (bytes : List ℕ) (o : ℕ) (c : Command (List ℕ)) (end : ℕ) →
      placed key_bytes offset (command_at key_bytes bytes) ≡ found o c end → (offset < end) × (end ≤ offset + length bytes)
  placed_fits offset bytes o c end = by (command_at key_bytes bytes) refl
    where
      by : (a : Answer (Command (List ℕ))) → command_at key_bytes bytes ≡ a → placed key_bytes offset a ≡ found o c end → (offset < end) × (end ≤ offset + length bytes)
      by (answered x) is e =
          let same : x ≡ c = cc in
          let sum : offset + size key_bytes x ≡ end = cc in
          (omega (arith, some_byte x), omega (arith, command_fits bytes x is))
      by (refused n) is e = cc

  from_fits : (place : ℕ) (tape : List ℕ) (o : ℕ) (c : Command (List ℕ)) (end : ℕ) → command_from key_bytes place tape ≡ found o c end → (place < end) × (end ≤ length tape)
  from_fits place tape o c end e =
      let h = placed_fits place (drop place tape) o c end e in
      (h.0, omega (arith, h.1, length-drop place tape))

  module _ (key_kind counter_kind : ℕ) where
    first_fits : (tape : List ℕ) (o : ℕ) (c : Command (List ℕ)) (end : ℕ) → first_command key_bytes key_kind counter_kind tape ≡ found o c end → (2 < end) × (end ≤ length tape)
    first_fits [] o c end = λ e. cc
    first_fits (a ∷ []) o c end = by (eqb a key_kind)
      where
        by : (d : Bool) → cond d (stopped 16 1) (stopped 15 0) ≡ found o c end → (2 < end) × (end ≤ 1)
        by true e = cc
        by false e = cc
    first_fits (a ∷ b ∷ rest) o c end = by (eqb a key_kind) (eqb b counter_kind)
      where
        by : (d f : Bool) → cond d (cond f (placed key_bytes 2 (command_at key_bytes rest)) (stopped 15 1)) (stopped 15 0) ≡ found o c end → (2 < end) × (end ≤ length (a ∷ b ∷ rest))
        by true true e = let h = placed_fits 2 rest o c end e in (omega (arith, h.0), omega (arith, h.1))
        by true false e = cc
        by false f e = cc

    -- the first command stands behind two bytes
    abbrev pub Ahead : ℕ → ℕ → Type 0
    Ahead place end = (place < end) × (end ≤ most_tape) × (place ≡ 0 → 2 < end)

    pub ahead : (place : ℕ) (tape : List ℕ) (o : ℕ) (c : Command (List ℕ)) (end : ℕ) → next_command key_bytes key_kind counter_kind place tape ≡ found o c end → Ahead place end
    ahead place tape o c end = by (ltb most_tape (length tape)) (eqb place 0) refl refl
      where
        by : (d f : Bool) → ltb most_tape (length tape) ≡ d → eqb place 0 ≡ f →
            cond d (stopped 19 0) (cond f (first_command key_bytes key_kind counter_kind tape) (command_from key_bytes place tape)) ≡ found o c end → Ahead place end
        by true f short is e = cc
        by false true short is e =
            let h = first_fits tape o c end e in
            let none : place ≡ 0 = grind (arith, nat_tests) in
            let long : length tape ≤ most_tape = ltb-false most_tape (length tape) short in
            (omega (arith, h.0), omega (arith, h.1), λ e'. h.0)
        by false false short is e =
            let h = from_fits place tape o c end e in
            let long : length tape ≤ most_tape = ltb-false most_tape (length tape) short in
            let some : place ≡ 0 → ⊥ = λ none. grind (arith, nat_tests) in
            (h.0, omega (arith, h.1), λ none. absurd (some none))
