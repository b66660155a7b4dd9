-- What a call that may refuse says, and what it leaves. Assumes nothing.
--   Answer       an answer, or the number of a refusal
--   told         the answer or the number that a Result holds
--   answer_map   the answer turned into another; a refusal stays
--   after        what stands after a call: the new value if it answered, the old one if it refused
--   Unchanged    a call that refused left the value as it was
use Rattle.std.specs.Prelude.{◌≡◌, ℕ, Ok, Err, Result}
use Rattle.flow.specs.declared.refusal.Refusal.{Refusal}
use Rattle.flow.specs.Refusals.{number}

pub data Answer (A : Type 0) : Type 0 where
  answered : A → Answer A
  refused : ℕ → Answer A

abbrev pub told : {A : Type 0} → Result A Refusal → Answer A
told (Ok a) = answered a
told (Err e) = refused (number e)

abbrev pub answer_map : {A B : Type 0} → (A → B) → Answer A → Answer B
answer_map f (answered a) = answered (f a)
answer_map f (refused n) = refused n

abbrev pub after : {A X : Type 0} → Answer A → X → X → X
after (answered a) old new = new
after (refused n) old new = old

abbrev pub Unchanged : {A X : Type 0} → Result A Refusal → X → X → Type 0
Unchanged (Ok a) old new = Unit {0}
Unchanged (Err e) old new = new ≡ old
