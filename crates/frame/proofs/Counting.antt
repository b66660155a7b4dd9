-- Marks at an offset or later, and rising offsets.
use Rattle.std.proofs.Common.{◌≡◌, ℕ, suc, ◌+◌, ◌≤◌, cond, ◌&&◌, leb, List, [], ◌∷◌, ◌++◌, length, refl, arith}
use Rattle.std.specs.List.{filter}
use Rattle.std.proofs.lemmas.Bool.Decides.{nat_tests}
use Rattle.flow.specs.declared.code.Code.{Code}
use Rattle.flow.specs.Codes.{same}
use Rattle.frame.specs.declared.marks.Mark.{Mark}
use Rattle.frame.specs.Marking.{marks_from, marks_of}
use Rattle.frame.specs.Windows.{Rising}

pub from_le : (a : ℕ) (k : Code) (ms : List Mark) → marks_from a k ms ≤ marks_of k ms
from_le a k [] = omega arith
from_le a k (m ∷ ms) = let ih = from_le a k ms in grind (arith, nat_tests)

pub from_past : (a low high : ℕ) (k : Code) (ms : List Mark) → Rising low high ms → high ≤ a → marks_from a k ms ≡ 0
from_past a low high k [] r h = refl
from_past a low high k (m ∷ ms) r h = let ih = from_past a (m.offset + 1) high k ms r.2 h in grind (arith, nat_tests)

pub from_all : (a low high : ℕ) (k : Code) (ms : List Mark) → Rising low high ms → a ≤ low → marks_from a k ms ≡ marks_of k ms
from_all a low high k [] r h = refl
from_all a low high k (m ∷ ms) r h = let ih = from_all a (m.offset + 1) high k ms r.2 (omega arith) in grind (arith, nat_tests)

pub from_push : (a : ℕ) (k : Code) (m : Mark) (ms : List Mark) → marks_from a k (ms ++ m ∷ []) ≡ marks_from a k ms + cond (same m.code k && leb a m.offset) 1 0
from_push a k m [] = omega arith
from_push a k m (x ∷ ms) = omega (arith, from_push a k m ms)

pub rises_up : (low high top : ℕ) (ms : List Mark) → high ≤ top → Rising low high ms → Rising low top ms
rises_up low high top [] h r = tt
rises_up low high top (m ∷ ms) h r = (r.0, omega arith, rises_up (m.offset + 1) high top ms h r.2)

pub rises_push : (low : ℕ) (m : Mark) (ms : List Mark) → low ≤ m.offset → Rising low m.offset ms → Rising low (suc m.offset) (ms ++ m ∷ [])
rises_push low m [] h r = (h, omega arith, tt)
rises_push low m (x ∷ ms) h r = (r.0, omega arith, rises_push (x.offset + 1) m ms (omega arith) r.2)

pub from_append : (a : ℕ) (k : Code) (ms ns : List Mark) → marks_from a k (ms ++ ns) ≡ marks_from a k ms + marks_from a k ns
from_append a k [] ns = omega arith
from_append a k (m ∷ ms) ns = omega (arith, from_append a k ms ns)

pub marks_more : (c : Code) (m : Mark) (ms : List Mark) → marks_of c (m ∷ ms) ≡ cond (same m.code c) 1 0 + marks_of c ms
marks_more c m ms = grind (arith, nat_tests)

-- the marks of a code, picked by a test
pub marks-filtered : (k : Code) (ms : List Mark) → marks_of k ms ≡ length (filter (λ m. same m.code k) ms)
marks-filtered k [] = refl
marks-filtered k (m ∷ ms) = let ih = marks-filtered k ms in let more = marks_more k m ms in grind (arith, nat_tests)
