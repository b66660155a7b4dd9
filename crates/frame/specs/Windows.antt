-- What lasts from packet to packet: why marks and estimates tell the volumes of the window. Assumes nothing.
-- A frame is W packets from offset 0 on; marks carry the offset of their packet; rolls stand newest first.
--   Rising       offsets rise strictly from one number on and stay below another
--   Stretch      a stretch of a full frame, up to its end: its volume and its marks
--   Since        a stretch of the present frame, up to now: its volume and its marks, and the estimate now
--   Consistent   the packets of the present frame and those behind it, the marks of both frames, and the counter's estimates fit together
--   Moves        what one add does to estimates, within the budget of a frame
use Rattle.std.specs.Prelude.{◌≡◌, ℕ, ◌+◌, ◌-◌, ◌*◌, ◌/◌, ◌<◌, ◌≤◌, ◌⊎◌, List, [], ◌∷◌, ◌++◌, length, take, ◌≢◌}
use Rattle.std.specs.List.{AllByRecursion}
use Rattle.flow.specs.declared.code.Code.{Code}
use Rattle.frame.specs.declared.marks.Mark.{Mark}
use Rattle.frame.specs.declared.plan.Plan.{Plan}
use Rattle.frame.specs.Plans.{Fair, block_of, unit_of}
use Rattle.frame.specs.Rolls.{Packet, volume_in}
use Rattle.frame.specs.Marking.{marks_from, marks_of}

-- offsets rise strictly from low on, and stay below high
abbrev pub Rising : ℕ → ℕ → List Mark → Type 0
Rising low high [] = Unit {0}
Rising low high (m ∷ ms) = (low ≤ m.offset) × (m.offset < high) × Rising (m.offset + 1) high ms

-- a stretch of a full frame up to its end: volume v, m marks
pub record Stretch (t v m : ℕ) : Type 0 where
  pub low : v < t * m + t
  pub high : t * m < v + t

-- a stretch of the present frame up to now: volume v, m marks; q is the estimate now
pub record Since (t q v m : ℕ) : Type 0 where
  pub low : t * (q / t) + v ≤ q + t * m
  pub high : q + t * m < v + t * (q / t) + t

-- What lasts, of the packets of the present frame, those behind it, the marks of the previous and the present frame, and the counter's estimates.
pub record Consistent (z : Plan) (present behind : List Packet) (older newer : List Mark) (est : Code → ℕ) : Type 0 where
  -- the older marks left are those that the previous frame made at p or later
  pub p : ℕ
  pub fair : Fair z
  pub few : length older < z.places
  pub fits : length present ≤ z.window
  pub past : length present ≤ p
  pub near : p < length present + block_of z
  pub light : AllByRecursion (λ x. x.weight ≤ z.most) (present ++ behind)
  pub older_rise : Rising p z.window older
  pub newer_rise : Rising 0 (length present) newer
  pub whole : (k : Code) → marks_of k newer ≡ est k / unit_of z
  pub since : (k : Code) (a : ℕ) → Since (unit_of z) (est k) (volume_in k (take (length present - a) present)) (marks_from a k newer)
  pub before : (k : Code) (a : ℕ) → p ≤ a → Stretch (unit_of z) (volume_in k (take (z.window - a) behind)) (marks_from a k older)

-- One add: the code's own estimate rises by w; any other stays, or rises to some r with n r at most top, and top is below n T.
pub record Moves (n top t : ℕ) (k : Code) (w : ℕ) (e d : Code → ℕ) : Type 0 where
  pub own : d k ≡ e k + w
  pub other : (j : Code) → (j ≢ k) → (d j ≡ e j) ⊎ ((e j ≤ d j) × (n * d j ≤ top))
  pub budget : top < n * t
