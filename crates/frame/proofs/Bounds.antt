-- The two bounds on a flow's estimate, and what they say of a list.
use Rattle.std.proofs.Common.{◌≡◌, ℕ, zero, suc, ◌+◌, ◌-◌, ◌*◌, ◌/◌, ◌<◌, ◌≤◌, List, [], ◌∷◌, ◌++◌, length, take, refl, ap, subst, mul-le-mul_right, mod-lt, mul_comm, mul-add, arith, take_all}
use native.Mathlib.Nat.{div-add-mod}
use Rattle.std.specs.List.{AllByRecursion}
use Rattle.flow.specs.declared.code.Code.{Code}
use Rattle.frame.specs.Rolls.{Packet, volume_in, true_volume}
use Rattle.frame.specs.declared.marks.Mark.{Mark}
use Rattle.frame.specs.declared.plan.Plan.{Plan}
use Rattle.frame.specs.Plans.{unit_of, block_of}
use Rattle.frame.specs.Marking.{marks_of, flow_estimate}
use Rattle.frame.specs.Windows.{Since, Stretch, Consistent}
use Rattle.frame.proofs.Counting.{from_all, from_append}
use Rattle.frame.proofs.Stretches.{since_at}
use Rattle.frame.proofs.Sized.{unit_is, unit_some}
use Rattle.frame.proofs.Volumes.{window_parts, volume_more, volume_less}

light_behind : (most : ℕ) (xs ys : List Packet) → AllByRecursion (λ x. x.weight ≤ most) (xs ++ ys) → AllByRecursion (λ x. x.weight ≤ most) ys
light_behind most [] ys h = h
light_behind most (x ∷ xs) ys h = light_behind most xs ys h.1

module _ {z : Plan} {present behind : List Packet} {older newer : List Mark} {e : Code → ℕ} (win : Consistent z present behind older newer e) (k : Code) where
  abbrev t : ℕ
  t = unit_of z

  -- from the start of the present frame
  start : Since t (e k) (volume_in k present) (e k / t)
  start = since_at refl (ap (volume_in k) (take_all (length present - 0) present (omega arith))) (win.whole k) (win.since k 0)

  -- the older marks are those of the previous frame from p on
  rest : Stretch t (volume_in k (take (z.window - win.p) behind)) (marks_of k older)
  rest = subst (λ (m : ℕ). Stretch t (volume_in k (take (z.window - win.p) behind)) m) (from_all win.p win.p z.window k older win.older_rise (omega arith)) (win.before k win.p (omega arith))

  -- the packets between the present offset and p
  between : (win.p - length present) * z.most ≤ t
  between = omega (arith, mul-le-mul_right {m = win.p - length present} {n = block_of z} z.most (omega (arith, win.near)), mul_comm z.most (block_of z), unit_is z)

  previous_low : volume_in k (take (z.window - length present) behind) < t * marks_of k older + t + t
  previous_low = omega (arith, rest.low, between, volume_more z.most k behind (z.window - win.p) (z.window - length present) (win.p - length present) (omega arith) (light_behind z.most present behind win.light))

  previous_high : t * marks_of k older < volume_in k (take (z.window - length present) behind) + t
  previous_high = omega (arith, rest.high, volume_less k behind (z.window - win.p) (z.window - length present) (omega (arith, win.past)))

  estimate_is : flow_estimate t (marks_of k (older ++ newer)) (e k) ≡ t * marks_of k older + e k + t + t
  estimate_is =
      let count : marks_of k (older ++ newer) ≡ marks_of k older + e k / t = omega (arith, from_append 0 k older newer, win.whole k) in
      omega (arith, ap (λ m. t * (m + 2)) count, mul-add t (marks_of k older + e k / t) 2, mul-add t (marks_of k older) (e k / t), div-add-mod (e k) t)

  pub estimate_low : true_volume z.window k (present ++ behind) ≤ flow_estimate t (marks_of k (older ++ newer)) (e k)
  estimate_low = omega (arith, window_parts z.window k present behind win.fits, estimate_is, previous_low, start.low)

  pub estimate_high : flow_estimate t (marks_of k (older ++ newer)) (e k) < true_volume z.window k (present ++ behind) + 4 * t
  estimate_high = omega (arith, window_parts z.window k present behind win.fits, estimate_is, previous_high, start.high)

  -- a flow of H or more is marked, and listed at H
  pub heavy_marked : (level : ℕ) → 3 * t ≤ level → level ≤ true_volume z.window k (present ++ behind) → (1 ≤ marks_of k (older ++ newer)) × (level ≤ flow_estimate t (marks_of k (older ++ newer)) (e k))
  heavy_marked level above heavy = (go (marks_of k (older ++ newer)) refl, omega (arith, estimate_low))
    where
      go : (m : ℕ) → marks_of k (older ++ newer) ≡ m → 1 ≤ m
      go zero h = absurd (omega (arith, estimate_low, ap (λ m. t * (m + 2)) h, mod-lt (e k) (unit_some z win.fair)))
      go (suc m) h = omega arith
