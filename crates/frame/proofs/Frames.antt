-- The first frame, and the change from a full frame to the next.
use Rattle.std.proofs.Common.{◌≡◌, ℕ, ◌-◌, ◌/◌, ◌<◌, ◌≤◌, List, [], ◌∷◌, ◌++◌, length, take, sym, refl, ap, ◌∙◌, subst, append-nil, mul-zero, arith}
use native.Mathlib.Nat.{zero-div}
use lib.Seq.{take-append-le, take-nil}
use Rattle.std.specs.List.{AllByRecursion}
use Rattle.flow.specs.declared.code.Code.{Code}
use Rattle.frame.specs.Rolls.{Packet, volume_in}
use Rattle.frame.specs.declared.marks.Mark.{Mark}
use Rattle.frame.specs.declared.plan.Plan.{Plan}
use Rattle.frame.specs.Plans.{Fair, unit_of}
use Rattle.frame.specs.Marking.{marks_from}
use Rattle.frame.specs.Windows.{Rising, Stretch, Consistent}
use Rattle.frame.proofs.Sized.{unit_some}
use Rattle.frame.proofs.Stretches.{since_at, since_new, since_ends}

none_in : (k : Code) (n : ℕ) → volume_in k (take n []) ≡ 0
none_in k n = ap (volume_in k) (take-nil n)

stretch_none : (t : ℕ) → 0 < t → Stretch t 0 0
stretch_none t some = record { low = omega (arith, mul-zero t); high = omega (arith, mul-zero t) }

-- a frame that begins, behind which some packets and marks lie
begins : {z : Plan} {behind : List Packet} {older : List Mark} {d : Code → ℕ} → Fair z → length older < z.places → ((k : Code) → d k ≡ 0) → AllByRecursion (λ x. x.weight ≤ z.most) behind → Rising 0 z.window older → ((k : Code) (a : ℕ) → Stretch (unit_of z) (volume_in k (take (z.window - a) behind)) (marks_from a k older)) → Consistent z [] behind older [] d
begins {z} {behind} {older} {d} fair few flushed light rise before = record {
  p = 0;
  fair = fair;
  few = few;
  fits = omega arith;
  past = omega arith;
  near = omega (arith, fair.some);
  light = light;
  older_rise = rise;
  newer_rise = tt;
  whole = λ k. sym (ap (λ x. x / unit_of z) (flushed k) ∙ zero-div (unit_of z));
  since = λ k a. since_at refl (sym (none_in k (0 - a))) refl (since_new (unit_of z) (d k) (unit_some z fair));
  before = λ k a le. before k a;
}

pub first_frame : {z : Plan} {d : Code → ℕ} → Fair z → 0 < z.places → ((k : Code) → d k ≡ 0) → Consistent z [] [] [] [] d
first_frame {z} fair few flushed = begins fair few flushed tt tt (λ k a. subst (λ (v : ℕ). Stretch (unit_of z) v 0) (sym (none_in k (z.window - a))) (stretch_none (unit_of z) (unit_some z fair)))

module _ {z : Plan} {present behind : List Packet} {older newer : List Mark} {e : Code → ℕ} (win : Consistent z present behind older newer e) (full : length present ≡ z.window) where
  -- no older mark is left in a full frame
  pub older_gone : older ≡ []
  older_gone = go older win.older_rise
    where
      go : (ms : List Mark) → Rising win.p z.window ms → ms ≡ []
      go [] r = refl
      go (m ∷ ms) r = absurd (omega (arith, win.past))

  pub next_frame : {d : Code → ℕ} → length newer < z.places → ((k : Code) → d k ≡ 0) → Consistent z [] (present ++ behind) newer [] d
  next_frame few flushed = begins win.fair few flushed win.light (subst (λ (h : ℕ). Rising 0 h newer) full win.newer_rise) before
    where
      before : (k : Code) (a : ℕ) → Stretch (unit_of z) (volume_in k (take (z.window - a) (present ++ behind))) (marks_from a k newer)
      before k a =
          let le : z.window - a ≤ length present = omega arith in
          let s = since_ends (unit_of z) (e k) (volume_in k (take (length present - a) present)) (marks_from a k newer) (unit_some z win.fair) (win.since k a) in
          let same : volume_in k (take (length present - a) present) ≡ volume_in k (take (z.window - a) (present ++ behind)) = ap (λ h. volume_in k (take (h - a) present)) full ∙ ap (volume_in k) (sym (take-append-le (z.window - a) present behind le)) in
          subst (λ (v : ℕ). Stretch (unit_of z) v (marks_from a k newer)) same s

-- a frame that has not begun, when the counter is flushed again
pub same_frame : {z : Plan} (present : List Packet) {behind : List Packet} {older newer : List Mark} {e d : Code → ℕ} → Consistent z present behind older newer e → length present ≡ 0 → ((k : Code) → d k ≡ 0) → Consistent z [] (present ++ behind) (older ++ newer) [] d
same_frame {z} [] {behind} {older} {newer} {e} {d} win empty flushed =
    subst (λ (ms : List Mark). Consistent z [] behind ms [] d) (sym (ap (λ (ns : List Mark). older ++ ns) (gone newer win.newer_rise) ∙ append-nil older)) (record {
      p = win.p;
      fair = win.fair;
      few = win.few;
      fits = win.fits;
      past = win.past;
      near = win.near;
      light = win.light;
      older_rise = win.older_rise;
      newer_rise = tt;
      whole = λ k. sym (ap (λ x. x / unit_of z) (flushed k) ∙ zero-div (unit_of z));
      since = λ k a. since_at refl (sym (none_in k (0 - a))) refl (since_new (unit_of z) (d k) (unit_some z win.fair));
      before = win.before;
    })
  where
    gone : (ms : List Mark) → Rising 0 0 ms → ms ≡ []
    gone [] r = refl
    gone (m ∷ ms) r = absurd (omega arith)
same_frame {z} (x ∷ present) {behind} {older} {newer} {e} {d} win empty flushed = absurd (omega arith)
