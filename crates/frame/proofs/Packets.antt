-- One packet within a frame keeps the window.
use Rattle.std.proofs.Common.{◌≡◌, ℕ, suc, ◌+◌, ◌-◌, ◌/◌, ◌<◌, ◌≤◌, Bool, true, false, cond, ◌&&◌, ltb, leb, List, [], ◌∷◌, ◌++◌, length, take, sym, refl, ap, ◌∙◌, subst, ⊎_elim, zero-add, arith}
use native.Mathlib.Nat.{div-eq_of_lt}
use Rattle.std.proofs.lemmas.Bool.{cases_Bool, cases_lt, le-leb, both_ways}
use Rattle.flow.specs.declared.code.Code.{Code}
use Rattle.flow.specs.Codes.{same}
use Rattle.frame.specs.Rolls.{Packet, part, volume_in}
use Rattle.frame.specs.declared.marks.Mark.{Mark}
use Rattle.frame.specs.declared.plan.Plan.{Plan}
use Rattle.frame.specs.Plans.{unit_of, block_of}
use Rattle.frame.specs.Marking.{marks_from, marks_of, leave, dropped, marked}
use Rattle.frame.specs.Windows.{Rising, Since, Stretch, Consistent, Moves}
use Rattle.flow.proofs.Codes.{same_true, same_from}
use Rattle.frame.proofs.Counting.{from_le, from_past, from_push, rises_up, rises_push}
use Rattle.frame.proofs.Quotients.{quotient_step, below_unit}
use Rattle.frame.proofs.Sized.{most_within, unit_some}
use Rattle.frame.proofs.Stretches.{since_at, since_new, since_own, since_rise}
use Rattle.frame.proofs.Leaving.{left, leave_worded}

-- marks at a or later after a packet of the code k
from_marked : (t q w a : ℕ) (j : Code) (m : Mark) (ms : List Mark) → marks_from a j (marked t q w m ms) ≡ marks_from a j ms + cond (ltb (q / t) ((q + w) / t)) (cond (same m.code j && leb a m.offset) 1 0) 0
from_marked t q w a j m ms = by (ltb (q / t) ((q + w) / t))
  where
    by : (u : Bool) → marks_from a j (cond u (ms ++ m ∷ []) ms) ≡ marks_from a j ms + cond u (cond (same m.code j && leb a m.offset) 1 0) 0
    by true = from_push a j m ms
    by false = omega arith

rises_marked : (t q w : ℕ) (m : Mark) (ms : List Mark) → Rising 0 m.offset ms → Rising 0 (suc m.offset) (marked t q w m ms)
rises_marked t q w m ms r = by (ltb (q / t) ((q + w) / t))
  where
    by : (u : Bool) → Rising 0 (suc m.offset) (cond u (ms ++ m ∷ []) ms)
    by true = rises_push 0 m ms (omega arith) r
    by false = rises_up 0 m.offset (suc m.offset) ms (omega arith) r

volume_marked : (j : Code) (x : Packet) (xs : List Packet) (n a : ℕ) → a ≤ n → volume_in j (take (suc n - a) (x ∷ xs)) ≡ part j x + volume_in j (take (n - a) xs)
volume_marked j x xs n a le =
    let e : suc n - a ≡ suc (n - a) = omega arith in
    ap (λ i. volume_in j (take i (x ∷ xs))) e

volume_none : (j : Code) (xs : List Packet) (n a : ℕ) → n ≤ a → volume_in j (take (n - a) xs) ≡ 0
volume_none j xs n a le =
    let e : n - a ≡ 0 = omega arith in
    ap (λ i. volume_in j (take i xs)) e

-- marks of the packet's own code, and of another
from_own : (t q w a : ℕ) (m : Mark) (ms : List Mark) → a ≤ m.offset → marks_from a m.code (marked t q w m ms) ≡ marks_from a m.code ms + cond (ltb (q / t) ((q + w) / t)) 1 0
from_own t q w a m ms le =
    let h = from_marked t q w a m.code m ms in
    let s = same_from m.code m.code refl in
    let l = le-leb a m.offset le in
    rw (s, l) at h

from_other : (t q w a : ℕ) (j : Code) (m : Mark) (ms : List Mark) → same m.code j ≡ false → marks_from a j (marked t q w m ms) ≡ marks_from a j ms
from_other t q w a j m ms s = let h = from_marked t q w a j m ms in grind arith

module _ {z : Plan} {present behind : List Packet} {older newer : List Mark} {n top : ℕ} {k : Code} {w : ℕ} {e d : Code → ℕ} (win : Consistent z present behind older newer e) (moves : Moves n top (unit_of z) k w e d) (light : w ≤ z.most) where
  abbrev i : ℕ
  i = length present

  abbrev packet : Packet
  packet = record { code = k; weight = w }

  abbrev mark : Mark
  mark = record { code = k; offset = length present }

  abbrev marks : List Mark
  marks = marked (unit_of z) (e k) w mark newer

  some : 0 < unit_of z
  some = unit_some z win.fair

  small : w ≤ unit_of z
  small = omega (arith, most_within z win.fair)

  rising : Rising 0 (suc i) marks
  rising = rises_marked (unit_of z) (e k) w mark newer win.newer_rise

  -- one code
  abbrev Kept : Code → Type 0
  Kept j = (marks_of j marks ≡ d j / unit_of z) × ((a : ℕ) → Since (unit_of z) (d j) (volume_in j (take (suc i - a) (packet ∷ present))) (marks_from a j marks))

  -- from the end of this packet on
  since_late : (j : Code) (a : ℕ) → i < a → Since (unit_of z) (d j) (volume_in j (take (suc i - a) (packet ∷ present))) (marks_from a j marks)
  since_late j a late =
      since_at refl (sym (volume_none j (packet ∷ present) (suc i) a late)) (sym (from_past a 0 (suc i) j marks rising (omega arith))) (since_new (unit_of z) (d j) some)

  kept_own : Kept k
  kept_own =
      let up : ℕ = cond (ltb (e k / unit_of z) ((e k + w) / unit_of z)) 1 0 in (
        from_own (unit_of z) (e k) w 0 mark newer (omega arith) ∙ ap (λ x. x + up) (win.whole k) ∙ sym (quotient_step (unit_of z) (e k) w some small) ∙ ap (λ x. x / unit_of z) (sym moves.own),
        λ a. ⊎_elim (since_late k a)
            (λ le. since_at (sym moves.own) (sym (volume_marked k packet present i a le ∙ ap (λ (x : Bool). cond x w 0 + volume_in k (take (i - a) present)) (same_from k k refl))) (sym (from_own (unit_of z) (e k) w a mark newer le))
            (since_own (unit_of z) (e k) w (volume_in k (take (i - a) present)) (marks_from a k newer) some small (win.since k a)))
            (cases_lt i a),
      )

  -- another code, whose estimate still holds with the facts so far
  kept_other : (j : Code) → same k j ≡ false → e j / unit_of z ≡ d j / unit_of z → ((a : ℕ) → Since (unit_of z) (d j) (volume_in j (take (i - a) present)) (marks_from a j newer)) → Kept j
  kept_other j s q still = (
    from_other (unit_of z) (e k) w 0 j mark newer s ∙ win.whole j ∙ q,
    λ a. ⊎_elim (since_late j a)
        (λ le. since_at refl (sym (volume_marked j packet present i a le ∙ ap (λ (x : Bool). cond x w 0 + volume_in j (take (i - a) present)) s ∙ zero-add _)) (sym (from_other (unit_of z) (e k) w a j mark newer s)) (still a))
        (cases_lt i a),
  )

  kept_rise : (j : Code) → same k j ≡ false → e j ≤ d j → d j < unit_of z → Kept j
  kept_rise j s le less =
      let x : e j / unit_of z ≡ 0 = div-eq_of_lt (omega arith) in
      let y : d j / unit_of z ≡ 0 = div-eq_of_lt less in
      kept_other j s (x ∙ sym y) (λ a. since_rise (unit_of z) (e j) (d j) (volume_in j (take (i - a) present)) (marks_from a j newer) le less (omega (arith, from_le a j newer, win.whole j)) (win.since j a))

  kept : (j : Code) → Kept j
  kept j = ⊎_elim (λ s. subst Kept (same_true k j s) kept_own)
      (λ s. ⊎_elim
      (λ h. kept_other j s (ap (λ x. x / unit_of z) (sym h)) (λ a. since_at (sym h) refl refl (win.since j a)))
      (λ h. kept_rise j s h.0 (below_unit n (d j) top (unit_of z) h.1 moves.budget))
      (moves.other j (λ h. both_ways (same k j) s (same_from k j (sym h)))))
      (cases_Bool (same k j))

  packet_left_block : length present < z.window → Consistent z (packet ∷ present) behind (leave (block_of z) i older) marks d
  packet_left_block room =
      let l = left (block_of z) z.window i win.p older win.fair.some win.past win.near win.older_rise in
      record {
        p = l.at;
        fair = win.fair;
        few = omega (arith, l.fewer, win.few);
        fits = omega arith;
        past = omega (arith, l.past);
        near = omega (arith, l.near);
        light = (light, win.light);
        older_rise = l.rise;
        newer_rise = rising;
        whole = λ j. (kept j).0;
        since = λ j. (kept j).1;
        before = λ j a le. subst (λ (m : ℕ). Stretch (unit_of z) (volume_in j (take (z.window - a) behind)) m) (sym (l.kept j a le)) (win.before j a (omega (arith, l.on)));
      }

  pub packet_keeps : length present < z.window → Consistent z (packet ∷ present) behind (dropped (block_of z) i older) marks d
  packet_keeps room =
      subst (λ (ms : List Mark). Consistent z (packet ∷ present) behind ms marks d) (leave_worded (block_of z) z.window i win.p older win.fair.some win.past win.older_rise) (packet_left_block room)
