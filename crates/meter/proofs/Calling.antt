-- What the steps of the calls come to, on states.
use Rattle.std.proofs.Common.{◌≡◌, ℕ, ◌+◌, ◌-◌, ◌*◌, ◌<◌, ◌≤◌, Bool, true, false, cond, eqb, ltb, ◌∷◌, ◌++◌, length, IfOk, Some, None, Ok, Err, Option, Result, sym, refl, ap, ◌∙◌, subst, arith, length-append}
use Rattle.std.proofs.lemmas.Bool.{ltb-false}
use Rattle.std.proofs.lemmas.Bool.Decides.{nat_tests}
use Rattle.flow.specs.Answers.{Answer, answered, refused, after, told}
use Rattle.flow.specs.Meanings.{Meaning, Flushes, Adds, Heavy, add_answer}
use Rattle.flow.specs.declared.code.Code.{Code}
use Rattle.flow.specs.declared.refusal.Refusal.{Refusal}
use Rattle.frame.specs.declared.plan.Plan.{Plan}
use Rattle.frame.specs.Plans.{block_of}
use Rattle.frame.specs.Marking.{dropped, leave}
use Rattle.frame.proofs.Leaving.{leave_worded}
use Rattle.meter.specs.Ledgers.{Ledger, packet_verdict}
use Rattle.meter.specs.Guarantees.{places_of}
use Rattle.meter.specs.States.{State, begun, left, counted, taken, packet_answer, packet_leaves}
use Rattle.meter.specs.Holding.{Room, Tracks, Kept, Holds}
use Rattle.meter.specs.Days.{packet_said}
use Rattle.meter.proofs.Tracking.{begun_tracks, add_taken, counted_tracks, few_passes, marks_few}

-- a call that was answered, and with what
pub answered_by : {A : Type 0} (r : Result A Refusal) (a : A) → told r ≡ answered a → r ≡ Ok a
answered_by (Ok x) a e = cc
answered_by (Err e) a h = cc

-- what a packet of lawful weight comes to
pub record Packeted {C : Type 0} (m : Meaning C) (s : State m.Model) (l : Ledger) (r : Result ℕ Refusal) (e : State m.Model) (k : Code) (w : ℕ) : Type 0 where
  pub passes : ℕ
  pub took : r ≡ Ok passes
  pub answer : told r ≡ packet_answer m s k w
  pub state : e ≡ packet_leaves m s k w
  pub few : passes ≤ places_of l.plan

module _ {C : Type 0} (m : Meaning C) (flushes : Flushes m) (adds : Adds m) (heavy : Heavy m) (s : State m.Model) (l : Ledger) (h : Holds m s l) (p : Plan) (is : s.plan ≡ Some p) (k : Code) (w : ℕ) (some : 1 ≤ w) (light : w ≤ p.most) where
  planned_by : l.plan ≡ Some p
  planned_by = sym h.plan_is ∙ is

  kept : Kept m (Some p) s l
  kept = subst (λ (o : Option Plan). Kept m o s l) planned_by h.kept

  frame : Tracks m p (begun m s).offset (begun m s) l.roll × ((begun m s).offset < p.window)
  frame = begun_tracks m p s l.roll kept.0 kept.1 flushes heavy kept.2

  pub leaves_alike : leave (block_of p) (begun m s).offset (begun m s).older ≡ dropped (block_of p) (begun m s).offset (begun m s).older
  leaves_alike =
      let t = frame.0 in
      let win = t.window in
      leave_worded (block_of p) p.window (begun m s).offset win.p (begun m s).older win.fair.some (omega (arith, win.past, t.filled_is)) win.older_rise

  room : Room m p (left m p (begun m s)) k w
  room =
      let t = frame.0 in
      let next = counted_tracks m p (begun m s) l.roll t frame.1 k w some light adds heavy in
      record {
        is_sound = t.is_sound;
        add_taken = add_taken m p (begun m s) l.roll t frame.1 k w some light;
        fits = omega (arith, marks_few m p (counted m p (left m p (begun m s)) k w) (record { code = k; weight = w } ∷ l.roll) ((begun m s).offset + 1) next heavy, t.window.fair.few);
      }

  verdict : (x : ℕ) → packet_verdict s.plan w x ≡ answered x
  verdict x = ap (λ (o : Option Plan). packet_verdict o w x) is ∙ lawful
    where
      lawful : packet_verdict (Some p) w x ≡ answered x
      lawful = grind (arith, nat_tests)

  leaves : packet_leaves m s k w ≡ counted m p (left m p (begun m s)) k w
  leaves =
      ap (λ (a : Answer ℕ). after a s (taken m s.plan s k w)) (verdict (m.passes (begun m s).counter k w)) ∙ ap (λ (o : Option Plan). taken m o s k w) is

  pub packeted : (r : Result ℕ Refusal) (b e : State m.Model) → b ≡ left m p (begun m s) → (m.sound b.counter → told r ≡ add_answer m b.counter k w) → (Room m p b k w → IfOk r (λ _. e ≡ counted m p b k w)) → Packeted m s l r e k w
  packeted r b e b-is answer done =
      let roomy : Room m p b k w = subst (λ (y : State m.Model). Room m p y k w) (sym b-is) room in
      let passes-is : m.passes b.counter k w ≡ m.passes (begun m s).counter k w = ap (λ (y : State m.Model). m.passes y.counter k w) b-is in
      let all = answer roomy.is_sound ∙ roomy.add_taken in
      let ok = answered_by r (m.passes b.counter k w) all in
      let left_is : e ≡ counted m p b k w = subst (λ (x : Result ℕ Refusal). IfOk x (λ _. e ≡ counted m p b k w)) ok (done roomy) in
      let state = left_is ∙ ap (λ (y : State m.Model). counted m p y k w) b-is ∙ sym leaves in
      record {
        passes = m.passes b.counter k w;
        took = ok;
        answer = all ∙ ap {B = Answer ℕ} answered passes-is ∙ sym (verdict (m.passes (begun m s).counter k w));
        state = state;
        few = omega (arith, passes-is, few_passes m p (begun m s) l.roll frame.0 frame.1 k w some light adds heavy, ap places_of planned_by);
      }

-- at most 2 (n - 1) marks
pub few_marks : {C : Type 0} (m : Meaning C) → Heavy m → (s : State m.Model) (l : Ledger) → Holds m s l → (n : ℕ) → n ≡ length (s.older ++ s.newer) → n ≤ 2 * (places_of l.plan - 1)
few_marks m heavy s l h n is = by l.plan h.kept
  where
    by : (o : Option Plan) → Kept m o s l → n ≤ 2 * (places_of o - 1)
    by None kept = omega (arith, length-append s.older s.newer, ap length kept.1, ap length kept.2)
    by (Some p) kept = omega (arith, length-append s.older s.newer, marks_few m p s l.roll kept.0 kept.1 heavy)

-- a packet's answer: refused by its weight, or the passes, at most as many as the places
pub passes_few : {C : Type 0} (m : Meaning C) → Flushes m → Adds m → Heavy m → (s : State m.Model) (l : Ledger) → Holds m s l → (k : Code) (w : ℕ) →
    (x : ℕ) × (x ≤ places_of l.plan) × (packet_said (packet_answer m s k w) ≡ packet_said (packet_verdict l.plan w x))
passes_few m flushes adds heavy s l h k w =
    let got = by l.plan h.kept in
    (got.0, got.1, ap (λ (o : Option Plan). packet_said (packet_verdict o w (m.passes (begun m s).counter k w))) h.plan_is ∙ ap packet_said got.2)
  where
    by : (o : Option Plan) → Kept m o s l → (x : ℕ) × (x ≤ places_of o) × (packet_verdict o w (m.passes (begun m s).counter k w) ≡ packet_verdict o w x)
    by None kept = (0, omega arith, refl)
    by (Some p) kept = ways (eqb w 0) refl (ltb p.most w) refl
      where
        passes : ℕ
        passes = m.passes (begun m s).counter k w

        ways : (a : Bool) → eqb w 0 ≡ a → (b : Bool) → ltb p.most w ≡ b → (x : ℕ) × (x ≤ p.places) × (cond a (refused 9) (cond b (refused 10) (answered (m.passes (begun m s).counter k w))) ≡ cond a (refused 9) (cond b (refused 10) (answered x)))
        ways true _ b _ = (0, omega arith, refl)
        ways false _ true _ = (0, omega arith, refl)
        ways false a false b =
            let frame = begun_tracks m p s l.roll kept.0 kept.1 flushes heavy kept.2 in
            let some : 1 ≤ w = grind (arith, nat_tests) in
            (m.passes (begun m s).counter k w, few_passes m p (begun m s) l.roll frame.0 frame.1 k w some (ltb-false p.most w b) adds heavy, refl)
