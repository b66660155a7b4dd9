-- What each call keeps of a ledger, and that its answer is right.
use Rattle.std.proofs.Common.{◌≡◌, ℕ, ◌+◌, ◌≤◌, Bool, true, false, cond, eqb, ltb, List, [], ◌∷◌, Some, None, Option, sym, refl, ap, ◌∙◌, subst, arith}
use Rattle.std.proofs.lemmas.Bool.{ltb-false, cond-false}
use Rattle.std.proofs.lemmas.Bool.Decides.{nat_tests}
use Rattle.flow.specs.Answers.{Answer, answered, refused, after}
use Rattle.flow.specs.Meanings.{Meaning, Fresh, Opens, Flushes, Adds, Heavy, open_answer}
use Rattle.flow.specs.declared.code.Code.{Code}
use Rattle.frame.specs.declared.plan.Plan.{Plan}
use Rattle.frame.specs.Plans.{judged, wrapped}
use Rattle.frame.specs.Rolls.{Packet}
use Rattle.frame.proofs.Accepting.{passed, fair}
use Rattle.meter.specs.Ledgers.{Ledger, fresh, plan_verdict, packet_verdict, restart_verdict, planned, noted, restarted}
use Rattle.meter.specs.States.{State, unplanned, plan_leaves, flushed_frame, begun, taken, packet_leaves, restart_leaves}
use Rattle.meter.specs.Holding.{Kept, Holds}
use Rattle.meter.proofs.Tracking.{first, tracks_fair, begun_tracks, counted_tracks}

zero_wrapped : (p : Plan) → ◌≡◌ {A = ℕ} 0 (wrapped p 0)
zero_wrapped p = by (ltb 0 p.window)
  where
    by : (b : Bool) → ◌≡◌ {A = ℕ} 0 (cond b 0 0)
    by true = refl
    by false = refl

module _ {C : Type 0} (m : Meaning C) where
  pub new_holds : (x : m.Model) → Holds m (unplanned x) (fresh (m.greatest x))
  new_holds x = record { plan_is = refl; kept = (refl, refl, refl) }

  -- an open that a plan was judged for is not refused
  pub open_taken : (x : m.Model) (q : Plan) → judged (m.greatest x) q ≡ answered tt → open_answer m x q.places q.step ≡ answered tt
  open_taken x q h =
      let all = passed (m.greatest x) q h in
      cond-false _ _ _ all.places ∙ cond-false _ _ _ all.step

  module _ (s : State m.Model) where
    -- a plan
    abbrev plan_for : ℕ → Option Plan → Plan → State m.Model
    plan_for g o q = after (plan_verdict g o q) s (record { plan = Some q; counter = m.opened s.counter q.places q.step; offset = 0; older = []; newer = [] })

    plan_keeps : Opens m → (g : ℕ) (o : Option Plan) (roll : List Packet) (q : Plan) → s.plan ≡ o → Kept m o s (record { greatest = g; plan = o; roll = roll }) → Holds m (plan_leaves m s q) (planned (record { greatest = g; plan = o; roll = roll }) q)
    plan_keeps opens g None roll q e kept =
        subst (λ (y : State m.Model). Holds m y (planned l q)) (λ i. plan_for (sym kept.0 i) (sym e i) q) (by (judged g q) refl)
      where
        l : Ledger
        l = record { greatest = g; plan = None; roll = roll }

        by : (a : Answer (Unit {0})) → judged g q ≡ a → Holds m (after a s (record { plan = Some q; counter = m.opened s.counter q.places q.step; offset = 0; older = []; newer = [] })) (after a (record { greatest = g; plan = None; roll = roll }) (record { greatest = g; plan = Some q; roll = [] }))
        by (answered tt) h =
            let ok : judged (m.greatest s.counter) q ≡ answered tt = ap (λ (n : ℕ). judged n q) kept.0 ∙ h in
            let open' = opens s.counter q.places q.step (open_taken s.counter q ok) in
            record { plan_is = refl; kept = (0, first m q (record { plan = Some q; counter = m.opened s.counter q.places q.step; offset = 0; older = []; newer = [] }) (m.greatest s.counter) (fair g q h) open' refl refl, zero_wrapped q) }
        by (refused n) h = record { plan_is = e; kept = kept }
    plan_keeps opens g (Some p) roll q e kept =
        subst (λ (y : State m.Model). Holds m y (record { greatest = g; plan = Some p; roll = roll })) (λ i. plan_for (m.greatest s.counter) (sym e i) q) (record { plan_is = e; kept = kept })

    pub plan_holds : Opens m → (l : Ledger) (q : Plan) → Holds m s l → Holds m (plan_leaves m s q) (planned l q)
    plan_holds opens l q h = plan_keeps opens l.greatest l.plan l.roll q h.plan_is h.kept

    begun_plan : (begun m s).plan ≡ s.plan
    begun_plan = by (eqb s.offset 0)
      where
        by : (b : Bool) → (cond b (flushed_frame m s) s).plan ≡ s.plan
        by true = refl
        by false = refl

    -- a packet
    abbrev packet_for : Option Plan → Code → ℕ → State m.Model
    packet_for o k w = after (packet_verdict o w (m.passes (begun m s).counter k w)) s (taken m o s k w)

    packet_keeps : Flushes m → Adds m → Heavy m → (g : ℕ) (o : Option Plan) (roll : List Packet) (k : Code) (w : ℕ) → s.plan ≡ o → Kept m o s (record { greatest = g; plan = o; roll = roll }) →
        Holds m (packet_for o k w) (noted (record { greatest = g; plan = o; roll = roll }) k w)
    packet_keeps flushes adds heavy g None roll k w e kept = record { plan_is = e; kept = kept }
    packet_keeps flushes adds heavy g (Some p) roll k w e kept = by (eqb w 0) refl (ltb p.most w) refl
      where
        by : (a : Bool) → eqb w 0 ≡ a → (b : Bool) → ltb p.most w ≡ b → Holds m
            (after (cond a (refused 9) (cond b (refused 10) (answered (m.passes (begun m s).counter k w)))) s (taken m (Some p) s k w))
            (after {A = ℕ} (cond a (refused 9) (cond b (refused 10) (answered 0))) (record { greatest = g; plan = Some p; roll = roll }) (record { greatest = g; plan = Some p; roll = record { code = k; weight = w } ∷ roll }))
        by true _ b _ = record { plan_is = e; kept = kept }
        by false _ true _ = record { plan_is = e; kept = kept }
        by false a false b =
            let some : 1 ≤ w = grind (arith, nat_tests) in
            let frame = begun_tracks m p s roll kept.0 kept.1 flushes heavy kept.2 in
            record { plan_is = begun_plan ∙ e; kept = ((begun m s).offset + 1, counted_tracks m p (begun m s) roll frame.0 frame.1 k w some (ltb-false p.most w b) adds heavy, refl) }

    pub packet_holds : Flushes m → Adds m → Heavy m → (l : Ledger) (k : Code) (w : ℕ) → Holds m s l → Holds m (packet_leaves m s k w) (noted l k w)
    packet_holds flushes adds heavy l k w h =
        subst (λ (y : State m.Model). Holds m y (noted l k w)) (λ i. packet_for (sym h.plan_is i) k w) (packet_keeps flushes adds heavy l.greatest l.plan l.roll k w h.plan_is h.kept)

    -- a restart
    abbrev restart_for : Option Plan → State m.Model
    restart_for o = after (restart_verdict o) s (record { plan = s.plan; counter = m.flushed s.counter; offset = 0; older = []; newer = [] })

    restart_keeps : Flushes m → (g : ℕ) (o : Option Plan) (roll : List Packet) → s.plan ≡ o → Kept m o s (record { greatest = g; plan = o; roll = roll }) → Holds m (restart_for o) (restarted (record { greatest = g; plan = o; roll = roll }))
    restart_keeps flushes g None roll e kept = record { plan_is = e; kept = kept }
    restart_keeps flushes g (Some p) roll e kept =
        let t = kept.1 in
        let fresh = flushes s.counter t.is_sound in
        let empty = subst (λ (a : ℕ × ℕ). Fresh m a.0 a.1 (m.greatest s.counter) (m.flushed s.counter)) (λ i. (t.places_is i, t.step_is i)) fresh in
        record { plan_is = e; kept = (0, first m p (record { plan = s.plan; counter = m.flushed s.counter; offset = 0; older = []; newer = [] }) (m.greatest s.counter) (tracks_fair m p s roll kept.0 t) empty refl refl, zero_wrapped p) }

    pub restart_holds : Flushes m → (l : Ledger) → Holds m s l → Holds m (restart_leaves m s) (restarted l)
    restart_holds flushes l h =
        subst (λ (y : State m.Model). Holds m y (restarted l)) (λ i. restart_for (sym h.plan_is i)) (restart_keeps flushes l.greatest l.plan l.roll h.plan_is h.kept)
