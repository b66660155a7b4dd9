-- The guarantee over a day, from what each call keeps.
use Rattle.std.proofs.Common.{◌≡◌, ℕ, ◌*◌, Bool, true, false, cond, ltb, List, [], ◌∷◌, ◌++◌, length, Some, None, MatchBool, Option, sym, refl, ap, subst}
use Rattle.std.proofs.lemmas.Bool.{ltb-false}
use Rattle.flow.specs.Answers.{Answer, answered, refused}
use Rattle.flow.specs.Limits.{least_scratch}
use Rattle.flow.specs.Meanings.{Meaning, Opens, Flushes, Adds, Heavy}
use Rattle.flow.specs.declared.code.Code.{Code}
use Rattle.frame.specs.declared.plan.Plan.{Plan}
use Rattle.frame.specs.Plans.{unit_of}
use Rattle.meter.specs.declared.day.Areas.{Areas}
use Rattle.meter.specs.declared.record.Record.{Record}
use Rattle.meter.specs.declared.day.Call.{Call}
use Rattle.meter.specs.declared.day.Call.TheVariants as call
use Rattle.meter.specs.Ledgers.{Ledger, fresh, plan_verdict, restart_verdict}
use Rattle.meter.specs.Guarantees.{Lists, ListRight}
use Rattle.meter.specs.States.{State, unplanned, estimate_answer, list_in, list_for, list_answer}
use Rattle.meter.specs.Holding.{Kept, Holds}
use Rattle.meter.specs.Days.{Said, plan_said, restart_said, step, Right, Runs, Day}
use Rattle.meter.specs.Sequences.{call_said, call_leaves, day_said, day_leaves}
use Rattle.meter.proofs.Answering.{lists, estimate_right}
use Rattle.meter.proofs.Calling.{passes_few}
use Rattle.meter.proofs.Holdings.{new_holds, plan_holds, packet_holds, restart_holds}

module _ {C : Type 0} (m : Meaning C) (opens : Opens m) (flushes : Flushes m) (adds : Adds m) (heavy : Heavy m) where
  list_keeps : (s : State m.Model) (l : Ledger) (o : Option Plan) (level : ℕ) (areas : Areas) → Kept m o s l → ListRight o l.roll level areas (list_for m o s level areas.scratch areas.table)
  list_keeps s l None level areas kept = refl
  list_keeps s l (Some p) level areas kept = by (ltb level (3 * unit_of p)) refl
    where
      sized : Answer (List Record)
      sized = cond (ltb areas.table (length (list_in m s p level))) (refused 13) (answered (list_in m s p level))

      Sized : Answer (List Record) → Type 0
      Sized a = (rs : List Record) × Lists p l.roll level rs × (a ≡ cond (ltb areas.table (length rs)) (refused 13) (answered rs))

      scratched : Lists p l.roll level (list_in m s p level) → (d : Bool) → MatchBool d (cond d (refused 12) sized ≡ refused 12) (Sized (cond d (refused 12) sized))
      scratched right true = refl
      scratched right false = (list_in m s p level, right, refl)

      by : (b : Bool) → ltb level (3 * unit_of p) ≡ b →
          MatchBool b (cond b (refused 11) (cond (ltb areas.scratch least_scratch) (refused 12) sized) ≡ refused 11) (MatchBool (ltb areas.scratch least_scratch) (cond b (refused 11) (cond (ltb areas.scratch least_scratch) (refused 12) sized) ≡ refused 12) (Sized (cond b (refused 11) (cond (ltb areas.scratch least_scratch) (refused 12) sized))))
      by true e = refl
      by false e = scratched (lists m s p kept.0 l.roll kept.1 level (ltb-false level (3 * unit_of p) e)) (ltb areas.scratch least_scratch)

  pub list_right : (s : State m.Model) (l : Ledger) (level : ℕ) (areas : Areas) → Holds m s l → ListRight l.plan l.roll level areas (list_answer m s level areas.scratch areas.table)
  list_right s l level areas h = subst (λ (o : Option Plan). ListRight l.plan l.roll level areas (list_for m o s level areas.scratch areas.table)) (sym h.plan_is) (list_keeps s l l.plan level areas h.kept)

  module _ {K : Type 0} (coded : K → Code) where
    pub call_right : (s : State m.Model) (l : Ledger) (c : Call K) → Holds m s l → Right coded l c (call_said coded m s c)
    call_right s l (call.Plan q) h = ap plan_said (plan_alike l.plan h.plan_is h.kept)
      where
        plan_alike : (o : Option Plan) → s.plan ≡ o → Kept m o s l → plan_verdict (m.greatest s.counter) s.plan q ≡ plan_verdict l.greatest o q
        plan_alike None is kept = λ i. plan_verdict (kept.0 i) (is i) q
        plan_alike (Some p) is kept = ap (λ (o : Option Plan). plan_verdict (m.greatest s.counter) o q) is
    call_right s l (call.Packet k w) h = passes_few m flushes adds heavy s l h (coded k) w
    call_right s l (call.Estimate k) h = (estimate_answer m s (coded k), estimate_right m s l (coded k) h, refl)
    call_right s l (call.List level areas) h = (list_answer m s level areas.scratch areas.table, list_right s l level areas h, refl)
    call_right s l call.Restart h = ap (λ (o : Option Plan). restart_said (restart_verdict o)) h.plan_is

    pub call_holds : (s : State m.Model) (l : Ledger) (c : Call K) → Holds m s l → Holds m (call_leaves coded m s c) (step coded l c)
    call_holds s l (call.Plan q) h = plan_holds m s opens l q h
    call_holds s l (call.Packet k w) h = packet_holds m s flushes adds heavy l (coded k) w h
    call_holds s l (call.Estimate k) h = h
    call_holds s l (call.List level areas) h = h
    call_holds s l call.Restart h = restart_holds m s flushes l h

    pub day_runs : (s : State m.Model) (l : Ledger) (cs : List (Call K)) → Holds m s l → Runs coded l cs (day_said coded m s cs)
    day_runs s l [] h = tt
    day_runs s l (c ∷ cs) h = (call_right s l c h, day_runs (call_leaves coded m s c) (step coded l c) cs (call_holds s l c h))

    -- the whole guarantee
    pub day_right : (x : m.Model) (cs : List (Call K)) → Day coded (m.greatest x) cs (day_said coded m (unplanned x) cs)
    day_right x cs = day_runs (unplanned x) (fresh (m.greatest x)) cs (new_holds m x)

module _ {K : Type 0} (coded : K → Code) {C : Type 0} (m : Meaning C) where
  -- one call more
  pub leaves_push : (s : State m.Model) (cs : List (Call K)) (c : Call K) → day_leaves coded m s (cs ++ c ∷ []) ≡ call_leaves coded m (day_leaves coded m s cs) c
  leaves_push s [] c = refl
  leaves_push s (x ∷ cs) c = leaves_push (call_leaves coded m s x) cs c

  pub said-push : (s : State m.Model) (cs : List (Call K)) (c : Call K) → day_said coded m s (cs ++ c ∷ []) ≡ day_said coded m s cs ++ call_said coded m (day_leaves coded m s cs) c ∷ []
  said-push s [] c = refl
  said-push s (x ∷ cs) c = ap (λ (as' : List Said). call_said coded m s x ∷ as') (said-push (call_leaves coded m s x) cs c)
