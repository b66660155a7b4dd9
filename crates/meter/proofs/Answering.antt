-- Estimates and lists are within the bounds of the true volumes.
use Rattle.std.proofs.Common.{◌≡◌, ℕ, ◌+◌, ◌*◌, ◌≤◌, Bool, true, false, cond, ltb, leb, List, [], ◌∷◌, ◌++◌, length, Some, None, Option, sym, refl, ap, ◌∙◌, subst, ⊎_elim, arith}
use Rattle.std.specs.List.{AllByRecursion}
use Rattle.std.proofs.lemmas.Bool.{cases_Bool, cond-true, cond-false, le-leb, lt-leb, lt-ltb}
use Rattle.std.proofs.lemmas.Bool.Decides.{nat_tests}
use Rattle.flow.specs.Codes.{same}
use Rattle.flow.specs.Meanings.{Meaning}
use Rattle.flow.specs.declared.code.Code.{Code}
use Rattle.flow.proofs.Codes.{same_true}
use Rattle.frame.specs.declared.plan.Plan.{Plan}
use Rattle.frame.specs.Plans.{unit_of}
use Rattle.frame.specs.Rolls.{Packet, true_volume}
use Rattle.frame.specs.Marking.{marks_of, times, flows}
use Rattle.frame.proofs.Bounds.{estimate_low, estimate_high, heavy_marked}
use Rattle.frame.proofs.Flows.{flows_once, flows_few}
use Rattle.meter.specs.declared.record.Record.{Record}
use Rattle.meter.specs.Ledgers.{Ledger}
use Rattle.meter.specs.Guarantees.{Within, records_of, Lists, EstimateRight}
use Rattle.meter.specs.States.{State, estimate_in, estimate_for, estimate_answer, listing, list_in}
use Rattle.meter.specs.Holding.{Tracks, Kept, Holds}

-- a flow is listed as often as it was offered, if its estimate is high enough
listing-times : (est : Code → ℕ) (level : ℕ) (k : Code) (ks : List Code) → records_of k (listing est level ks) ≡ cond (leb level (est k)) (times k ks) 0
listing-times est level k [] = by (leb level (est k))
  where
    by : (b : Bool) → ◌≡◌ {A = ℕ} 0 (cond b 0 0)
    by true = refl
    by false = refl
listing-times est level k (c ∷ ks) = by (leb level (est c)) refl (listing-times est level k ks)
  where
    by : (b : Bool) → leb level (est c) ≡ b → records_of k (listing est level ks) ≡ cond (leb level (est k)) (times k ks) 0 →
        records_of k (cond b (record { code = c; estimate = est c } ∷ listing est level ks) (listing est level ks)) ≡ cond (leb level (est k)) (cond (same c k) 1 0 + times k ks) 0
    by true e ih = ⊎_elim (λ s. let q = ap est (same_true c k s) in grind (arith, nat_tests)) (λ s. grind (arith, nat_tests)) (cases_Bool (same c k))
    by false e ih = ⊎_elim (λ s. let q = ap est (same_true c k s) in grind (arith, nat_tests)) (λ s. grind (arith, nat_tests)) (cases_Bool (same c k))

listing_every : (P : Record → Type 0) (est : Code → ℕ) (level : ℕ) (ks : List Code) → ((k : Code) → P (record { code = k; estimate = est k })) → AllByRecursion P (listing est level ks)
listing_every P est level [] f = tt
listing_every P est level (k ∷ ks) f = by (leb level (est k)) (listing_every P est level ks f)
  where
    by : (b : Bool) → AllByRecursion P (listing est level ks) → AllByRecursion P (cond b (record { code = k; estimate = est k } ∷ listing est level ks) (listing est level ks))
    by true rest = (f k, rest)
    by false rest = rest

pub listing_few : (est : Code → ℕ) (level : ℕ) (ks : List Code) → length (listing est level ks) ≤ length ks
listing_few est level [] = omega arith
listing_few est level (k ∷ ks) = by (leb level (est k)) (listing_few est level ks)
  where
    by : (b : Bool) → length (listing est level ks) ≤ length ks → length (cond b (record { code = k; estimate = est k } ∷ listing est level ks) (listing est level ks)) ≤ length (k ∷ ks)
    by true ih = omega arith
    by false ih = omega arith

module _ {C : Type 0} (m : Meaning C) (s : State m.Model) where
  module _ (p : Plan) (n : ℕ) (roll : List Packet) (t : Tracks m p n s roll) where
    pub within : (k : Code) → Within p roll k (estimate_in m s p k)
    within k = subst (λ (r : List Packet). Within p r k (estimate_in m s p k)) (sym t.roll_is) (estimate_low t.window k, estimate_high t.window k)

    pub lists : (level : ℕ) → 3 * unit_of p ≤ level → Lists p roll level (list_in m s p level)
    lists level above = record {
      heavy = λ k h.
          let v = ap (λ (r : List Packet). true_volume p.window k r) t.roll_is in
          let both = heavy_marked t.window k level above (omega arith) in
          times_of k ∙ cond-true _ _ _ (le-leb level (estimate_in m s p k) both.1) ∙ flows_once k (s.older ++ s.newer) ∙ cond-true _ _ _ (lt-ltb 0 (marks_of k (s.older ++ s.newer)) both.0);
      light = λ k h. times_of k ∙ cond-false _ _ _ (lt-leb level (estimate_in m s p k) (omega (arith, (within k).1)));
      once = λ k. one k (leb level (estimate_in m s p k)) (times_of k) (ltb 0 (marks_of k (s.older ++ s.newer))) (flows_once k (s.older ++ s.newer));
      within = listing_every (λ r. Within p roll r.code r.estimate) (estimate_in m s p) level (flows (s.older ++ s.newer)) within;
    }
      where
        times_of : (k : Code) → records_of k (list_in m s p level) ≡ cond (leb level (estimate_in m s p k)) (times k (flows (s.older ++ s.newer))) 0
        times_of k = listing-times (estimate_in m s p) level k (flows (s.older ++ s.newer))

        one : (k : Code) (b : Bool) → records_of k (list_in m s p level) ≡ cond b (times k (flows (s.older ++ s.newer))) 0 → (d : Bool) → times k (flows (s.older ++ s.newer)) ≡ cond d 1 0 → records_of k (list_in m s p level) ≤ 1
        one k true e true f = omega arith
        one k true e false f = omega arith
        one k false e d f = omega arith

  estimate_keeps : (l : Ledger) (o : Option Plan) (k : Code) → Kept m o s l → EstimateRight o l.roll k (estimate_for m o s k)
  estimate_keeps l None k kept = refl
  estimate_keeps l (Some p) k kept = (estimate_in m s p k, refl, within p kept.0 l.roll kept.1 k)

  pub estimate_right : (l : Ledger) (k : Code) → Holds m s l → EstimateRight l.plan l.roll k (estimate_answer m s k)
  estimate_right l k h = subst (λ (o : Option Plan). EstimateRight l.plan l.roll k (estimate_for m o s k)) (sym h.plan_is) (estimate_keeps l l.plan k h.kept)

  -- a list has at most as many records as there are marks
  pub list_few : (p : Plan) (level : ℕ) → length (list_in m s p level) ≤ length (s.older ++ s.newer)
  list_few p level = omega (arith, listing_few (estimate_in m s p) level (flows (s.older ++ s.newer)), flows_few (s.older ++ s.newer))
