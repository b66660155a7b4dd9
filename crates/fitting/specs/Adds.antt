-- An add as a whole: the entries, and the estimates that they lead to.
use Rattle.std.specs.Prelude.{◌≡◌, ℕ, ◌+◌, ◌*◌, ◌<◌, ◌≤◌, Bool, true, false, cond, ◌⊎◌, List, length, ◌==◌}
use Rattle.std.proofs.Common.{ap, sym, subst, inl, inr, arith}
use Rattle.std.proofs.lemmas.Bool.{cases_Bool, cases_lt}
use Rattle.std.proofs.lemmas.Bool.Decides.{nat_tests}
use Rattle.std.specs.List.{list_any}
use Rattle.flow.specs.Codes.{same}
use Rattle.flow.specs.Meanings.{Rises}
use Rattle.flow.specs.declared.code.Code.{Code}
use Rattle.fitting.specs.declared.entry.Entry.{Entry}
use Rattle.fitting.specs.Entries.{counts, holds, count_of, total, least, estimate, takes, taker, credited, added, apart}
use Rattle.fitting.specs.Credits.{first_place, length-credited, total-credited, above_total, above_held, above_least, least_met, least-credited, held_counts, count_of-own, count_of-own_other, apart-own, count_of-given, count_of-given_other, apart-given}

module _ (es : List Entry) (k : Code) (some : 0 < length es) where
  -- what holds of both ways holds of an add
  pub by_way : (P : (Entry → Bool) → Type 0) → (holds k es ≡ true → P (counts k)) → (holds k es ≡ false → P (λ e. e.count == least es)) → P (takes k es)
  by_way P own given =
      elim (cases_Bool (holds k es)) [
        | inl h ↦ subst P (λ i e. cond (sym h i) (counts k e) (e.count == least es)) (own h)
        | inr h ↦ subst P (λ i e. cond (sym h i) (counts k e) (e.count == least es)) (given h)
      ]

  pub some_takes : list_any (takes k es) es ≡ true
  some_takes = by_way (λ p. list_any p es ≡ true) (λ h. h) (λ _. least_met es some)

  pub taker_within : taker k es < length es
  taker_within = grind (arith, nat_tests, some_takes, first_place (takes k es) es)

module _ (es : List Entry) (k : Code) (w : ℕ) (some : 0 < length es) where
  pub length-added : length (added es k w) ≡ length es
  length-added = length-credited (takes k es) k w es

  pub total-added : total (added es k w) ≡ total es + w
  total-added = total-credited (takes k es) k w es (some_takes es k some)

  pub apart-added : apart es ≡ true → apart (added es k w) ≡ true
  apart-added t = by_way es k some (λ p. apart (credited p k w es) ≡ true) (λ _. apart-own k w es t) (λ h. apart-given k w (least es) es h t)

  pub least-added : least es ≤ least (added es k w)
  least-added = least-credited (takes k es) k w es (some_takes es k some)

  own_count : 0 < w → count_of k (added es k w) ≡ estimate k es + w
  own_count p =
      by_way es k some (λ q. count_of k (credited q k w es) ≡ estimate k es + w)
      (λ h. omega (arith, count_of-own k w es h, above_held k (least es) es h (above_least es)))
      (λ h. let none : count_of k es ≡ 0 = grind (arith, nat_tests, held_counts k es) in omega (arith, count_of-given k w (least es) es p h (least_met es some)))

  -- the code's estimate rises by the weight
  pub own_estimate : 0 < w → estimate k (added es k w) ≡ estimate k es + w
  own_estimate p =
      let held : holds k (added es k w) ≡ true = grind (arith, nat_tests, own_count p, held_counts k (added es k w)) in
      omega (arith, own_count p, above_held k (least (added es k w)) (added es k w) held (above_least (added es k w)))

  other_count : (j : Code) → same j k ≡ false → apart es ≡ true → (count_of j (added es k w) ≡ count_of j es) ⊎ ((count_of j (added es k w) ≡ 0) × (count_of j es ≡ least es))
  other_count j s t =
      by_way es k some (λ p. (count_of j (credited p k w es) ≡ count_of j es) ⊎ ((count_of j (credited p k w es) ≡ 0) × (count_of j es ≡ least es)))
      (λ _. inl (count_of-own_other j k w es s))
      (λ _. count_of-given_other k w (least es) j es s t)

  -- another code's estimate stays, or rises to the least count
  pub other_estimate : (v : ℕ) → v ≡ total (added es k w) → (j : Code) → same j k ≡ false → apart es ≡ true →
      Rises (length es) v (estimate j es) (estimate j (added es k w))
  other_estimate v whole j s t =
      let l : least es ≤ least (added es k w) = least-added in
      let low : length es * least (added es k w) ≤ v =
      omega (arith, whole, above_total (least (added es k w)) (added es k w) (above_least (added es k w)), ap (λ (n : ℕ). n * least (added es k w)) length-added) in
      elim (cases_lt (count_of j (added es k w)) (least (added es k w))) [
        | inl q ↦
            let it : estimate j (added es k w) ≡ least (added es k w) = omega arith in
            inr (elim (other_count j s t) [ inl e ↦ omega arith | inr e ↦ omega arith ], omega (arith, low, ap (λ (r : ℕ). length es * r) it))
        | inr q ↦ elim (other_count j s t) [ inl e ↦ inl (omega arith) | inr e ↦ inl (omega arith) ]
      ]
