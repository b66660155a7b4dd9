-- The steps of an add to the places, and what they keep.
use Rattle.std.specs.Prelude.{◌≡◌, ℕ, ◌+◌, ◌-◌, ◌*◌, ◌<◌, ◌≤◌, true, false, ◌⊎◌, List, length}
use Rattle.std.proofs.Common.{sym, subst, ◌∙◌, inl, inr, arith, add-mul, one-mul}
use Rattle.std.proofs.lemmas.List.{length-map}
use Rattle.std.proofs.lemmas.Bool.{cases_Bool, cases_lt, cond-true, cond-false, or_left, or_right, or_from, lt-ltb, le-ltb}
use Rattle.flow.specs.Codes.{same}
use Rattle.flow.specs.declared.code.Code.{Code}
use Rattle.shared.specs.Places.{Place, holds, count_of, any_empty, raised, entered, least, less, lowered, deducted, added, counted, tidy}
use Rattle.shared.specs.Searches.{count_of_missing}
use Rattle.shared.specs.Counts.{length-raised, length-entered, counted-raised, counted-entered, counted-lowered, least_within, above_least, any_empty-lowered, holds-lowered, tidy-raised, tidy-entered, tidy-lowered, count_of-raised, count_of-entered, count_of-lowered, count_of_above, count_of-raised_other, count_of-entered_other}

module _ (ps : List Place) (k : Code) (w : ℕ) where
  -- the step as an equation, by case
  pub added_raises : holds k ps ≡ true → added ps k w ≡ raised k w ps
  added_raises h = cond-true _ _ _ h

  pub added_enters : holds k ps ≡ false → any_empty ps ≡ true → added ps k w ≡ entered k w ps
  added_enters h e = cond-false _ _ _ h ∙ cond-true _ _ _ e

  pub added_leaves : holds k ps ≡ false → any_empty ps ≡ false → least w ps < w → added ps k w ≡ entered k (w - least w ps) (lowered (least w ps) ps)
  added_leaves h e l = cond-false _ _ _ h ∙ cond-false _ _ _ e ∙ cond-true _ _ _ (lt-ltb _ _ l)

  pub added_lowers : holds k ps ≡ false → any_empty ps ≡ false → w ≤ least w ps → added ps k w ≡ lowered (least w ps) ps
  added_lowers h e l = cond-false _ _ _ h ∙ cond-false _ _ _ e ∙ cond-false _ _ _ (le-ltb _ _ l)

  -- what holds of each step holds of an add
  pub by_step : (P : List Place → ℕ → Type 0) →
      (holds k ps ≡ true → P (raised k w ps) 0) →
      (holds k ps ≡ false → any_empty ps ≡ true → P (entered k w ps) 0) →
      (holds k ps ≡ false → any_empty ps ≡ false → least w ps < w → P (entered k (w - least w ps) (lowered (least w ps) ps)) (least w ps)) →
      (holds k ps ≡ false → any_empty ps ≡ false → w ≤ least w ps → P (lowered (least w ps) ps) (least w ps)) →
      P (added ps k w) (deducted ps k w)
  by_step P raises enters leaves lowers =
      elim (cases_Bool (holds k ps)) [
        | inl h ↦ at (added_raises h) (cond-true _ _ _ (or_left _ _ h)) (raises h)
        | inr h ↦ elim (cases_Bool (any_empty ps)) [
          | inl e ↦ at (added_enters h e) (cond-true _ _ _ (or_right (holds k ps) _ e)) (enters h e)
          | inr e ↦ elim (cases_lt (least w ps) w) [
            | inl l ↦ at (added_leaves h e l) (cond-false _ _ _ (or_from _ _ h e)) (leaves h e l)
            | inr l ↦ at (added_lowers h e l) (cond-false _ _ _ (or_from _ _ h e)) (lowers h e l)
          ]
        ]
      ]
    where
      at : {qs : List Place} {m : ℕ} → added ps k w ≡ qs → deducted ps k w ≡ m → P qs m → P (added ps k w) (deducted ps k w)
      at {qs} {m} a d x = subst (λ (l : List Place). P l (deducted ps k w)) (sym a) (subst (P qs) (sym d) x)

  pub length-added : length (added ps k w) ≡ length ps
  length-added =
      by_step (λ qs _. length qs ≡ length ps)
      (λ _. length-raised k w ps)
      (λ _ _. length-entered k w ps)
      (λ _ _ _. length-entered k _ (lowered (least w ps) ps) ∙ length-map ps (less (least w ps)))
      (λ _ _ _. length-map ps (less (least w ps)))

  pub tidy-added : 0 < w → tidy ps ≡ true → tidy (added ps k w) ≡ true
  tidy-added p t =
      let m = least w ps in
      by_step (λ qs _. tidy qs ≡ true)
      (λ _. tidy-raised k w ps t)
      (λ h _. tidy-entered k w ps p h t)
      (λ h _ l. tidy-entered k (w - m) (lowered m ps) (omega arith) (holds-lowered k m ps h) (tidy-lowered m ps t))
      (λ _ _ _. tidy-lowered m ps t)

  -- the weight goes to the counts and, times one more than the places, to the deduction
  pub counted-added : counted (added ps k w) + (length ps + 1) * deducted ps k w ≡ counted ps + w
  counted-added =
      let m = least w ps in
      let once = add-mul (length ps) 1 m in
      let one = one-mul m in
      let low : any_empty ps ≡ false → counted (lowered (least w ps) ps) + length ps * least w ps ≡ counted ps = λ e. counted-lowered m ps e (above_least w ps) in
      by_step (λ qs r. counted qs + (length ps + 1) * r ≡ counted ps + w)
      (λ h. omega (arith, counted-raised k w ps h))
      (λ _ e. omega (arith, counted-entered k w ps e))
      (λ _ e l. omega (arith, once, one, low e, counted-entered k (w - m) (lowered m ps) (any_empty-lowered w ps l)))
      (λ _ e l. omega (arith, once, one, low e, least_within w ps))

  -- the code's own count and the deduction rise by the weight together
  pub own_added : tidy ps ≡ true → count_of k (added ps k w) + deducted ps k w ≡ count_of k ps + w
  own_added t =
      let m = least w ps in
      by_step (λ qs r. count_of k qs + r ≡ count_of k ps + w)
      (λ h. omega (arith, count_of-raised k w ps h))
      (λ h e. omega (arith, count_of-entered k w ps h e, count_of_missing k ps h))
      (λ h e l. omega (arith, count_of-entered k (w - m) (lowered m ps) (holds-lowered k m ps h) (any_empty-lowered w ps l), count_of_missing k ps h))
      (λ h e l. omega (arith, count_of-lowered k m ps t, count_of_missing k ps h, least_within w ps))

  -- another code's count falls by what the deduction rises by, unless no place has the code
  pub other_added : (j : Code) → same j k ≡ false → tidy ps ≡ true →
      (count_of j (added ps k w) + deducted ps k w ≡ count_of j ps) ⊎ ((count_of j ps ≡ 0) × (count_of j (added ps k w) ≡ 0))
  other_added j s t =
      let m = least w ps in
      let low : (count_of j (lowered (least w ps) ps) + least w ps ≡ count_of j ps) ⊎ ((count_of j ps ≡ 0) × (count_of j (lowered (least w ps) ps) ≡ 0)) =
      elim (cases_Bool (holds j ps)) [
        | inl h ↦ inl (omega (arith, count_of-lowered j m ps t, count_of_above j m ps h (above_least w ps)))
        | inr h ↦ inr (count_of_missing j ps h, omega (arith, count_of-lowered j m ps t, count_of_missing j ps h))
      ] in
      by_step (λ qs r. (count_of j qs + r ≡ count_of j ps) ⊎ ((count_of j ps ≡ 0) × (count_of j qs ≡ 0)))
      (λ _. inl (omega (arith, count_of-raised_other j k s w ps)))
      (λ _ _. inl (omega (arith, count_of-entered_other j k s w ps)))
      (λ _ _ _. rw (count_of-entered_other j k s (w - m) (lowered m ps)) low)
      (λ _ _ _. low)
