-- A shared-deduction counter keeps the laws of a frame counter.
use Rattle.std.specs.Prelude.{◌≡◌, ℕ, zero, suc, ◌+◌, ◌*◌, ◌<◌, ◌≤◌, true, List, [], ◌∷◌, replicate, None, ◌≢◌, refl}
use Rattle.std.proofs.Common.{sym, ap, ◌∙◌, subst, inl, inr, arith, add-mul, mul-add, mul-le-mul_left}
use Rattle.std.specs.List.{AllByRecursion}
use Rattle.std.proofs.lemmas.List.{length-replicate}
use Rattle.std.proofs.lemmas.Bool.{cases_Bool}
use Rattle.std.proofs.lemmas.Bool.Decides.{nat_tests}
use Rattle.flow.specs.Answers.{Answer, answered, after}
use Rattle.flow.specs.Limits.{most_weight, most_packets}
use Rattle.flow.specs.Meanings.{Fresh, Opens, Flushes, Grown, Rises, Adds, Heavy, Distinct, sum_of, add_answer, add_leaves}
use Rattle.flow.proofs.Codes.{same_apart}
use Rattle.flow.specs.declared.code.Code.{Code}
use Rattle.shared.specs.Places.{Place, holds, count_of, deducted, added, counted, tidy}
use Rattle.shared.specs.Shared.{SharedModel, SharedSound, shared_opened, shared_more, shared_meaning}
use Rattle.shared.specs.Searches.{count_of_missing, count_of_within}
use Rattle.shared.specs.Deductions.{length-added, tidy-added, counted-added, own_added, other_added}
use Rattle.flow.proofs.Sums.{Shown}
use Rattle.shared.specs.Shares.{holding, sum_shown}

-- places that are all empty
pub tidy_empty : (n : ℕ) → tidy (replicate n None) ≡ true
tidy_empty zero = refl
tidy_empty (suc n) = tidy_empty n

pub counted_empty : (n : ℕ) → counted (replicate n None) ≡ 0
counted_empty zero = refl
counted_empty (suc n) = counted_empty n

count_of_empty : (k : Code) (n : ℕ) → count_of k (replicate n None) ≡ 0
count_of_empty k zero = refl
count_of_empty k (suc n) = count_of_empty k n

pub opened_fresh : (n : ℕ) → 1 ≤ n → Fresh shared_meaning n 1 1 (shared_opened n)
opened_fresh n p = record {
  is_sound = record { some = p; few = omega arith; long = length-replicate n None; tidily = tidy_empty n; sum = omega (arith, counted_empty n) };
  places_is = refl;
  step_is = refl;
  greatest_is = refl;
  packets_is = refl;
  volume_is = refl;
  estimates_are = λ k. omega (arith, count_of_empty k n);
}

-- as many deductions as places are within the volume
pub deduction_within : (x : SharedModel) → SharedSound x → x.places * x.deduction ≤ x.volume
deduction_within x s = omega (arith, s.sum, add-mul x.places 1 x.deduction)

pub estimate_within : (k : Code) (ps : List Place) (n v d : ℕ) → v ≡ counted ps + (n + 1) * d → count_of k ps + d ≤ v
estimate_within k ps n v d sum = omega (arith, add-mul n 1 d, count_of_within k ps)

-- an add that is not refused
module _ (x : SharedModel) (k : Code) (w : ℕ) (s : SharedSound x) (p : 0 < w) (room : x.packets < most_packets) where
  pub more_sound : SharedSound (shared_more x k w)
  more_sound = record {
    some = s.some;
    few = omega arith;
    long = length-added x.held k w ∙ s.long;
    tidily = tidy-added x.held k w p s.tidily;
    sum =
        let n = ap (λ (i : ℕ). (i + 1) * deducted x.held k w) s.long in
        omega (arith, s.sum, n, counted-added x.held k w, mul-add (x.places + 1) x.deduction (deducted x.held k w));
  }

  others_rise : (j : Code) → (j ≢ k) → Rises x.places (x.volume + w + (x.packets + 1) * 0) (count_of j x.held + x.deduction) (count_of j (added x.held k w) + (x.deduction + deducted x.held k w))
  others_rise j a =
      elim (other_added x.held k w j (same_apart j k a) s.tidily) [
        | inl e ↦ inl (omega arith)
        | inr e ↦
            let new : count_of j (added x.held k w) + (x.deduction + deducted x.held k w) ≡ x.deduction + deducted x.held k w = omega arith in
            inr (omega arith, omega (arith, ap (λ (i : ℕ). x.places * i) new, deduction_within (shared_more x k w) more_sound))
      ]

  pub more_grown : Grown shared_meaning x k w (shared_more x k w)
  more_grown = record {
    is_sound = more_sound;
    places_is = refl;
    step_is = refl;
    greatest_is = refl;
    packets_is = refl;
    volume_is = refl;
    own = omega (arith, own_added x.held k w s.tidily);
    others = others_rise;
  }

-- what such an add answers and leaves
module _ (x : SharedModel) (k : Code) (w : ℕ) (p : 0 < w) (light : w ≤ most_weight) (room : x.packets ≡ most_packets → ⊥) where
  pub answer_taken : add_answer shared_meaning x k w ≡ answered (shared_meaning.passes x k w)
  answer_taken = grind (arith, nat_tests)

  pub more_left : (v r : ℕ) (ps : List Place) → v ≡ w → r ≡ deducted x.held k v → ps ≡ added x.held k v →
      record { places = x.places; packets = x.packets + 1; volume = x.volume + v; deduction = x.deduction + r; held = ps } ≡ add_leaves shared_meaning x k w
  more_left v r ps e d h =
      (λ i. record { places = x.places; packets = x.packets + 1; volume = x.volume + v; deduction = x.deduction + d i; held = h i }) ∙ ap (shared_more x k) e ∙
      sym (ap (λ (a : Answer ℕ). after a x (shared_more x k w)) answer_taken)

-- a code is held whose estimate is so large that as many as the places pass the volume
module _ (x : SharedModel) (s : SharedSound x) (l : ℕ) (q : x.volume + x.packets * 0 < x.places * l) where
  held_heavy : (k : Code) → l ≤ count_of k x.held + x.deduction → holds k x.held ≡ true
  held_heavy k h =
      elim (cases_Bool (holds k x.held)) [
        | inl y ↦ y
        | inr y ↦
            let low : l ≤ x.deduction = omega (arith, count_of_missing k x.held y) in
            absurd (omega (arith, mul-le-mul_left x.places low, deduction_within x s))
      ]

  shown_heavy : (codes : List Code) → AllByRecursion (λ k. l ≤ count_of k x.held + x.deduction) codes → AllByRecursion (Shown (holding x.deduction) (λ k. count_of k x.held + x.deduction) x.held) codes
  shown_heavy [] h = tt
  shown_heavy (k ∷ codes) h = ((held_heavy k h.0, refl), shown_heavy codes h.1)

  pub heavy_sum : (codes : List Code) → Distinct codes → AllByRecursion (λ k. l ≤ count_of k x.held + x.deduction) codes →
      sum_of (λ k. count_of k x.held + x.deduction) codes ≤ x.volume + x.packets * 0
  heavy_sum codes a h =
      let sum = sum_shown x.deduction (λ k. count_of k x.held + x.deduction) x.held codes a (shown_heavy codes h) in
      omega (arith, sum, ap (λ (n : ℕ). n * x.deduction) s.long, s.sum, add-mul x.places 1 x.deduction)

pub shared_opens : Opens shared_meaning
shared_opens x n s told =
    let some : 1 ≤ n = grind (arith, nat_tests) in
    let one : 1 ≡ s = grind (arith, nat_tests) in
    subst (λ (t : ℕ). Fresh shared_meaning n t 1 (shared_opened n)) one (opened_fresh n some)

pub shared_flushes : Flushes shared_meaning
shared_flushes x sound = opened_fresh x.places sound.some

pub shared_adds : Adds shared_meaning
shared_adds x k w sound told =
    let some : 0 < w = grind (arith, nat_tests) in
    let room : x.packets < most_packets = grind (arith, nat_tests, sound.few) in
    (more_grown x k w sound some room, grind arith)

pub shared_heavy : Heavy shared_meaning
shared_heavy x sound l codes over distinct each = heavy_sum x sound l over codes distinct each

-- a new counter is sound
pub new_sound : SharedSound (shared_opened 1)
new_sound = (opened_fresh 1 (omega arith)).is_sound
