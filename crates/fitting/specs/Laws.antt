-- A Space-Saving counter keeps the laws of a frame counter.
use Rattle.std.specs.Prelude.{◌≡◌, ℕ, zero, suc, ◌+◌, ◌*◌, ◌<◌, ◌≤◌, true, List, [], ◌∷◌, length, replicate, refl}
use Rattle.std.proofs.Common.{subst, inl, inr, arith, mul-le-mul_left}
use Rattle.std.specs.List.{AllByRecursion}
use Rattle.std.proofs.lemmas.List.{length-replicate}
use Rattle.std.proofs.lemmas.Bool.{cases_lt}
use Rattle.std.proofs.lemmas.Bool.Decides.{nat_tests}
use Rattle.flow.specs.Limits.{most_packets}
use Rattle.flow.specs.Meanings.{Fresh, Opens, Flushes, Grown, Adds, Heavy, Distinct, sum_of}
use Rattle.flow.proofs.Codes.{same_apart}
use Rattle.flow.proofs.Sums.{Shown, sum_held}
use Rattle.flow.specs.declared.code.Code.{Code}
use Rattle.fitting.specs.Entries.{vacant, count_of, total, least, estimate, apart}
use Rattle.fitting.specs.Credits.{above_total, above_least, held_counts, count_of_within, least_total}
use Rattle.fitting.specs.Adds.{taker_within, length-added, total-added, apart-added, own_estimate, other_estimate}
use Rattle.fitting.specs.Shares.{holding}
use Rattle.fitting.specs.SpaceSaving.{SpaceModel, SpaceSound, space_opened, space_more, space_meaning}

-- entries that count no code yet
pub total_vacant : (n : ℕ) → total (replicate n vacant) ≡ 0
total_vacant zero = refl
total_vacant (suc n) = omega (arith, total_vacant n)

pub apart_vacant : (n : ℕ) → apart (replicate n vacant) ≡ true
apart_vacant zero = refl
apart_vacant (suc n) = apart_vacant n

opened_fresh : (n : ℕ) → 0 < n → Fresh space_meaning n 1 1 (space_opened n)
opened_fresh n p =
    let size = length-replicate n vacant in
    let some : 0 < length (replicate n vacant) = omega (arith, size) in
    record {
      is_sound = record { some = some; few = omega arith; distinct = apart_vacant n };
      places_is = size;
      step_is = refl;
      greatest_is = refl;
      packets_is = refl;
      volume_is = total_vacant n;
      estimates_are = λ k. omega (arith, count_of_within k (replicate n vacant), least_total (replicate n vacant), total_vacant n);
    }

-- an add that is not refused
module _ (x : SpaceModel) (k : Code) (w : ℕ) (s : SpaceSound x) (p : 0 < w) (room : x.packets < most_packets) where
  more_sound : SpaceSound (space_more x k w)
  more_sound = record {
    some = omega (arith, length-added x.entries k w s.some, s.some);
    few = omega arith;
    distinct = apart-added x.entries k w s.some s.distinct;
  }

  more_grown : Grown space_meaning x k w (space_more x k w)
  more_grown = record {
    is_sound = more_sound;
    places_is = length-added x.entries k w s.some;
    step_is = refl;
    greatest_is = refl;
    packets_is = refl;
    volume_is = total-added x.entries k w s.some;
    own = own_estimate x.entries k w s.some p;
    others = λ j a. other_estimate x.entries k w s.some _ (omega arith) j (same_apart j k a) s.distinct;
  }

-- a code is counted whose estimate is so large that as many as the places pass the volume
module _ (x : SpaceModel) (s : SpaceSound x) (l : ℕ) (q : total x.entries + x.packets * 0 < length x.entries * l) where
  above : least x.entries < l
  above = elim (cases_lt (least x.entries) l) [
    | inl y ↦ y
    | inr y ↦ absurd (omega (arith, mul-le-mul_left (length x.entries) y, above_total (least x.entries) x.entries (above_least x.entries)))
  ]

  shown_heavy : (codes : List Code) → AllByRecursion (λ k. l ≤ estimate k x.entries) codes →
      AllByRecursion (Shown holding (λ k. estimate k x.entries) x.entries) codes
  shown_heavy [] h = tt
  shown_heavy (k ∷ codes) h =
      let some : 0 < count_of k x.entries = omega (arith, above, h.0) in
      ((grind (arith, nat_tests, held_counts k x.entries), omega (arith, above, h.0)), shown_heavy codes h.1)

  heavy_sum : (codes : List Code) → Distinct codes → AllByRecursion (λ k. l ≤ estimate k x.entries) codes →
      sum_of (λ k. estimate k x.entries) codes ≤ total x.entries + x.packets * 0
  heavy_sum codes a h = omega (arith, sum_held holding (λ k. estimate k x.entries) x.entries codes a (shown_heavy codes h))

pub space_opens : Opens space_meaning
space_opens x n s told =
    let some : 0 < n = grind (arith, nat_tests) in
    let one : 1 ≡ s = grind (arith, nat_tests) in
    subst (λ (t : ℕ). Fresh space_meaning n t 1 (space_opened n)) one (opened_fresh n some)

pub space_flushes : Flushes space_meaning
space_flushes x sound = opened_fresh (length x.entries) sound.some

pub space_adds : Adds space_meaning
space_adds x k w sound told =
    let some : 0 < w = grind (arith, nat_tests) in
    let room : x.packets < most_packets = grind (arith, nat_tests, sound.few) in
    (more_grown x k w sound some room, omega (arith, taker_within x.entries k sound.some))

pub space_heavy : Heavy space_meaning
space_heavy x sound l codes over distinct each = heavy_sum x sound l over codes distinct each

-- a new counter is sound
pub new_sound : SpaceSound (space_opened 1)
new_sound = record { some = omega arith; few = omega arith; distinct = refl }
