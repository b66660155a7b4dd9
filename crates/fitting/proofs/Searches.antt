-- What the code's searches of the entries find.
use Rattle.std.proofs.Common.{◌≡◌, ℕ, zero, suc, ◌+◌, ◌<◌, ◌≤◌, Bool, true, List, [], ◌∷◌, length, get_or, set, Some, None, unwrap_or, refl, arith}
use Rattle.std.proofs.lemmas.Bool.Decides.{nat_tests}
use Rattle.std.specs.List.{find, list_any, position, position_or_len}
use Rattle.std.specs.Bool.{◌==◌}
use Rattle.std.specs.Option.{option_map_or}
use Rattle.flow.specs.declared.code.Code.{Code}
use Rattle.fitting.specs.declared.entry.Entry.{Entry}
use Rattle.fitting.specs.Entries.{vacant, counts, count_of, total, least, takes, taker, credited, added}
use Rattle.fitting.specs.Credits.{first_place, least_met}
use Rattle.fitting.specs.Adds.{by_way, some_takes}

pub count_of_find : (k : Code) (es : List Entry) → option_map_or (λ x. x.count) (find (counts k) es) 0 ≡ count_of k es
count_of_find k [] = refl
count_of_find k (e ∷ es) = grind (arith, count_of_find k es)

pub count_at_within : (es : List Entry) (i : ℕ) → (get_or es i vacant).count ≤ total es
count_at_within [] i = grind arith
count_at_within (e ∷ es) zero = grind arith
count_at_within (e ∷ es) (suc i) = grind (arith, count_at_within es i)

credited_at : (p : Entry → Bool) (k : Code) (w : ℕ) (es : List Entry) → list_any p es ≡ true →
    credited p k w es ≡ set es (position_or_len p es) (record { code = k; count = (get_or es (position_or_len p es) vacant).count + w })
credited_at p k w [] h = grind arith
credited_at p k w (e ∷ es) h = grind (arith, credited_at p k w es)

module _ (es : List Entry) (k : Code) (some : 0 < length es) where
  -- where the search for the code finds an entry, that one takes the weight, and else the first with the least count
  pub taker_own : (i : ℕ) → position (counts k) es ≡ Some i → i ≡ taker k es
  taker_own i h =
      let found = first_place (counts k) es in
      by_way es k some (λ p. i ≡ position_or_len p es) (λ q. grind (arith, nat_tests)) (λ q. grind (arith, nat_tests))

  pub taker_given : position (counts k) es ≡ None → unwrap_or (position (λ e. e.count == least es) es) 0 ≡ taker k es
  taker_given h =
      let found = first_place (counts k) es in
      let least_found = first_place (λ e. e.count == least es) es in
      let met = least_met es some in
      by_way es k some (λ p. unwrap_or (position (λ e. e.count == least es) es) 0 ≡ position_or_len p es) (λ q. grind (arith, nat_tests)) (λ q. grind (arith, nat_tests))

  pub added_at : (w : ℕ) → added es k w ≡ set es (taker k es) (record { code = k; count = (get_or es (taker k es) vacant).count + w })
  added_at w = credited_at (takes k es) k w es (some_takes es k some)
