-- The searches for a code and for an empty place, by the place where they end.
use Rattle.std.specs.Prelude.{◌≡◌, ℕ, zero, suc, ◌+◌, ◌<◌, ◌≤◌, true, false, List, [], ◌∷◌, length, take, slice_index_or, slice_set, Some, None, is_some, refl}
use Rattle.std.specs.List.{find}
use Rattle.std.specs.Option.{option_map_or}
use Rattle.std.proofs.Common.{arith}
use Rattle.flow.specs.Codes.{same}
use Rattle.flow.specs.declared.code.Code.{Code}
use Rattle.shared.specs.declared.place.Held.{Held}
use Rattle.shared.specs.Places.{Place, filled, held_in, holds, count_of, any_empty, raised, entered, counted}

-- a code that no place has
pub count_of_missing : (k : Code) (ps : List Place) → holds k ps ≡ false → count_of k ps ≡ 0
count_of_missing k [] h = refl
count_of_missing k (None ∷ ps) h = count_of_missing k ps h
count_of_missing k (Some x ∷ ps) h = grind (arith, count_of_missing k ps)

pub raised_missing : (k : Code) (w : ℕ) (ps : List Place) → holds k ps ≡ false → raised k w ps ≡ ps
raised_missing k w [] h = refl
raised_missing k w (None ∷ ps) h = grind (arith, raised_missing k w ps)
raised_missing k w (Some x ∷ ps) h = grind (arith, raised_missing k w ps)

pub entered_full : (k : Code) (w : ℕ) (ps : List Place) → any_empty ps ≡ false → entered k w ps ≡ ps
entered_full k w [] h = refl
entered_full k w (None ∷ ps) h = grind arith
entered_full k w (Some x ∷ ps) h = grind (arith, entered_full k w ps)

-- the search for a code among those that have a place
pub holds_find : (k : Code) (ps : List Place) → is_some (find (λ x. same k x.code) (held_in ps)) ≡ holds k ps
holds_find k [] = refl
holds_find k (None ∷ ps) = holds_find k ps
holds_find k (Some x ∷ ps) = grind (arith, holds_find k ps)

pub count_of_find : (k : Code) (ps : List Place) → option_map_or (λ x. x.count) (find (λ x. same k x.code) (held_in ps)) 0 ≡ count_of k ps
count_of_find k [] = refl
count_of_find k (None ∷ ps) = count_of_find k ps
count_of_find k (Some x ∷ ps) = grind (arith, count_of_find k ps)

-- the first place that has the code
module _ (k : Code) (x : Held) (s : same k x.code ≡ true) where
  pub count_of_found : (ps : List Place) (i : ℕ) → i < length ps → holds k (take i ps) ≡ false → slice_index_or ps i None ≡ Some x → count_of k ps ≡ x.count
  count_of_found [] i l h e = grind arith
  count_of_found (None ∷ ps) zero l h e = grind arith
  count_of_found (Some y ∷ ps) zero l h e = grind arith
  count_of_found (None ∷ ps) (suc i) l h e = count_of_found ps i (omega arith) h e
  count_of_found (Some y ∷ ps) (suc i) l h e = grind (arith, count_of_found ps i (omega arith))

  pub raised_found : (w : ℕ) (ps : List Place) (i : ℕ) → i < length ps → holds k (take i ps) ≡ false → slice_index_or ps i None ≡ Some x → raised k w ps ≡ slice_set ps i (filled x.code (x.count + w))
  raised_found w [] i l h e = grind arith
  raised_found w (None ∷ ps) zero l h e = grind arith
  raised_found w (Some y ∷ ps) zero l h e = grind arith
  raised_found w (None ∷ ps) (suc i) l h e = grind (arith, raised_found w ps i (omega arith) h e)
  raised_found w (Some y ∷ ps) (suc i) l h e = grind (arith, raised_found w ps i (omega arith))

-- the lowest empty place
pub entered_found : (k : Code) (w : ℕ) (ps : List Place) (i : ℕ) → i < length ps → any_empty (take i ps) ≡ false → slice_index_or ps i None ≡ None → entered k w ps ≡ slice_set ps i (filled k w)
entered_found k w [] i l h e = grind arith
entered_found k w (None ∷ ps) zero l h e = refl
entered_found k w (None ∷ ps) (suc i) l h e = grind arith
entered_found k w (Some x ∷ ps) zero l h e = grind arith
entered_found k w (Some x ∷ ps) (suc i) l h e = grind (arith, entered_found k w ps i (omega arith) h e)

pub count_of_within : (k : Code) (ps : List Place) → count_of k ps ≤ counted ps
count_of_within k [] = omega arith
count_of_within k (None ∷ ps) = count_of_within k ps
count_of_within k (Some x ∷ ps) = grind (arith, count_of_within k ps)
