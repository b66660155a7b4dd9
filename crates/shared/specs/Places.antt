-- The places of a shared-deduction counter, and what an add does to them. Assumes nothing.
--   Place        nothing, or a code with its count
--   filled       the place of a code with its count
--   held_in      the codes that have a place, with their counts, in the order of the places
--   has          a place has the code
--   holds        some place has the code
--   count_of     the code's count, 0 where no place has it
--   any_empty    some place is empty
--   raised       the places with the code's count raised
--   entered      the places with the code in the lowest empty one
--   least        the smallest of a weight and the counts
--   less         one place with its count lowered, empty where nothing is left
--   lowered      the places with every count lowered
--   deducted     how much an add raises the deduction
--   shared_out   the places after they share a weight
--   added        the places after an add
--   counted      the sum of the counts
--   tidy         the test that each count is at least 1 and no code has two places
use Rattle.std.specs.Prelude.{ℕ, ◌+◌, ◌-◌, min, Bool, true, false, cond, not, ◌&&◌, ◌||◌, List, [], ◌∷◌, map, Option, Some, None, is_none, ◌==◌, nat_lt}
use Rattle.std.specs.List.{flat_map, fold, list_any}
use Rattle.std.specs.Option.{option_to_list}
use Rattle.flow.specs.Codes.{same}
use Rattle.flow.specs.declared.code.Code.{Code}
use Rattle.shared.specs.declared.place.Held.{Held}

abbrev pub Place : Type 0
Place = Option Held

abbrev pub filled : Code → ℕ → Place
filled k w = Some (record { code = k; count = w })

abbrev pub held_in : List Place → List Held
held_in ps = flat_map option_to_list ps

abbrev pub has : Code → Place → Bool
has k None = false
has k (Some x) = same k x.code

abbrev pub holds : Code → List Place → Bool
holds k ps = list_any (has k) ps

abbrev pub count_of : Code → List Place → ℕ
count_of k [] = 0
count_of k (None ∷ ps) = count_of k ps
count_of k (Some x ∷ ps) = cond (same k x.code) x.count (count_of k ps)

abbrev pub any_empty : List Place → Bool
any_empty ps = list_any is_none ps

abbrev pub raised : Code → ℕ → List Place → List Place
raised k w [] = []
raised k w (None ∷ ps) = None ∷ raised k w ps
raised k w (Some x ∷ ps) = cond (same k x.code) (filled x.code (x.count + w) ∷ ps) (Some x ∷ raised k w ps)

abbrev pub entered : Code → ℕ → List Place → List Place
entered k w [] = []
entered k w (None ∷ ps) = filled k w ∷ ps
entered k w (Some x ∷ ps) = Some x ∷ entered k w ps

abbrev pub least : ℕ → List Place → ℕ
least w ps = fold min w (map (λ x. x.count) (held_in ps))

-- one place with its count lowered
abbrev pub less : ℕ → Place → Place
less m None = None
less m (Some x) = cond (x.count - m == 0) None (filled x.code (x.count - m))

abbrev pub lowered : ℕ → List Place → List Place
lowered m ps = map (less m) ps

abbrev pub deducted : List Place → Code → ℕ → ℕ
deducted ps k w = cond (holds k ps || any_empty ps) 0 (least w ps)

-- all counts fall, and what is left of the weight enters
abbrev pub shared_out : List Place → Code → ℕ → List Place
shared_out ps k w = let m = least w ps in cond (nat_lt m w) (entered k (w - m) (lowered m ps)) (lowered m ps)

-- a held code's count rises; else the code enters an empty place; else all places share the weight
abbrev pub added : List Place → Code → ℕ → List Place
added ps k w = cond (holds k ps) (raised k w ps) (cond (any_empty ps) (entered k w ps) (shared_out ps k w))

abbrev pub counted : List Place → ℕ
counted [] = 0
counted (None ∷ ps) = counted ps
counted (Some x ∷ ps) = x.count + counted ps

abbrev pub tidy : List Place → Bool
tidy [] = true
tidy (None ∷ ps) = tidy ps
tidy (Some x ∷ ps) = (nat_lt 0 x.count && not (holds x.code ps)) && tidy ps
