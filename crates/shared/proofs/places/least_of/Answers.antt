use Rattle.std.proofs.Common.{◌≡◌, ℕ, min, List, [], ◌∷◌, Some, None, refl, ◌∙◌, rules}
use Rattle.std.specs.List.{fold}
use Rattle.std.specs.Option.{option_map_or}
use Rattle.shared.specs.declared.place.Held.{Held}
use Rattle.shared.specs.Places.{Place, least}
use Rattle.shared.proofs.places.least_of.Goals as goal

-- the smaller of a number and the count that a place holds
abbrev lesser : ℕ → Place → ℕ
lesser m p = option_map_or (λ (x : Held). min m x.count) p m

fold-lesser : (w : ℕ) (ps : List Place) → fold lesser w ps ≡ least w ps
fold-lesser w [] = refl
fold-lesser w (None ∷ ps) = fold-lesser w ps
fold-lesser w (Some x ∷ ps) = fold-lesser (min w x.count) ps

pub returns : goal.returns
returns c =
    let told : c.fold.result ≡ fold lesser c.args.weight c.args.places.now = search rules in
    told ∙ fold-lesser c.args.weight c.args.places.now
