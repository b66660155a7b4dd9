-- The test of what a line keeps, and the place of an entry.
use Rattle.std.proofs.Common.{◌≡◌, ℕ, ◌<◌, true, false, List, [], ◌∷◌, refl, arith}
use Rattle.semi.specs.Line.{AtLeast, CodesDiffer, Rising, Small, at_least, behind_last, orderly, placed, some_up_to}
use Rattle.semi.specs.declared.entry.Entry.{Entry}
use Rattle.std.proofs.lemmas.Bool.{and_from, and_parts, le-leb, leb-true, lt-ltb, ltb-true, not_from_false, not-true}
use Rattle.std.proofs.lemmas.Bool.Decides.{nat_tests}

-- the test and what it says
pub at_least_from : (g : ℕ) (xs : List Entry) → at_least g xs ≡ true → AtLeast g xs
at_least_from g [] h = tt
at_least_from g (x ∷ xs) h = let p = and_parts _ _ h in (leb-true _ _ p.0, at_least_from g xs p.1)

pub at_least_test : (g : ℕ) (xs : List Entry) → AtLeast g xs → at_least g xs ≡ true
at_least_test g [] h = refl
at_least_test g (x ∷ xs) h = and_from _ _ (le-leb _ _ h.0) (at_least_test g xs h.1)

pub orderly_from : (s : ℕ) (xs : List Entry) → orderly s xs ≡ true → Rising xs × CodesDiffer xs × Small s xs
orderly_from s [] h = (tt, tt, tt)
orderly_from s (x ∷ xs) h =
    let p = and_parts _ _ h in
    let a = and_parts _ _ p.0 in
    let b = and_parts _ _ p.1 in
    let r = orderly_from s xs b.1 in
    ((at_least_from x.group xs a.0, r.0), (not-true _ a.1, r.1), (ltb-true _ _ b.0, r.2))

pub orderly_test : (s : ℕ) (xs : List Entry) → Rising xs → CodesDiffer xs → Small s xs → orderly s xs ≡ true
orderly_test s [] r d m = refl
orderly_test s (x ∷ xs) r d m =
    and_from _ _ (and_from _ _ (at_least_test x.group xs r.0) (not_from_false _ d.0))
    (and_from _ _ (lt-ltb _ _ m.0) (orderly_test s xs r.1 d.1 m.1))

pub none_up_to : (g m : ℕ) (xs : List Entry) → AtLeast m xs → g < m → some_up_to g xs ≡ false
none_up_to g m [] a l = refl
none_up_to g m (x ∷ xs) a l = grind (arith, nat_tests, none_up_to g m xs a.1)

pub placed_last : (e : Entry) (xs : List Entry) → Rising xs → placed e xs ≡ behind_last e xs
placed_last e [] r = refl
placed_last e (x ∷ xs) r = grind (arith, nat_tests, placed_last e xs r.1, none_up_to e.group x.group xs r.0)
