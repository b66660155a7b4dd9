-- How the groups that an entry passes are counted.
use Rattle.std.proofs.Common.{◌≡◌, ℕ, ◌+◌, ◌<◌, ◌≤◌, true, false, ◌⊎◌, List, [], ◌∷◌, refl, inl, inr, arith}
use Rattle.semi.specs.Groups.{at_least-less}
use Rattle.semi.specs.Passes.{at_least_next}
use Rattle.semi.specs.Line.{AtLeast, Rising, between, has_group}
use Rattle.semi.specs.declared.entry.Entry.{Entry}
use Rattle.std.proofs.lemmas.Bool.{cases_Bool, cases_order}
use Rattle.std.proofs.lemmas.Bool.Decides.{nat_tests}

pub between_raise : (a g b : ℕ) (xs : List Entry) → a ≤ g → AtLeast (g + 1) xs → between a b xs ≡ between g b xs
between_raise a g b [] l h = refl
between_raise a g b (x ∷ xs) l h = grind (arith, nat_tests, between_raise a g b xs l h.1)

pub no_group : (g : ℕ) (xs : List Entry) → AtLeast (g + 1) xs → has_group g xs ≡ false
no_group g [] h = refl
no_group g (x ∷ xs) h = grind (arith, nat_tests, no_group g xs h.1)

pub between_zero : (a b : ℕ) (xs : List Entry) → AtLeast b xs → between a b xs ≡ 0
between_zero a b [] h = refl
between_zero a b (x ∷ xs) h = grind (arith, nat_tests, between_zero a b xs h.1)

-- a group of a rising list counts once
pub between_run : (a g b : ℕ) (xs : List Entry) → a < g → g < b → Rising xs → AtLeast g xs → has_group g xs ≡ true → between a b xs ≡ 1 + between g b xs
between_run a g b [] l m r h q = grind arith
between_run a g b (x ∷ xs) l m r h q =
    elim (cases_order g x.group) [
      | inl e ↦ let rr : AtLeast g xs = rw e r.0 in
          elim (cases_Bool (has_group g xs)) [
            | inl z ↦ let i = between_run a g b xs l m r.1 rr z in grind (arith, nat_tests)
            | inr z ↦ let i = between_raise a g b xs (omega arith) (at_least_next g xs rr z) in grind (arith, nat_tests)
          ]
      | inr o ↦ let z = no_group g xs (at_least-less (g + 1) x.group xs (grind arith) r.0) in absurd (grind (arith, nat_tests))
    ]

pub between_first : (a b : ℕ) (x : Entry) (xs : List Entry) → a < x.group → x.group < b → Rising (x ∷ xs) → between a b (x ∷ xs) ≡ 1 + between x.group b xs
between_first a b x xs l m r =
    elim (cases_Bool (has_group x.group xs)) [
      | inl q ↦ grind (arith, nat_tests, between_run a x.group b xs l m r.1 r.0 q)
      | inr q ↦ grind (arith, nat_tests, between_raise a x.group b xs, at_least_next x.group xs r.0 q)
    ]

-- a group that is not between counts nothing
pub between_none : (a b : ℕ) (x : Entry) (xs : List Entry) → (x.group ≤ a) ⊎ (b ≤ x.group) → between a b (x ∷ xs) ≡ between a b xs
between_none a b x xs (inl h) = grind (arith, nat_tests)
between_none a b x xs (inr h) = grind (arith, nat_tests)

-- what the loop over the entries keeps, with xs still to come
pub record Counted (to all last passes : ℕ) (xs : List Entry) : Type 0 where
  pub rising : Rising xs
  pub least : AtLeast last xs
  pub counted : passes + between last to xs ≡ all

pub counted_pass : (to all last passes : ℕ) (x : Entry) (xs : List Entry) → Counted to all last passes (x ∷ xs) → last < x.group → x.group < to → Counted to all x.group (passes + 1) xs
counted_pass to all last passes x xs s l m =
    record { rising = s.rising.1; least = s.rising.0; counted = omega (arith, between_first last to x xs l m s.rising, s.counted) }

pub counted_none : (to all last passes : ℕ) (x : Entry) (xs : List Entry) → Counted to all last passes (x ∷ xs) → (x.group ≤ last) ⊎ (to ≤ x.group) → Counted to all last passes xs
counted_none to all last passes x xs s out =
    record { rising = s.rising.1; least = s.least.1; counted = omega (arith, between_none last to x xs out, s.counted) }

-- an entry whose group is above the new one ends the count
pub counted_stop : (to all last passes : ℕ) (x : Entry) (xs : List Entry) → Counted to all last passes (x ∷ xs) → to < x.group → passes ≡ all
counted_stop to all last passes x xs s h =
    omega (arith, between_zero last to (x ∷ xs) (omega arith, at_least-less to x.group xs (omega arith) s.rising.0), s.counted)
