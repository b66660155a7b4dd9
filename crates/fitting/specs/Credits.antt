-- What an add does to the entries: their number, their counts, and which codes they count.
use Rattle.std.specs.Prelude.{◌≡◌, ℕ, ◌+◌, ◌*◌, ◌<◌, ◌≤◌, ◌⊎◌, min, Bool, true, false, cond, List, [], ◌∷◌, map, length, ◌==◌, nat_lt, refl}
use Rattle.std.proofs.Common.{ap, inl, inr, arith, suc-mul}
use Rattle.std.proofs.lemmas.Bool.{cases_lt}
use Rattle.std.proofs.lemmas.Bool.Decides.{nat_tests}
use Rattle.std.specs.List.{fold, list_any, position_or_len}
use Rattle.flow.specs.Codes.{same}
use Rattle.flow.proofs.Codes.{same_refl, same_true, same_sym}
use Rattle.flow.specs.declared.code.Code.{Code}
use Rattle.fitting.specs.declared.entry.Entry.{Entry}
use Rattle.fitting.specs.Entries.{counts, holds, count_of, total, least, credited, apart}

-- the first entry that passes a test is the code's, whatever the test
module _ (p : Entry → Bool) (k : Code) (w : ℕ) where
  pub length-credited : (es : List Entry) → length (credited p k w es) ≡ length es
  length-credited [] = refl
  length-credited (e ∷ es) = grind (arith, length-credited es)

  pub total-credited : (es : List Entry) → list_any p es ≡ true → total (credited p k w es) ≡ total es + w
  total-credited [] h = grind arith
  total-credited (e ∷ es) h = grind (arith, total-credited es)

-- the place of the first entry that passes a test
pub first_place : (p : Entry → Bool) (es : List Entry) → nat_lt (position_or_len p es) (length es) ≡ list_any p es
first_place p [] = refl
first_place p (e ∷ es) = grind (arith, nat_tests, first_place p es)

-- each count is at least m
abbrev pub AtLeast : ℕ → List Entry → Type 0
AtLeast m [] = Unit {0}
AtLeast m (e ∷ es) = (m ≤ e.count) × AtLeast m es

above_first : (p : Bool) (k : Code) (w m : ℕ) (e : Entry) (es fs : List Entry) → m ≤ e.count → AtLeast m es → AtLeast m fs → AtLeast m (cond p (record { code = k; count = e.count + w } ∷ es) (e ∷ fs))
above_first true k w m e es fs l a b = (omega (arith, l), a)
above_first false k w m e es fs l a b = (l, b)

pub above-credited : (p : Entry → Bool) (k : Code) (w m : ℕ) (es : List Entry) → AtLeast m es → AtLeast m (credited p k w es)
above-credited p k w m [] a = tt
above-credited p k w m (e ∷ es) a = above_first (p e) k w m e es (credited p k w es) a.0 a.1 (above-credited p k w m es a.1)

pub above_total : (m : ℕ) (es : List Entry) → AtLeast m es → length es * m ≤ total es
above_total m [] a = omega arith
above_total m (e ∷ es) a = omega (arith, suc-mul (length es) m, a.0, above_total m es a.1)

pub above_held : (k : Code) (m : ℕ) (es : List Entry) → holds k es ≡ true → AtLeast m es → m ≤ count_of k es
above_held k m [] h a = grind arith
above_held k m (e ∷ es) h a = grind (arith, a.0, above_held k m es)

-- the least of the counts and a number
abbrev pub least_with : ℕ → List Entry → ℕ
least_with a es = fold min a (map (λ e. e.count) es)

least_within : (a : ℕ) (es : List Entry) → least_with a es ≤ a
least_within a [] = omega arith
least_within a (e ∷ es) = omega (arith, least_within (min a e.count) es)

above_least_with : (a : ℕ) (es : List Entry) → AtLeast (least_with a es) es
above_least_with a [] = tt
above_least_with a (e ∷ es) = (omega (arith, least_within (min a e.count) es), above_least_with (min a e.count) es)

least_above : (m a : ℕ) (es : List Entry) → m ≤ a → AtLeast m es → m ≤ least_with a es
least_above m a [] l h = l
least_above m a (e ∷ es) l h = least_above m (min a e.count) es (omega (arith, h.0)) h.1

-- it is the number or some entry's count
met : (a : ℕ) (es : List Entry) → (least_with a es ≡ a) ⊎ (list_any (λ e. e.count == least_with a es) es ≡ true)
met a [] = inl refl
met a (e ∷ es) =
    elim (met (min a e.count) es) [
      | inl q ↦ elim (cases_lt e.count a) [
        | inl l ↦ let it : e.count ≡ least_with (min a e.count) es = omega arith in inr (grind (arith, nat_tests))
        | inr l ↦ inl (omega arith)
      ]
      | inr q ↦ inr (grind (arith, nat_tests))
    ]

pub above_least : (es : List Entry) → AtLeast (least es) es
above_least es = above_least_with (total es) es

pub least_total : (es : List Entry) → least es ≤ total es
least_total es = least_within (total es) es

pub least_met : (es : List Entry) → 0 < length es → list_any (λ e. e.count == least es) es ≡ true
least_met [] s = absurd (omega (arith, s))
least_met (e ∷ es) s =
    elim (met (total (e ∷ es)) (e ∷ es)) [
      | inl q ↦ let it : e.count ≡ least (e ∷ es) = omega (arith, (above_least (e ∷ es)).0) in grind (arith, nat_tests)
      | inr q ↦ q
    ]

pub least-credited : (p : Entry → Bool) (k : Code) (w : ℕ) (es : List Entry) → list_any p es ≡ true → least es ≤ least (credited p k w es)
least-credited p k w es h =
    least_above (least es) (total (credited p k w es)) (credited p k w es) (omega (arith, total-credited p k w es h, least_total es)) (above-credited p k w (least es) es (above_least es))

-- an entry counts a code exactly where its count is above 0
pub held_counts : (k : Code) (es : List Entry) → nat_lt 0 (count_of k es) ≡ holds k es
held_counts k [] = refl
held_counts k (e ∷ es) = grind (arith, nat_tests, held_counts k es)

-- the others count no code that the first one counts
alone : (j : Code) (e : Entry) (es : List Entry) → counts j e ≡ true → apart (e ∷ es) ≡ true → count_of j es ≡ 0
alone j e es c t =
    let one : j ≡ e.code = same_true j e.code (grind (arith, nat_tests)) in
    let none : holds e.code es ≡ false = grind (arith, nat_tests) in
    grind (arith, nat_tests, held_counts j es, ap (λ (i : Code). holds i es) one)

pub count_of_within : (k : Code) (es : List Entry) → count_of k es ≤ total es
count_of_within k [] = omega arith
count_of_within k (e ∷ es) = grind (arith, count_of_within k es)

-- a code's own entry takes the weight
pub count_of-own : (k : Code) (w : ℕ) (es : List Entry) → holds k es ≡ true → count_of k (credited (counts k) k w es) ≡ count_of k es + w
count_of-own k w [] h = grind arith
count_of-own k w (e ∷ es) h = grind (arith, nat_tests, same_refl, count_of-own k w es)

pub count_of-own_other : (j k : Code) (w : ℕ) (es : List Entry) → same j k ≡ false → count_of j (credited (counts k) k w es) ≡ count_of j es
count_of-own_other j k w [] s = refl
count_of-own_other j k w (e ∷ es) s = grind (arith, nat_tests, same_true, count_of-own_other j k w es)

holds-own : (j k : Code) (w : ℕ) (es : List Entry) → holds j (credited (counts k) k w es) ≡ holds j es
holds-own j k w [] = refl
holds-own j k w (e ∷ es) = grind (arith, nat_tests, same_true, holds-own j k w es)

pub apart-own : (k : Code) (w : ℕ) (es : List Entry) → apart es ≡ true → apart (credited (counts k) k w es) ≡ true
apart-own k w [] t = refl
apart-own k w (e ∷ es) t = grind (arith, nat_tests, same_true, holds-own, apart-own k w es)

-- an entry with a count of m is given to a code that none has
module _ (k : Code) (w m : ℕ) where
  pub count_of-given : (es : List Entry) → 0 < w → holds k es ≡ false → list_any (λ e. e.count == m) es ≡ true → count_of k (credited (λ e. e.count == m) k w es) ≡ m + w
  count_of-given [] p h a = grind arith
  count_of-given (e ∷ es) p h a = grind (arith, nat_tests, same_refl, count_of-given es)

  pub count_of-given_other : (j : Code) (es : List Entry) → same j k ≡ false → apart es ≡ true →
      (count_of j (credited (λ e. e.count == m) k w es) ≡ count_of j es) ⊎ ((count_of j (credited (λ e. e.count == m) k w es) ≡ 0) × (count_of j es ≡ m))
  count_of-given_other j [] s t = inl refl
  count_of-given_other j (e ∷ es) s t = grind (arith, nat_tests, alone j e es, count_of-given_other j es)

  holds-given : (j : Code) (es : List Entry) → same j k ≡ false → holds j es ≡ false → holds j (credited (λ e. e.count == m) k w es) ≡ false
  holds-given j [] s h = refl
  holds-given j (e ∷ es) s h = grind (arith, nat_tests, same_true, holds-given j es)

  pub apart-given : (es : List Entry) → holds k es ≡ false → apart es ≡ true → apart (credited (λ e. e.count == m) k w es) ≡ true
  apart-given [] h t = refl
  apart-given (e ∷ es) h t = grind (arith, nat_tests, same_sym, holds-given, apart-given es)
