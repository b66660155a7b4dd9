-- How many passes an add makes at most.
use Rattle.std.specs.Prelude.{◌≡◌, ℕ, ◌+◌, ◌-◌, ◌*◌, ◌/◌, ◌<◌, ◌≤◌, false, List, [], ◌∷◌, length, nat_lt}
use Rattle.std.proofs.Common.{inl, inr, arith, add-mul, div-lt_iff_lt-mul, mul-add, mul_comm}
use Rattle.std.proofs.Math.Nat.{lt-mul-div-succ}
use Rattle.semi.specs.Adding.{small-start}
use Rattle.semi.specs.Entries.{length_without}
use Rattle.semi.specs.Groups.{at_least-less, rising_rest, rising_without}
use Rattle.semi.specs.Line.{AtLeast, Rising, Small, between, has_group, holds, others, passes, raised, rest, start}
use Rattle.semi.specs.declared.entry.Entry.{Entry}
use Rattle.flow.specs.declared.code.Code.{Code}
use Rattle.std.proofs.lemmas.Bool.{cases_lt, cond_both}
use Rattle.std.proofs.lemmas.Bool.Decides.{nat_tests}

-- passes
pub between_few : (a b : ℕ) (xs : List Entry) → between a b xs ≤ length xs
between_few a b [] = omega arith
between_few a b (x ∷ xs) = grind (arith, between_few a b xs)

pub at_least_next : (g : ℕ) (xs : List Entry) → AtLeast g xs → has_group g xs ≡ false → AtLeast (g + 1) xs
at_least_next g [] a h = tt
at_least_next g (x ∷ xs) a h = grind (arith, nat_tests, at_least_next g xs a.1)

pub between_above : (a b m : ℕ) (xs : List Entry) → Rising xs → AtLeast m xs → between a b xs ≤ b - m
between_above a b m [] r l = omega arith
between_above a b m (x ∷ xs) r l =
    let more : has_group x.group xs ≡ false → between a b xs ≤ b - (x.group + 1) = λ h. between_above a b (x.group + 1) xs r.1 (at_least_next x.group xs r.0 h) in
    grind (arith, nat_tests, between_above a b m xs r.1 l.1, more)

pub between_gap : (a b : ℕ) (xs : List Entry) → Rising xs → between a b xs ≤ b - (a + 1)
between_gap a b [] r = omega arith
between_gap a b (x ∷ xs) r =
    elim (cases_lt a x.group) [
      | inl h ↦ between_above a b (a + 1) (x ∷ xs) r (omega arith, at_least-less (a + 1) x.group xs (omega arith) r.0)
      | inr h ↦ grind (arith, nat_tests, between_gap a b xs r.1)
    ]

pub rising_others : (n : ℕ) (line : List Entry) (k : Code) → Rising line → Rising (others n line k)
rising_others n line k r =
    cond_both (holds k line) _ _ Rising (λ _. rising_without k line r) (λ _. cond_both (nat_lt (length line) n) _ _ Rising (λ _. r) (λ _. rising_rest line r))

pub length-others : (n : ℕ) (line : List Entry) (k : Code) → length (others n line k) ≤ length line
length-others n line k =
    let P : List Entry → Type 0 = λ xs. length xs ≤ length line in
    cond_both (holds k line) _ _ P (λ h. omega (arith, length_without k line h)) (λ _. cond_both (nat_lt (length line) n) _ _ P (λ _. omega arith) (λ _. rest_shorter line))
  where
    rest_shorter : (xs : List Entry) → length (rest xs) ≤ length xs
    rest_shorter [] = omega arith
    rest_shorter (x ∷ xs) = omega arith

pub passes_few : (n s w : ℕ) (line : List Entry) (k : Code) → length line ≤ n → passes n s line k w ≤ n
passes_few n s w line k h =
    omega (arith, between_few (start n s line k).group (raised s w k (start n s line k)).group (others n line k), length-others n line k)

quotient : (r w s : ℕ) → 0 < w → r < s → (r + w) / s ≤ (w - 1) / s + 1
quotient r w s pos h =
    let p : 0 < s = omega arith in
    let q : r + w < ((w - 1) / s + 2) * s = omega (arith, lt-mul-div-succ (w - 1) p, add-mul ((w - 1) / s) 2 s, mul-add s ((w - 1) / s) 1, mul_comm s ((w - 1) / s)) in
    omega (arith, (div-lt_iff_lt-mul p).1 q)

pub passes_short : (n s w : ℕ) (line : List Entry) (k : Code) → 0 < s → 0 < w → Rising line → Small s line → passes n s line k w ≤ (w - 1) / s
passes_short n s w line k step pos r m =
    let e = start n s line k in
    let small = small-start n s line k step m in
    omega (arith, between_gap e.group (raised s w k e).group (others n line k) (rising_others n line k r), quotient e.remainder w s pos small)
