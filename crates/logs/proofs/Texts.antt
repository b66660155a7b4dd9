-- What the written form of a key says of its numbers.
use Rattle.std.proofs.Common.{◌≡◌, ℕ, zero, suc, ◌+◌, ◌*◌, ◌/◌, ◌%◌, ◌-◌, ◌^◌, ◌<◌, min, List, [], ◌∷◌, ◌++◌, length, get_or, Result, Ok, Err, Some, MatchOption, eqb, take, drop, sym, ap, ◌∙◌, subst, arith, length-append, add-one}
use Rattle.std.proofs.Math.Seq.{split_at, take-append_seam}
use Rattle.std.proofs.lemmas.Bool.{eqb-true}
use Rattle.std.proofs.lemmas.List.Quantifiers.{position-Some}
use Rattle.std.specs.List.{position, position_or_len}
use Rattle.std.proofs.lemmas.Bool.Decides.{nat_tests}
use Rattle.std.specs.Result.{result_ok, OkIff}
use Rattle.std.specs.Fmt.{decimal}
use Rattle.logs.specs.Texts.{WritesByte, WritesInFront, WritesFive}
use Rattle.std.specs.Str.Parse.{digits_value, AllDigits, IsNumeral}
use Rattle.std.proofs.lemmas.Fmt.{decimal_is_IsNumeral, decimal_digit, first_decimal, decimal-digits_value}
use Rattle.std.proofs.lemmas.Str.Parse.{IsNumeralModel, numerals_by_value, tells_digits, digit_from_value}

-- numerals in base ten, in the form that lemmas on decimals take
pub own : IsNumeralModel (AllDigits 10) (digits_value 10)
own = numerals_by_value (AllDigits 10) tells_digits

-- a number is written with no zero in front
pub no_zero_in_front : (ds : List ℕ) → get_or ds 0 0 ≡ 48 → 1 < length ds → (n : ℕ) → WritesByte ds n → ⊥
no_zero_in_front ds z l zero w = let h : ds ≡ 48 ∷ [] = w.1 ∙ decimal_digit 0 (omega arith) in omega (arith, ap length h)
no_zero_in_front ds z l (suc m) w =
    let s = w.0 in
    let f = first_decimal (suc m) (omega arith) (omega arith) in
    let k : get_or ds 0 0 ≡ get_or (decimal (suc m)) 0 0 = ap (λ (l : List ℕ). get_or l 0 0) w.1 in omega arith

-- what is written for a number is a numeral of its value
pub value_written : (ds : List ℕ) (n : ℕ) → WritesByte ds n → IsNumeral 10 ds × (digits_value 10 ds ≡ n)
value_written ds n w = subst (λ (l : List ℕ). IsNumeral 10 l × (digits_value 10 l ≡ n)) (sym w.1) (decimal_is_IsNumeral n (let s = w.0 in omega arith))

-- a numeral below 256 with no zero in front is what is written for its value
pub byte_read : {E : Type 0} (ds : List ℕ) (n : ℕ) (r : Result ℕ E) → IsNumeral 10 ds → n ≡ min (digits_value 10 ds) (2 ^ 64 - 1) →
    (get_or ds 0 0 ≡ 48 → length ds ≡ 1) → OkIff r (n < 256) n →
    MatchOption (result_ok r) ((m : ℕ) → WritesByte ds m → ⊥) (λ m. WritesByte ds m)
byte_read ds n (Ok m) h e z k =
    let v : digits_value 10 ds ≡ m = omega (arith, e, k.0, k.1) in
    let d = decimal-digits_value own ds h.1 h.0 z (omega (arith, e, k.0)) in
    (omega (arith, k.0, k.1), sym d ∙ ap decimal v)
byte_read ds n (Err x) h e z k = λ m w. k (omega (arith, e, w.0, (value_written ds m w).1))

-- a text is what stands in front of the place where a byte was found, the byte, and what follows
pub cut_at : (e : ℕ) (t : List ℕ) (i : ℕ) → position (λ b. eqb b e) t ≡ Some i → t ≡ take i t ++ e ∷ drop (i + 1) t
cut_at e t i h =
    let p = position-Some (λ b. eqb b e) t i 0 h in
    let k : get_or t i 0 ≡ e = eqb-true (get_or t i 0) e p.1 in
    let s : t ≡ take i t ++ get_or t i 0 ∷ drop (suc i) t = split_at t i 0 p.0 in
    s ∙ ap (λ (x : ℕ). take i t ++ x ∷ drop (suc i) t) k ∙ ap (λ (j : ℕ). take i t ++ e ∷ drop j t) (sym (add-one i))

-- a byte that is no digit is first found behind the digits
pub first_behind : (e : ℕ) → e < 48 → (ds rest : List ℕ) → AllDigits 10 ds → position_or_len (λ b. eqb b e) (ds ++ e ∷ rest) ≡ length ds
first_behind e l [] rest p = grind (arith, nat_tests)
first_behind e l (x ∷ ds) rest p =
    let r = digit_from_value x p.0 in
    let i = first_behind e l ds rest p.1 in grind (arith, nat_tests)

pub found_behind : (e : ℕ) → e < 48 → (ds rest : List ℕ) → AllDigits 10 ds → position (λ b. eqb b e) (ds ++ e ∷ rest) ≡ Some (length ds)
found_behind e l ds rest p =
    let i = first_behind e l ds rest p in
    let k : length ds < length (ds ++ e ∷ rest) = simp length-append (omega arith) in
    rw i (grind (arith, nat_tests))

-- so the byte behind a written number is found behind its digits
pub found : (n e : ℕ) (rest t : List ℕ) → e < 48 → WritesInFront t e n rest →
    (position (λ b. eqb b e) t ≡ Some (length (decimal n))) × (take (length (decimal n)) t ≡ decimal n)
found n e rest t l w =
    let s = w.0 in (
      ap (position (λ b. eqb b e)) w.1 ∙ found_behind e l (decimal n) rest (decimal_is_IsNumeral n (omega arith)).0.1,
      ap (take (length (decimal n))) w.1 ∙ take-append_seam (decimal n) (e ∷ rest),
    )

-- five numbers taken off the front are those of the word
pub five : (word rest more last end : List ℕ) (x y z v len : ℕ) → WritesInFront word 46 x rest → WritesInFront rest 46 y more → WritesInFront more 46 z last → WritesInFront last 47 v end → WritesByte end len → WritesFive word x y z v len
five word rest more last end x y z v len h k m n e = record {
  a_in = h.0;
  b_in = k.0;
  c_in = m.0;
  d_in = n.0;
  len_in = e.0;
  is = h.1 ∙ ap (λ (l : List ℕ). decimal x ++ 46 ∷ l) (k.1 ∙ ap (λ (l : List ℕ). decimal y ++ 46 ∷ l) (m.1 ∙ ap (λ (l : List ℕ). decimal z ++ 46 ∷ l) (n.1 ∙ ap (λ (l : List ℕ). decimal v ++ 47 ∷ l) e.1)));
}

-- the four bytes of an address
pub bytes_of : (x a b c d : ℕ) → a < 256 → b < 256 → c < 256 → d < 256 → x ≡ a * 16777216 + b * 65536 + c * 256 + d →
    (x / 16777216 ≡ a) × (x / 65536 % 256 ≡ b) × (x / 256 % 256 ≡ c) × (x % 256 ≡ d)
bytes_of x a b c d k l m n e = (omega arith, omega arith, omega arith, omega arith)
