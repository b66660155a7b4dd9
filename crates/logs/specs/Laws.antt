-- No word writes two keys of a kind.
use Rattle.std.specs.Prelude.{refl}
use Rattle.std.proofs.Common.{◌≡◌, ℕ, zero, suc, ◌+◌, ◌-◌, ◌*◌, ◌/◌, ◌%◌, ◌^◌, ◌<◌, ◌≤◌, List, [], ◌∷◌, ◌++◌, length, replicate, sym, ap, ◌∙◌, arith}
use Rattle.std.specs.Fmt.{decimal}
use Rattle.std.specs.Str.Parse.{digits_value, AllDigits}
use Rattle.std.proofs.lemmas.Fmt.{decimal_is_IsNumeral, decimal_injective, length-decimal-le}
use Rattle.std.proofs.lemmas.Str.Parse.{digit_from_value}
use Rattle.flow.specs.declared.code.Code.{Code}
use Rattle.logs.specs.Texts.{prefix_text, account_text, WritesByte, WritesInFront, WritesFive}

-- the front up to a byte that is no digit is the only one
pub digits_apart : (e : ℕ) → e < 48 → (ds es r s : List ℕ) → AllDigits 10 ds → AllDigits 10 es → ds ++ e ∷ r ≡ es ++ e ∷ s → (ds ≡ es) × (r ≡ s)
digits_apart e l [] [] r s p q h = (refl, (cc))
digits_apart e l [] (y ∷ es) r s p q h = let k : e ≡ y = cc in absurd (omega (arith, k, digit_from_value y q.0))
digits_apart e l (x ∷ ds) [] r s p q h = let k : x ≡ e = cc in absurd (omega (arith, k, digit_from_value x p.0))
digits_apart e l (x ∷ ds) (y ∷ es) r s p q h =
    let k : x ≡ y = cc in
    let t : ds ++ e ∷ r ≡ es ++ e ∷ s = cc in
    let i = digits_apart e l ds es r s p.1 q.1 t in
    let j = i.0 in (cc (k, j), i.1)

-- and so is the number that it writes
pub parted : (m n e : ℕ) (r s t : List ℕ) → e < 48 → WritesInFront t e m r → WritesInFront t e n s → (m ≡ n) × (r ≡ s)
parted m n e r s t l v w =
    let a = v.0 in
    let b = w.0 in
    let p = digits_apart e l (decimal m) (decimal n) r s (decimal_is_IsNumeral m (omega arith)).0.1 (decimal_is_IsNumeral n (omega arith)).0.1 (sym v.1 ∙ w.1) in
    (decimal_injective m n (omega arith) (omega arith) p.0, p.1)

-- what follows the first numbers of a word with five
abbrev pub behind_c : ℕ → ℕ → List ℕ
behind_c d len = decimal d ++ 47 ∷ decimal len

abbrev pub behind_b : ℕ → ℕ → ℕ → List ℕ
behind_b c d len = decimal c ++ 46 ∷ behind_c d len

abbrev pub behind_a : ℕ → ℕ → ℕ → ℕ → List ℕ
behind_a b c d len = decimal b ++ 46 ∷ behind_b c d len

-- the numbers that were taken off the front of such a word are its own
pub after_a : (word rest : List ℕ) (x a b c d len : ℕ) → WritesInFront word 46 x rest → WritesFive word a b c d len →
    (x ≡ a) × WritesInFront rest 46 b (behind_b c d len)
after_a word rest x a b c d len h w =
    let p = parted x a 46 rest (behind_a b c d len) word (omega arith) h (w.a_in, w.is) in (p.0, (w.b_in, p.1))

pub after_b : (word rest more : List ℕ) (x y a b c d len : ℕ) → WritesInFront word 46 x rest → WritesInFront rest 46 y more → WritesFive word a b c d len →
    (x ≡ a) × (y ≡ b) × WritesInFront more 46 c (behind_c d len)
after_b word rest more x y a b c d len h k w =
    let p = after_a word rest x a b c d len h w in
    let q = parted y b 46 more (behind_b c d len) rest (omega arith) k p.1 in (p.0, q.0, (w.c_in, q.1))

pub after_c : (word rest more last : List ℕ) (x y z a b c d len : ℕ) → WritesInFront word 46 x rest → WritesInFront rest 46 y more → WritesInFront more 46 z last → WritesFive word a b c d len →
    (x ≡ a) × (y ≡ b) × (z ≡ c) × WritesInFront last 47 d (decimal len)
after_c word rest more last x y z a b c d len h k m w =
    let p = after_b word rest more x y a b c d len h k w in
    let q = parted z c 46 last (behind_c d len) more (omega arith) m p.2 in (p.0, p.1, q.0, (w.d_in, q.1))

pub after_d : (word rest more last end : List ℕ) (x y z v a b c d len : ℕ) → WritesInFront word 46 x rest → WritesInFront rest 46 y more → WritesInFront more 46 z last → WritesInFront last 47 v end → WritesFive word a b c d len →
    (x ≡ a) × (y ≡ b) × (z ≡ c) × (v ≡ d) × WritesByte end len
after_d word rest more last end x y z v a b c d len h k m n w =
    let p = after_c word rest more last x y z a b c d len h k m w in
    let q = parted v d 47 end (decimal len) last (omega arith) n p.3 in (p.0, p.1, p.2, q.0, (w.len_in, q.1))

-- a word is five numbers in one way
pub same_five : (word : List ℕ) (x y z v l a b c d len : ℕ) → WritesFive word x y z v l → WritesFive word a b c d len →
    (x ≡ a) × (y ≡ b) × (z ≡ c) × (v ≡ d) × (l ≡ len)
same_five word x y z v l a b c d len h w =
    let p = after_d word (behind_a y z v l) (behind_b z v l) (behind_c v l) (decimal l) x y z v a b c d len
    (h.a_in, h.is) (h.b_in, refl) (h.c_in, refl) (h.d_in, refl) w in
    let m = h.len_in in
    let n = w.len_in in
    (p.0, p.1, p.2, p.3, decimal_injective l len (omega arith) (omega arith) p.4.1)

-- the four bytes of an address are its number
pub address_of : (x : ℕ) → x ≡ x / 16777216 * 16777216 + x / 65536 % 256 * 65536 + x / 256 % 256 * 256 + x % 256
address_of x = omega arith

-- the text of a prefix is its five numbers
pub prefix_writes : (x l : ℕ) → x < 2 ^ 32 → l ≤ 32 →
    WritesFive (prefix_text (record { high = l; low = x })) (x / 16777216) (x / 65536 % 256) (x / 256 % 256) (x % 256) l
prefix_writes x l f s = record {
  a_in = omega arith;
  b_in = omega arith;
  c_in = omega arith;
  d_in = omega arith;
  len_in = omega arith;
  is = refl;
}

pub single_prefix : (x y l m : ℕ) → x < 2 ^ 32 → y < 2 ^ 32 → l ≤ 32 → m ≤ 32 →
    prefix_text (record { high = l; low = x }) ≡ prefix_text (record { high = m; low = y }) →
    ◌≡◌ {A = Code} (record { high = l; low = x }) (record { high = m; low = y })
single_prefix x y l m a b c d h =
    let v = prefix_writes x l a c in
    let w = prefix_writes y m b d in
    let s = same_five (prefix_text (record { high = m; low = y })) _ _ _ _ l _ _ _ _ m
    (record { a_in = v.a_in; b_in = v.b_in; c_in = v.c_in; d_in = v.d_in; len_in = v.len_in; is = sym h }) w in
    let e : x ≡ y = address_of x ∙ (λ i. s.0 i * 16777216 + s.1 i * 65536 + s.2 i * 256 + s.3 i) ∙ sym (address_of y) in
    λ i. record { high = s.4 i; low = e i }

-- zeros in front leave the value
pub zeros_in_front : (k : ℕ) (ds : List ℕ) → AllDigits 10 ds →
    (length (replicate k 48 ++ ds) ≡ k + length ds) × AllDigits 10 (replicate k 48 ++ ds) × (digits_value 10 (replicate k 48 ++ ds) ≡ digits_value 10 ds)
zeros_in_front zero ds p = (omega arith, p, refl)
zeros_in_front (suc k) ds p = let i = zeros_in_front k ds p in (omega (arith, i.0), (omega arith, i.1), i.2)

-- the ten digits of a number
pub ten_digits_of : (n : ℕ) → n < 10 ^ 10 → let t = replicate (10 - length (decimal n)) 48 ++ decimal n in (length t ≡ 10) × AllDigits 10 t × (digits_value 10 t ≡ n)
ten_digits_of n s =
    let d = decimal_is_IsNumeral n (omega arith) in
    let z = zeros_in_front (10 - length (decimal n)) (decimal n) d.0.1 in
    (omega (arith, z.0, length-decimal-le 10 n (omega arith) s (omega arith)), z.1, z.2 ∙ d.1)

pub single_account : (x y : ℕ) → x < 10 ^ 10 → y < 10 ^ 10 →
    account_text (record { high = 0; low = x }) ≡ account_text (record { high = 0; low = y }) →
    ◌≡◌ {A = Code} (record { high = 0; low = x }) (record { high = 0; low = y })
single_account x y a b h =
    let e : x ≡ y = sym (ten_digits_of x a).2 ∙ ap (digits_value 10) h ∙ (ten_digits_of y b).2 in
    λ i. record { high = 0; low = e i }
