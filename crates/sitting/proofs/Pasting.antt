-- Bytes that are pasted one behind the other.
use Rattle.std.proofs.Common.{◌≡◌, ℕ, ◌+◌, ◌<◌, ◌≤◌, List, ◌++◌, length, get_or, take, drop, sym, ap, ◌∙◌, zero-add, arith, append_assoc, length-append, length-take}
use Rattle.std.proofs.lemmas.List.{take_at, drop_at, drop-drop, take_more, flat_map_more}
use Rattle.std.specs.List.{flat_map}
use Rattle.sitting.specs.Lines.{pasted, over}

-- some bytes stand in a text that was xs, from a place on up to an end
pub record Written (xs : List ℕ) (at : ℕ) (bytes text : List ℕ) (end : ℕ) : Type 0 where
  pub bytes_stand : text ≡ pasted xs at bytes
  pub end_is : end ≡ at + length bytes

pasted_more : (xs : List ℕ) (at : ℕ) (ys zs : List ℕ) → at + length ys + length zs ≤ length xs →
    pasted (pasted xs at ys) (at + length ys) zs ≡ pasted xs at (ys ++ zs)
pasted_more xs at ys zs room =
    let front : List ℕ = take at xs ++ ys in
    let rest : List ℕ = drop (at + length ys) xs in
    let size : length front ≡ at + length ys = simp (length-append, length-take) (omega arith) in
    let whole : pasted xs at ys ≡ front ++ rest = sym (append_assoc (take at xs) ys rest) in
    let before : take (at + length ys) (pasted xs at ys) ≡ front = ap (take (at + length ys)) whole ∙ take_at front rest (at + length ys) size in
    let behind : drop (at + length ys) (pasted xs at ys) ≡ rest = ap (drop (at + length ys)) whole ∙ drop_at front rest (at + length ys) size in
    let left : drop (at + length ys + length zs) (pasted xs at ys) ≡ drop (at + length (ys ++ zs)) xs =
    sym (drop-drop (length zs) (at + length ys) (pasted xs at ys)) ∙ ap (drop (length zs)) behind ∙
    drop-drop (length zs) (at + length ys) xs ∙ ap (λ n. drop n xs) (simp length-append (omega arith)) in
    rw (before, left) (simp append_assoc)

-- the bytes that are pasted next stand behind them
pub written_more : {xs ys text next : List ℕ} {at end far : ℕ} (zs : List ℕ) → Written xs at ys text end → next ≡ pasted text end zs → far ≡ end + length zs →
    at + length ys + length zs ≤ length xs → Written xs at (ys ++ zs) next far
written_more {xs} {ys} {text} {next} {at} {end} {far} zs w e f room = record {
  bytes_stand = e ∙ rw (w.bytes_stand, w.end_is) (pasted_more xs at ys zs room);
  end_is = simp length-append (omega (arith, w.end_is));
}

-- one more element's list stands behind those of the elements before it
pub joined_more : {A : Type 0} (f : A → List ℕ) (front : List ℕ) (xs : List A) (i : ℕ) (blank : A) → i < length xs → (front ++ flat_map f (take i xs)) ++ f (get_or xs i blank) ≡ front ++ flat_map f (take (i + 1) xs)
joined_more f front xs i blank low =
    flat_map_more f front (take i xs) (get_or xs i blank) ∙ ap (λ ys. front ++ flat_map f ys) (sym (take_more xs i blank low))

-- what is pasted at the start stands at the front
pub pasted_front : (xs bytes : List ℕ) → pasted xs 0 bytes ≡ over bytes xs
pasted_front xs bytes = rw zero-add

-- the lines of flows stand behind the line before them
pub written_behind : {text next : List ℕ} {end far : ℕ} (xs ys zs : List ℕ) → text ≡ pasted xs 0 ys → end ≡ 0 + length ys →
    next ≡ pasted text end zs → far ≡ end + length zs → length ys + length zs ≤ length xs → (next ≡ over (ys ++ zs) xs) × (far ≡ length (ys ++ zs))
written_behind xs ys zs e f g h room =
    let both = written_more {xs = xs} {at = 0} zs (record { bytes_stand = e; end_is = f }) g h (omega arith) in
    (both.bytes_stand ∙ pasted_front xs (ys ++ zs), omega (arith, both.end_is))
