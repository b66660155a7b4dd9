-- Volumes of the newest packets of a roll.
use Rattle.std.proofs.Common.{◌≡◌, ℕ, zero, suc, ◌+◌, ◌-◌, ◌*◌, ◌≤◌, List, [], ◌∷◌, ◌++◌, length, take, ap, ◌∙◌, suc-mul, arith}
use lib.Seq.{take-append-add}
use Rattle.std.specs.List.{AllByRecursion}
use Rattle.flow.specs.declared.code.Code.{Code}
use Rattle.frame.specs.Rolls.{Packet, part, volume_in, true_volume}

pub volume_append : (k : Code) (xs ys : List Packet) → volume_in k (xs ++ ys) ≡ volume_in k xs + volume_in k ys
volume_append k [] ys = omega arith
volume_append k (x ∷ xs) ys = omega (arith, volume_append k xs ys)

-- the window: the present frame, and the previous one from the offset `length present` on
pub window_parts : (wide : ℕ) (k : Code) (present behind : List Packet) → length present ≤ wide → true_volume wide k (present ++ behind) ≡ volume_in k present + volume_in k (take (wide - length present) behind)
window_parts wide k present behind h =
    let e : wide ≡ length present + (wide - length present) = omega arith in
    ap (λ i. volume_in k (take i (present ++ behind))) e ∙ ap (volume_in k) (take-append-add present behind (wide - length present)) ∙ volume_append k present (take (wide - length present) behind)

part_le : (k : Code) (x : Packet) → part k x ≤ x.weight
part_le k x = grind arith

-- d packets more weigh at most d M more
pub volume_more : (most : ℕ) (k : Code) (xs : List Packet) (n a d : ℕ) → a ≤ n + d → AllByRecursion (λ x. x.weight ≤ most) xs → volume_in k (take a xs) ≤ volume_in k (take n xs) + d * most
volume_more most k xs n zero d le h = omega arith
volume_more most k [] n (suc a) d le h = omega arith
volume_more most k (x ∷ xs) zero (suc a) zero le h = absurd (omega arith)
volume_more most k (x ∷ xs) zero (suc a) (suc d) le h = omega (arith, part_le k x, suc-mul d most, volume_more most k xs 0 a d (omega arith) h.1)
volume_more most k (x ∷ xs) (suc n) (suc a) d le h = omega (arith, volume_more most k xs n a d (omega arith) h.1)

pub volume_less : (k : Code) (xs : List Packet) (n a : ℕ) → n ≤ a → volume_in k (take n xs) ≤ volume_in k (take a xs)
volume_less k xs zero a le = omega arith
volume_less k [] (suc n) a le = omega arith
volume_less k (x ∷ xs) (suc n) zero le = absurd (omega arith)
volume_less k (x ∷ xs) (suc n) (suc a) le = omega (arith, volume_less k xs n a (omega arith))
