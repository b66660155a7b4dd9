-- What an accepted plan keeps.
use Rattle.std.proofs.Common.{◌≡◌, ℕ, ◌+◌, ◌-◌, ◌*◌, ◌%◌, Bool, true, false, cond, not, ◌||◌, eqb, leb, refl, arith}
use Rattle.std.proofs.lemmas.Bool.{leb-false}
use Rattle.std.proofs.lemmas.Bool.Decides.{nat_tests}
use Rattle.flow.specs.Answers.{Answer, answered, refused}
use Rattle.flow.specs.Limits.{most_places, most_weight, most_window, outside}
use Rattle.flow.proofs.Inside.{inside}
use Rattle.frame.specs.declared.plan.Plan.{Plan}
use Rattle.frame.specs.Plans.{Fair, block_of, judged}
use Rattle.frame.proofs.Dividing.{divides, block_some}

-- a check that an answered call passed
past : (b : Bool) (n : ℕ) (rest : Answer (Unit {0})) → cond b (refused n) rest ≡ answered tt → (b ≡ false) × (rest ≡ answered tt)
past true n rest e = cc
past false n rest e = (refl, e)

even : (k w : ℕ) → (eqb k 0 || not (eqb (w % k) 0)) ≡ false → (k ≡ 0 → ⊥) × (w % k ≡ 0)
even k w h = (λ e. grind (arith, nat_tests), grind (arith, nat_tests))

-- the checks of an accepted plan, one after the other
pub record Passed (g : ℕ) (p : Plan) : Type 0 where
  pub places : outside 1 most_places p.places ≡ false
  pub step : outside 1 g p.step ≡ false
  pub most : outside 1 most_weight p.most ≡ false
  pub window : outside 1 most_window p.window ≡ false
  pub blocks : (eqb p.blocks 0 || not (eqb (p.window % p.blocks) 0)) ≡ false
  pub enough : leb (p.places * p.most) (p.blocks * (p.most + (p.step - 1))) ≡ false

pub passed : (g : ℕ) (p : Plan) → judged g p ≡ answered tt → Passed g p
passed g p taken =
    let one = past (outside 1 most_places p.places) 1 _ taken in
    let two = past (outside 1 g p.step) 2 _ one.1 in
    let five = past (outside 1 most_weight p.most) 5 _ two.1 in
    let six = past (outside 1 most_window p.window) 6 _ five.1 in
    let seven = past (eqb p.blocks 0 || not (eqb (p.window % p.blocks) 0)) 7 _ six.1 in
    let eight = past (leb (p.places * p.most) (p.blocks * (p.most + (p.step - 1)))) 8 _ seven.1 in
    record { places = one.0; step = two.0; most = five.0; window = six.0; blocks = seven.0; enough = eight.0 }

pub fair : (g : ℕ) (p : Plan) → judged g p ≡ answered tt → Fair p
unfolding block_of
fair g p taken =
    let all = passed g p taken in
    let n = inside 1 most_places p.places all.places in
    let m = inside 1 most_weight p.most all.most in
    let w = inside 1 most_window p.window all.window in
    let d = even p.blocks p.window all.blocks in
    record {
      stands = n.0;
      few = n.1;
      weigh = m.0;
      light = m.1;
      wide = w.0;
      narrow = w.1;
      some = block_some p.window p.blocks w.0 d.1;
      divides = divides p.window p.blocks w.0 d.1;
      budget = leb-false (p.places * p.most) (p.blocks * (p.most + (p.step - 1))) all.enough;
    }
