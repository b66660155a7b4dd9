-- The first packet of any counter, from the laws alone.
use Rattle.std.proofs.Common.{◌≡◌, ℕ, Bool, true, false, cond, eqb, sym, refl, ap, ◌∙◌, subst, arith}
use Rattle.flow.specs.Answers.{Answer, answered, refused, after}
use Rattle.flow.specs.Limits.{most_places, most_weight, most_packets, outside}
use Rattle.flow.specs.Meanings.{Meaning, Fresh, Opens, Adds, open_answer, open_leaves, add_answer, add_leaves}
use Rattle.flow.specs.declared.code.Code.{Code}
use Rattle.flow.proofs.Inside.{refused_not}
use Rattle.fitting.specs.Firsts.{first_answer, first_leaves}

-- which tests an answered call passed
open_taken : (b d : Bool) → ◌≡◌ {A = Answer (Unit {0})} (answered tt) (cond b (refused 1) (cond d (refused 2) (answered tt))) → (b ≡ false) × (d ≡ false)
open_taken true d e = absurd (refused_not 1 tt (sym e))
open_taken false true e = absurd (refused_not 2 tt (sym e))
open_taken false false e = (refl, refl)

weight_taken : (b d : Bool) (p q : ℕ) → answered p ≡ cond b (refused 3) (cond d (refused 4) (answered q)) → (b ≡ false) × (cond b (refused 3) (cond d (refused 4) (answered q)) ≡ answered q)
weight_taken true d p q e = absurd (refused_not 3 p (sym e))
weight_taken false true p q e = absurd (refused_not 4 p (sym e))
weight_taken false false p q e = (refl, refl)

-- a refused add to a counter with no packets was refused for its weight
weight_refused : (b d : Bool) (n p w : ℕ) → d ≡ false → refused n ≡ cond b (refused 3) (cond d (refused 4) (answered p)) → refused n ≡ cond b (refused 3) (answered w)
weight_refused true d n p w z e = e
weight_refused false true n p w z e = grind arith
weight_refused false false n p w z e = absurd (refused_not n p e)

module _ {C : Type 0} (m : Meaning C) (opens : Opens m) (adds : Adds m) (x y : m.Model) (n s : ℕ) (told : answered tt ≡ open_answer m x n s) (left : y ≡ open_leaves m x n s) where
  opened : Fresh m n s (m.greatest x) y
  opened =
      let e = left ∙ ap (λ (a : Answer (Unit {0})). after a x (m.opened x n s)) (sym told) in
      subst (Fresh m n s (m.greatest x)) (sym e) (opens x n s (sym told))

  both : (outside 1 most_places n ≡ false) × (outside 1 (m.greatest x) s ≡ false)
  both = open_taken (outside 1 most_places n) (outside 1 (m.greatest x) s) told

  first : (w : ℕ) (a : Answer ℕ) → a ≡ cond (outside 1 most_weight w) (refused 3) (answered w) → a ≡ first_answer (m.greatest x) n s w
  first w a e =
      e ∙ sym (ap (λ (d : Bool). cond d (refused 2) (cond (outside 1 most_weight w) (refused 3) (answered w))) both.1) ∙
      sym (ap (λ (b : Bool). cond b (refused 1) (cond (outside 1 (m.greatest x) s) (refused 2) (cond (outside 1 most_weight w) (refused 3) (answered w)))) both.0)

  pub first_taken : (z : m.Model) (k : Code) (w p r : ℕ) → (m.sound y → answered p ≡ add_answer m y k w) → (m.sound y → z ≡ add_leaves m y k w) → r ≡ m.estimate z k →
      answered r ≡ first_answer (m.greatest x) n s w
  first_taken z k w p r h g e =
      let ok = opened.is_sound in
      let t = weight_taken (outside 1 most_weight w) (eqb (m.packets y) most_packets) p (m.passes y k w) (h ok) in
      let grown = (adds y k w ok t.1).0 in
      let at = g ok ∙ ap (λ (a : Answer ℕ). after a y (m.added y k w)) t.1 in
      let r-is : r ≡ w = omega (arith, e, ap (λ (v : m.Model). m.estimate v k) at, grown.own, opened.estimates_are k) in
      first w (answered r) (ap {B = Answer ℕ} answered r-is ∙ sym (ap (λ (b : Bool). cond b (refused 3) (answered w)) t.0))

  pub first_refused : (k : Code) (w c : ℕ) → (m.sound y → refused c ≡ add_answer m y k w) → refused c ≡ first_answer (m.greatest x) n s w
  first_refused k w c h =
      let none : eqb (m.packets y) most_packets ≡ false = ap (λ (t : ℕ). eqb t most_packets) opened.packets_is in
      first w (refused c) (weight_refused (outside 1 most_weight w) (eqb (m.packets y) most_packets) c (m.passes y k w) w none (h opened.is_sound))

  pub first_left : (z : m.Model) (k : Code) (w : ℕ) → (m.sound y → z ≡ add_leaves m y k w) → z ≡ first_leaves m x n s k w
  first_left z k w g =
      g opened.is_sound ∙ ap (λ (v : m.Model). add_leaves m v k w) left ∙ ap (λ (a : Answer (Unit {0})). after a x (add_leaves m (open_leaves m x n s) k w)) told
