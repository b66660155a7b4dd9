use Rattle.std.proofs.Common.{◌≡◌, ℕ, ◌+◌, ◌*◌, rules, sym, refl, ap, ◌∙◌, arith}
use Rattle.std.specs.List.{refill}
use Rattle.std.specs.Option.{option_map_or}
use Rattle.arrayvec.specs.ArrayVec.{array_vec_len}
use Rattle.flow.specs.Answers.{Answer, answered}
use Rattle.shared.specs.Places.{counted, tidy}
use Rattle.shared.specs.Shared.{SharedSound, shared_more, shared_meaning}
use Rattle.shared.specs.Laws.{more_sound, estimate_within, answer_taken, more_left}
use Rattle.shared.proofs.Steps.{sound, admitted_parts, stepped}
use Rattle.shared.proofs.counter.calls.SharedDeductionFrameCounter.add.Goals as goal

-- the counter is sound after the add
still : (c : goal.After-unwrap_or) → SharedSound (shared_more (shared_meaning.model c.args.self.now) c.args.code c.args.weight)
still c =
    let x = c.args.self.now in
    let taken = admitted_parts x.tally.packets c.args.weight c.in_ok-tally.ensures.0 in
    more_sound (shared_meaning.model x) c.args.code c.args.weight (sound x) taken.0 (omega (arith, x.tally.few, taken.2))

pub overflow_add-self : goal.overflow_add-self
overflow_add-self c =
    let s = stepped c.args.self.now c.args.code c.args.weight _ _ _ _ c.from.ensures c.as_mut_slice.ensures.value c.add-shared.ensures.places c.add-shared.ensures.rise in
    let y = shared_more (shared_meaning.model c.args.self.now) c.args.code c.args.weight in
    omega (arith, c.unwrap_or.ensures, s.rise_is, estimate_within c.args.code y.held y.places y.volume y.deduction (still c).sum, c.in_ok-tally.ensures, c.in_ok-tally.tally.few, c.in_ok-tally.tally.light)

pub invariant_of-self : goal.invariant_of-self
invariant_of-self c =
    let x = c.args.self.now in
    let s = stepped c.args.self.now c.args.code c.args.weight _ _ _ _ c.from.ensures c.as_mut_slice.ensures.value c.add-shared.ensures.places c.add-shared.ensures.rise in
    let rise = c.unwrap_or.ensures ∙ s.rise_is in
    record {
      some = omega (arith, s.long, x.some);
      most = omega (arith, s.long, x.most);
      order = ap tidy s.held_are ∙ (still c).tidily;
      sum = c.in_ok-tally.ensures.2 ∙ (still c).sum ∙ sym (λ i. counted (s.held_are i) + (s.long i + 1) * (x.deduction + rise i));
    }

pub returns : goal.returns
returns c =
    let x = shared_meaning.model c.args.self.now in
    let k = c.args.code in
    let w = c.args.weight in
    let s = stepped c.args.self.now c.args.code c.args.weight _ _ _ _ c.from.ensures c.as_mut_slice.ensures.value c.add-shared.ensures.places c.add-shared.ensures.rise in
    let told = c.in_ok-tally.ensures in
    let taken = admitted_parts x.packets c.args.weight told.0 in
    let passes : c.map_or.result ≡ option_map_or (λ _. c.len-places.result) c.add-shared.result 0 = search rules in
    let all = passes ∙ ap (λ (n : ℕ). option_map_or (λ _. n) c.add-shared.result 0) (c.len-places.ensures.value ∙ s.long) ∙ s.passes_are in
    record {
      answer = ap {B = Answer ℕ} answered all ∙ sym (answer_taken x k w taken.0 taken.1 taken.2);
      state = (λ i. record { places = s.long i; packets = told.1 i; volume = told.2 i; deduction = x.deduction + c.unwrap_or.result; held = refill (array_vec_len c.args.self.now.places) c.args.self.now.places.items c.add-shared.new.places }) ∙
          more_left x k w taken.0 taken.1 taken.2 w c.unwrap_or.result _ refl (c.unwrap_or.ensures ∙ s.rise_is) s.held_are;
      unchanged = tt;
    }
