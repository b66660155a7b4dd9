use Rattle.std.proofs.Common.{ℕ, ◌+◌, length, sym, ap, ◌∙◌, arith}
use Rattle.flow.specs.Answers.{Answer, answered}
use Rattle.flow.proofs.Tallies.{add_taken}
use Rattle.fitting.specs.Entries.{taker, total, apart}
use Rattle.fitting.specs.Adds.{taker_within, length-added, total-added, apart-added}
use Rattle.fitting.specs.SpaceSaving.{space_meaning}
use Rattle.fitting.proofs.Steps.{added_back, add_left}
use Rattle.fitting.proofs.space_saving.calls.SpaceSavingFrameCounter.add.Goals as goal

pub overflow_add-result : goal.overflow_add-result
overflow_add-result c =
    let x = c.args.self.now in
    let at = c.add-at.ensures.place ∙ ap (taker c.args.code) c.as_mut_slice.ensures.value in
    omega (arith, at, taker_within x.entries.items c.args.code x.some, c.as_mut_slice.ensures.fits, ap length c.as_mut_slice.ensures.value)

pub invariant_of-self : goal.invariant_of-self
invariant_of-self c =
    let x = c.args.self.now in
    let e = added_back x.entries.items _ _ c.args.code c.args.weight _ x.some c.from.ensures c.as_mut_slice.ensures.value c.add-at.ensures.entries in
    record {
      some = omega (arith, x.some, ap length e, length-added x.entries.items c.args.code c.args.weight x.some);
      distinct = ap apart e ∙ apart-added x.entries.items c.args.code c.args.weight x.some x.distinct;
      whole = omega (arith, c.in_ok-tally.ensures, x.whole, ap total e, total-added x.entries.items c.args.code c.args.weight x.some);
    }

pub returns : goal.returns
returns c =
    let x = c.args.self.now in
    let m = space_meaning.model x in
    let taken = c.in_ok-tally.ensures in
    let e = added_back x.entries.items _ _ c.args.code c.args.weight _ x.some c.from.ensures c.as_mut_slice.ensures.value c.add-at.ensures.entries in
    let at = c.add-at.ensures.place ∙ ap (taker c.args.code) c.as_mut_slice.ensures.value in
    record {
      answer = ap {B = Answer ℕ} (λ i. answered (i + 1)) at ∙ sym (add_taken space_meaning m c.args.code c.args.weight taken.0);
      state = add_left m c.args.code c.args.weight taken.0 _ _ taken.1 e;
      unchanged = tt;
    }
