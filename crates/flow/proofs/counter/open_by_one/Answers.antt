use Rattle.std.proofs.Common.{◌≡◌, ◌≤◌, ◌∙◌, false, cond, ap, arith}
use Rattle.std.proofs.lemmas.Bool.Decides.{nat_tests}
use Rattle.flow.specs.Answers.{answered, refused}
use Rattle.flow.specs.Limits.{most_places, outside}
use Rattle.flow.proofs.counter.open_by_one.Goals as goal

pub returns : goal.returns
returns g c =
    let m = g.C.FrameCounter.meaning in
    let x = m.model c.args.counter.now in
    let within = g.met.C.FrameCounter.steps x in
    let least : 1 ≤ m.greatest x = within.0 in
    let takes : outside 1 (m.greatest x) 1 ≡ false = grind (arith, nat_tests) in
    record {
      answer = c.open.ensures.answer ∙ ap (λ b. cond (outside 1 most_places c.args.places) (refused 1) (cond b (refused 2) (answered tt))) takes;
      state = c.open.ensures.state;
      unchanged = c.open.ensures.unchanged;
      no_kind_takes_more = within.1;
    }
