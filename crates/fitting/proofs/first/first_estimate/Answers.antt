use Rattle.std.proofs.lemmas.Result.{err_from_is_err_and}
use Rattle.fitting.proofs.Firsts.{first_taken, first_refused, first_left}
use Rattle.fitting.proofs.first.first_estimate.Goals as goal

pub returns : goal.returns
returns g c =
    let m = g.C.FrameCounter.meaning in
    let opened = c.in_ok-prepare.ensures in
    let added = c.in_ok-add.ensures in
    let met = g.met.C.FrameCounter in
    record {
      answer = first_taken m met.opens met.adds (m.model c.args.counter.now) (m.model c.prepare.new.counter) c.args.places c.args.step opened.answer opened.state
          (m.model c.add.new.self) c.args.code c.args.weight _ c.estimate.result added.answer added.state c.estimate.ensures;
      state = first_left m met.opens met.adds (m.model c.args.counter.now) (m.model c.prepare.new.counter) c.args.places c.args.step opened.answer opened.state
          (m.model c.add.new.self) c.args.code c.args.weight added.state;
    }

pub returns-in_err-add : goal.returns-in_err-add
returns-in_err-add g c =
    let m = g.C.FrameCounter.meaning in
    let opened = c.in_ok-prepare.ensures in
    let refusal = err_from_is_err_and c.from_residual-in_err-add.result c.from_residual-in_err-add.ensures.1 in
    let met = g.met.C.FrameCounter in
    record {
      answer = rw (refusal.1, refusal.2)
          (first_refused m met.opens met.adds (m.model c.args.counter.now) (m.model c.prepare.new.counter) c.args.places c.args.step opened.answer opened.state
          c.args.code c.args.weight _ c.in_err-add.ensures.answer);
      state = first_left m met.opens met.adds (m.model c.args.counter.now) (m.model c.prepare.new.counter) c.args.places c.args.step opened.answer opened.state
          (m.model c.add.new.self) c.args.code c.args.weight c.in_err-add.ensures.state;
    }
