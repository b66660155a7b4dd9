-- What an accepted plan keeps bounds the block and the unit.
use Rattle.std.proofs.Common.{◌≡◌, ◌*◌, ◌/◌, sym, refl, mul-le-mul, arith}
use Rattle.frame.specs.Plans.{block_of, unit_of}
use Rattle.frame.proofs.Accepting.{fair}
use Rattle.frame.proofs.Dividing.{unit_small}
use Rattle.frame.proofs.layout.Layout.of.Goals as goal

pub invariant_of-result : goal.invariant_of-result
unfolding block_of unit_of
invariant_of-result c =
    let p = c.args.plan in
    let kept = fair c.args.greatest_step p (sym c.in_ok-check.ensures) in
    let unit : c.from.result * c.from-2.result ≡ p.most * (p.window / p.blocks) = λ i. c.from.ensures i * c.from-2.ensures i in
    record {
      block_is = refl;
      unit_is = unit;
      some = kept.some;
      counts = omega (arith, unit, mul-le-mul kept.weigh kept.some);
      small = omega (arith, unit, unit_small p.most p.window p.blocks kept.light kept.narrow);
      wide = kept.wide;
      light = kept.light;
    }
