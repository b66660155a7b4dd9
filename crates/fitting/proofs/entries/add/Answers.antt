use Rattle.std.proofs.Common.{◌+◌, get_or, set, sym, ap, ◌∙◌, arith}
use Rattle.fitting.specs.Entries.{vacant}
use Rattle.fitting.specs.Adds.{taker_within}
use Rattle.fitting.proofs.Searches.{count_at_within, added_at}
use Rattle.fitting.proofs.entries.add.Goals as goal

pub offset_bounds-entries-at : goal.offset_bounds-entries-at
offset_bounds-entries-at c = omega (arith, c.taker-at.ensures, taker_within c.args.entries.now c.args.code c.requires.some, c.requires.few)

pub slice_copy_out-credited : goal.slice_copy_out-credited
slice_copy_out-credited c = omega (arith, c.taker-at.ensures, taker_within c.args.entries.now c.args.code c.requires.some)

pub credited-requires : goal.credited-requires
credited-requires c = omega (arith, count_at_within c.args.entries.now c.taker-at.result, c.requires.whole, c.requires.fits)

pub offset_bounds-entries-at-2 : goal.offset_bounds-entries-at-2
offset_bounds-entries-at-2 c = omega (arith, c.taker-at.ensures, taker_within c.args.entries.now c.args.code c.requires.some, c.requires.few)

pub bounds-entries-at : goal.bounds-entries-at
bounds-entries-at c = omega (arith, c.taker-at.ensures, taker_within c.args.entries.now c.args.code c.requires.some)

pub returns-clause-entries : goal.returns-clause-entries
returns-clause-entries c =
    let es = c.args.entries.now in
    let place = c.taker-at.ensures in
    ap (set es c.taker-at.result) c.credited.ensures ∙
    (λ i. set es (place i) (record { code = c.args.code; count = (get_or es (place i) vacant).count + c.args.weight })) ∙
    sym (added_at es c.args.code c.requires.some c.args.weight)
