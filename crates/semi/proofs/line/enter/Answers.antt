use Rattle.std.proofs.Common.{◌≡◌, ℕ, Bool, leb, length, sym, ap, ◌∙◌, subst}
use Rattle.std.specs.List.{prefix_len}
use Rattle.semi.proofs.Places.{Parts, parts_front, placed_at}
use Rattle.semi.proofs.Steps.{at_least_zero, lent}
use Rattle.semi.specs.declared.entry.Entry.{Entry}
use Rattle.semi.proofs.line.enter.Goals as goal

pub climb-way-requires : goal.climb-way-requires
climb-way-requires c = rw c.as_slice.ensures.value (c.requires.order, at_least_zero c.args.entries.now.items)

pub returns-clause-items : goal.returns-clause-items
returns-clause-items c =
    let xs = c.args.entries.now.items in
    let g = c.args.new.group in
    let p : Entry → Bool = λ e. leb e.group g in
    let at : c.climb-way.result.entries ≡ prefix_len p xs = c.climb-way.ensures.entries ∙ ap (prefix_len p) c.as_slice.ensures.value in
    let parts : Parts g c.climb-way.result.entries xs = subst (λ (i : ℕ). Parts g i xs) (sym at) (parts_front g xs c.requires.order) in
    lent c.push.new.self.items c.wedge.new.line (c.wedge.auto.line ∙ ap length c.deref_mut.ensures.value) ∙
    c.wedge.ensures xs c.args.new (c.deref_mut.ensures.value ∙ c.push.ensures.items) ∙ sym (placed_at c.args.new xs c.climb-way.result.entries parts)
