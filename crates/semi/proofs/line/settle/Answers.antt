use Rattle.std.proofs.Common.{◌≡◌, ℕ, Bool, leb, List, length, get_or, sym, ap, ◌∙◌, subst, arith}
use Rattle.semi.proofs.Places.{Parts, later_is, parts_front, rising_later, settled}
use Rattle.semi.proofs.Steps.{first_group-drop}
use Rattle.semi.specs.Groups.{rising_rest}
use Rattle.semi.specs.Line.{AtLeast, Rising, between, blank, rest}
use Rattle.semi.specs.declared.entry.Entry.{Entry}
use Rattle.std.specs.List.{prefix_len}
use Rattle.semi.proofs.line.settle.Goals as goal

pub climb-way-requires : goal.climb-way-requires
climb-way-requires c =
    let xs = c.args.line.now in
    subst (λ (ys : List Entry). Rising ys × AtLeast (get_or xs 0 blank).group ys) (sym (later_is xs)) (rising_later xs c.requires.some c.requires.order)

pub returns-clause-line : goal.returns-clause-line
returns-clause-line c =
    let xs = c.args.line.now in
    let g = c.args.new.group in
    let p : Entry → Bool = λ e. leb e.group g in
    let at : c.climb-way.result.entries ≡ prefix_len p (rest xs) = c.climb-way.ensures.entries ∙ ap (prefix_len p) (later_is xs) in
    let parts : Parts g c.climb-way.result.entries (rest xs) = subst (λ (i : ℕ). Parts g i (rest xs)) (sym at) (parts_front g (rest xs) (rising_rest xs c.requires.order)) in
    settled xs c.args.new c.climb-way.result.entries c.copy_within.new.self c.requires.some (omega (arith, c.climb-way.ensures.within, ap length (later_is xs))) parts c.copy_within.ensures.after

pub returns-clause-passes : goal.returns-clause-passes
returns-clause-passes c =
    let xs = c.args.line.now in
    c.climb-way.ensures.passes ∙ ap (between (get_or xs 0 blank).group c.args.new.group) (later_is xs) ∙
    ap (λ (g : ℕ). between g c.args.new.group (rest xs)) (sym (first_group-drop xs 0))
