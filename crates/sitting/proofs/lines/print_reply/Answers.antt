-- A list has at most 510 flows.
use Rattle.std.proofs.Common.{◌≡◌, [], ◌∷◌, ◌++◌, length, take, sym, subst, arith, length-take, length-take-le}
use Rattle.std.specs.Prelude.{codes}
use Rattle.sitting.specs.declared.reply.Reply.TheVariants.{Listed, Tried}
use Rattle.sitting.specs.Lines.{line, flow_lines, ListStands, over}
use Rattle.sitting.proofs.Lengths.{line_lengths}
use Rattle.sitting.proofs.lines.print_reply.Goals as goal

pub print_list-requires : goal.print_list-requires
print_list-requires c =
    let stands : ListStands (Listed c.in-Listed.count) (length c.args.table.now) = rw c.in-Listed.is at c.requires.list in
    grind (arith, line_lengths, length-take, stands.0)

pub print_list-requires-in-Tried : goal.print_list-requires-in-Tried
print_list-requires-in-Tried c =
    let stands : ListStands (Tried c.in-Tried.level c.in-Tried.count) (length c.args.table.now) = rw c.in-Tried.is at c.requires.list in
    grind (arith, line_lengths, length-take, stands.0)

pub returns-in-Tried-clause-text : goal.returns-in-Tried-clause-text
returns-in-Tried-clause-text c =
    let n = c.in-Tried.count in
    let level = c.in-Tried.level in
    let table = c.args.table.now in
    let stands : ListStands (Tried level n) (length table) = rw c.in-Tried.is at c.requires.list in
    let all : length (take n table) ≡ n = length-take-le n table stands.1 in
    rw c.in-Tried.is
    (subst (λ m. c.print_list-in-Tried.new.text ≡ over (line (codes "trial") (level ∷ m ∷ []) ++ flow_lines (take n table)) c.args.text.now)
    (sym all) c.print_list-in-Tried.ensures.text)
