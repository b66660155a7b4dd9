use Rattle.std.proofs.Common.{leb, length, sym, inl, inr, subst, below_more, arith}
use Rattle.semi.proofs.Turns.{Counted, counted_none, counted_pass, counted_stop}
use Rattle.semi.specs.Line.{between, blank}
use Rattle.semi.specs.declared.entry.Entry.{Entry}
use Rattle.std.proofs.lemmas.Bool.{le-leb, lt-leb}
use Rattle.std.proofs.lemmas.List.{drop_more}
use Rattle.std.proofs.lemmas.List.Sums.{prefix_len_is}
use Rattle.semi.proofs.line.climb.Goals as goal
use Rattle.semi.proofs.line.climb.Goals.{then-last-entry+then-entry-to-2, else-last-entry, else-last-entry-via-then-last-entry+else-entry-to-2, else-last-entry-via-else-last-entry}

pub returns-then-entry-to-clause-entries : goal.returns-then-entry-to-clause-entries
returns-then-entry-to-clause-entries c =
    sym (prefix_len_is (λ (e : Entry). leb e.group c.args.to) c.args.later.now c.loop-entries.entries blank (omega arith) c.loop-entries.invariant.behind (λ _. lt-leb _ _ c.if-entry-to.true))

pub returns-then-entry-to-clause-passes : goal.returns-then-entry-to-clause-passes
returns-then-entry-to-clause-passes c =
    let xs = c.args.later.now in
    let i = c.loop-entries.entries in
    let s = subst (Counted c.args.to (between c.args.from c.args.to xs) c.loop-entries.last c.loop-entries.passes) (drop_more xs i blank c.loop-entries-test.true) c.loop-entries.invariant.sofar in
    counted_stop _ _ _ _ _ _ s c.if-entry-to.true

pub loop-entries-preserved : goal.loop-entries-preserved
loop-entries-preserved c =
    let xs = c.args.later.now in
    let i = c.loop-entries.entries in
    let behind = below_more _ _ c.loop-entries.invariant.behind (le-leb _ _ c.if-entry-to.false) in
    let s = subst (Counted c.args.to (between c.args.from c.args.to xs) c.loop-entries.last c.loop-entries.passes) (drop_more xs i blank c.loop-entries-test.true) c.loop-entries.invariant.sofar in
    elim c.if-last-entry.branch [
      | then-last-entry+then-entry-to-2 w ↦
          rw (w.last-is, w.passes-is) (record { few = omega arith; behind = behind; sofar = counted_pass _ _ _ _ _ _ s w.if-last-entry.true w.if-entry-to-2.true })
      | else-last-entry w ↦
          rw (w.last-is, w.passes-is) (record {
            few = omega arith;
            behind = behind;
            sofar = counted_none _ _ _ _ _ _ s (elim w.else-last-entry.branch [
              | else-last-entry-via-then-last-entry+else-entry-to-2 w' ↦ inr w'.if-entry-to-2.false
              | else-last-entry-via-else-last-entry w' ↦ inl w'.if-last-entry.false
            ]);
          })
    ]

pub returns-clause-entries : goal.returns-clause-entries
returns-clause-entries c =
    let xs = c.args.later.now in
    sym (prefix_len_is (λ (e : Entry). leb e.group c.args.to) xs (length xs) blank (omega arith) (λ k h. c.loop-entries.invariant.behind k (omega arith)) (λ h. absurd (omega arith)))
