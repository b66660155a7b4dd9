use mathlib.Core.Path.{◌≡◌, ap, ◌∙◌}
use Rattle.flow.specs.Meanings.{open_leaves, add_leaves}
use Rattle.shared.specs.Shared.{SharedModel, shared_meaning}
use Rattle.sheets.specs.CounterSheets.{A, B, C, E}
use Rattle.sheets.proofs.counting.shared_sheet.Goals as goal

pub returns : goal.returns
returns c =
    let opened = c.open.ensures.state ∙ ap (λ (x : SharedModel). open_leaves shared_meaning x 2 1) c.new-counter.ensures.opened in
    let one = c.add.ensures.state ∙ ap (λ (x : SharedModel). add_leaves shared_meaning x A 5) opened in
    let two = c.add-2.ensures.state ∙ ap (λ (x : SharedModel). add_leaves shared_meaning x B 3) one in
    let first = c.add-3.ensures.state ∙ ap (λ (x : SharedModel). add_leaves shared_meaning x C 4) two in
    let second = c.add-4.ensures.state ∙ ap (λ (x : SharedModel). add_leaves shared_meaning x E 1) first in
    let d : c.deduction-first_deduction.result ≡ 3 = c.deduction-first_deduction.ensures ∙ ap (λ (x : SharedModel). x.deduction) first in
    let a : c.estimate-first_a.result ≡ 5 = c.estimate-first_a.ensures ∙ ap (λ (x : SharedModel). shared_meaning.estimate x A) first in
    let b : c.estimate-first_b.result ≡ 3 = c.estimate-first_b.ensures ∙ ap (λ (x : SharedModel). shared_meaning.estimate x B) first in
    let e : c.estimate-first_c.result ≡ 4 = c.estimate-first_c.ensures ∙ ap (λ (x : SharedModel). shared_meaning.estimate x C) first in
    let d' : c.deduction.result ≡ 4 = c.deduction.ensures ∙ ap (λ (x : SharedModel). x.deduction) second in
    let a' : c.estimate.result ≡ 5 = c.estimate.ensures ∙ ap (λ (x : SharedModel). shared_meaning.estimate x A) second in
    let b' : c.estimate-2.result ≡ 4 = c.estimate-2.ensures ∙ ap (λ (x : SharedModel). shared_meaning.estimate x B) second in
    cc
