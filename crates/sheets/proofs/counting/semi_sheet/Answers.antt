use mathlib.Core.Path.{◌≡◌, ap, ◌∙◌}
use Rattle.flow.specs.Meanings.{open_leaves, add_leaves}
use Rattle.semi.specs.Semi.{SemiModel, semi_meaning}
use Rattle.sheets.specs.CounterSheets.{A, B, C, E}
use Rattle.sheets.proofs.counting.semi_sheet.Goals as goal

pub returns : goal.returns
returns c =
    let opened = c.open.ensures.state ∙ ap (λ (x : SemiModel). open_leaves semi_meaning x 2 10) c.new-counter.ensures.opened in
    let one = c.add.ensures.state ∙ ap (λ (x : SemiModel). add_leaves semi_meaning x A 7) opened in
    let first = c.add-2.ensures.state ∙ ap (λ (x : SemiModel). add_leaves semi_meaning x B 25) one in
    let second = c.add-3.ensures.state ∙ ap (λ (x : SemiModel). add_leaves semi_meaning x C 3) first in
    let third = c.add_last.ensures ∙ ap (λ (x : SemiModel). add_leaves semi_meaning x C 30) second in
    let a : c.estimate-first_a.result ≡ 7 = c.estimate-first_a.ensures ∙ ap (λ (x : SemiModel). semi_meaning.estimate x A) first in
    let b : c.estimate-first_b.result ≡ 25 = c.estimate-first_b.ensures ∙ ap (λ (x : SemiModel). semi_meaning.estimate x B) first in
    let absent : c.estimate-first_absent.result ≡ 9 = c.estimate-first_absent.ensures ∙ ap (λ (x : SemiModel). semi_meaning.estimate x E) first in
    let d : c.estimate-second_c.result ≡ 12 = c.estimate-second_c.ensures ∙ ap (λ (x : SemiModel). semi_meaning.estimate x C) second in
    let evicted : c.estimate-second_a.result ≡ 19 = c.estimate-second_a.ensures ∙ ap (λ (x : SemiModel). semi_meaning.estimate x A) second in
    let last : c.estimate.result ≡ 42 = c.estimate.ensures ∙ ap (λ (x : SemiModel). semi_meaning.estimate x C) third in
    cc
