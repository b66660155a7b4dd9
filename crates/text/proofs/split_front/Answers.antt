use Rattle.std.proofs.Common.{◌≡◌, ◌∙◌, ℕ, rules, ap, length, take, drop}
use borrow.Author.Tests.{tests}
use Rattle.std.proofs.lemmas.List.Folds.{length-prefix_len}
use Rattle.std.proofs.lemmas.Iterator.{YieldsList-from_slice}
use Rattle.std.proofs.lemmas.Iterator.Search.{YieldsList-from_take_while}
use Rattle.std.proofs.lemmas.Iterator.Consumers.{count_from_yields_List}
use Rattle.text.specs.Reading.{front}
use Rattle.text.proofs.split_front.Goals as goal

pub returns : goal.returns
returns g c = λ test tells.
    let bs = c.args.text.now in
    let counted : c.count-length.result ≡ length (take (front test bs) bs) =
    count_from_yields_List c.take_while.result _ c.count-length.ensures.ran
    (YieldsList-from_take_while _ test (YieldsList-from_slice bs cc) c.take_while.ensures.closure c.take_while.ensures.done (λ x b q k. search (rules, tests))) in
    let n : c.count-length.result ≡ front test bs = counted ∙ length-prefix_len test bs in
    (c.split_at.ensures.front ∙ ap (λ (k : ℕ). take k bs) n, c.split_at.ensures.back ∙ ap (λ (k : ℕ). drop k bs) n)
