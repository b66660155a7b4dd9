-- The mark's flow is put last, unless it is there.
use Rattle.std.proofs.Common.{◌≡◌, ◌+◌, Bool, cond, [], ◌∷◌, ◌++◌, length, get_or, take, sym, ap, ◌∙◌, append-nil, arith}
use Rattle.std.specs.List.{list_any}
use Rattle.flow.specs.Codes.{same}
use Rattle.flow.specs.declared.code.Code.{Code}
use Rattle.frame.specs.declared.marks.Mark.{Mark}
use Rattle.frame.specs.Marking.{flows}
use Rattle.frame.proofs.Flows.{flows_seen}
use Rattle.frame.proofs.marks.Marks.flows.Goals as goal
use Rattle.frame.proofs.marks.Marks.flows.Goals.{then-not-contains, else-not-contains}

pub loop-mark-preserved : goal.loop-mark-preserved
loop-mark-preserved c =
    let ms = c.deref-mark-items.result.now in
    let i = c.loop-mark.mark-index in
    let inv = c.loop-mark.invariant in
    let blank : Mark = record { code = record { high = 0; low = 0 }; offset = 0 } in
    let k = (get_or ms i blank).code in
    let step : c.loop-mark.flows.items ++ cond c.contains.result [] (k ∷ []) ≡ flows (take (i + 1) ms) = flows_seen ms i blank c.loop-mark.flows.items c.contains.result inv.named (omega arith) (c.contains.ensures.value ∙ ap (list_any (λ (j : Code). same j k)) c.deref.ensures.0) in
    elim c.if-not-contains.branch [
      | then-not-contains w ↦ record {
        named = ap (λ v. v.items) w.flows-is ∙ w.push.ensures.items ∙ ap (λ (b : Bool). c.loop-mark.flows.items ++ cond b [] (k ∷ [])) (sym w.if-not-contains.true) ∙ step;
        few = omega (arith, ap (λ v. length v.items) w.flows-is, w.push.ensures.len);
      }
      | else-not-contains w ↦ record {
        named = ap (λ v. v.items) w.flows-is ∙ sym (append-nil c.loop-mark.flows.items) ∙ ap (λ (b : Bool). c.loop-mark.flows.items ++ cond b [] (k ∷ [])) (sym w.if-not-contains.false) ∙ step;
        few = omega (arith, ap (λ v. length v.items) w.flows-is);
      }
    ]
