use Rattle.std.proofs.Common.{◌≡◌, ℕ, ◌+◌, ◌-◌, ◌^◌, ◌<◌, min, Bool, List, [], ◌∷◌, Option, ap, ◌∙◌, arith}
use Rattle.std.specs.Option.{unwrap_or}
use Rattle.std.specs.Map.{lookup}
use Rattle.indexmap.specs.IndexMap.{insert_entry}
use Rattle.flow.specs.Codes.{same}
use Rattle.flow.proofs.Codes.{same_true, same_sym}
use Rattle.flow.specs.declared.code.Code.{Code}
use Rattle.workings.specs.Volumes.{tallied}
use Rattle.workings.proofs.totals.Totals.add.Goals as goal

-- what an insert of the sum leaves, where the map's test of two codes answers as `same`
module _ (test : Code → Code → Bool) (tells : (a b : Code) → test a b ≡ same b a) (k : Code) (w : ℕ) (fits : w < 2 ^ 64) where
  added : (ts : List (Code × ℕ)) → insert_entry test ts k (min (unwrap_or (lookup (test k) ts) 0 + w) (2 ^ 64 - 1)) ≡ tallied k w ts
  added [] = ap (λ (n : ℕ). (k, n) ∷ []) (omega arith)
  added (t ∷ ts) = grind (arith, tells k t.0, same_true t.0 k, added ts)

pub returns-clause-counted : goal.returns-clause-counted
returns-clause-counted c =
    let ts = c.args.self.now.flows.entries in
    let test = (Rattle.flow.specs.contracts.code.CodePartialEq.TheImpl.eq-value).it in
    let v : c.unwrap_or-volume.result ≡ unwrap_or (lookup (test c.args.packet.code) ts) 0 =
    c.unwrap_or-volume.ensures ∙ ap (λ (o : Option ℕ). unwrap_or o 0) (c.copied.ensures ∙ c.get.ensures.value) in
    let n : c.saturating_add.result ≡ min (unwrap_or (lookup (test c.args.packet.code) ts) 0 + c.args.packet.weight) (2 ^ 64 - 1) = omega (arith, v, c.from.ensures, c.saturating_add.ensures) in
    c.in_ok-insert.ensures.entries ∙ ap (insert_entry test ts c.args.packet.code) n ∙ added test (λ a b. same_sym a b) c.args.packet.code c.args.packet.weight (omega arith) ts
