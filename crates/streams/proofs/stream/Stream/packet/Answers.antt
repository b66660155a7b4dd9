use Rattle.std.proofs.Common.{arith, ◌≡◌, ◌^◌, ℕ, ◌+◌, ◌*◌, ◌%◌, sym, ap, ◌∙◌}
use Rattle.std.proofs.Math.Nat.{add-mod}
use Rattle.std.proofs.lemmas.Nat.{mul-mod_first}
use Rattle.streams.specs.Draws.{rise, state_after}
use Rattle.streams.proofs.stream.Stream.packet.Goals as goal

-- a count of draws may wrap: the state after it is the same
wraps : (seed draws : ℕ) → state_after seed (draws % 2 ^ 64) ≡ state_after seed draws
wraps seed draws =
    add-mod seed (draws % 2 ^ 64 * rise) (2 ^ 64) ∙
    ap (λ (x : ℕ). (seed % 2 ^ 64 + x) % 2 ^ 64) (mul-mod_first draws rise (2 ^ 64)) ∙
    sym (add-mod seed (draws * rise) (2 ^ 64))

pub returns : goal.returns
returns c =
    let start : c.after-generator.result.state ≡ state_after c.args.self.now.seed (c.args.index * 3) = c.after-generator.ensures ∙ wraps c.args.self.now.seed (c.args.index * 3) in
    grind (arith, start)
