use Rattle.std.proofs.Common.{◌-◌, ◌^◌, ◌<◌, arith, rules}
use Rattle.std.proofs.lemmas.Nat.{pow_below}
use Rattle.flow.proofs.prefix.ends_in_zeros.Goals as goal

pub returns : goal.returns
returns c = let small : 2 ^ (32 - c.args.len) < 2 ^ 64 = pow_below (32 - c.args.len) 64 (omega arith) in search rules
