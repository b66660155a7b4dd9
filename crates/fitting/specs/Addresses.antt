-- IPv6 addresses as flow keys. Assumes nothing.
--   ipv6_coded     the code of an address: its first eight bytes and its last eight, each as a number
--   ipv6_spelled   sixteen bytes, whatever they are
use Rattle.std.specs.Prelude.{ℕ, cond, List, length, Some, None, Option, ◌==◌}
use Rattle.flow.specs.declared.code.Code.{Code}
use Rattle.flow.specs.Spellings.{be64}
use Rattle.fitting.specs.declared.ipv6.Ipv6.{Ipv6}

abbrev pub ipv6_coded : Ipv6 → Code
ipv6_coded k = record { high = k.high; low = k.low }

abbrev pub ipv6_spelled : List ℕ → Option Code
ipv6_spelled bytes = cond (length bytes == 16) (Some (record { high = be64 bytes 0; low = be64 bytes 8 })) None
