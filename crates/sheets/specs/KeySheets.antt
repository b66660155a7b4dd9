-- Worked spellings of keys and their codes, as facts about the rules. Assumes nothing.
--   PrefixSheet    10.0.0.0/8 and /9, 10.128.0.0/9, 192.0.2.1/32 and 0.0.0.0/0 with their codes, and bytes that spell no prefix
--   AccountSheet   0000000042 and 9999999999 with their codes, and bytes that spell no account
use Rattle.std.specs.Prelude.{◌≡◌, [], ◌∷◌, codes, Some, None}
use Rattle.flow.specs.Spellings.{prefix_spelled, account_spelled}

pub record PrefixSheet : Type 0 where
  pub length_8 : prefix_spelled (10 ∷ 0 ∷ 0 ∷ 0 ∷ 8 ∷ []) ≡ Some (record { high = 8; low = 167772160 })
  pub length_9 : prefix_spelled (10 ∷ 0 ∷ 0 ∷ 0 ∷ 9 ∷ []) ≡ Some (record { high = 9; low = 167772160 })
  pub ninth_bit : prefix_spelled (10 ∷ 128 ∷ 0 ∷ 0 ∷ 9 ∷ []) ≡ Some (record { high = 9; low = 176160768 })
  pub length_32 : prefix_spelled (192 ∷ 0 ∷ 2 ∷ 1 ∷ 32 ∷ []) ≡ Some (record { high = 32; low = 3221225985 })
  pub length_0 : prefix_spelled (0 ∷ 0 ∷ 0 ∷ 0 ∷ 0 ∷ []) ≡ Some (record { high = 0; low = 0 })
  pub last_bit_beyond : prefix_spelled (10 ∷ 0 ∷ 0 ∷ 1 ∷ 8 ∷ []) ≡ None
  pub next_bit_beyond : prefix_spelled (10 ∷ 128 ∷ 0 ∷ 0 ∷ 8 ∷ []) ≡ None
  pub length_33 : prefix_spelled (10 ∷ 0 ∷ 0 ∷ 0 ∷ 33 ∷ []) ≡ None
  pub four_bytes : prefix_spelled (10 ∷ 0 ∷ 0 ∷ 0 ∷ []) ≡ None
  pub six_bytes : prefix_spelled (10 ∷ 0 ∷ 0 ∷ 0 ∷ 8 ∷ 0 ∷ []) ≡ None

pub record AccountSheet : Type 0 where
  pub account_42 : account_spelled (codes "0000000042") ≡ Some (record { high = 0; low = 42 })
  pub last_account : account_spelled (codes "9999999999") ≡ Some (record { high = 0; low = 9999999999 })
  pub two_digits : account_spelled (codes "42") ≡ None
  pub eleven_digits : account_spelled (codes "00000000042") ≡ None
  pub a_space : account_spelled (codes "000000004 ") ≡ None
  pub below_the_digits : account_spelled (codes "000000004/") ≡ None
  pub above_the_digits : account_spelled (codes "000000004:") ≡ None
