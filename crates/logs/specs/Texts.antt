-- Keys as people write them. Assumes nothing.
--   dotted          four decimal numbers with dots between them, a slash and a fifth
--   prefix_text     an IPv4 prefix: the four bytes of its address, and its length
--   account_text    an account: its number, with zeros in front up to ten digits
--   ReadFrom        what the reading of a word answers: the key that it writes, or 14 where it writes none
--   WritesByte      digits write a number from 0 to 255, with no zero in front
--   WritesInFront   such a number stands in front of a text, with a byte behind it that ends it, and then the rest
--   WritesFive      a word is five such numbers, parted by three dots and a slash
use Rattle.std.specs.Prelude.{◌≡◌, ℕ, ◌-◌, ◌/◌, ◌%◌, ◌<◌, List, ◌∷◌, ◌++◌, length, replicate, Result, MatchResult, ◌≢◌}
use Rattle.std.specs.Fmt.{decimal}
use Rattle.flow.specs.declared.code.Code.{Code}
use Rattle.flow.specs.declared.refusal.Refusal.{Refusal}
use Rattle.flow.specs.Refusals.{number}

abbrev pub dotted : ℕ → ℕ → ℕ → ℕ → ℕ → List ℕ
dotted a b c d len = decimal a ++ 46 ∷ (decimal b ++ 46 ∷ (decimal c ++ 46 ∷ (decimal d ++ 47 ∷ decimal len)))

abbrev pub prefix_text : Code → List ℕ
prefix_text k = dotted (k.low / 16777216) (k.low / 65536 % 256) (k.low / 256 % 256) (k.low % 256) k.high

abbrev pub account_text : Code → List ℕ
account_text k = replicate (10 - length (decimal k.low)) 48 ++ decimal k.low

abbrev pub ReadFrom : {K : Type 0} → (K → List ℕ) → List ℕ → Result K Refusal → Type 0
ReadFrom {K} text_of word r = MatchResult r (λ k. text_of k ≡ word) (λ e. (number e ≡ 14) × ((k : K) → text_of k ≢ word))

abbrev pub WritesByte : List ℕ → ℕ → Type 0
WritesByte digits n = (n < 256) × (digits ≡ decimal n)

abbrev pub WritesInFront : List ℕ → ℕ → ℕ → List ℕ → Type 0
WritesInFront text end n rest = (n < 256) × (text ≡ decimal n ++ end ∷ rest)

pub record WritesFive (word : List ℕ) (a b c d len : ℕ) : Type 0 where
  pub a_in : a < 256
  pub b_in : b < 256
  pub c_in : c < 256
  pub d_in : d < 256
  pub len_in : len < 256
  pub is : word ≡ dotted a b c d len
