use Rattle.std.proofs.Common.{◌≡◌, ◌∙◌, ◌-◌, ◌++◌, List, ℕ, length, replicate, subst, arith, append-nil}
use Rattle.std.specs.Fmt.{decimal, styled_decimal, format_spec, padded_integral, char_count, HasWritten}
use Rattle.logs.proofs.written.AccountWrittenKey.write.Goals as goal

-- `{:010}` writes zeros in front up to ten digits
ten_wide : (n : ℕ) → styled_decimal (format_spec 32 0 4 10 18446744073709551615) n ≡ replicate (10 - length (decimal n)) 48 ++ decimal n
unfolding padded_integral char_count
ten_wide n = let e : 10 - length (decimal n) - 0 - 0 ≡ 10 - length (decimal n) = omega arith in rw (e, append-nil (decimal n))

pub returns : goal.returns
returns g c = λ plain ok.
    let e : styled_decimal c.laid_out.result c.code-number.result.low ≡ replicate (10 - length (decimal c.args.self.now.number)) 48 ++ decimal c.args.self.now.number =
    (λ i. styled_decimal (c.laid_out.ensures i) (c.code-number.ensures i).low) ∙ ten_wide c.args.self.now.number in
    subst (λ (t : List ℕ). HasWritten {W = g.row.W.Denot} g.W.Write.write_str_gives c.args.f.now t c.write.new.self) e (c.write.ensures.writes plain ok)
