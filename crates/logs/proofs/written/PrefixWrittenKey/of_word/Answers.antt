use Rattle.std.proofs.Common.{◌≡◌, false, ◌+◌, ◌-◌, ◌*◌, ◌/◌, ◌%◌, ◌^◌, ◌&&◌, eqb, leb, ℕ, List, length, slice_index, Result, Ok, Err, sym, ap, ◌∙◌, arith}
use Rattle.std.proofs.lemmas.Bool.Decides.{nat_tests}
use Rattle.flow.specs.declared.code.Code.{Code}
use Rattle.flow.specs.declared.prefix.Prefix.{Prefix}
use Rattle.flow.specs.declared.refusal.Refusal.{Refusal}
use Rattle.flow.specs.Answers.{told, answer_map}
use Rattle.flow.specs.Keys.{read_answer}
use Rattle.flow.specs.Spellings.{be32, prefix_spelled}
use Rattle.logs.specs.Texts.{dotted, prefix_text, ReadFrom, WritesFive}
use Rattle.logs.specs.Laws.{same_five, address_of, prefix_writes}
use Rattle.logs.proofs.Spelled.{read_passed, read_failed}
use Rattle.logs.proofs.Texts.{bytes_of}
use Rattle.logs.proofs.written.PrefixWrittenKey.of_word.Goals as goal

abbrev coded : Prefix → Code
coded k = record { high = k.len; low = k.address }

-- what the five bytes spell is what the word writes
read_as_written : (word bytes : List ℕ) (r : Result Prefix Refusal) → length bytes ≡ 5 →
    WritesFive word (slice_index bytes 0) (slice_index bytes 1) (slice_index bytes 2) (slice_index bytes 3) (slice_index bytes 4) →
    answer_map coded (told r) ≡ read_answer (prefix_spelled bytes) → ReadFrom (λ k. prefix_text (coded k)) word r
read_as_written word bytes (Ok k) five w h =
    let p = read_passed _ _ (coded k) h in
    let address : k.address ≡ slice_index bytes 0 * 16777216 + slice_index bytes 1 * 65536 + slice_index bytes 2 * 256 + slice_index bytes 3 = omega (arith, ap (λ (c : Code). c.low) p.1) in
    let len : k.len ≡ slice_index bytes 4 = ap (λ (c : Code). c.high) p.1 in
    let b = bytes_of k.address (slice_index bytes 0) (slice_index bytes 1) (slice_index bytes 2) (slice_index bytes 3) w.a_in w.b_in w.c_in w.d_in address in
    (λ i. dotted (b.0 i) (b.1 i) (b.2 i) (b.3 i) (len i)) ∙ sym w.is
read_as_written word bytes (Err e) five w h =
    let p = read_failed _ _ _ h in (
      p.0,
      λ k t.
          let v = prefix_writes k.address k.len k.fits k.short in
          let s = same_five word _ _ _ _ _ (k.address / 16777216) (k.address / 65536 % 256) (k.address / 256 % 256) (k.address % 256) k.len w
          (record { a_in = v.a_in; b_in = v.b_in; c_in = v.c_in; d_in = v.d_in; len_in = v.len_in; is = sym t }) in
          let address : be32 bytes 0 ≡ k.address = omega (arith, s.0, s.1, s.2, s.3, address_of k.address) in
          let zeros : be32 bytes 0 % 2 ^ (32 - slice_index bytes 4) ≡ 0 = (λ i. address i % 2 ^ (32 - s.4 i)) ∙ k.lawful in
          let not : (eqb (length bytes) 5 && (leb (slice_index bytes 4) 32 && eqb (be32 bytes 0 % 2 ^ (32 - slice_index bytes 4)) 0)) ≡ false = p.1 in
          absurd (grind (arith, nat_tests, not, zeros, five, s.4, k.short)),
    )

pub returns-in-Some : goal.returns-in-Some
returns-in-Some c = read_as_written c.args.word.now c.in-Some.bytes c.read.result (omega arith) c.in-Some.ensures c.read.ensures
