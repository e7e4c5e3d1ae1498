-- The fields of a HOP constant and its word.
use Rattle.std.proofs.Common.{◌≡◌, ℕ, ◌*◌, ◌/◌, ◌%◌, ◌^◌, ◌<◌, ◌==◌, ap, ◌∙◌, arith}
use Rattle.lvdc_word.specs.Word.{bit_of}
use Rattle.lvdc_word.proofs.Bits.{bit_of-small, bit_of-one, bit_of-test}
use Rattle.lvdc_map.specs.Hop.{HopConstant, IsHopConstant, hop_of, word_of_hop, bit}

-- the word of a word's fields has spare bit 0 and else the same bits
pub word_of_hop-hop_of : (w : ℕ) → w < 2 ^ 26 → word_of_hop (hop_of w) ≡ w / 2 * 2
word_of_hop-hop_of w small = omega (arith, bit_of-test (w / 2 ^ 2), bit_of-test (w / 2 ^ 1))

-- the word of fields is one
pub word_of_hop-fits : (h : HopConstant) → IsHopConstant h → word_of_hop h < 2 ^ 26
word_of_hop-fits h ok = omega (arith, ok.imod, ok.isec, ok.syl, ok.loc, ok.dmod, ok.dsec, bit_of-small h.dupin, bit_of-small h.dupdn)

-- the fields of the word of fields are these
pub hop_of-word_of_hop : (h : HopConstant) → IsHopConstant h → hop_of (word_of_hop h) ≡ h
hop_of-word_of_hop h ok =
    let p : bit_of h.dupin < 2 = bit_of-small h.dupin in
    let n : bit_of h.dupdn < 2 = bit_of-small h.dupdn in
    let imod : word_of_hop h / 2 ^ 23 % 8 ≡ h.imod = omega (arith, ok.imod, ok.isec, ok.syl, ok.loc, ok.dmod, ok.dsec) in
    let isec : word_of_hop h / 2 ^ 19 % 16 ≡ h.isec = omega (arith, ok.imod, ok.isec, ok.syl, ok.loc, ok.dmod, ok.dsec) in
    let syl : word_of_hop h / 2 ^ 18 % 2 ≡ h.syl = omega (arith, ok.imod, ok.isec, ok.syl, ok.loc, ok.dmod, ok.dsec) in
    let loc : word_of_hop h / 2 ^ 10 % 256 ≡ h.loc = omega (arith, ok.imod, ok.isec, ok.syl, ok.loc, ok.dmod, ok.dsec) in
    let dmod : word_of_hop h / 2 ^ 7 % 8 ≡ h.dmod = omega (arith, ok.imod, ok.isec, ok.syl, ok.loc, ok.dmod, ok.dsec) in
    let dsec : word_of_hop h / 2 ^ 3 % 16 ≡ h.dsec = omega (arith, ok.imod, ok.isec, ok.syl, ok.loc, ok.dmod, ok.dsec) in
    let pin : word_of_hop h / 2 ^ 2 % 2 ≡ bit_of h.dupin = omega (arith, ok.imod, ok.isec, ok.syl, ok.loc, ok.dmod, ok.dsec) in
    let pdn : word_of_hop h / 2 ^ 1 % 2 ≡ bit_of h.dupdn = omega (arith, ok.imod, ok.isec, ok.syl, ok.loc, ok.dmod, ok.dsec) in
    let dupin : bit (word_of_hop h) 2 ≡ h.dupin = ap (λ (b : ℕ). b == 1) pin ∙ bit_of-one h.dupin in
    let dupdn : bit (word_of_hop h) 1 ≡ h.dupdn = ap (λ (b : ℕ). b == 1) pdn ∙ bit_of-one h.dupdn in
    λ i. record { imod = imod i; isec = isec i; syl = syl i; loc = loc i; dmod = dmod i; dsec = dsec i; dupin = dupin i; dupdn = dupdn i }
