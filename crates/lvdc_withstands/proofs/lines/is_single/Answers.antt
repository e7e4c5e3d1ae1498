-- The ones of a half are those of its 14 bits.
use Rattle.std.proofs.Common.{ℕ, Bool, ◌^◌, ◌&&◌, sym, ap, ◌∙◌}
use Rattle.std.specs.Prelude.{nat_le}
use Rattle.std.proofs.lemmas.Bool.{lt-ltb}
use Rattle.lvdc_word.specs.Cell.{ones}
use Rattle.lvdc_word.proofs.Parity.{ones-count}
use Rattle.lvdc_withstands.proofs.lines.is_single.Goals as goal

pub returns : goal.returns
returns c =
    let half = c.args.half in
    ap (λ (n : ℕ). nat_le n 1) (sym (ones-count 14 half c.requires)) ∙ sym (ap (λ (b : Bool). b && nat_le (ones 14 half) 1) (lt-ltb half (2 ^ 14) c.requires))
