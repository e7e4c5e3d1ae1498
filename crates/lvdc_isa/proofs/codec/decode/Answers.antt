use Rattle.std.proofs.Common.{arith, ◌^◌, ◌<◌, ap, ◌∙◌}
use Rattle.std.proofs.lemmas.Grind.{common_steps}
use Rattle.lvdc_isa.specs.Instr.{syllable_of}
use Rattle.lvdc_isa.proofs.CodecLaws.{IsInstruction-instr, syllable_of-instr}
use Rattle.lvdc_isa.proofs.codec.decode.Goals as goal

pub returns-clause-value : goal.returns-clause-value
returns-clause-value c = grind (arith, common_steps)

pub returns-clause-instruction : goal.returns-clause-instruction
returns-clause-instruction c =
    let small : c.args.syllable < 2 ^ 13 = omega arith in
    rw (returns-clause-value c) (IsInstruction-instr c.args.syllable small)

pub returns-clause-syllable : goal.returns-clause-syllable
returns-clause-syllable c =
    let small : c.args.syllable < 2 ^ 13 = omega arith in
    ap syllable_of (returns-clause-value c) ∙ syllable_of-instr c.args.syllable small
