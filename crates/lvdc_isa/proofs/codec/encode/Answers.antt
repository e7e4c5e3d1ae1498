use Rattle.std.proofs.Common.{arith, ◌≡◌}
use Rattle.std.proofs.lemmas.Grind.{common_steps}
use Rattle.lvdc_isa.specs.Instr.{syllable_of}
use Rattle.lvdc_isa.proofs.CodecLaws.{instr-syllable_of}
use Rattle.lvdc_isa.proofs.codec.encode.Goals as goal

pub returns-clause-decoded : goal.returns-clause-decoded
returns-clause-decoded c =
    let coded : c.within.result ≡ syllable_of c.args.instruction = grind (arith, common_steps) in
    rw coded (instr-syllable_of c.args.instruction c.requires)
