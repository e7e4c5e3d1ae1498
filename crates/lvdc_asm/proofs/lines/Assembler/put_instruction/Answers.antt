use Rattle.lvdc_asm.specs.AssemblerState.{plan_of, progress_of}
use Rattle.lvdc_asm.proofs.Meant.{meant}
use Rattle.lvdc_asm.proofs.lines.Assembler.put_instruction.Goals as goal

pub encode-syllable-requires : goal.encode-syllable-requires
encode-syllable-requires c = record {
  nine_bits = c.in-Ok.ensures.small;
  meant = meant (plan_of c.args.self.now) c.args.line c.args.op c.args.here.at c.args.assumed
      (progress_of c.args.self.now) c.args.operand.now _ c.requires.takes c.in-Ok.ensures.address;
}
