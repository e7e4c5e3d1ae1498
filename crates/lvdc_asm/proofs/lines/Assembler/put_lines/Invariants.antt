use Rattle.std.proofs.Common.{◌≡◌, Ok, drop}
use Rattle.lvdc_asm.specs.DataPlace.{first_data}
use Rattle.lvdc_asm.specs.Lines.{lines_after}
use Rattle.lvdc_asm.specs.AssemblerState.{plan_of, progress_of}
use Rattle.lvdc_asm.proofs.lines.Assembler.put_lines.Given as goal

abbrev pub invariant-loop-number : goal.invariant-loop-number
invariant-loop-number l = record {
  done :
      lines_after (plan_of l.initial.self) l.number l.assumed (drop l.number l.items)
      (Ok (progress_of l.self))
      ≡ lines_after (plan_of l.initial.self) 0 first_data l.items
      (Ok (progress_of l.initial.self));
  plan : plan_of l.self ≡ plan_of l.initial.self;
}
