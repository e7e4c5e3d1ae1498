use Rattle.std.proofs.Common.{sym, ap, ◌∙◌}
use Rattle.lvdc_asm.specs.Names.{names_in}
use Rattle.lvdc_asm.proofs.Known.{names_in-known}
use Rattle.lvdc_asm.proofs.assembly.assemble_program.Goals as goal

pub assemble_lines-requires-clause-known : goal.assemble_lines-requires-clause-known
assemble_lines-requires-clause-known c =
    names_in-known c.args.program c.in-Ok.names c.in-Ok-place.layout.spots (ap names_in (sym c.items.ensures.items) ∙ c.in-Ok.ensures.names) c.in-Ok-place.ensures.items
