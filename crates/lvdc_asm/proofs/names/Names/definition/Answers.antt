use Rattle.std.proofs.Common.{◌∙◌, ap}
use Rattle.lvdc_asm.specs.Names.{definition_of}
use Rattle.lvdc_asm.proofs.names.Names.definition.Goals as goal

pub returns : goal.returns
returns c = c.get.ensures ∙ ap (λ names. definition_of names c.args.name.now) c.self.view_is
