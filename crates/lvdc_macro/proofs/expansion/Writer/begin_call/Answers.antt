use Rattle.std.proofs.Common.{◌+◌, ap}
use Rattle.lvdc_macro.specs.Making.{Out}
use Rattle.lvdc_macro.proofs.expansion.Writer.begin_call.Goals as goal

pub returns-clause-number : goal.returns-clause-number
returns-clause-number c = ap (λ (out : Out). out.calls + 1) c.self.view_is

pub returns-clause-begun : goal.returns-clause-begun
returns-clause-begun c = ap (λ (out : Out). record { bytes = out.bytes; origins = out.origins; calls = c.self.inside.calls + 1 }) c.self.view_is
