use Rattle.std.proofs.Common.{ap, ◌∙◌, drop, arith}
use Rattle.lvdc_service.proofs.Windows.{range_behind}
use Rattle.lvdc_service.proofs.reader.Reader.pass.Goals as goal

pub returns-clause-kept : goal.returns-clause-kept
returns-clause-kept c =
    let i = c.self.inside in
    range_behind i.bytes i.at i.end c.min-count.result (omega (arith, c.self.invariant, c.min-count.ensures)) ∙ ap (drop c.min-count.result) c.self.view_is
