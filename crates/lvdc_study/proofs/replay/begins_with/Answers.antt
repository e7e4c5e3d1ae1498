use Rattle.std.proofs.Common.{rules}
use Rattle.lvdc_plain.specs.contracts.records.ExchangePartialEq.TheImpl.{eq-value}
use Rattle.lvdc_study.proofs.Lines.{prefix-is, prefix-found}
use Rattle.lvdc_study.proofs.replay.begins_with.Goals as goal

pub returns : goal.returns
returns c = λ told.
    prefix-is eq-value.it (λ a b. search rules) c.args.log.now c.args.lines.now
    ((prefix-found c.strip_prefix.result _ _ c.is_some.result c.is_some.ensures told c.strip_prefix.ensures.cases).1.0)
