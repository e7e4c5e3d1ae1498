use Rattle.std.proofs.Common.{◌∙◌, ap}
use Rattle.lvdc_plain.proofs.Instructions.{executed}
use Rattle.lvdc_plain.specs.declared.processor.Processor.{Processor}
use Rattle.lvdc_plain.proofs.processor.Processor.execute.Goals as goal

pub returns-clause-holds : goal.returns-clause-holds
returns-clause-holds c =
    λ p h. executed c.args.self.now c.make-stop.new.self c.land.new.self c.finish.new.self c.args.instr p c.args.m h
    (c.make-stop.ensures.holds p h) c.make-stop.ensures.results c.land.ensures (c.finish.ensures.finished p)

pub returns-clause-banks : goal.returns-clause-banks
returns-clause-banks c =
    c.finish.ensures.banks ∙ ap (λ (r : Processor). r.banks) c.land.ensures ∙ c.make-stop.ensures.results.banks
