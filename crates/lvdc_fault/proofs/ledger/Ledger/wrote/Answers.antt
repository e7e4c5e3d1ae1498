use Rattle.std.proofs.Common.{ap, ◌∙◌}
use Rattle.lvdc_map.specs.Address.{number_of}
use Rattle.std.proofs.Math.ListN.{set}
use Rattle.lvdc_fault.specs.Ledger.{Intended}
use Rattle.lvdc_fault.proofs.ledger.Ledger.wrote.Goals as goal

pub returns-clause-value : goal.returns-clause-value
returns-clause-value c =
    ap (λ words. record { banks = c.self.inside.banks; words = words }) c.store.ensures.value
    ∙ ap (λ (i : Intended). record { banks = i.banks; words = set i.words (number_of c.args.at) c.args.word }) c.self.view_is
