use Rattle.std.proofs.Common.{ap}
use Rattle.lvdc_fault.proofs.ledger.Ledger.recoverable.Goals as goal

pub returns : goal.returns
returns c =
    let banks = ap (λ l. l.banks) c.self.view_is in
    let pair = ap (λ a. a.pair) c.at.view_is in
    record {
      value = let code = c.code-code.ensures.value in cc;
      words = λ m h. let code = c.code-code.ensures.words m h in cc;
    }
