use Rattle.std.proofs.Common.{◌≡◌, rules, arith}
use Rattle.lvdc_save.specs.Saved.{module_at}
use Rattle.lvdc_vote.specs.Numbers.{latches_of}
use Rattle.lvdc_save.proofs.Printing.{copies_fit}
use Rattle.lvdc_save.proofs.print.latches_at.Goals as goal

pub returns-clause-within : goal.returns-clause-within
returns-clause-within c =
    let count : c.from.result ≡ latches_of (module_at c.args.index) = search rules in omega (arith, copies_fit c.args.index c.requires, count)
