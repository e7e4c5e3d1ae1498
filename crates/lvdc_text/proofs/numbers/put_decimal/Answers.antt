use Rattle.std.proofs.Common.{arith}
use Rattle.lvdc_text.proofs.ReadBack.{number_of-decimal}
use Rattle.lvdc_text.proofs.numbers.put_decimal.Goals as goal

pub returns-in_err-extend_from_slice-clause-back : goal.returns-in_err-extend_from_slice-clause-back
returns-in_err-extend_from_slice-clause-back c = λ digits some fits. number_of-decimal digits c.args.value some fits (omega arith)

pub returns-clause-back : goal.returns-clause-back
returns-clause-back c = λ digits some fits. number_of-decimal digits c.args.value some fits (omega arith)
