use Rattle.std.proofs.Common.{arith}
use Rattle.lvdc_text.proofs.ReadBack.{number_of-octal_text}
use Rattle.lvdc_text.proofs.numbers.put_octal.Goals as goal

pub returns-in_err-extend_from_slice-clause-back : goal.returns-in_err-extend_from_slice-clause-back
returns-in_err-extend_from_slice-clause-back c = λ some. number_of-octal_text c.args.width c.args.width c.args.value some (omega arith) c.requires

pub returns-clause-back : goal.returns-clause-back
returns-clause-back c = λ some. number_of-octal_text c.args.width c.args.width c.args.value some (omega arith) c.requires
