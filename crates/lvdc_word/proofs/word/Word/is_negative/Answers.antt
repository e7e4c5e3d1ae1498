use Rattle.std.proofs.Common.{sym, ◌∙◌}
use Rattle.lvdc_word.proofs.Bits.{sign_bit}
use Rattle.lvdc_word.proofs.word.Word.is_negative.Goals as goal

pub returns-clause-value : goal.returns-clause-value
returns-clause-value c = c.has_sign.ensures.bit ∙ sym (sign_bit c.args.self c.has_sign.ensures.small)
