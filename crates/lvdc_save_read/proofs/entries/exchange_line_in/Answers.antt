use Rattle.std.proofs.Common.{◌≢◌, length, sym, arith}
use Rattle.lvdc_text.specs.Lines.{token_text}
use Rattle.lvdc_save_read.proofs.Tokens.{exchange_other}
use Rattle.lvdc_save_read.proofs.entries.exchange_line_in.Goals as goal
use Rattle.lvdc_save_read.proofs.entries.exchange_line_in.Goals.{in_default-via-then-fields-lt3, in_default-via-else-fields-lt3+else-fields-lt4}

pub returns-in_default-clause-entry : goal.returns-in_default-clause-entry
returns-in_default-clause-entry c =
    elim c.in_default.branch [
      | in_default-via-then-fields-lt3 w ↦ (let other : length c.args.fields.now ≢ 3 = grind arith in sym (exchange_other c.args.reading (token_text c.args.text.now) c.args.fields.now other))
      | in_default-via-else-fields-lt3+else-fields-lt4 w ↦ (let other : length c.args.fields.now ≢ 3 = grind arith in sym (exchange_other c.args.reading (token_text c.args.text.now) c.args.fields.now other))
    ]
