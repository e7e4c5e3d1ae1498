use Rattle.std.proofs.Common.{◌≢◌, length, sym, arith}
use Rattle.lvdc_text.specs.Lines.{token_text}
use Rattle.lvdc_save_read.proofs.Tokens.{select_other}
use Rattle.lvdc_save_read.proofs.entries.select_line_in.Goals as goal
use Rattle.lvdc_save_read.proofs.entries.select_line_in.Goals.{in_default-via-then-fields-lt4, in_default-via-else-fields-lt4+else-fields-lt5}

pub returns-in_default-clause-entry : goal.returns-in_default-clause-entry
returns-in_default-clause-entry c =
    elim c.in_default.branch [
      | in_default-via-then-fields-lt4 w ↦ (let other : length c.args.fields.now ≢ 4 = grind arith in sym (select_other (token_text c.args.text.now) c.args.fields.now other))
      | in_default-via-else-fields-lt4+else-fields-lt5 w ↦ (let other : length c.args.fields.now ≢ 4 = grind arith in sym (select_other (token_text c.args.text.now) c.args.fields.now other))
    ]
