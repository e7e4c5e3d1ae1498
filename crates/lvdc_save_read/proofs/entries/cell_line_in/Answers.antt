use Rattle.std.proofs.Common.{◌≢◌, length, sym, arith}
use Rattle.lvdc_text.specs.Lines.{token_text}
use Rattle.lvdc_save_read.proofs.Tokens.{cell_other}
use Rattle.lvdc_save_read.proofs.entries.cell_line_in.Goals as goal
use Rattle.lvdc_save_read.proofs.entries.cell_line_in.Goals.{in_default-via-then-fields-lt5, in_default-via-else-fields-lt5+else-fields-lt6}

pub returns-in_default-clause-entry : goal.returns-in_default-clause-entry
returns-in_default-clause-entry c =
    elim c.in_default.branch [
      | in_default-via-then-fields-lt5 w ↦ (let other : length c.args.fields.now ≢ 5 = grind arith in sym (cell_other (token_text c.args.text.now) c.args.fields.now other))
      | in_default-via-else-fields-lt5+else-fields-lt6 w ↦ (let other : length c.args.fields.now ≢ 5 = grind arith in sym (cell_other (token_text c.args.text.now) c.args.fields.now other))
    ]
