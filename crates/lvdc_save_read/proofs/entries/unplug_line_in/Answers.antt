use Rattle.std.proofs.Common.{◌≢◌, length, sym, arith}
use Rattle.lvdc_text.specs.Lines.{token_text}
use Rattle.lvdc_save_read.proofs.Tokens.{unplug_other}
use Rattle.lvdc_save_read.proofs.entries.unplug_line_in.Goals as goal
use Rattle.lvdc_save_read.proofs.entries.unplug_line_in.Goals.{in_default-via-then-fields-lt2, in_default-via-else-fields-lt2+else-fields-lt3}

pub returns-in_default-clause-entry : goal.returns-in_default-clause-entry
returns-in_default-clause-entry c =
    elim c.in_default.branch [
      | in_default-via-then-fields-lt2 w ↦ (let other : length c.args.fields.now ≢ 2 = grind arith in sym (unplug_other (token_text c.args.text.now) c.args.fields.now other))
      | in_default-via-else-fields-lt2+else-fields-lt3 w ↦ (let other : length c.args.fields.now ≢ 2 = grind arith in sym (unplug_other (token_text c.args.text.now) c.args.fields.now other))
    ]
