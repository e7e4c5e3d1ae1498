use Rattle.std.proofs.Common.{sym, ◌∙◌}
use Rattle.lvdc_text.specs.Lines.{token_text}
use Rattle.lvdc_save_read.proofs.Tokens.{no_token, repair_short, repair_long}
use Rattle.lvdc_save_read.proofs.entries.repair_line_in.Goals as goal

pub returns-in_default-clause-entry : goal.returns-in_default-clause-entry
returns-in_default-clause-entry c = sym (repair_short (token_text c.args.text.now) c.args.fields.now c.in_default.len_below)

pub returns-in-len5-up-clause-entry : goal.returns-in-len5-up-clause-entry
returns-in-len5-up-clause-entry c =
    c.repair_of.ensures.entry
    ∙ rw (
      c.switch_in.ensures c.args.text.now,
      c.steps_in.ensures,
      c.spot_in.ensures,
      c.twin_in.ensures.value,
      c.token_text.ensures,
      c.token_text-in-len5-up.ensures,
      c.token_text-in-len5-up-2.ensures,
      c.token_text-in-len5-up-3.ensures,
      c.token_text-in-len5-up-4.ensures,
    ) (sym (repair_long (token_text c.args.text.now) c.args.fields.now no_token c.in-len5-up.len_at_least))
