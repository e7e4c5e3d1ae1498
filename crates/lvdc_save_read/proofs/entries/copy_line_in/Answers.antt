use Rattle.std.proofs.Common.{sym, ◌∙◌}
use Rattle.lvdc_text.specs.Lines.{token_text}
use Rattle.lvdc_save_read.proofs.Tokens.{no_token, copy_short, copy_long}
use Rattle.lvdc_save_read.proofs.entries.copy_line_in.Goals as goal

pub returns-in_default-clause-entry : goal.returns-in_default-clause-entry
returns-in_default-clause-entry c = sym (copy_short (token_text c.args.text.now) c.args.fields.now c.in_default.len_below)

pub returns-in_ok-latches-in-len3-up-clause-entry : goal.returns-in_ok-latches-in-len3-up-clause-entry
returns-in_ok-latches-in-len3-up-clause-entry c =
    c.copy_of.ensures.entry
    ∙ rw (
      c.decimal_in.ensures.value,
      c.decimal_in-in-len3-up.ensures.value,
      c.steps_in.ensures,
      c.in_ok-latches-in-len3-up.ensures,
      c.token_text.ensures,
      c.token_text-in-len3-up.ensures,
      c.token_text-in-len3-up-2.ensures,
    ) (sym (copy_long (token_text c.args.text.now) c.args.fields.now no_token c.in-len3-up.len_at_least))
