use Rattle.std.proofs.Common.{length, refl}
use Rattle.lvdc_text.proofs.Places.{is-there}
use Rattle.lvdc_debug.proofs.fields.break_in.Goals as goal

pub token_text-requires : goal.token_text-requires
token_text-requires c = c.requires _ _ (is-there _ 4 (length c.args.fields.now) refl c.in-len4.len_at_least)

pub token_text-requires-2 : goal.token_text-requires-2
token_text-requires-2 c = c.requires _ _ (is-there _ 4 (length c.args.fields.now) refl c.in-len4.len_at_least)

pub token_text-requires-3 : goal.token_text-requires-3
token_text-requires-3 c = c.requires _ _ (is-there _ 4 (length c.args.fields.now) refl c.in-len4.len_at_least)

pub token_text-requires-4 : goal.token_text-requires-4
token_text-requires-4 c = c.requires _ _ (is-there _ 4 (length c.args.fields.now) refl c.in-len4.len_at_least)
