use Rattle.std.proofs.lemmas.List.{take_rest}
use Rattle.std.proofs.lemmas.List.Elements.{All-drop}
use Rattle.lvdc_text.specs.Lines.{LiesIn}
use Rattle.lvdc_uplink.proofs.parse.message_in.Goals as goal

pub open_in-requires : goal.open_in-requires
open_in-requires c = rw take_rest (All-drop (LiesIn c.args.text.now) 1 c.args.tokens.now c.requires)

pub frame_in-requires : goal.frame_in-requires
frame_in-requires c = rw take_rest (All-drop (LiesIn c.args.text.now) 1 c.args.tokens.now c.requires)

pub commit_in-requires : goal.commit_in-requires
commit_in-requires c = rw take_rest (All-drop (LiesIn c.args.text.now) 1 c.args.tokens.now c.requires)

pub abandon_in-requires : goal.abandon_in-requires
abandon_in-requires c = rw take_rest (All-drop (LiesIn c.args.text.now) 1 c.args.tokens.now c.requires)
