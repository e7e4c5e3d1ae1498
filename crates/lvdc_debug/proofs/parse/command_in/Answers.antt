use Rattle.std.proofs.Common.{◌-◌, length, drop}
use Rattle.std.proofs.lemmas.List.Elements.{All-take, All-drop}
use Rattle.lvdc_text.specs.Lines.{LiesIn}
use Rattle.lvdc_debug.proofs.parse.command_in.Goals as goal

pub step_in-requires : goal.step_in-requires
step_in-requires c =
    All-take (LiesIn c.args.text.now) (length c.args.tokens.now - 1) (drop 1 c.args.tokens.now)
    (All-drop (LiesIn c.args.text.now) 1 c.args.tokens.now c.requires)

pub alone_in-requires-clause-within : goal.alone_in-requires-clause-within
alone_in-requires-clause-within c =
    All-take (LiesIn c.args.text.now) (length c.args.tokens.now - 1) (drop 1 c.args.tokens.now)
    (All-drop (LiesIn c.args.text.now) 1 c.args.tokens.now c.requires)

pub break_in-requires : goal.break_in-requires
break_in-requires c =
    All-take (LiesIn c.args.text.now) (length c.args.tokens.now - 1) (drop 1 c.args.tokens.now)
    (All-drop (LiesIn c.args.text.now) 1 c.args.tokens.now c.requires)

pub mem_in-requires : goal.mem_in-requires
mem_in-requires c =
    All-take (LiesIn c.args.text.now) (length c.args.tokens.now - 1) (drop 1 c.args.tokens.now)
    (All-drop (LiesIn c.args.text.now) 1 c.args.tokens.now c.requires)

pub dis_in-requires : goal.dis_in-requires
dis_in-requires c =
    All-take (LiesIn c.args.text.now) (length c.args.tokens.now - 1) (drop 1 c.args.tokens.now)
    (All-drop (LiesIn c.args.text.now) 1 c.args.tokens.now c.requires)

pub copies_in-requires : goal.copies_in-requires
copies_in-requires c =
    All-take (LiesIn c.args.text.now) (length c.args.tokens.now - 1) (drop 1 c.args.tokens.now)
    (All-drop (LiesIn c.args.text.now) 1 c.args.tokens.now c.requires)
