use Rattle.std.proofs.Common.{◌-◌, length, drop}
use Rattle.std.proofs.lemmas.List.Elements.{All-take, All-drop}
use Rattle.lvdc_text.specs.Lines.{LiesIn}
use Rattle.lvdc_lines.proofs.lines.event_of.Goals as goal

pub flip_in-requires : goal.flip_in-requires
flip_in-requires c =
    All-take (LiesIn c.args.text.now) (length c.args.tokens.now - 1) (drop 1 c.args.tokens.now)
    (All-drop (LiesIn c.args.text.now) 1 c.args.tokens.now c.requires)

pub force_in-requires : goal.force_in-requires
force_in-requires c =
    All-take (LiesIn c.args.text.now) (length c.args.tokens.now - 1) (drop 1 c.args.tokens.now)
    (All-drop (LiesIn c.args.text.now) 1 c.args.tokens.now c.requires)

pub lag_in-requires : goal.lag_in-requires
lag_in-requires c =
    All-take (LiesIn c.args.text.now) (length c.args.tokens.now - 1) (drop 1 c.args.tokens.now)
    (All-drop (LiesIn c.args.text.now) 1 c.args.tokens.now c.requires)

pub deaf_in-requires : goal.deaf_in-requires
deaf_in-requires c =
    All-take (LiesIn c.args.text.now) (length c.args.tokens.now - 1) (drop 1 c.args.tokens.now)
    (All-drop (LiesIn c.args.text.now) 1 c.args.tokens.now c.requires)

pub damage_in-requires : goal.damage_in-requires
damage_in-requires c =
    All-take (LiesIn c.args.text.now) (length c.args.tokens.now - 1) (drop 1 c.args.tokens.now)
    (All-drop (LiesIn c.args.text.now) 1 c.args.tokens.now c.requires)

pub stick_in-requires : goal.stick_in-requires
stick_in-requires c =
    All-take (LiesIn c.args.text.now) (length c.args.tokens.now - 1) (drop 1 c.args.tokens.now)
    (All-drop (LiesIn c.args.text.now) 1 c.args.tokens.now c.requires)

pub dead_in-requires : goal.dead_in-requires
dead_in-requires c =
    All-take (LiesIn c.args.text.now) (length c.args.tokens.now - 1) (drop 1 c.args.tokens.now)
    (All-drop (LiesIn c.args.text.now) 1 c.args.tokens.now c.requires)
