use Rattle.std.proofs.Common.{◌-◌, codes, length, map, drop, sym, ap, subst, ◌∙◌}
use Rattle.std.specs.Str.{bytes_eq}
use Rattle.std.proofs.lemmas.List.{take_rest}
use Rattle.std.proofs.lemmas.List.Elements.{All-take, All-drop}
use Rattle.lvdc_text.specs.Lines.{LiesIn, token_text}
use Rattle.lvdc_deck.specs.Sections.{Makes}
use Rattle.lvdc_deck.proofs.Tokens.{no_token}
use Rattle.lvdc_deck.proofs.PortLines.{port-tape, port-unplug, port-other}
use Rattle.lvdc_deck.proofs.said.Said.port_line.Goals as goal

pub tape_line-requires : goal.tape_line-requires
tape_line-requires g c =
    All-take (LiesIn c.args.text.now) (length c.args.tokens.now - 1) (drop 1 c.args.tokens.now)
    (All-drop (LiesIn c.args.text.now) 1 c.args.tokens.now c.requires)

pub unplug_line-requires : goal.unplug_line-requires
unplug_line-requires g c =
    All-take (LiesIn c.args.text.now) (length c.args.tokens.now - 1) (drop 1 c.args.tokens.now)
    (All-drop (LiesIn c.args.text.now) 1 c.args.tokens.now c.requires)

pub returns-then-spells : goal.returns-then-spells
returns-then-spells g c = λ first rest are.
    subst (Makes c.tape_line.result c.tape_line.new.self)
    (port-tape (map (λ b. (goal.PortDevice-dyn g (b.vtable, b.value)).device_of b.value) c.args.devices.now.items) c.args.self.now c.args.number (token_text c.args.text.now) c.args.tokens.now _ no_token c.in-len1-up.len_at_least (take_rest c.args.tokens.now 1) first rest are
    (ap (λ t. bytes_eq t (codes "TAPE")) (sym c.token_text-word.ensures) ∙ sym c.spells.ensures ∙ c.if-spells.true))
    c.tape_line.ensures

pub returns-then-spells-2 : goal.returns-then-spells-2
returns-then-spells-2 g c = λ first rest are.
    subst (Makes c.unplug_line.result c.unplug_line.new.self)
    (port-unplug (map (λ b. (goal.PortDevice-dyn g (b.vtable, b.value)).device_of b.value) c.args.devices.now.items) c.args.self.now c.args.number (token_text c.args.text.now) c.args.tokens.now _ no_token c.in-len1-up.len_at_least (take_rest c.args.tokens.now 1) first rest are
    (ap (λ t. bytes_eq t (codes "TAPE")) (sym c.token_text-word.ensures) ∙ sym c.spells.ensures ∙ c.if-spells.false)
    (ap (λ t. bytes_eq t (codes "UNPLUG")) (sym c.token_text-word.ensures) ∙ sym c.spells-else-spells.ensures ∙ c.if-spells-2.true))
    c.unplug_line.ensures

pub returns-else-spells-2 : goal.returns-else-spells-2
returns-else-spells-2 g c = λ first rest are known.
    port-other (map (λ b. (goal.PortDevice-dyn g (b.vtable, b.value)).device_of b.value) c.args.devices.now.items) c.args.self.now c.args.number (token_text c.args.text.now) c.args.tokens.now _ no_token c.in-len1-up.len_at_least (take_rest c.args.tokens.now 1) first rest are
    (ap (λ t. bytes_eq t (codes "TAPE")) (sym c.token_text-word.ensures) ∙ sym c.spells.ensures ∙ c.if-spells.false)
    (ap (λ t. bytes_eq t (codes "UNPLUG")) (sym c.token_text-word.ensures) ∙ sym c.spells-else-spells.ensures ∙ c.if-spells-2.false)
