use Rattle.std.proofs.Common.{◌-◌, length, map, drop, option_map, refl, sym, ap, ◌∙◌}
use Rattle.std.proofs.lemmas.List.{take_rest}
use Rattle.std.proofs.lemmas.List.Elements.{All-take, All-drop}
use Rattle.lvdc_text.specs.Lines.{LiesIn, token_text}
use Rattle.lvdc_deck.specs.Sections.{port_in}
use Rattle.lvdc_deck.proofs.Tokens.{no_token}
use Rattle.lvdc_text.proofs.Places.{is-there}
use Rattle.lvdc_deck.proofs.TapeLines.{no-words, tape-no_port, tape-no_words, tape-no_tape}
use Rattle.lvdc_deck.proofs.said.Said.tape_line.Goals as goal

pub token_text-requires : goal.token_text-requires
token_text-requires g c = c.requires _ _ (is-there _ 1 (length c.args.tokens.now) refl c.in-len1-up.len_at_least)

pub supplies_in-requires : goal.supplies_in-requires
supplies_in-requires g c =
    All-take (LiesIn c.args.text.now) (length c.args.tokens.now - 1) (drop 1 c.args.tokens.now)
    (All-drop (LiesIn c.args.text.now) 1 c.args.tokens.now c.requires)

pub returns-in_default-port_in : goal.returns-in_default-port_in
returns-in_default-port_in g c = λ known.
    tape-no_port (map (λ b. (goal.PortDevice-dyn g (b.vtable, b.value)).device_of b.value) c.args.devices.now.items) c.args.self.now c.args.number (token_text c.args.text.now) c.args.tokens.now _ no_token
    c.in-len1-up.len_at_least (take_rest c.args.tokens.now 1) (sym c.is_empty.ensures ∙ c.if-is_empty.false)
    (ap port_in (sym c.token_text.ensures) ∙ sym c.port_in.ensures ∙ c.in_default-port_in.is)

pub returns-in_default-2 : goal.returns-in_default-2
returns-in_default-2 g c = λ known.
    tape-no_words (map (λ b. (goal.PortDevice-dyn g (b.vtable, b.value)).device_of b.value) c.args.devices.now.items) c.args.self.now c.args.number (token_text c.args.text.now) c.args.tokens.now _ no_token
    c.in-len1-up.len_at_least (take_rest c.args.tokens.now 1) (sym c.is_empty.ensures ∙ c.if-is_empty.false)
    c.in-Some.port (ap port_in (sym c.token_text.ensures) ∙ sym c.port_in.ensures ∙ c.in-Some.is)
    (no-words c.in-Some.port _ _ (ap (option_map (λ supplies. supplies.items)) c.in_default-2.is) c.in_ok-supplies.ensures)

pub returns-then-ne : goal.returns-then-ne
returns-then-ne g c = λ known.
    tape-no_tape (map (λ b. (goal.PortDevice-dyn g (b.vtable, b.value)).device_of b.value) c.args.devices.now.items) c.args.self.now c.args.number (token_text c.args.text.now) c.args.tokens.now _ no_token
    c.in-len1-up.len_at_least (take_rest c.args.tokens.now 1) (sym c.is_empty.ensures ∙ c.if-is_empty.false)
    c.in-Some.port (ap port_in (sym c.token_text.ensures) ∙ sym c.port_in.ensures ∙ c.in-Some.is)
    _ c.in-Some-2.supplies.items (ap (option_map (λ supplies. supplies.items)) c.in-Some-2.is) c.in_ok-supplies.ensures c.kind_left.result c.kind_left.ensures
    (sym c.ne.ensures ∙ c.if-ne.true)
