use Rattle.std.proofs.Common.{not, length, map, refl, sym, ap, ◌∙◌}
use Rattle.lvdc_text.specs.Lines.{token_text}
use Rattle.lvdc_text.proofs.Places.{is-there}
use Rattle.lvdc_deck.specs.Sections.{port_in, time_in}
use Rattle.lvdc_deck.proofs.Tokens.{no_token}
use Rattle.lvdc_deck.proofs.PortLines.{unplug-no_port, unplug-no_time, unplug-no_device, unplug-kept}
use Rattle.lvdc_deck.proofs.said.Said.unplug_line.Goals as goal

pub token_text-requires : goal.token_text-requires
token_text-requires g c = c.requires _ _ (is-there _ 2 (length c.args.tokens.now) refl c.in-len2.len_at_least)

pub token_text-requires-2 : goal.token_text-requires-2
token_text-requires-2 g c = c.requires _ _ (is-there _ 2 (length c.args.tokens.now) refl c.in-len2.len_at_least)

pub returns-in_default-port_in : goal.returns-in_default-port_in
returns-in_default-port_in g c = λ known.
    unplug-no_port (map (λ b. (goal.PortDevice-dyn g (b.vtable, b.value)).device_of b.value) c.args.devices.now.items) c.args.self.now c.args.number (token_text c.args.text.now) c.args.tokens.now no_token c.in-len2.len_at_least c.in-len2.len_below
    (ap port_in (sym c.token_text.ensures) ∙ sym c.port_in.ensures ∙ c.in_default-port_in.is)

pub returns-in_default-time_in : goal.returns-in_default-time_in
returns-in_default-time_in g c = λ known.
    unplug-no_time (map (λ b. (goal.PortDevice-dyn g (b.vtable, b.value)).device_of b.value) c.args.devices.now.items) c.args.self.now c.args.number (token_text c.args.text.now) c.args.tokens.now no_token c.in-len2.len_at_least c.in-len2.len_below
    c.in-Some.port (ap port_in (sym c.token_text.ensures) ∙ sym c.port_in.ensures ∙ c.in-Some.is)
    (ap time_in (sym c.token_text-2.ensures) ∙ sym c.time_in.ensures ∙ c.in_default-time_in.is)

pub returns-then-is_none : goal.returns-then-is_none
returns-then-is_none g c = λ known.
    unplug-no_device (map (λ b. (goal.PortDevice-dyn g (b.vtable, b.value)).device_of b.value) c.args.devices.now.items) c.args.self.now c.args.number (token_text c.args.text.now) c.args.tokens.now no_token c.in-len2.len_at_least c.in-len2.len_below
    c.in-Some.port (ap port_in (sym c.token_text.ensures) ∙ sym c.port_in.ensures ∙ c.in-Some.is) c.in-Some-time_in.time (ap time_in (sym c.token_text-2.ensures) ∙ sym c.time_in.ensures ∙ c.in-Some-time_in.is)
    c.kind_left.result c.kind_left.ensures (c.is_none.ensures ∙ ap not c.if-is_none.true)

pub returns : goal.returns
returns g c =
    unplug-kept (map (λ b. (goal.PortDevice-dyn g (b.vtable, b.value)).device_of b.value) c.args.devices.now.items) c.args.self.now c.args.number (token_text c.args.text.now) c.args.tokens.now no_token c.in-len2.len_at_least c.in-len2.len_below
    c.in-Some.port (ap port_in (sym c.token_text.ensures) ∙ sym c.port_in.ensures ∙ c.in-Some.is) c.in-Some-time_in.time (ap time_in (sym c.token_text-2.ensures) ∙ sym c.time_in.ensures ∙ c.in-Some-time_in.is)
    c.kind_left.result c.kind_left.ensures (c.is_none.ensures ∙ ap not c.if-is_none.false) _ c.self.view_is _ c.in_ok-push.ensures.items
