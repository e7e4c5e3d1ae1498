use Rattle.std.proofs.Common.{map, sym, ap, subst, ◌∙◌}
use Rattle.std.proofs.lemmas.List.{take_rest}
use Rattle.lvdc_text.specs.Lines.{token_text}
use Rattle.lvdc_deck.specs.Sections.{Makes, section_of}
use Rattle.lvdc_deck.proofs.Tokens.{no_token}
use Rattle.lvdc_deck.proofs.Steps.{in_order-word}
use Rattle.lvdc_deck.proofs.said.Said.take_tokens.Goals as goal

pub returns-in-Some : goal.returns-in-Some
returns-in-Some g c =
    subst (Makes c.open.result c.open.new.self)
    (in_order-word (map (λ b. (goal.PortDevice-dyn g (b.vtable, b.value)).device_of b.value) c.args.devices.now.items) c.args.self.now c.args.number (token_text c.args.text.now) c.args.tokens.now c.in-Some.section no_token c.in-len1-up.len_at_least
    (sym c.in-Some.is ∙ c.section_of.ensures ∙ ap section_of c.token_text.ensures) _ (take_rest c.args.tokens.now 1)) c.open.ensures
