use Rattle.std.proofs.Common.{◌∷◌, sym, ap, ◌∙◌}
use Rattle.lvdc_uplink.specs.Link.{Link}
use Rattle.lvdc_uplink.specs.History.{link_after}
use Rattle.lvdc_uplink.proofs.AsHeard.{after-append}
use Rattle.lvdc_uplink.proofs.laws.doubled_changes_nothing.Goals as goal

pub returns : goal.returns
returns c link before after text ack =
    after-append before (text ∷ text ∷ after) link
    ∙ ap (λ (now : Link). link_after now after) (c.repeated_changes_nothing.ensures.link (link_after link before) text ack)
    ∙ sym (after-append before (text ∷ after) link)
