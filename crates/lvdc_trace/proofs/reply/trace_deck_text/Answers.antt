use Rattle.std.proofs.Common.{◌≡◌, map, refl, subst}
use Rattle.lvdc_deck.specs.declared.deck.Deck.{Deck}
use Rattle.lvdc_command_run.specs.Trials.{trial_of}
use Rattle.lvdc_reply.proofs.Statuses.{on_err}
use Rattle.lvdc_trace.specs.Plainly.{TellsPlainly}
use Rattle.lvdc_trace.specs.Replies.{begun}
use Rattle.lvdc_trace.proofs.Answering.{deck_reply, deck_refused}
use Rattle.lvdc_trace.proofs.reply.trace_deck_text.Goals as goal

pub returns-in_ok-reply-in-Ok-clause-reply : goal.returns-in_ok-reply-in-Ok-clause-reply
returns-in_ok-reply-in-Ok-clause-reply g c =
    deck_reply (λ b. (goal.PortDevice-dyn g (b.vtable, b.value)).device_of b.value) (λ b. (goal.PortDevice-dyn g (b.vtable, b.value)).faults b.value)
    c.args.mode c.args.window c.args.bytes.now c.args.devices.now.items c.trace_deck.new.devices.items c.requires.no_save c.in-Ok.deck _ c.in-Ok.ensures.deck
    c.in_ok-reply-in-Ok.ensures.traced

pub returns-in_ok-reply-in-Err-clause-reply : goal.returns-in_ok-reply-in-Err-clause-reply
returns-in_ok-reply-in-Err-clause-reply g c =
    deck_refused (λ b. (goal.PortDevice-dyn g (b.vtable, b.value)).device_of b.value) (λ b. (goal.PortDevice-dyn g (b.vtable, b.value)).faults b.value)
    c.args.mode c.args.window c.args.bytes.now c.args.devices.now.items c.args.devices.now.items c.requires.no_save c.in-Err.fault
    c.in_ok-reply-in-Err.reply.status c.in_ok-reply-in-Err.reply.text refl
    (c.in-Err.ensures.refusal c.in_ok-reply-in-Err.ensures.refused) c.in_ok-reply-in-Err.ensures.status c.in_ok-reply-in-Err.ensures.text

pub returns-in_err-reply-in-Ok-clause-unanswered : goal.returns-in_err-reply-in-Ok-clause-unanswered
returns-in_err-reply-in-Ok-clause-unanswered g c = on_err _ (begun c.in-Ok.deck c.requires.no_save c.in-Ok.ensures.deck c.in_err-reply-in-Ok.ensures.untold)

pub returns-in_ok-reply-in-Ok-clause-plain : goal.returns-in_ok-reply-in-Ok-clause-plain
returns-in_ok-reply-in-Ok-clause-plain g c = λ deck means.
    let same : c.in-Ok.deck ≡ deck = let there = c.in-Ok.ensures.deck in cc (there, means) in
    subst (λ (d : Deck). TellsPlainly (trial_of (map (λ b. (goal.PortDevice-dyn g (b.vtable, b.value)).device_of b.value) c.args.devices.now.items) d)) same c.in_ok-reply-in-Ok.ensures.plain

pub returns-in_ok-reply-in-Err-clause-plain : goal.returns-in_ok-reply-in-Err-clause-plain
returns-in_ok-reply-in-Err-clause-plain g c = λ deck means.
    let refused = c.in-Err.ensures.refusal c.in_ok-reply-in-Err.ensures.refused in absurd (cc (refused, means))
