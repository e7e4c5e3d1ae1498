use Rattle.std.proofs.Common.{◌≡◌, ℕ, ◌+◌, ◌*◌, List, [], ◌∷◌, ◌++◌, length, All, sym, ap, ◌∙◌, subst, arith, length-append}
use Rattle.std.proofs.lemmas.List.Elements.{All-push}
use Rattle.lvdc_fault.specs.declared.event.Event.{Event}
use Rattle.lvdc_fault.specs.Events.{IsEvent}
use Rattle.lvdc_soak_deck.specs.Soak.{flip_event, damage_event}
use Rattle.lvdc_soak_deck.proofs.Soaking.{events-more, events-done}
use Rattle.lvdc_soak_deck.proofs.soak.script_from.Goals as goal

-- two events more
length-two : (events : List Event) (a b : Event) (now : List Event) (k : ℕ) → now ≡ (events ++ a ∷ []) ++ b ∷ [] → length events ≡ 2 * k → length now ≡ 2 * (k + 1)
length-two events a b now k made count = omega (arith, ap length made, length-append (events ++ a ∷ []) (b ∷ []), length-append events (a ∷ []))

All-two : (events : List Event) (a b : Event) (now : List Event) → now ≡ (events ++ a ∷ []) ++ b ∷ [] → All IsEvent events → IsEvent a → IsEvent b → All IsEvent now
All-two events a b now made all first second =
    subst (All IsEvent) (sym made) (All-push IsEvent (events ++ a ∷ []) b (All-push IsEvent events a all first) second)

pub loop-k-preserved : goal.loop-k-preserved
loop-k-preserved c =
    let made : c.push-in-loop-k.new.self ≡ (c.loop-k.script ++ c.flip_event.result ∷ []) ++ c.damage_event.result ∷ [] =
    c.in_ok-push-2.ensures.pushed ∙ ap (λ (es : List Event). es ++ c.damage_event.result ∷ []) c.in_ok-push.ensures.pushed in
    let as_drawn : c.push-in-loop-k.new.self ≡ (c.loop-k.script ++ flip_event c.loop-k.k c.draw.result ∷ []) ++ damage_event c.loop-k.k c.draw-in-loop-k.result ∷ [] =
    made ∙ ap (λ (e : Event). (c.loop-k.script ++ e ∷ []) ++ c.damage_event.result ∷ []) c.flip_event.ensures.event
    ∙ ap (λ (e : Event). (c.loop-k.script ++ flip_event c.loop-k.k c.draw.result ∷ []) ++ e ∷ []) c.damage_event.ensures.event in
    record {
      script = events-more 2048 c.loop-k.k c.loop-k.generator c.loop-k.script _ c.loop-k.invariant.script c.loop-k-test.true c.draw.new.self c.draw-in-loop-k.new.self c.draw.result c.draw-in-loop-k.result
          c.draw.ensures.state c.draw.ensures.word c.draw-in-loop-k.ensures.state c.draw-in-loop-k.ensures.word c.push-in-loop-k.new.self as_drawn;
      count = length-two c.loop-k.script c.flip_event.result c.damage_event.result c.push-in-loop-k.new.self c.loop-k.k made c.loop-k.invariant.count;
      events = All-two c.loop-k.script c.flip_event.result c.damage_event.result c.push-in-loop-k.new.self made c.loop-k.invariant.events c.flip_event.ensures.ranges c.damage_event.ensures.ranges;
    }

pub returns-clause-script : goal.returns-clause-script
returns-clause-script c = events-done 2048 c.loop-k.k c.loop-k.generator c.loop-k.script _ c.loop-k.invariant.script c.loop-k-test.false
