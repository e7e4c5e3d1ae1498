-- What is heard of lines and of their answers is what the link holds, line after line.
use Rattle.std.proofs.Common.{◌≡◌, ℕ, ◌<◌, Bool, true, false, List, [], ◌∷◌, ◌++◌, Option, None, Some, refl, sym, ap, subst, ◌∙◌, append-nil, inl, inr, if◌then◌else◌}
use Rattle.std.specs.Prelude.{option_to_list}
use Rattle.std.proofs.lemmas.List.Elements.{All-nil, All-cons, All-append}
use Rattle.lvdc_map.specs.declared.placed.Placed.{Placed}
use Rattle.lvdc_image.specs.Image.{Contents}
use Rattle.lvdc_uplink.specs.Frames.{Load, load_check}
use Rattle.lvdc_uplink.specs.Patching.{placed_in, placed_by, with_words, patched}
use Rattle.lvdc_uplink.specs.Messages.{message_of}
use Rattle.lvdc_uplink.specs.Link.{Link, Step, link_to, after_message, by_message, after_text, is_acknowledged, again, is_applying}
use Rattle.lvdc_uplink.specs.History.{AreAbove, answers_from, link_after}
use Rattle.lvdc_uplink.specs.Heard.{Heard, nothing_heard, hears_by, hears, heard_from, changed, IsWhole, last_id, last_check, IsSoundLoad, IsAsHeard, IsHeldIf, AreHeld}
use Rattle.lvdc_uplink.specs.declared.answer.Answer.{Answer}
use Rattle.lvdc_uplink.specs.declared.message.Message.{Message}
use Rattle.lvdc_uplink.proofs.Placing.{with_words-append}
use Rattle.lvdc_uplink.proofs.Ranged.{IsRanged, message_of-ranged}
use Rattle.lvdc_uplink.proofs.Outcomes.{Applied, AppliesNone, Outcome, outcome}
use Rattle.lvdc_uplink.proofs.Histories.{placed_by-append}
use Rattle.lvdc_uplink.proofs.Sound.{line_sound}
use Rattle.lvdc_uplink.proofs.Repeating.{line-repeats}
use Rattle.lvdc_uplink.proofs.Hearing.{message_hears}
use Rattle.lvdc_uplink.proofs.Holding.{AnswerHolds, line-holds}

pub from-nothing : (image : Contents) → IsAsHeard image nothing_heard (link_to image)
from-nothing image = record { image = refl; whole = All-nil IsWhole; once = tt; load = refl; sound = tt; last = refl; check = refl }

-- ---- one more load

changed-more : (opening : Contents) (done : List Load) (load : Load) → patched (changed opening done) load ≡ changed opening (done ++ load ∷ [])
changed-more opening done load =
    ap (λ (words : List Placed). record opening { words = words })
    (sym (with_words-append (placed_by done) (placed_in load.frames) opening.words)
    ∙ ap (with_words opening.words) (ap (λ (words : List Placed). placed_by done ++ words) (sym (append-nil (placed_in load.frames)))
    ∙ sym (placed_by-append done (load ∷ []))))

above-more : (last : ℕ) (loads : List Load) (load : Load) → AreAbove last loads → last_id last loads < load.id → AreAbove last (loads ++ load ∷ [])
above-more last [] load above higher = (higher, tt)
above-more last (first ∷ loads) load above higher = (above.0, above-more first.id loads load above.1 higher)

last_id-more : (last : ℕ) (loads : List Load) (load : Load) → last_id last (loads ++ load ∷ []) ≡ load.id
last_id-more last [] load = refl
last_id-more last (first ∷ loads) load = last_id-more first.id loads load

last_check-more : (check : ℕ) (loads : List Load) (load : Load) → last_check check (loads ++ load ∷ []) ≡ load_check load
last_check-more check [] load = refl
last_check-more check (first ∷ loads) load = last_check-more (load_check first) loads load

-- ---- one line

module _ (opening : Contents) (heard : Heard) (link : Link) (message : Message) (ranged : IsRanged (Some message)) (is : IsAsHeard opening heard link) where
  abbrev step : Step
  step = after_message link message

  abbrev now : Heard
  now = hears_by (Some message) (is_acknowledged step.answer) heard

  abbrev committed : List Load
  committed = if is_applying link step then option_to_list link.load else []

  abbrev heard_with : List Load → Heard
  heard_with more = record { load = step.link.load; done = heard.done ++ more }

  heard_is : heard ≡ record { load = link.load; done = heard.done }
  heard_is = λ i. record { load = sym is.load i; done = heard.done }

  by_line : now ≡ heard_with committed
  by_line =
      ap (hears_by (Some message) (is_acknowledged step.answer)) heard_is
      ∙ message_hears link.image link.last link.check heard.done link.load message is.sound

  still_sound : IsSoundLoad step.link.last step.link.load
  still_sound = line_sound link (Some message) ranged is.sound

  one : (load : Load) → Applied link step load → committed ≡ load ∷ []
  one load applied = rw (applied.applying, applied.held) refl

  nothing : AppliesNone link step → committed ≡ []
  nothing kept = rw kept.applying refl

  held_sound : (held : Option Load) (load : Load) → held ≡ Some load → IsSoundLoad link.last held → link.last < load.id
  held_sound held load same sound = (subst (IsSoundLoad link.last) same sound).0

  with_one : (load : Load) → Applied link step load → IsAsHeard opening (heard_with (load ∷ [])) step.link
  with_one load applied = record {
    image = applied.image ∙ ap (λ (image : Contents). patched image load) is.image ∙ changed-more opening heard.done load;
    whole = All-append IsWhole heard.done (load ∷ []) is.whole (All-cons IsWhole load [] applied.whole (All-nil IsWhole));
    once = above-more 0 heard.done load is.once (subst (λ (n : ℕ). n < load.id) is.last (held_sound link.load load applied.held is.sound));
    load = refl;
    sound = still_sound;
    last = applied.last ∙ sym (last_id-more 0 heard.done load);
    check = applied.check ∙ sym (last_check-more 0 heard.done load);
  }

  with_none : AppliesNone link step → IsAsHeard opening (record { load = step.link.load; done = heard.done }) step.link
  with_none kept = record {
    image = kept.image ∙ is.image;
    whole = is.whole;
    once = is.once;
    load = refl;
    sound = still_sound;
    last = kept.last ∙ is.last;
    check = kept.check ∙ is.check;
  }

  by_outcome : Outcome link step → IsAsHeard opening now step.link
  by_outcome (inl found) =
      subst (λ (h : Heard). IsAsHeard opening h step.link) (sym (by_line ∙ ap heard_with (one found.0 found.1))) (with_one found.0 found.1)
  by_outcome (inr kept) =
      let same : now ≡ record { load = step.link.load; done = heard.done } =
      by_line ∙ ap heard_with (nothing kept) ∙ ap (λ (loads : List Load). record { load = step.link.load; done = loads }) (append-nil heard.done) in
      subst (λ (h : Heard). IsAsHeard opening h step.link) (sym same) (with_none kept)

  message_heard : IsAsHeard opening now step.link
  message_heard = by_outcome (outcome link (Some message))

line-heard : (opening : Contents) (heard : Heard) (link : Link) (message : Option Message) → IsRanged message → IsAsHeard opening heard link
    → IsAsHeard opening (hears_by message (is_acknowledged (by_message link message).answer) heard) (by_message link message).link
line-heard opening heard link None ranged is = is
line-heard opening heard link (Some message) ranged is = message_heard opening heard link message ranged is

pub text-heard : (opening : Contents) (heard : Heard) (link : Link) (text : List ℕ) → IsAsHeard opening heard link
    → IsAsHeard opening (hears text (after_text link text).answer heard) (after_text link text).link
text-heard opening heard link text is = line-heard opening heard link (message_of text) (message_of-ranged text) is

pub text-holds : (link : Link) (text : List ℕ) → AnswerHolds (message_of text) (after_text link text)
text-holds link text = line-holds link (message_of text) (message_of-ranged text)

-- ---- many lines

pub texts-heard : (texts : List (List ℕ)) (opening : Contents) (heard : Heard) (link : Link) → IsAsHeard opening heard link
    → IsAsHeard opening (heard_from texts (answers_from link texts) heard) (link_after link texts)
texts-heard [] opening heard link is = is
texts-heard (text ∷ texts) opening heard link is =
    texts-heard texts opening (hears text (after_text link text).answer heard) (after_text link text).link (text-heard opening heard link text is)

holds-as-heard : (opening : Contents) (heard : Heard) (link : Link) (message : Option Message) (acknowledged : Bool) → IsAsHeard opening heard link
    → IsHeldIf message acknowledged link.load link.last link.check
    → IsHeldIf message acknowledged heard.load (last_id 0 heard.done) (last_check 0 heard.done)
holds-as-heard opening heard link message acknowledged is held =
    subst (λ (load : Option Load). IsHeldIf message acknowledged load (last_id 0 heard.done) (last_check 0 heard.done)) is.load
    (subst (λ (last : ℕ). IsHeldIf message acknowledged link.load last (last_check 0 heard.done)) is.last
    (subst (λ (check : ℕ). IsHeldIf message acknowledged link.load link.last check) is.check held))

pub texts-held : (texts : List (List ℕ)) (opening : Contents) (heard : Heard) (link : Link) → IsAsHeard opening heard link
    → AreHeld texts (answers_from link texts) heard
texts-held [] opening heard link is = tt
texts-held (text ∷ texts) opening heard link is =
    let next = text-heard opening heard link text is in (
      holds-as-heard opening (hears text (after_text link text).answer heard) (after_text link text).link (message_of text)
          (is_acknowledged (after_text link text).answer) next (text-holds link text),
      texts-held texts opening (hears text (after_text link text).answer heard) (after_text link text).link next,
    )

-- ---- a line sent twice

pub after-append : (texts more : List (List ℕ)) (link : Link) → link_after link (texts ++ more) ≡ link_after (link_after link texts) more
after-append [] more link = refl
after-append (text ∷ texts) more link = after-append texts more (after_text link text).link

-- ---- by the step of a line

-- a line that is acknowledged leaves the link as it is when it is sent again
abbrev pub Stays : Type 0
Stays =
    (link : Link) (text : List ℕ) → is_acknowledged (after_text link text).answer ≡ true
    → (after_text (after_text link text).link text).link ≡ (after_text link text).link

-- a line that isn't acknowledged leaves the link as it is
abbrev pub Keeps : Type 0
Keeps =
    (link : Link) (text : List ℕ) → is_acknowledged (after_text link text).answer ≡ false → (after_text link text).link ≡ link

text-again : Stays → (link : Link) (text : List ℕ) → is_acknowledged (after_text link text).answer ≡ true
    → after_text (after_text link text).link text ≡ record { answer = again (after_text link text).answer; link = (after_text link text).link }
text-again stays link text ack =
    λ i. record { answer = line-repeats link (message_of text) ack i; link = stays link text ack i }

module _ (link now : Link) (text : List ℕ) (answer : Answer) (is : after_text link text ≡ record { answer = answer; link = now }) where
  pub heard-then : (opening : Contents) (heard : Heard) → IsAsHeard opening heard link → IsAsHeard opening (hears text answer heard) now
  heard-then opening heard before =
      subst (λ (step : Step). IsAsHeard opening (hears text step.answer heard) step.link) is (text-heard opening heard link text before)

  pub held-then : IsHeldIf (message_of text) (is_acknowledged answer) now.load now.last now.check
  held-then = subst (AnswerHolds (message_of text)) is (text-holds link text)

  pub again-then : Stays → is_acknowledged answer ≡ true → after_text now text ≡ record { answer = again answer; link = now }
  again-then stays =
      subst (λ (step : Step). is_acknowledged step.answer ≡ true → after_text step.link text ≡ record { answer = again step.answer; link = step.link }) is
      (text-again stays link text)

  pub refused-then : Keeps → is_acknowledged answer ≡ false → now ≡ link
  refused-then keeps =
      subst (λ (step : Step). is_acknowledged step.answer ≡ false → step.link ≡ link) is (keeps link text)
