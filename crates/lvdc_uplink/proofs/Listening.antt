-- What the reply tells whoever hears the messages and their answers.
use Rattle.std.proofs.Common.{◌≡◌, ℕ, suc, true, List, [], ◌∷◌, ◌++◌, length, Result, Ok, Err, refl, sym, ap, ◌∙◌}
use Rattle.std.specs.Prelude.{IfOk}
use Rattle.lvdc_image.specs.Image.{Contents, image_text}
use Rattle.lvdc_word.specs.declared.memory.NoMemory.{NoMemory}
use Rattle.lvdc_reply.specs.declared.reply.Reply.{Reply}
use Rattle.lvdc_uplink.specs.Link.{Link, link_to, after_text, is_acknowledged}
use Rattle.lvdc_uplink.specs.History.{answers_from, link_after}
use Rattle.lvdc_uplink.specs.Heard.{IsAsHeard, AreHeld, nothing_heard, heard_from}
use Rattle.lvdc_uplink.specs.declared.fault.PatchFault.{PatchFault}
use Rattle.lvdc_uplink.specs.Input.{Request}
use Rattle.lvdc_uplink.specs.Answers.{IsHeard, answers_text, text_of}

-- each message has an answer
as-many : (texts : List (List ℕ)) (link : Link) → length (answers_from link texts) ≡ length texts
as-many [] link = refl
as-many (text ∷ texts) link = ap suc (as-many texts (after_text link text).link)

module _ (heard : (image : Contents) (texts : List (List ℕ)) → IsAsHeard image (heard_from texts (answers_from (link_to image) texts) nothing_heard) (link_after (link_to image) texts))
    (held : (image : Contents) (texts : List (List ℕ)) → AreHeld texts (answers_from (link_to image) texts) nothing_heard)
    (doubled : (link : Link) (before after : List (List ℕ)) (text : List ℕ) → is_acknowledged (after_text (link_after link before) text).answer ≡ true
    → link_after link (before ++ text ∷ text ∷ after) ≡ link_after link (before ++ text ∷ after)) where
  request-heard : (request : Request) (text : List ℕ) → text ≡ text_of (Ok request) → IsHeard request text
  request-heard request text is =
      let first : Link = link_to request.image in
      let known = heard request.image request.messages in
      record {
        answers = answers_from first request.messages;
        each = as-many request.messages first;
        told = is ∙ ap (λ (image : Contents). answers_text (answers_from first request.messages) ++ image_text image) known.image;
        whole = known.whole;
        once = known.once;
        held = held request.image request.messages;
        doubled = λ before after message parts acknowledged.
            doubled first before after message acknowledged ∙ ap (link_after first) (sym parts);
      }

  pub reply-heard : (asked : Result Request PatchFault) (result : Result Reply NoMemory) → IfOk result (λ reply. reply.text ≡ text_of asked)
      → IfOk result (λ reply. (request : Request) → asked ≡ Ok request → IsHeard request reply.text)
  reply-heard asked (Ok reply) is = λ request same. request-heard request reply.text (is ∙ ap text_of same)
  reply-heard asked (Err fault) is = tt
