-- What a list of lines makes of an image.
use Rattle.std.proofs.Common.{◌≡◌, ℕ, List, [], ◌∷◌, ◌++◌, refl, sym, ap, ◌∙◌, append_assoc, append-nil, inl, inr}
use Rattle.lvdc_map.specs.declared.placed.Placed.{Placed}
use Rattle.lvdc_image.specs.Image.{Contents}
use Rattle.lvdc_uplink.specs.Frames.{Load}
use Rattle.lvdc_uplink.specs.Patching.{placed_in, placed_by, with_words}
use Rattle.lvdc_uplink.specs.Messages.{message_of}
use Rattle.lvdc_uplink.specs.Link.{Link, after_text}
use Rattle.lvdc_uplink.specs.History.{link_after, committed_by, committed_from}
use Rattle.lvdc_uplink.proofs.Placing.{with_words-append}
use Rattle.lvdc_uplink.proofs.Outcomes.{Applied, AppliesNone, outcome}

pub placed_by-append : (one more : List Load) → placed_by (one ++ more) ≡ placed_by one ++ placed_by more
placed_by-append [] more = refl
placed_by-append (load ∷ one) more =
    ap (λ (ps : List Placed). placed_in load.frames ++ ps) (placed_by-append one more) ∙ sym (append_assoc (placed_in load.frames) (placed_by one) (placed_by more))

pub committed_by-applied : (link : Link) (text : List ℕ) (load : Load) → Applied link (after_text link text) load → committed_by link text ≡ load ∷ []
committed_by-applied link text load applied = rw (applied.applying, applied.held) refl

pub committed_by-kept : (link : Link) (text : List ℕ) → AppliesNone link (after_text link text) → committed_by link text ≡ []
committed_by-kept link text kept = rw kept.applying refl

-- the image with these words too
abbrev pub with_placed : Contents → List Placed → Contents
with_placed image words = record image { words = with_words image.words words }

image_after-line : (link : Link) (text : List ℕ) → (after_text link text).link.image ≡ with_placed link.image (placed_by (committed_by link text))
image_after-line link text =
    elim (outcome link (message_of text)) [
      | inl found ↦ found.1.image
          ∙ ap (with_placed link.image) (sym (append-nil (placed_in found.0.frames)) ∙ ap placed_by (sym (committed_by-applied link text found.0 found.1)))
      | inr kept ↦ kept.image ∙ ap (λ (loads : List Load). with_placed link.image (placed_by loads)) (sym (committed_by-kept link text kept))
    ]

pub image_after : (texts : List (List ℕ)) (link : Link) → (link_after link texts).image ≡ with_placed link.image (placed_by (committed_from link texts))
image_after [] link = refl
image_after (text ∷ texts) link =
    image_after texts (after_text link text).link
    ∙ ap (λ (image : Contents). with_placed image (placed_by (committed_from (after_text link text).link texts))) (image_after-line link text)
    ∙ ap (λ (words : List Placed). record link.image { words = words })
    (sym (with_words-append (placed_by (committed_by link text)) (placed_by (committed_from (after_text link text).link texts)) link.image.words)
    ∙ ap (with_words link.image.words) (sym (placed_by-append (committed_by link text) (committed_from (after_text link text).link texts))))
