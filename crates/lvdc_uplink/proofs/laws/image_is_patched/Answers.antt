use Rattle.std.proofs.Common.{ap, ◌∙◌}
use Rattle.std.proofs.lemmas.List.Elements.{All-weaker}
use Rattle.lvdc_map.specs.Memory.{memory_of, word_at, filled_with}
use Rattle.lvdc_map.specs.declared.placed.Placed.{Placed}
use Rattle.lvdc_image.specs.Image.{Contents, IsPlaced}
use Rattle.lvdc_uplink.specs.Patching.{placed_by}
use Rattle.lvdc_uplink.specs.Link.{link_to}
use Rattle.lvdc_uplink.specs.History.{committed_from}
use Rattle.lvdc_uplink.proofs.Placing.{rise-zero}
use Rattle.lvdc_uplink.proofs.Histories.{image_after}
use Rattle.lvdc_uplink.proofs.Sound.{fit-from}
use Rattle.lvdc_uplink.proofs.Storing.{HasAddress, with_words-loaded, placed_by-addresses}
use Rattle.lvdc_uplink.proofs.laws.image_is_patched.Goals as goal

pub returns-clause-words : goal.returns-clause-words
returns-clause-words c link texts = image_after texts link

pub returns-clause-memory : goal.returns-clause-memory
returns-clause-memory c image texts at rising placed =
    ap (λ (contents : Contents). word_at (memory_of contents.words) at) (image_after texts (link_to image))
    ∙ with_words-loaded (placed_by (committed_from (link_to image) texts)) image.words (filled_with 0) at (rise-zero image.words rising)
    (All-weaker IsPlaced HasAddress (λ (p : Placed) is. is.at) image.words placed)
    (placed_by-addresses (committed_from (link_to image) texts) (fit-from texts (link_to image) tt))
