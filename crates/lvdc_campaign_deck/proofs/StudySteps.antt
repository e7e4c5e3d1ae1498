-- Lines one after the other: FAULTS or DEBUG before CAMPAIGN.
use Rattle.std.proofs.Common.{◌≡◌, ℕ, ◌+◌, ◌<◌, ◌≤◌, Bool, true, false, List, length, get_or, drop, Option, None, Some, refl, sym, ap, ◌∙◌}
use Rattle.std.specs.Bool.{if◌then◌else◌}
use Rattle.std.proofs.lemmas.List.{drop_more, drop_all}
use Rattle.lvdc_text.specs.declared.cutting.Line.{Line}
use Rattle.lvdc_text.specs.Lines.{part_of}
use Rattle.lvdc_campaign_deck.specs.Campaign.{is_campaign}
use Rattle.lvdc_campaign_deck.specs.Study.{is_faults_or_debug, other_line}

-- what an index past the end reads
abbrev no_line : Line
no_line = record { number = 0; start = 0; end = 0 }

-- ---- FAULTS or DEBUG before CAMPAIGN

module _ (bytes : List ℕ) (lines : List Line) (i : ℕ) (total : Option ℕ) (so_far : other_line bytes (drop i lines) ≡ total) where
  abbrev text : List ℕ
  text = part_of bytes (get_or lines i no_line)

  by_line : i < length lines → (campaign other : Bool) → is_campaign text ≡ campaign → is_faults_or_debug text ≡ other
      → (if campaign then None else (if other then Some (get_or lines i no_line).number else other_line bytes (drop (i + 1) lines))) ≡ total
  unfolding other_line
  by_line within campaign other is_c is_o =
      ap (λ (b : Bool). if b then None else (if other then Some (get_or lines i no_line).number else other_line bytes (drop (i + 1) lines))) (sym is_c)
      ∙ ap (λ (b : Bool). if is_campaign text then None else (if b then Some (get_or lines i no_line).number else other_line bytes (drop (i + 1) lines))) (sym is_o)
      ∙ ap (other_line bytes) (sym (drop_more lines i no_line within)) ∙ so_far

  pub other-campaign : i < length lines → is_campaign text ≡ true → None ≡ total
  other-campaign within is = by_line within true (is_faults_or_debug text) is refl

  pub other-here : i < length lines → is_campaign text ≡ false → is_faults_or_debug text ≡ true → Some (get_or lines i no_line).number ≡ total
  other-here within is_c is_o = by_line within false true is_c is_o

  pub other-more : i < length lines → is_campaign text ≡ false → is_faults_or_debug text ≡ false → other_line bytes (drop (i + 1) lines) ≡ total
  other-more within is_c is_o = by_line within false false is_c is_o

  pub other-none : length lines ≤ i → None ≡ total
  unfolding other_line
  other-none all = sym (ap (other_line bytes) (drop_all i lines all)) ∙ so_far
