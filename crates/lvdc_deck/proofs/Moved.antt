-- A source whose lines stand so many lines further on is assembled to the same, or refused for the same cause, so many lines further on.
use Rattle.std.proofs.Common.{◌≡◌, ℕ, List, ◌∷◌, map, Result, Ok, Err, refl, ap, ◌∙◌}
use Rattle.lvdc_text.specs.Lines.{NumberedLine}
use Rattle.lvdc_source.specs.Source.{source_of}
use Rattle.lvdc_source.specs.declared.fault.SourceFault.{SourceFault}
use Rattle.lvdc_source.specs.declared.item.Item.{Item}
use Rattle.lvdc_place.specs.Placement.{Placement, placement}
use Rattle.lvdc_place.specs.Slots.{Slots}
use Rattle.lvdc_place.specs.declared.fault.PlaceFault.{PlaceFault}
use Rattle.lvdc_asm.specs.Assembly.{start_from, by_lines, by_plan, by_placement, by_names, by_items, assembly_of}
use Rattle.lvdc_asm.specs.DataPlace.{first_data}
use Rattle.lvdc_asm.specs.Hop.{Plan}
use Rattle.lvdc_asm.specs.Lines.{lines_after}
use Rattle.lvdc_asm.specs.Names.{names_in}
use Rattle.lvdc_asm.specs.Pool.{Progress}
use Rattle.lvdc_asm.specs.declared.fault.AsmFault.{AsmFault}
use Rattle.lvdc_deck.specs.Moving.{line_moved, item_moved, assembly_moved}
use Rattle.lvdc_deck.proofs.MovedSource.{items_moved, source-moved}
use Rattle.lvdc_deck.proofs.MovedPlaces.{refusal_moved as placed_moved, placement-moved}
use Rattle.lvdc_deck.proofs.MovedLines.{Names, refusal_moved, names-moved, lines-moved}

by-lines : (k : ℕ) (items : List Item) (plan : Plan) (progress : Result Progress AsmFault) →
    by_lines (map (item_moved k) items) plan (refusal_moved k progress) ≡ assembly_moved k (by_lines items plan progress)
by-lines k items plan (Ok progress) = refl
by-lines k items plan (Err fault) = refl

by-plan : (k : ℕ) (items : List Item) (plan : Plan) (taken : Slots) → by_plan (map (item_moved k) items) plan taken ≡ assembly_moved k (by_plan items plan taken)
by-plan k items plan taken =
    ap (by_lines (map (item_moved k) items) plan) (lines-moved plan k 0 first_data items (Ok (start_from taken)))
    ∙ by-lines k items plan (lines_after plan 0 first_data items (Ok (start_from taken)))

by-placement : (k : ℕ) (items : List Item) (names : Names) (placed : Result Placement PlaceFault) →
    by_placement (map (item_moved k) items) names (placed_moved k placed) ≡ assembly_moved k (by_placement items names placed)
by-placement k items names (Ok placed) = by-plan k items (record { names = names; spots = placed.spots }) placed.taken
by-placement k items names (Err fault) = refl

by-names : (k : ℕ) (items : List Item) (names : Result Names AsmFault) →
    by_names (map (item_moved k) items) (refusal_moved k names) ≡ assembly_moved k (by_names items names)
by-names k items (Ok names) = ap (by_placement (map (item_moved k) items) names) (placement-moved k items) ∙ by-placement k items names (placement items)
by-names k items (Err fault) = refl

by-items : (k : ℕ) (items : Result (List Item) SourceFault) → by_items (items_moved k items) ≡ assembly_moved k (by_items items)
by-items k (Ok items) = ap (by_names (map (item_moved k) items)) (names-moved k items) ∙ by-names k items (names_in items)
by-items k (Err fault) = refl

pub assembly-moved : (k : ℕ) (line : NumberedLine) (lines : List NumberedLine) →
    assembly_of (map (line_moved k) (line ∷ lines)) ≡ assembly_moved k (assembly_of (line ∷ lines))
assembly-moved k line lines = ap by_items (source-moved k line lines) ∙ by-items k (source_of (line ∷ lines))
