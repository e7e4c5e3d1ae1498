use Rattle.std.proofs.Common.{◌≡◌, ◌++◌, drop, flat_map}
use Rattle.lvdc_text.specs.Joined.{text_of}
use Rattle.lvdc_listing.specs.Listing.{placed_items, item_names}
use Rattle.lvdc_listing.proofs.names.put_names.Given as goal

abbrev pub invariant-loop-number : goal.invariant-loop-number
invariant-loop-number l =
    l.out.items ++ text_of (flat_map item_names (drop l.number (placed_items l.assembly))) ≡ l.initial.out.items ++ text_of (flat_map item_names (placed_items l.assembly))
