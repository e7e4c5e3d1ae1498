use Rattle.std.proofs.Common.{take}
use Rattle.std.specs.Prelude.{filter_map}
use Rattle.lvdc_withstands.specs.Form.{place_of}
use Rattle.lvdc_withstands.specs.Places.{AreMarked}
use Rattle.lvdc_withstands.proofs.places.has_none_twice.Given as goal

abbrev pub invariant-loop-line : goal.invariant-loop-line
invariant-loop-line l = AreMarked (filter_map place_of (take l.line-index l.lines)) l.named.items
