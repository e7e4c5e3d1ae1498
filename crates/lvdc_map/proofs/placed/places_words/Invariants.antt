use Rattle.std.proofs.Common.{◌<◌, ◌^◌, take, All}
use Rattle.lvdc_map.specs.declared.placed.Placed.{Placed}
use Rattle.lvdc_map.proofs.placed.places_words.Given as goal

abbrev pub invariant-loop-placed : goal.invariant-loop-placed
invariant-loop-placed l = All (λ (p : Placed). p.word < 2 ^ 26) (take l.placed-index l.image)
