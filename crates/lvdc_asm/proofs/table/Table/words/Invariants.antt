use Rattle.std.proofs.Common.{◌≡◌, ◌++◌, drop}
use Rattle.lvdc_asm.specs.Locations.{words_from, words_of}
use Rattle.lvdc_asm.proofs.table.Table.words.Given as goal

abbrev pub invariant-loop-place : goal.invariant-loop-place
invariant-loop-place l = l.words.items ++ words_from l.place (drop l.place l.self) ≡ words_of l.self
