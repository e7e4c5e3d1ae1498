-- The cells of the first ones are laid out.
use Rattle.std.proofs.Common.{◌≡◌, length, take}
use Rattle.lvdc_word.specs.Cell.{code_of}
use Rattle.lvdc_twin.proofs.Holding.{HasLaid}
use Rattle.lvdc_twin.proofs.held.laid_out.Given as goal

abbrev pub invariant-loop-one : goal.invariant-loop-one
invariant-loop-one l = record {
  blank : l.cells.blank ≡ code_of 0;
  whole : length l.cells.items ≡ 32768;
  laid : HasLaid (take l.one-index l.held) l.cells.items;
}
