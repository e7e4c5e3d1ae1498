use Rattle.std.proofs.Common.{◌≡◌, drop, true}
use Rattle.lvdc_map.specs.Memory.{are_rising}
use Rattle.lvdc_uplink.specs.Patching.{placed_in, with_words}
use Rattle.lvdc_uplink.proofs.load.Load.put.Given as goal

abbrev pub invariant-loop-frame : goal.invariant-loop-frame
invariant-loop-frame l = record {
  words : with_words l.words.items (placed_in (drop l.frame-index l.frames)) ≡ with_words l.initial.words.items (placed_in l.frames);
  rising : are_rising l.words.items ≡ true;
}
