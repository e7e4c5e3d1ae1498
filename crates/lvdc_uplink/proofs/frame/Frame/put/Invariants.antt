use Rattle.std.proofs.Common.{◌≡◌, ◌+◌, drop, true}
use Rattle.lvdc_map.specs.Memory.{are_rising}
use Rattle.lvdc_uplink.specs.Patching.{placed_from, with_words}
use Rattle.lvdc_uplink.proofs.frame.Frame.put.Given as goal

abbrev pub invariant-loop-offset : goal.invariant-loop-offset
invariant-loop-offset l = record {
  words : with_words l.image.items (placed_from (record l.self.at { loc = l.self.at.loc + l.offset }) (drop l.offset l.words))
      ≡ with_words l.initial.image.items (placed_from l.self.at l.words);
  rising : are_rising l.image.items ≡ true;
}
