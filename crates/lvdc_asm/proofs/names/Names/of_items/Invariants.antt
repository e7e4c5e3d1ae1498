use Rattle.std.proofs.Common.{◌≡◌, ◌++◌, drop, []}
use Rattle.std.specs.Map.{keys_of}
use Rattle.lvdc_asm.specs.Names.{names_from, names_of, repeat_after}
use Rattle.lvdc_asm.proofs.names.Names.of_items.Given as goal

abbrev pub invariant-loop-number : goal.invariant-loop-number
invariant-loop-number l = record {
  names : l.names ++ names_from l.number l.assumed (drop l.number l.items) ≡ names_of l.items;
  repeats : repeat_after (keys_of l.names) (drop l.number l.items) ≡ repeat_after [] l.items;
}
