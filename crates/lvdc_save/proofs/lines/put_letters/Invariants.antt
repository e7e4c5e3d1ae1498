use Rattle.std.proofs.Common.{◌≡◌, ◌++◌, ◌+◌, map, take}
use Rattle.lvdc_save.proofs.lines.put_letters.Given as goal

abbrev pub invariant-loop-copy : goal.invariant-loop-copy
invariant-loop-copy l = l.out.items ≡ l.initial.out.items ++ map (λ copy. 65 + copy) (take l.copy-index l.copies)
