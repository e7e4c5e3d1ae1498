use Rattle.std.proofs.Common.{◌≡◌, ◌-◌, map, take, true}
use Rattle.std.specs.Prelude.{nat_le}
use Rattle.std.specs.List.{list_all}
use Rattle.lvdc_lines.proofs.lines.copies_in.Given as goal

-- the letters so far, each counted from A
abbrev pub invariant-loop-letter : goal.invariant-loop-letter
invariant-loop-letter l = record {
  letters : list_all (nat_le 65) (take l.letter-index l.letters) ≡ true;
  copies : l.copies.items ≡ map (λ letter. letter - 65) (take l.letter-index l.letters);
}
