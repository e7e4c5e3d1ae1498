use Rattle.std.proofs.Common.{◌≡◌, ℕ, length}
use Rattle.lvdc_forces.specs.Parts.{no_part, part_of_script}
use Rattle.lvdc_forces.proofs.forces.add_unknown.Given as goal

abbrev pub invariant-loop-made : goal.invariant-loop-made
invariant-loop-made l =
    record {
      count : length l.parts.items ≡ l._made;
      unknown : (k : ℕ) → part_of_script l.parts.items k ≡ no_part;
    }
