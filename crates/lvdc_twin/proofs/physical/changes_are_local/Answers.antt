-- Slots of different places differ.
use Rattle.std.proofs.Common.{refl}
use Rattle.lvdc_twin.proofs.Places.{stored-with_cell, stuck-with_stuck_bits, dead-with_dead}
use Rattle.lvdc_twin.proofs.Writes.{kept-with_held, whole-with_held}
use Rattle.lvdc_twin.proofs.physical.changes_are_local.Goals as goal

pub returns : goal.returns
returns c =
    record {
      cells = stored-with_cell;
      stuck = stuck-with_stuck_bits;
      dead = dead-with_dead;
      whole = whole-with_held;
      banks = λ t twin at w. kept-with_held (λ u. u.banks) t twin at w refl;
    }
