-- Longer runs of a loop that counts, by computing.
use Rattle.std.proofs.Common.{◌≡◌, refl, [], ◌∷◌}
use Rattle.lvdc_model.specs.Runs.{through, guarded}
use Rattle.lvdc_model.specs.Trial.{Trial}
use Rattle.lvdc_model.proofs.LedgerRows.{trial}
use Rattle.lvdc_model.proofs.VotedRows.{a_of}
use Rattle.lvdc_word.specs.Cell.{with_stuck}
use Rattle.lvdc_vote.specs.Bits.{majority, flipped}

abbrev pub counting : Trial
counting = trial (0o17000 ∷ 0o07001 ∷ 0o13000 ∷ 0o10000 ∷ []) (0 ∷ 1 ∷ []) []

through_240_steps : a_of (through counting 240) ≡ 20
unfolding with_stuck majority flipped
through_240_steps = refl

guarded_60_steps : a_of (guarded counting 60) ≡ 5
unfolding with_stuck majority flipped
guarded_60_steps = refl
