use Rattle.std.proofs.Common.{◌≡◌, ℕ, true, get_or, subst, sym}
use Rattle.lvdc_map.specs.Banks.{is_there}
use Rattle.lvdc_deck.proofs.said.Said.into_deck.Goals as goal

pub returns-clause-there : goal.returns-clause-there
returns-clause-there c k d within =
    c.union-banks.ensures.there (get_or c.into_image-image.result.words k d).at
    (subst (λ (n : ℕ). is_there n (get_or c.into_image-image.result.words k d).at ≡ true) (sym c.banks.ensures) (c.into_image-image.ensures.there k d within))

pub returns-clause-commands : goal.returns-clause-commands
returns-clause-commands c = c.from_vec-3.ensures

pub returns-clause-count : goal.returns-clause-count
returns-clause-count c = c.requires

pub returns-clause-rising : goal.returns-clause-rising
returns-clause-rising c = c.into_image-image.ensures.rising

pub returns-clause-few : goal.returns-clause-few
returns-clause-few c = c.self.invariant.1

pub returns-clause-events : goal.returns-clause-events
returns-clause-events c = c.self.invariant.2
