-- Worked draws.
use Rattle.std.proofs.Common.{◌≡◌, [], ◌∷◌, refl}
use Rattle.lvdc_fault.specs.declared.event.Event.TheVariants.{Flip, Damage}
use Rattle.lvdc_soak_deck.specs.Soak.{seed_of, after_draws, words_drawn, flip_event, damage_event, events_from}

-- the five words of the image of number 1
words_of_1 : words_drawn 5 (seed_of 1) ≡ 0o007063752 ∷ 0o131765416 ∷ 0o236017111 ∷ 0o021534663 ∷ 0o345136763 ∷ []
unfolding words_drawn
words_of_1 = refl

-- and its first events
events_of_1 : events_from 2 0 (after_draws 5 (seed_of 1)) ≡
    Flip 1 1 0 0 0 0o127733511 ∷ Damage 0 (record { pair = 0; sector = 0; loc = 0 }) 146 0o20
    ∷ Flip 2 1 292 292 0 0o163735344 ∷ Damage 0 (record { pair = 0; sector = 0; loc = 1 }) 438 0o2000000 ∷ []
unfolding after_draws events_from
events_of_1 = refl

words_of_0 : words_drawn 5 (seed_of 0) ≡ 0o000001403 ∷ 0o117340547 ∷ 0o234041175 ∷ 0o131450702 ∷ 0o066524557 ∷ []
unfolding words_drawn
words_of_0 = refl

-- the greatest number is one more than 2 ^ 31 times 1 and what is left
the_greatest_number : seed_of 4294967295 ≡ seed_of 2147483647
the_greatest_number = refl

-- the last pair of events, at the least words that a draw can give: a mask has a bit at least
the_last_flip : flip_event 2047 0 ≡ Flip 4 2 597724 597724 0 1
the_last_flip = refl

the_last_damage : damage_event 2047 0 ≡ Damage 0 (record { pair = 0; sector = 0; loc = 7 }) 597870 1
the_last_damage = refl

-- after a round of the twenty words the other twin has its turn
the_other_twin : damage_event 39 27 ≡ Damage 1 (record { pair = 0; sector = 1; loc = 6 }) 11534 0o1000000000
the_other_twin = refl

-- the greatest word draws the least mask
the_greatest_word : flip_event 0 0o377777777 ≡ Flip 1 1 0 0 0 1
the_greatest_word = refl
