-- The worked deck of soak run 1: its image, its script, and what stands around them.
use Rattle.std.proofs.Common.{◌≡◌, ℕ, [], ◌∷◌, true, None, length, take, refl}
use Rattle.lvdc_map.specs.declared.placed.Placed.{Placed}
use Rattle.lvdc_fault.specs.declared.event.Event.TheVariants.{Flip, Damage}
use Rattle.lvdc_soak_deck.specs.Soak.{seed_of, next, after_draws, words_drawn, placed_from, damage_event, events_from, soak_of}

-- ---- draws

greatest_number : (seed_of 4294967295 ≡ 2147483647) × (seed_of 2147483648 ≡ 0)
greatest_number = (refl, refl)

-- 1,103,515,245 and 12,345; from there, less 567,063,465 times 2 ^ 31
two_draws : (next 1 ≡ 1103527590) × (next 1103527590 ≡ 377401575)
two_draws = (refl, refl)

-- ---- the image: the loop in sector 00 and five draws in sector 01

holds : ℕ → ℕ → ℕ → Placed
holds sector loc word = record { at = record { pair = 0; sector = sector; loc = loc }; word = word }

image_of_1 : (soak_of 1).image
    ≡ record {
      words =
          holds 0 0 0o17000 ∷ holds 0 1 0o07001 ∷ holds 0 2 0o13000 ∷ holds 0 3 0o01002 ∷ holds 0 4 0o11003 ∷ holds 0 5 0o13003
          ∷ holds 0 6 0o12017 ∷ holds 0 7 0o12416 ∷ holds 0 8 0o06004 ∷ holds 0 9 0o13005 ∷ holds 0 10 0o17775 ∷ holds 0 11 0o13006
          ∷ holds 0 12 0o10000 ∷ holds 1 0 0o007063752 ∷ holds 1 1 0o131765416 ∷ holds 1 2 0o236017111 ∷ holds 1 3 0o021534663
          ∷ holds 1 4 0o345136763 ∷ [];
      start = None;
      banks = 0;
    }
unfolding holds words_drawn placed_from
image_of_1 = refl

-- ---- the script: the first event, the last one, and how many

first_event : take 1 (soak_of 1).script ≡ Flip 1 1 0 0 0 0o127733511 ∷ []
unfolding after_draws events_from
first_event = refl

number_of_events : length (soak_of 1).script ≡ 4096
unfolding after_draws events_from
number_of_events = refl

-- the sixth and the seventh pair, where the draws begin at 1
two_pairs : events_from 2 5 1
    ≡ Flip 6 1 1460 1460 0 0o007063753 ∷ Damage 0 (record { pair = 0; sector = 0; loc = 5 }) 1606 0o100
    ∷ Flip 7 1 1752 1752 0 0o236017112 ∷ Damage 0 (record { pair = 0; sector = 0; loc = 6 }) 1898 0o40000000 ∷ []
unfolding events_from
two_pairs = refl

-- words 12 and 13 of the twenty, and the first twin again after forty
words_of_damages : (damage_event 12 0 ≡ Damage 0 (record { pair = 0; sector = 0; loc = 12 }) 3650 1)
    × (damage_event 13 0 ≡ Damage 0 (record { pair = 0; sector = 1; loc = 0 }) 3942 1)
words_of_damages = (refl, refl)

twins_of_damages : (damage_event 39 3 ≡ Damage 1 (record { pair = 0; sector = 1; loc = 6 }) 11534 8)
    × (damage_event 40 0 ≡ Damage 0 (record { pair = 0; sector = 0; loc = 0 }) 11826 1)
twins_of_damages = (refl, refl)

-- ---- what stands around them

-- the start constant 000000016: module 0, sector 00, syllable 0, location 000, data sector 01, duplex
start_of_1 : (soak_of 1).start ≡ record { imod = 0; isec = 0; syl = 0; loc = 0; dmod = 0; dsec = 1; dupin = true; dupdn = true }
start_of_1 = refl

around_it : ((soak_of 1).banks ≡ 0) × ((soak_of 1).supplies ≡ []) × ((soak_of 1).unplugs ≡ []) × ((soak_of 1).orders ≡ []) × ((soak_of 1).count ≡ 200000)
around_it = (refl, refl, refl, refl, refl)
