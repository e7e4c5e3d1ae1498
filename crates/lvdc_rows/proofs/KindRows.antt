-- Worked faults of the kinds that every program withstands, and what the reads of a run find.
use Rattle.std.proofs.Common.{◌≡◌, ℕ, List, [], ◌∷◌, true, false, if◌then◌else◌, ◌==◌, map, refl}
use Rattle.lvdc_map.specs.Address.{Spot}
use Rattle.lvdc_map.specs.Hop.{hop_of}
use Rattle.lvdc_fault.specs.declared.event.Event.{Event}
use Rattle.lvdc_fault.specs.declared.event.Event.TheVariants.{Flip, Force, Lag, Deaf, Damage, Stick, Dead}
use Rattle.lvdc_model.specs.Trial.{Trial}
use Rattle.lvdc_withstands.specs.Findings.{findings}
use Rattle.lvdc_withstands.specs.Kinds.{is_in_copy, is_death, is_bit_damage, is_of_three}
use Rattle.lvdc_withstands.specs.Touches.{touches}

-- location 000 of a sector of a bank
place : ℕ → ℕ → Spot
place pair sector = record { pair = pair; sector = sector; loc = 0 }

-- ---- the copies that may fail: 2 of module 5, and 1 of every other one

failing : ℕ → ℕ
failing number = if number == 5 then 2 else 1

faults_of_these_copies : map (is_in_copy failing) (Flip 5 2 0 9 0 1 ∷ Force 1 1 0 9 0 1 0 ∷ Lag 5 2 3 3 ∷ Deaf 7 1 0 9 ∷ []) ≡ true ∷ true ∷ true ∷ true ∷ []
unfolding failing
faults_of_these_copies = refl

faults_of_others : map (is_in_copy failing) (Flip 5 1 0 9 0 1 ∷ Force 1 2 0 9 0 1 0 ∷ Lag 4 3 3 3 ∷ Deaf 7 2 0 9 ∷ Damage 1 (place 0 1) 1 1 ∷ Dead 1 1 0 9 ∷ []) ≡ false ∷ false ∷ false ∷ false ∷ false ∷ false ∷ []
unfolding failing place
faults_of_others = refl

-- ---- one memory that is dead for good: of four times the last step is 11

deaths : map (is_death 0b0001 4 1) (Dead 1 1 0 11 ∷ Dead 1 3 11 12 ∷ Dead 0 1 0 11 ∷ Dead 1 0 0 11 ∷ Dead 1 1 0 10 ∷ Stick 1 (place 1 1) 0 11 1 0 ∷ []) ≡ true ∷ true ∷ false ∷ false ∷ false ∷ false ∷ []
unfolding place
deaths = refl

-- ---- one bit of a cell of one memory, its parity bits too

bits : map (is_bit_damage 0b0001 1) (Damage 1 (place 1 1) 1 1 ∷ Damage 1 (place 1 1) 1 0o20000 ∷ Damage 1 (place 1 1) 1 0o1000000000 ∷ Damage 1 (place 1 1) 1 0o3 ∷ Damage 1 (place 1 1) 1 0o40001 ∷ Damage 1 (place 1 1) 1 0 ∷ Damage 0 (place 1 1) 1 1 ∷ Damage 1 (place 0 1) 1 1 ∷ Stick 1 (place 1 1) 0 9 1 0 ∷ [])
    ≡ true ∷ true ∷ true ∷ false ∷ false ∷ false ∷ false ∷ false ∷ false ∷ []
unfolding place
bits = refl

each_of_the_three : map (is_of_three failing 0 4 1) (Lag 5 2 3 3 ∷ Dead 1 1 0 11 ∷ Damage 1 (place 1 1) 1 1 ∷ Lag 5 3 3 3 ∷ Dead 0 1 0 11 ∷ Damage 0 (place 1 1) 1 1 ∷ Stick 1 (place 1 1) 0 9 1 0 ∷ [])
    ≡ true ∷ true ∷ true ∷ false ∷ false ∷ false ∷ false ∷ []
unfolding failing place
each_of_the_three = refl

-- ---- what reads find: CLA 000 reads the word of sector 01 in step 1, and TRA 000 goes round, so that it is read in step 7 again

program : List Event → Trial
program script =
    record {
      opening =
          record {
            image = record { at = place 0 0; word = 0o17000 } ∷ record { at = record { pair = 0; sector = 0; loc = 1 }; word = 0o10000 } ∷ record { at = place 0 1; word = 5 } ∷ [];
            banks = 0;
            start = hop_of 0o16;
            unplugs = [];
            devices = [];
          };
      script = script;
    }

-- the word is read in steps 1 and 7, and not by the fetch or a transfer
reads_of_the_word : map (λ step. touches (program []) step (place 0 1)) (0 ∷ 1 ∷ 2 ∷ 3 ∷ 4 ∷ 5 ∷ 6 ∷ 7 ∷ []) ≡ false ∷ true ∷ false ∷ false ∷ false ∷ false ∷ false ∷ true ∷ []
unfolding program place
reads_of_the_word = refl

-- what is damaged before a read is found by it, once, and by twin; what is damaged after the last read isn't
found_once : findings (program (Damage 1 (place 0 1) 2 1 ∷ Damage 0 (place 0 1) 7 1 ∷ Damage 0 (place 0 1) 8 1 ∷ [])) 9
    ≡ record { step = 7; at = place 0 1; twin = 0 } ∷ record { step = 7; at = place 0 1; twin = 1 } ∷ []
unfolding program place
found_once = refl

damage_of_the_step_itself : findings (program (Damage 0 (place 0 1) 1 1 ∷ [])) 9 ≡ record { step = 1; at = place 0 1; twin = 0 } ∷ []
unfolding program place
damage_of_the_step_itself = refl

damage_of_another_place : findings (program (Damage 0 (place 0 2) 1 1 ∷ Stick 0 (place 0 1) 0 9 1 0 ∷ [])) 9 ≡ []
unfolding program place
damage_of_another_place = refl
