-- Kinds of faults that every program withstands.
use Rattle.std.specs.Prelude.{◌≡◌, ℕ, ◌+◌, ◌*◌, ◌/◌, ◌%◌, ◌^◌, Bool, true, false, ◌&&◌, ◌||◌, ◌==◌, nat_le, List, filter_map}
use Rattle.std.specs.List.{list_all}
use Rattle.lvdc_word.specs.Cell.{ones}
use Rattle.lvdc_fault.specs.declared.event.Event.{Event}
use Rattle.lvdc_fault.specs.declared.event.Event.TheVariants.{Flip, Force, Lag, Deaf, Damage, Dead}
use Rattle.lvdc_withstands.specs.Form.{is_duplex_pair, place_of, none_twice}

-- a fault in the one copy of its module that may fail; which one that is, is said module by module
abbrev pub is_in_copy : (ℕ → ℕ) → Event → Bool
is_in_copy copy (Flip number c first last index mask) = c == copy number
is_in_copy copy (Force number c first last index mask value) = c == copy number
is_in_copy copy (Lag number c first last) = c == copy number
is_in_copy copy (Deaf number c first last) = c == copy number
is_in_copy copy _ = false

-- this memory dies in a duplex pair, and is dead up to the last step of so many times
abbrev pub is_death : ℕ → ℕ → ℕ → Event → Bool
is_death banks count twin (Dead w pair first last) = w == twin && is_duplex_pair banks pair && nat_le (3 * count) (last + 1)
is_death banks count twin _ = false

-- this memory is damaged in a duplex pair, in one bit of a cell
abbrev pub is_bit_damage : ℕ → ℕ → Event → Bool
is_bit_damage banks twin (Damage w at step mask) = w == twin && is_duplex_pair banks at.pair && ones 14 (mask / 2 ^ 14) + ones 14 (mask % 2 ^ 14) == 1
is_bit_damage banks twin _ = false

-- a fault of one of the three kinds
abbrev pub is_of_three : (ℕ → ℕ) → ℕ → ℕ → ℕ → Event → Bool
is_of_three copy banks count twin e = is_in_copy copy e || is_death banks count twin e || is_bit_damage banks twin e

-- faults in one copy of each module alone, of any kind, at any time
abbrev pub InOneCopyEach : (ℕ → ℕ) → List Event → Type 0
InOneCopyEach copy script = list_all (is_in_copy copy) script ≡ true

-- one memory dead for good, in some of its pairs or in all
abbrev pub OneMemoryDead : ℕ → ℕ → ℕ → List Event → Type 0
OneMemoryDead banks count twin script = list_all (is_death banks count twin) script ≡ true

-- a damaged bit at each address of one memory, once
pub record OneBitEach (banks twin : ℕ) (script : List Event) : Type 0 where
  pub bits : list_all (is_bit_damage banks twin) script ≡ true
  pub once : none_twice (filter_map place_of script) ≡ true

-- all three at once, in the same memory
pub record AllThree (copy : ℕ → ℕ) (banks count twin : ℕ) (script : List Event) : Type 0 where
  pub kinds : list_all (is_of_three copy banks count twin) script ≡ true
  pub once : none_twice (filter_map place_of script) ≡ true
