-- Worked fields of lines: FORCE, DEAF and STICK with unlike numbers, the lines of SIMPLEX, and word lines of an image.
use Rattle.std.proofs.Common.{◌≡◌, [], ◌∷◌, true, false, Some, None, map, codes, refl}
use Rattle.lvdc_text.specs.Numbers.{word_in}
use Rattle.lvdc_fault.specs.declared.event.Event.TheVariants.{Force, Deaf, Stick}
use Rattle.lvdc_image.specs.Image.{simplex_line, simplex_lines}
use Rattle.lvdc_image.specs.Reading.{is_spaced, entry_in}
use Rattle.lvdc_lines.specs.Fields.{step_in, twin_in, pair_in, cell_in, module_copy_in, index_in, span_in, place_in}
use Rattle.lvdc_lines.specs.Lines.{fault_in}

-- ---- fault lines

a_force : fault_in (codes "FORCE" ∷ codes "6" ∷ codes "2" ∷ codes "7" ∷ codes "9" ∷ codes "4" ∷ codes "60" ∷ codes "40" ∷ []) ≡ Some (Force 6 2 7 9 4 0o60 0o40)
unfolding step_in module_copy_in index_in span_in word_in
a_force = refl

a_deaf_copy : fault_in (codes "DEAF" ∷ codes "6" ∷ codes "2" ∷ codes "7" ∷ codes "9" ∷ []) ≡ Some (Deaf 6 2 7 9)
unfolding step_in module_copy_in span_in
a_deaf_copy = refl

-- both numbers of bits are octal
stuck_bits : fault_in (codes "STICK" ∷ codes "1" ∷ codes "3" ∷ codes "17" ∷ codes "376" ∷ codes "7" ∷ codes "9" ∷ codes "60" ∷ codes "40" ∷ [])
    ≡ Some (Stick 1 (record { pair = 3; sector = 15; loc = 254 }) 7 9 0o60 0o40)
unfolding step_in twin_in pair_in cell_in span_in place_in
stuck_bits = refl

-- there is no twin 2
no_such_twin : (fault_in (codes "STICK" ∷ codes "2" ∷ codes "3" ∷ codes "17" ∷ codes "376" ∷ codes "7" ∷ codes "9" ∷ codes "60" ∷ codes "40" ∷ []) ≡ None)
    × (fault_in (codes "DAMAGE" ∷ codes "2" ∷ codes "3" ∷ codes "17" ∷ codes "376" ∷ codes "7" ∷ codes "60" ∷ []) ≡ None)
unfolding step_in twin_in pair_in cell_in span_in place_in
no_such_twin = (refl, refl)

-- ---- the lines of an image

simplex_pairs : map simplex_line (15 ∷ 5 ∷ 10 ∷ []) ≡ codes "SIMPLEX 0 1 2 3" ∷ codes "SIMPLEX 0 2" ∷ codes "SIMPLEX 1 3" ∷ []
simplex_pairs = refl

no_simplex_pair : simplex_lines 0 ≡ []
no_simplex_pair = refl

-- one digit, two, three and nine, with a blank between
forms_of_word_lines : map is_spaced (codes "3 17 376 000000007" ∷ codes "3.17 376 000000007" ∷ codes "3 17.376 000000007" ∷ codes "3 17 376.000000007" ∷ codes "3 17 376 0000000007" ∷ codes "3 17 376 00000007" ∷ [])
    ≡ true ∷ false ∷ false ∷ false ∷ false ∷ false ∷ []
forms_of_word_lines = refl

the_last_address : entry_in 8 (codes "7 17 377 000000007") ≡ Some (record { at = record { pair = 7; sector = 15; loc = 255 }; value = 7 })
unfolding entry_in
the_last_address = refl

-- bank 7 isn't there where pair 3 is duplex; there is no sector 20 and no location 400
no_such_address : (entry_in 0 (codes "7 17 377 000000007") ≡ None) × (entry_in 0 (codes "3 20 377 000000007") ≡ None) × (entry_in 0 (codes "3 17 400 000000007") ≡ None)
unfolding entry_in
no_such_address = (refl, refl, refl)
