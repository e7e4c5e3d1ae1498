-- Worked lines: one of each kind at the ends of its ranges, and lines that are none.
use Rattle.std.proofs.Common.{◌≡◌, refl, [], ◌∷◌, Some, None}
use Rattle.std.specs.Prelude.{codes}
use Rattle.lvdc_text.specs.Numbers.{word_in}
use Rattle.lvdc_fault.specs.declared.event.Event.TheVariants.{Flip, Force, Lag, Deaf, Damage, Stick, Dead}
use Rattle.lvdc_orders.specs.Orders.{plain_order}
use Rattle.lvdc_lines.specs.Fields.{step_in, twin_in, pair_in, cell_in, module_copy_in, index_in, span_in, place_in}
use Rattle.lvdc_lines.specs.Lines.{fault_in, order_in}

-- ---- lines on copies

-- FLIP 3 2 0 2999999 0 377777777
a_flip_of_every_bit : fault_in (codes "FLIP" ∷ codes "3" ∷ codes "2" ∷ codes "0" ∷ codes "2999999" ∷ codes "0" ∷ codes "377777777" ∷ [])
    ≡ Some (Flip 3 2 0 2999999 0 0o377777777)
unfolding step_in module_copy_in index_in span_in word_in
a_flip_of_every_bit = refl

-- FORCE 6 3 12 12 4 1 0
a_force_of_the_last_latch : fault_in (codes "FORCE" ∷ codes "6" ∷ codes "3" ∷ codes "12" ∷ codes "12" ∷ codes "4" ∷ codes "1" ∷ codes "0" ∷ [])
    ≡ Some (Force 6 3 12 12 4 1 0)
unfolding step_in module_copy_in index_in span_in word_in
a_force_of_the_last_latch = refl

-- LAG 1 1 5 9
a_lag : fault_in (codes "LAG" ∷ codes "1" ∷ codes "1" ∷ codes "5" ∷ codes "9" ∷ []) ≡ Some (Lag 1 1 5 9)
unfolding step_in module_copy_in span_in
a_lag = refl

-- DEAF 7 3 0 0
a_deaf_copy : fault_in (codes "DEAF" ∷ codes "7" ∷ codes "3" ∷ codes "0" ∷ codes "0" ∷ []) ≡ Some (Deaf 7 3 0 0)
unfolding step_in module_copy_in span_in
a_deaf_copy = refl

no_module_8 : fault_in (codes "LAG" ∷ codes "8" ∷ codes "1" ∷ codes "5" ∷ codes "9" ∷ []) ≡ None
unfolding step_in module_copy_in span_in
no_module_8 = refl

no_module_0 : fault_in (codes "LAG" ∷ codes "0" ∷ codes "1" ∷ codes "5" ∷ codes "9" ∷ []) ≡ None
unfolding step_in module_copy_in span_in
no_module_0 = refl

no_copy_4 : fault_in (codes "DEAF" ∷ codes "1" ∷ codes "4" ∷ codes "5" ∷ codes "9" ∷ []) ≡ None
unfolding step_in module_copy_in span_in
no_copy_4 = refl

no_copy_0 : fault_in (codes "DEAF" ∷ codes "1" ∷ codes "0" ∷ codes "5" ∷ codes "9" ∷ []) ≡ None
unfolding step_in module_copy_in span_in
no_copy_0 = refl

steps_out_of_order : fault_in (codes "LAG" ∷ codes "1" ∷ codes "1" ∷ codes "9" ∷ codes "5" ∷ []) ≡ None
unfolding step_in module_copy_in span_in
steps_out_of_order = refl

no_step_3000000 : fault_in (codes "LAG" ∷ codes "1" ∷ codes "1" ∷ codes "9" ∷ codes "3000000" ∷ []) ≡ None
unfolding step_in module_copy_in span_in
no_step_3000000 = refl

a_decimal_with_a_needless_zero : fault_in (codes "LAG" ∷ codes "1" ∷ codes "1" ∷ codes "05" ∷ codes "9" ∷ []) ≡ None
unfolding step_in module_copy_in span_in
a_decimal_with_a_needless_zero = refl

-- module 3 has one latch
no_latch_1_of_module_3 : fault_in (codes "FLIP" ∷ codes "3" ∷ codes "2" ∷ codes "0" ∷ codes "0" ∷ codes "1" ∷ codes "1" ∷ []) ≡ None
unfolding step_in module_copy_in index_in span_in word_in
no_latch_1_of_module_3 = refl

a_mask_of_27_bits : fault_in (codes "FLIP" ∷ codes "3" ∷ codes "2" ∷ codes "0" ∷ codes "0" ∷ codes "0" ∷ codes "400000000" ∷ []) ≡ None
unfolding step_in module_copy_in index_in span_in word_in
a_mask_of_27_bits = refl

a_field_too_few : fault_in (codes "LAG" ∷ codes "1" ∷ codes "1" ∷ codes "5" ∷ []) ≡ None
a_field_too_few = refl

a_field_too_many : fault_in (codes "LAG" ∷ codes "1" ∷ codes "1" ∷ codes "5" ∷ codes "9" ∷ codes "1" ∷ []) ≡ None
a_field_too_many = refl

-- ---- lines on memory

-- DAMAGE 1 3 17 377 8 1777777777
damage_of_every_bit : fault_in (codes "DAMAGE" ∷ codes "1" ∷ codes "3" ∷ codes "17" ∷ codes "377" ∷ codes "8" ∷ codes "1777777777" ∷ [])
    ≡ Some (Damage 1 (record { pair = 3; sector = 15; loc = 255 }) 8 0o1777777777)
unfolding step_in twin_in pair_in place_in cell_in
damage_of_every_bit = refl

-- STICK 0 0 1 007 2 4 0017 5: octal fields may have fewer digits, or more
a_stick : fault_in (codes "STICK" ∷ codes "0" ∷ codes "0" ∷ codes "1" ∷ codes "007" ∷ codes "2" ∷ codes "4" ∷ codes "0017" ∷ codes "5" ∷ [])
    ≡ Some (Stick 0 (record { pair = 0; sector = 1; loc = 7 }) 2 4 0o17 0o5)
unfolding step_in twin_in pair_in place_in cell_in span_in
a_stick = refl

-- DEAD 1 2 3 3
a_dead_twin : fault_in (codes "DEAD" ∷ codes "1" ∷ codes "2" ∷ codes "3" ∷ codes "3" ∷ []) ≡ Some (Dead 1 2 3 3)
unfolding step_in twin_in pair_in span_in
a_dead_twin = refl

no_twin_2 : fault_in (codes "DEAD" ∷ codes "2" ∷ codes "2" ∷ codes "3" ∷ codes "3" ∷ []) ≡ None
unfolding step_in twin_in pair_in span_in
no_twin_2 = refl

no_pair_4 : fault_in (codes "DEAD" ∷ codes "1" ∷ codes "4" ∷ codes "3" ∷ codes "3" ∷ []) ≡ None
unfolding step_in twin_in pair_in span_in
no_pair_4 = refl

no_sector_20 : fault_in (codes "DAMAGE" ∷ codes "1" ∷ codes "3" ∷ codes "20" ∷ codes "0" ∷ codes "8" ∷ codes "1" ∷ []) ≡ None
unfolding step_in twin_in pair_in place_in cell_in
no_sector_20 = refl

no_location_400 : fault_in (codes "DAMAGE" ∷ codes "1" ∷ codes "3" ∷ codes "17" ∷ codes "400" ∷ codes "8" ∷ codes "1" ∷ []) ≡ None
unfolding step_in twin_in pair_in place_in cell_in
no_location_400 = refl

a_cell_of_29_bits : fault_in (codes "DAMAGE" ∷ codes "1" ∷ codes "3" ∷ codes "17" ∷ codes "0" ∷ codes "8" ∷ codes "2000000000" ∷ []) ≡ None
unfolding step_in twin_in pair_in place_in cell_in
a_cell_of_29_bits = refl

-- ---- other lines

a_word_in_small_letters : fault_in (codes "lag" ∷ codes "1" ∷ codes "1" ∷ codes "5" ∷ codes "9" ∷ []) ≡ None
a_word_in_small_letters = refl

no_tokens : fault_in [] ≡ None
no_tokens = refl

-- ---- orders

the_plain_order : order_in (codes "ABCDEFGHIJKLMNOPQRSTU" ∷ []) ≡ Some plain_order
the_plain_order = refl

the_last_copy_first : order_in (codes "UABCDEFGHIJKLMNOPQRST" ∷ [])
    ≡ Some (20 ∷ 0 ∷ 1 ∷ 2 ∷ 3 ∷ 4 ∷ 5 ∷ 6 ∷ 7 ∷ 8 ∷ 9 ∷ 10 ∷ 11 ∷ 12 ∷ 13 ∷ 14 ∷ 15 ∷ 16 ∷ 17 ∷ 18 ∷ 19 ∷ [])
the_last_copy_first = refl

a_letter_twice : order_in (codes "AACDEFGHIJKLMNOPQRSTU" ∷ []) ≡ None
a_letter_twice = refl

a_letter_missing : order_in (codes "ABCDEFGHIJKLMNOPQRST" ∷ []) ≡ None
a_letter_missing = refl

no_letter_after_u : order_in (codes "ABCDEFGHIJKLMNOPQRSTV" ∷ []) ≡ None
no_letter_after_u = refl

-- '@' stands before A
no_sign_before_a : order_in (codes "@BCDEFGHIJKLMNOPQRSTU" ∷ []) ≡ None
no_sign_before_a = refl

two_tokens : order_in (codes "ABCDEFGHIJKLMNOPQRSTU" ∷ codes "A" ∷ []) ≡ None
two_tokens = refl
