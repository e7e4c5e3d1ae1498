-- Worked fields of fault lines: at most so many digits, and the ends of the ranges.
use Rattle.std.proofs.Common.{◌≡◌, ℕ, List, [], ◌∷◌, Option, Some, None, map, codes, refl}
use Rattle.lvdc_text.specs.Numbers.{word_in}
use Rattle.lvdc_fault.specs.declared.event.Event.TheVariants.{Flip, Lag, Damage, Dead}
use Rattle.lvdc_lines.specs.Fields.{step_in, twin_in, pair_in, cell_in, module_copy_in, index_in, span_in, place_in}
use Rattle.lvdc_lines.specs.Lines.{fault_in, order_in}

-- a pair has one digit, of 0 to 3
pairs : map pair_in (codes "0" ∷ codes "3" ∷ codes "4" ∷ codes "00" ∷ codes "" ∷ []) ≡ Some 0 ∷ Some 3 ∷ None ∷ None ∷ None ∷ []
unfolding pair_in
pairs = refl

-- bits of a cell have at most ten digits, and the greatest are 28 bits
cells : map cell_in (codes "1" ∷ codes "0000000001" ∷ codes "00000000001" ∷ codes "1777777777" ∷ codes "2000000000" ∷ codes "8" ∷ [])
    ≡ Some 1 ∷ Some 1 ∷ None ∷ Some 0o1777777777 ∷ None ∷ None ∷ []
unfolding cell_in
cells = refl

-- a twin is 0 or 1, without a needless zero
twins : map twin_in (codes "0" ∷ codes "1" ∷ codes "2" ∷ codes "01" ∷ []) ≡ Some 0 ∷ Some 1 ∷ None ∷ None ∷ []
unfolding twin_in
twins = refl

-- the greatest step, and one more
steps : map step_in (codes "0" ∷ codes "2999999" ∷ codes "3000000" ∷ codes "00" ∷ []) ≡ Some 0 ∷ Some 2999999 ∷ None ∷ None ∷ []
unfolding step_in
steps = refl

-- a sector has at most two digits, and a location at most three
a_sector_of_three_digits : place_in (codes "0") (codes "001") (codes "1") ≡ None
unfolding place_in pair_in
a_sector_of_three_digits = refl

a_location_of_four_digits : place_in (codes "0") (codes "01") (codes "0001") ≡ None
unfolding place_in pair_in
a_location_of_four_digits = refl

-- the pair and the cell in whole lines, with a digit too many
a_pair_of_two_digits : fault_in (codes "DEAD" ∷ codes "1" ∷ codes "02" ∷ codes "3" ∷ codes "3" ∷ []) ≡ None
unfolding step_in twin_in pair_in span_in
a_pair_of_two_digits = refl

a_mask_of_eleven_digits : fault_in (codes "DAMAGE" ∷ codes "0" ∷ codes "0" ∷ codes "01" ∷ codes "000" ∷ codes "1" ∷ codes "00000000001" ∷ []) ≡ None
unfolding step_in twin_in pair_in place_in cell_in
a_mask_of_eleven_digits = refl

-- one step alone, and a last step before the first
one_step : fault_in (codes "LAG" ∷ codes "7" ∷ codes "3" ∷ codes "4" ∷ codes "4" ∷ []) ≡ Some (Lag 7 3 4 4)
unfolding step_in module_copy_in span_in
one_step = refl

a_step_back : fault_in (codes "DEAD" ∷ codes "1" ∷ codes "2" ∷ codes "4" ∷ codes "3" ∷ []) ≡ None
unfolding step_in twin_in pair_in span_in
a_step_back = refl

-- the last latch of module 6, and one more
latch_4_of_module_6 : fault_in (codes "FLIP" ∷ codes "6" ∷ codes "1" ∷ codes "0" ∷ codes "0" ∷ codes "4" ∷ codes "1" ∷ []) ≡ Some (Flip 6 1 0 0 4 1)
unfolding step_in module_copy_in index_in span_in word_in
latch_4_of_module_6 = refl

latch_5_of_module_6 : fault_in (codes "FLIP" ∷ codes "6" ∷ codes "1" ∷ codes "0" ∷ codes "0" ∷ codes "5" ∷ codes "1" ∷ []) ≡ None
unfolding step_in module_copy_in index_in span_in word_in
latch_5_of_module_6 = refl

-- of the letters A to U copy 3 of module 7 comes first here, and copy 1 of module 1 last
letters_backwards : order_in (codes "UTSRQPONMLKJIHGFEDCBA" ∷ [])
    ≡ Some (20 ∷ 19 ∷ 18 ∷ 17 ∷ 16 ∷ 15 ∷ 14 ∷ 13 ∷ 12 ∷ 11 ∷ 10 ∷ 9 ∷ 8 ∷ 7 ∷ 6 ∷ 5 ∷ 4 ∷ 3 ∷ 2 ∷ 1 ∷ 0 ∷ [])
letters_backwards = refl

letter_v : order_in (codes "VTSRQPONMLKJIHGFEDCBA" ∷ []) ≡ None
letter_v = refl
