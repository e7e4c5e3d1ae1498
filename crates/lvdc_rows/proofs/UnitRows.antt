-- Worked phases of the arithmetic unit beside the instructions: what is issued, what a store to PQ leaves, and what lands where.
use Rattle.std.proofs.Common.{◌≡◌, ℕ, List, [], ◌∷◌, true, false, map, refl}
use Rattle.std.specs.Prelude.{pos, negsuc}
use Rattle.lvdc_map.specs.Hop.{hop_of}
use Rattle.lvdc_mul.specs.Unit.{digit}
use Rattle.lvdc_modules.specs.declared.bus.Bus.{Bus}
use Rattle.lvdc_modules.specs.Rows.{bus_of, start_latches}
use Rattle.lvdc_modules.specs.Accumulator.{accumulator_row}
use Rattle.lvdc_modules.specs.Locator.{locator_row}
use Rattle.lvdc_modules.specs.Multiplier.{multiplier_row}
use Rattle.lvdc_modules.specs.Wish.{wish}
use Rattle.lvdc_modules.specs.declared.wanted.Wanted.TheVariants.{Nothing, Operand}

-- the bus at location 004 with data sector 1: A has 14 and OPERAND 20, memory 7 and the port 7000
bus : ℕ → ℕ → List ℕ → Bus
bus phase instr unit =
    bus_of
    ((phase ∷ 0 ∷ [])
    ∷ (0o10004 ∷ 0o77 ∷ [])
    ∷ (instr ∷ [])
    ∷ (0o12 ∷ [])
    ∷ (0o14 ∷ 0o20 ∷ [])
    ∷ unit
    ∷ (0 ∷ 0 ∷ [])
    ∷ [])
    7
    0o7000

-- PQ, CONTROL, M, H and Q: no work, and a multiply with 12 phases before it
idle : List ℕ
idle = 5 ∷ 0 ∷ 0 ∷ 0 ∷ 0 ∷ []

begun : List ℕ
begun = 5 ∷ 0o61 ∷ 4 ∷ 0 ∷ 3 ∷ []

-- a multiply, a high multiply and a divide before their last phase, of which the first two have H 20
last_of_multiply : List ℕ
last_of_multiply = 5 ∷ 0o5 ∷ 4 ∷ 0o20 ∷ 0 ∷ []

last_of_high_multiply : List ℕ
last_of_high_multiply = 5 ∷ 0o6 ∷ 4 ∷ 0o20 ∷ 0 ∷ []

-- ---- in phase C: M is the upper 24 bits of OPERAND, Q those of A, and of a divide H

a_multiply : multiplier_row (bus 2 0o01101 idle) ≡ 5 ∷ 0o61 ∷ 4 ∷ 0 ∷ 3 ∷ []
unfolding bus idle
a_multiply = refl

a_high_multiply : multiplier_row (bus 2 0o05101 idle) ≡ 5 ∷ 0o62 ∷ 4 ∷ 0 ∷ 3 ∷ []
unfolding bus idle
a_high_multiply = refl

a_divide : multiplier_row (bus 2 0o03101 idle) ≡ 5 ∷ 0o143 ∷ 4 ∷ 3 ∷ 0 ∷ []
unfolding bus idle
a_divide = refl

-- the first phase adds 3 times M to H and shifts by two places: 12 is H 3, and 11 phases are left
another_instruction : multiplier_row (bus 2 0o17101 begun) ≡ 5 ∷ 0o55 ∷ 4 ∷ 3 ∷ 0 ∷ []
unfolding bus begun
another_instruction = refl

a_store_to_memory : multiplier_row (bus 2 0o13101 begun) ≡ 5 ∷ 0o55 ∷ 4 ∷ 3 ∷ 0 ∷ []
unfolding bus begun
a_store_to_memory = refl

-- PQ takes A, and the work ends
a_store_to_pq : multiplier_row (bus 2 0o13775 begun) ≡ 0o14 ∷ 0 ∷ 4 ∷ 3 ∷ 0 ∷ []
unfolding bus begun
a_store_to_pq = refl

-- ---- in the last phase H over Q without its lowest 21 bits is the result, here 8 times H 4

pq_takes_the_result : multiplier_row (bus 0 0o17101 last_of_multiply) ≡ 0o40 ∷ 0 ∷ 4 ∷ 4 ∷ 0 ∷ []
unfolding bus last_of_multiply
pq_takes_the_result = refl

a_stays : accumulator_row (bus 0 0o17101 last_of_multiply) ≡ 0o14 ∷ 0o20 ∷ []
unfolding bus last_of_multiply
a_stays = refl

a_takes_a_high_result : accumulator_row (bus 0 0o17101 last_of_high_multiply) ≡ 0o40 ∷ 0o20 ∷ []
unfolding bus last_of_high_multiply
a_takes_a_high_result = refl

-- the multiplier's last digit has a sign
digits_of_the_multiplier : (map (digit false) (0 ∷ 1 ∷ 2 ∷ 3 ∷ []) ≡ pos 0 ∷ pos 1 ∷ pos 2 ∷ pos 3 ∷ [])
    × (map (digit true) (0 ∷ 1 ∷ 2 ∷ 3 ∷ []) ≡ pos 0 ∷ pos 1 ∷ negsuc 1 ∷ negsuc 0 ∷ [])
digits_of_the_multiplier = (refl, refl)

-- ---- in phase B an operand comes from memory, or is PQ

an_operand_in_memory : accumulator_row (bus 1 0o17101 idle) ≡ 0o14 ∷ 7 ∷ []
unfolding bus idle
an_operand_in_memory = refl

an_operand_in_pq : accumulator_row (bus 1 0o17775 idle) ≡ 0o14 ∷ 5 ∷ []
unfolding bus idle
an_operand_in_pq = refl

-- ---- the place after EXM stays, and so does the saver

execute_modified : locator_row (bus 2 0o16600 idle) ≡ 0o10004 ∷ 0o77 ∷ []
unfolding bus idle
execute_modified = refl

-- ---- INSTR is 13 bits of its latch: ADD

a_bit_above_the_instruction : accumulator_row (bus 2 0o27101 idle) ≡ 0o34 ∷ 0o20 ∷ []
unfolding bus idle
a_bit_above_the_instruction = refl

-- ---- in phase B an operand is read, unless a hold is left

-- the same bus in phase B with CLA 101 and this hold
waiting : ℕ → Bus
waiting hold = record (bus 1 0o17101 idle) { timer = record { phase = 1; hold = hold } }

wishes : (wish (waiting 0) 0 ≡ Operand (record { pair = 0; sector = 1; loc = 0o101 })) × (wish (waiting 3) 0 ≡ Nothing) × (wish (waiting 1) 0 ≡ Nothing)
unfolding waiting bus idle
wishes = (refl, refl, refl)

-- ---- before the first step: PLACE has its fields of the start, DATA the others, and all else is 0

the_start : start_latches (hop_of 0o16) ≡ (0 ∷ 0 ∷ []) ∷ (4 ∷ 0 ∷ []) ∷ (0 ∷ []) ∷ (0o12 ∷ []) ∷ (0 ∷ 0 ∷ []) ∷ (0 ∷ 0 ∷ 0 ∷ 0 ∷ 0 ∷ []) ∷ (0 ∷ 0 ∷ []) ∷ []
the_start = refl
