-- Worked phases in which an instruction is executed: what each operation makes of A, of the place and of the data place.
use Rattle.std.proofs.Common.{◌≡◌, ℕ, List, [], ◌∷◌, refl}
use Rattle.lvdc_modules.specs.declared.bus.Bus.{Bus}
use Rattle.lvdc_modules.specs.Rows.{bus_of}
use Rattle.lvdc_modules.specs.Accumulator.{accumulator_row}
use Rattle.lvdc_modules.specs.Locator.{locator_row}
use Rattle.lvdc_modules.specs.Selector.{selector_row}

-- the bus in phase C at location 004 with data sector 1: A and OPERAND are given, the saver has 77 and the port 7000
executing : ℕ → ℕ → ℕ → Bus
executing instr a operand =
    bus_of
    ((2 ∷ 0 ∷ [])
    ∷ (0o10004 ∷ 0o77 ∷ [])
    ∷ (instr ∷ [])
    ∷ (0o12 ∷ [])
    ∷ (a ∷ operand ∷ [])
    ∷ (0 ∷ 0 ∷ 0 ∷ 0 ∷ 0 ∷ [])
    ∷ (0 ∷ 0 ∷ [])
    ∷ [])
    0
    0o7000

-- ---- A, where it has 14 and OPERAND 5

made_of : ℕ → List ℕ
made_of instr = accumulator_row (executing instr 0o14 0o5)

and : made_of 0o06000 ≡ 0o4 ∷ 0o5 ∷ []
unfolding made_of executing
and = refl

add : made_of 0o07000 ≡ 0o21 ∷ 0o5 ∷ []
unfolding made_of executing
add = refl

xor : made_of 0o11000 ≡ 0o11 ∷ 0o5 ∷ []
unfolding made_of executing
xor = refl

-- A less OPERAND, and OPERAND less A
sub : made_of 0o02000 ≡ 0o7 ∷ 0o5 ∷ []
unfolding made_of executing
sub = refl

rsu : made_of 0o15000 ≡ 0o377777771 ∷ 0o5 ∷ []
unfolding made_of executing
rsu = refl

cla : made_of 0o17000 ≡ 0o5 ∷ 0o5 ∷ []
unfolding made_of executing
cla = refl

-- PIO with A9 takes the word of the port, and without A9 it leaves A
pio_reads : made_of 0o12403 ≡ 0o7000 ∷ 0o5 ∷ []
unfolding made_of executing
pio_reads = refl

pio_writes : made_of 0o12003 ≡ 0o14 ∷ 0o5 ∷ []
unfolding made_of executing
pio_writes = refl

-- two places left
shf : made_of 0o16240 ≡ 0o60 ∷ 0o5 ∷ []
unfolding made_of executing
shf = refl

-- a store, a transfer and HOP leave A
sto : made_of 0o13000 ≡ 0o14 ∷ 0o5 ∷ []
unfolding made_of executing
sto = refl

tra : made_of 0o10000 ≡ 0o14 ∷ 0o5 ∷ []
unfolding made_of executing
tra = refl

hop : made_of 0o00000 ≡ 0o14 ∷ 0o5 ∷ []
unfolding made_of executing
hop = refl

-- ---- the place: on to location 005, or to syllable 1 of location 007

tnz_of_0 : locator_row (executing 0o04407 0 0) ≡ 0o12004 ∷ 0o77 ∷ []
unfolding executing
tnz_of_0 = refl

tnz_of_1 : locator_row (executing 0o04407 1 0) ≡ 0o1016004 ∷ 0o12016 ∷ []
unfolding executing
tnz_of_1 = refl

tmi_of_the_greatest : locator_row (executing 0o14407 0o177777777 0) ≡ 0o12004 ∷ 0o77 ∷ []
unfolding executing
tmi_of_the_greatest = refl

tmi_of_the_lowest : locator_row (executing 0o14407 0o200000000 0) ≡ 0o1016004 ∷ 0o12016 ∷ []
unfolding executing
tmi_of_the_lowest = refl

-- ---- the data place: HOP takes module 1 and sector 2 from its operand, and CDS 3 module 0 and sector 3 from its address

data_of_hop : selector_row (executing 0o00000 0 0o220) ≡ 0o220 ∷ []
unfolding executing
data_of_hop = refl

-- CDS 133 takes data module 5 and sector 13 (octal) and clears DUPDN, which is 1 here; CDS 533 leaves it 1, and CDS 400 sets it in a
-- place that had none
data_of_cds_133 : selector_row (executing 0o16133 0 0) ≡ 0o1330 ∷ []
unfolding executing
data_of_cds_133 = refl

data_of_cds_533 : selector_row (executing 0o16533 0 0) ≡ 0o1332 ∷ []
unfolding executing
data_of_cds_533 = refl

-- the same bus with another data place
executing_over : ℕ → ℕ → Bus
executing_over place instr =
    bus_of
    ((2 ∷ 0 ∷ [])
    ∷ (0o10004 ∷ 0o77 ∷ [])
    ∷ (instr ∷ [])
    ∷ (place ∷ [])
    ∷ (0 ∷ 0 ∷ [])
    ∷ (0 ∷ 0 ∷ 0 ∷ 0 ∷ 0 ∷ [])
    ∷ (0 ∷ 0 ∷ [])
    ∷ [])
    0
    0

cds_sets_dupdn : selector_row (executing_over 0o1670 0o16400) ≡ 0o2 ∷ []
unfolding executing_over
cds_sets_dupdn = refl

cds_clears_all : selector_row (executing_over 0o1672 0o16000) ≡ 0 ∷ []
unfolding executing_over
cds_clears_all = refl

-- no other instruction changes the data place: one with the bits of CDS in its address, and the shift of the same code
add_keeps_the_data_place : selector_row (executing_over 0o1672 0o07133) ≡ 0o1672 ∷ []
unfolding executing_over
add_keeps_the_data_place = refl

shf_keeps_the_data_place : selector_row (executing_over 0o1672 0o16240) ≡ 0o1672 ∷ []
unfolding executing_over
shf_keeps_the_data_place = refl
