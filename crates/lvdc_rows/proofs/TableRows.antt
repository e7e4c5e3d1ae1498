-- Worked instructions of the plain machine, one instruction time each: A, the place, the saver, the log and the devices.
use Rattle.std.proofs.Common.{◌≡◌, ℕ, List, [], ◌∷◌, true, false, Some, refl}
use Rattle.lvdc_map.specs.Hop.{hop_of, word_of_hop}
use Rattle.lvdc_map.specs.Memory.{memory_of}
use Rattle.lvdc_map.specs.declared.placed.Placed.{Placed}
use Rattle.lvdc_plain.specs.Plain.{PlainState, World, started}
use Rattle.lvdc_plain.specs.Table.{step}
use Rattle.lvdc_plain.specs.declared.records.Stop.TheVariants.{Exm}
use Rattle.lvdc_port.specs.Device.{Device}
use Rattle.lvdc_port.specs.declared.device.Kind.TheVariants.{Latch, Recorder}

-- a word at location 000 of a sector of bank 0
word_in : ℕ → ℕ → Placed
word_in sector word = record { at = record { pair = 0; sector = sector; loc = 0 }; word = word }

-- at location 000 of sector 00, before this instruction: data sector 01, where this word stands, both DUP bits 1, and this A
before : ℕ → ℕ → ℕ → PlainState
before code a word = record (started 0 (hop_of 0o16) (memory_of (word_in 0 code ∷ word_in 1 word ∷ []))) { a = a }

-- after it, where no device is
made : ℕ → ℕ → ℕ → PlainState
made code a word = (step (before code a word) []).plain

-- ---- A, where it has 14 and the operand is 5

a_of : ℕ → ℕ
a_of code = (made code 0o14 0o5).a

sub : a_of 0o02000 ≡ 0o7
unfolding a_of made before word_in
sub = refl

rsu : a_of 0o15000 ≡ 0o377777771
unfolding a_of made before word_in
rsu = refl

and : a_of 0o06000 ≡ 0o4
unfolding a_of made before word_in
and = refl

add : a_of 0o07000 ≡ 0o21
unfolding a_of made before word_in
add = refl

xor : a_of 0o11000 ≡ 0o11
unfolding a_of made before word_in
xor = refl

cla : a_of 0o17000 ≡ 0o5
unfolding a_of made before word_in
cla = refl

-- two places left, one and two right, and all of it gone
shf_040 : a_of 0o16240 ≡ 0o60
unfolding a_of made before word_in
shf_040 = refl

shf_001 : a_of 0o16201 ≡ 0o6
unfolding a_of made before word_in
shf_001 = refl

shf_002 : a_of 0o16202 ≡ 0o3
unfolding a_of made before word_in
shf_002 = refl

shf_020 : a_of 0o16220 ≡ 0o30
unfolding a_of made before word_in
shf_020 = refl

shf_000 : a_of 0o16200 ≡ 0
unfolding a_of made before word_in
shf_000 = refl

-- a shift to the right keeps the sign, one to the left loses it
shf_001_of_the_lowest : (made 0o16201 0o200000000 0).a ≡ 0o300000000
unfolding made before word_in
shf_001_of_the_lowest = refl

shf_020_of_the_lowest : (made 0o16220 0o200000000 0).a ≡ 0
unfolding made before word_in
shf_020_of_the_lowest = refl

-- ---- the place: on to location 001, or to syllable 1 of location 007; the saver takes location 001 where it transfers

place_of : PlainState → ℕ
place_of p = word_of_hop p.place

tnz_of_0 : (place_of (made 0o04407 0 0) ≡ 0o2016) × ((made 0o04407 0 0).saver ≡ 0)
unfolding place_of made before word_in
tnz_of_0 = (refl, refl)

tnz_of_1 : (place_of (made 0o04407 1 0) ≡ 0o1016016) × ((made 0o04407 1 0).saver ≡ 0o2016)
unfolding place_of made before word_in
tnz_of_1 = (refl, refl)

tnz_of_the_lowest : place_of (made 0o04407 0o200000000 0) ≡ 0o1016016
unfolding place_of made before word_in
tnz_of_the_lowest = refl

tmi_of_the_greatest : (place_of (made 0o14407 0o177777777 0) ≡ 0o2016) × ((made 0o14407 0o177777777 0).saver ≡ 0)
unfolding place_of made before word_in
tmi_of_the_greatest = (refl, refl)

tmi_of_the_lowest : (place_of (made 0o14407 0o200000000 0) ≡ 0o1016016) × ((made 0o14407 0o200000000 0).saver ≡ 0o2016)
unfolding place_of made before word_in
tmi_of_the_lowest = (refl, refl)

-- HOP takes all fields from its operand
hop : (place_of (made 0 0 0o267524664) ≡ 0o267524664) × ((made 0 0 0o267524664).saver ≡ 0o2016)
unfolding place_of made before word_in
hop = (refl, refl)

-- CDS 133 takes data module 5 and sector 13 (octal) and clears DUPDN, and CDS 533 sets it; neither changes A or the saver
cds_133 : (place_of (made 0o16133 0o14 0) ≡ 0o3334) × ((made 0o16133 0o14 0).a ≡ 0o14) × ((made 0o16133 0o14 0).saver ≡ 0)
unfolding place_of made before word_in
cds_133 = (refl, refl, refl)

cds_533 : place_of (made 0o16533 0o14 0) ≡ 0o3336
unfolding place_of made before word_in
cds_533 = refl

-- ---- ports, at time 0: PIO without A9 writes A, PIO with A9 reads into A, and each leaves a line of the log

latch : ℕ → Device
latch word = record { port = 0o14; kind = Latch; state = word ∷ [] }

recorder : List ℕ → Device
recorder words = record { port = 0o17; kind = Recorder; state = words }

-- after an instruction made with A 14, where these devices are
ported : ℕ → World
ported code = step (before code 0o14 0) (latch 0o7000 ∷ recorder (0o1 ∷ []) ∷ [])

pio_writes : ((ported 0o12014).plain.a ≡ 0o14) × ((ported 0o12014).devices ≡ latch 0o14 ∷ recorder (0o1 ∷ []) ∷ [])
    × ((ported 0o12014).plain.log ≡ record { time = 0; port = 0o14; reading = false; word = 0o14 } ∷ [])
unfolding ported latch recorder before word_in
pio_writes = (refl, refl, refl)

pio_reads : ((ported 0o12414).plain.a ≡ 0o7000) × ((ported 0o12414).devices ≡ latch 0o7000 ∷ recorder (0o1 ∷ []) ∷ [])
    × ((ported 0o12414).plain.log ≡ record { time = 0; port = 0o14; reading = true; word = 0o7000 } ∷ [])
unfolding ported latch recorder before word_in
pio_reads = (refl, refl, refl)

pio_writes_to_a_recorder : (ported 0o12017).devices ≡ latch 0o7000 ∷ recorder (0o1 ∷ 0o14 ∷ []) ∷ []
unfolding ported latch recorder before word_in
pio_writes_to_a_recorder = refl

-- no other instruction asks a port
add_asks_no_port : ((ported 0o07000).plain.log ≡ []) × ((ported 0o07000).devices ≡ latch 0o7000 ∷ recorder (0o1 ∷ []) ∷ [])
unfolding ported latch recorder before word_in
add_asks_no_port = (refl, refl)

-- ---- a machine that has stopped stays as it is, with a result on its way and times left to hold

stopped : PlainState
stopped = record (before 0o12414 0o14 0) { stop = Some Exm; hold = 2; pending = Some (record { left = 1; result = 0o77; to_a = true }) }

stopped_stays : step stopped (latch 0o7000 ∷ []) ≡ record { plain = stopped; devices = latch 0o7000 ∷ [] }
unfolding stopped latch before word_in
stopped_stays = refl
