-- Worked requests and wishes: the words of requests, what any word requests, and what is read where a twin is bad.
use Rattle.std.proofs.Common.{◌≡◌, ℕ, List, [], ◌∷◌, ◌+◌, ◌++◌, true, false, Ok, Err, Some, None, map, refl}
use Rattle.lvdc_word.specs.Cell.{code_of}
use Rattle.lvdc_map.specs.Address.{Spot}
use Rattle.lvdc_map.specs.declared.place.Place.TheVariants as places
use Rattle.lvdc_twin.specs.Calls.{answer_by_one, answer_by_two}
use Rattle.lvdc_port.specs.Device.{Device}
use Rattle.lvdc_port.specs.Devices.{exchange_word}
use Rattle.lvdc_port.specs.declared.device.Kind.TheVariants.{Latch}
use Rattle.lvdc_port.specs.declared.requests.PortRequest.TheVariants.{Read, Write}
use Rattle.lvdc_fault.specs.Script.{wrong_module}
use Rattle.lvdc_fault.specs.declared.event.Event.{Event}
use Rattle.lvdc_fault.specs.declared.event.Event.TheVariants.{Lag}
use Rattle.lvdc_modules.specs.Request.{word_of_request, request_of}
use Rattle.lvdc_modules.specs.Wish.{operand_wish}
use Rattle.lvdc_modules.specs.declared.request.Request.TheVariants.{Nothing, StoreA, StoreSaver, PortWrite, PortRead}
use Rattle.lvdc_modules.specs.declared.wanted.Wanted.TheVariants as wanted

-- ---- REQUEST: the kind in bits 2 to 0, a port or a location in bits 10 to 3, the sector in bits 14 to 11, the pair in bits 16 and 15,
-- and the low bit of the module in bit 17

-- 1 11 1001 10101010 001
a_store_in_module_7 : (word_of_request (StoreA (record { dmod = 7; sector = 9; loc = 0o252 })) ≡ 0o746521)
    × (request_of 0o746521 ≡ StoreA (record { dmod = 7; sector = 9; loc = 0o252 }))
a_store_in_module_7 = (refl, refl)

-- 0 10 0110 00000111 010
the_saver_in_module_4 : (word_of_request (StoreSaver (record { dmod = 4; sector = 6; loc = 7 })) ≡ 0o230072)
    × (request_of 0o230072 ≡ StoreSaver (record { dmod = 4; sector = 6; loc = 7 }))
the_saver_in_module_4 = (refl, refl)

-- 0 10 0110 00000111 001
a_store_in_module_4 : request_of 0o230071 ≡ StoreA (record { dmod = 4; sector = 6; loc = 7 })
a_store_in_module_4 = refl

-- 1 01 0001 11111111 001
a_store_in_module_3 : (word_of_request (StoreA (record { dmod = 3; sector = 1; loc = 255 })) ≡ 0o507771)
    × (request_of 0o507771 ≡ StoreA (record { dmod = 3; sector = 1; loc = 255 }))
a_store_in_module_3 = (refl, refl)

-- 10101010 011, 11111111 100 and 10000001 100
ports : (map word_of_request (PortWrite 0o252 ∷ PortRead 0o377 ∷ PortRead 0o201 ∷ Nothing ∷ []) ≡ 0o2523 ∷ 0o3774 ∷ 0o2014 ∷ 0 ∷ [])
    × (map request_of (0o2523 ∷ 0o3774 ∷ 0o2014 ∷ 0 ∷ []) ≡ PortWrite 0o252 ∷ PortRead 0o377 ∷ PortRead 0o201 ∷ Nothing ∷ [])
ports = (refl, refl)

-- bits above the fields, and kinds without a name
other_bits : map request_of (0o7774 ∷ 0o1746521 ∷ 0o2525 ∷ 0o2526 ∷ 0o2527 ∷ [])
    ≡ PortRead 0o377 ∷ StoreA (record { dmod = 7; sector = 9; loc = 0o252 }) ∷ Nothing ∷ Nothing ∷ Nothing ∷ []
other_bits = refl

-- ---- wishes

place : Spot
place = record { pair = 1; sector = 15; loc = 0o376 }

-- the saver's words stand in memory
operands : map operand_wish (places.Memory place ∷ places.Saver place ∷ places.Pq ∷ []) ≡ wanted.Operand place ∷ wanted.Operand place ∷ wanted.Nothing ∷ []
operands = refl

-- ---- reads of the code of 5, of a cell with a wrong bit, and of one of zeros

one_twin : (answer_by_one (code_of 5) ≡ Ok (record { word = 5; repaired = None; switched = false })) × (answer_by_one 0 ≡ Err (record {}))
one_twin = (refl, refl)

two_twins : (answer_by_two 0 (code_of 5) 0 ≡ Ok (record { word = 5; repaired = Some 1; switched = false }))
    × (answer_by_two 0 0 (code_of 5) ≡ Ok (record { word = 5; repaired = Some 0; switched = true })) × (answer_by_two 1 0 0 ≡ Err (record {}))
two_twins = (refl, refl, refl)

-- ---- a write answers 0

latch : Device
latch = record { port = 0o14; kind = Latch; state = 0o6 ∷ [] }

a_read_and_a_write : (exchange_word (Read 0o14) 3 (latch ∷ []) ≡ 0o6) × (exchange_word (Write 0o14 0o7) 3 (latch ∷ []) ≡ 0)
unfolding latch
a_read_and_a_write = (refl, refl)

-- ---- modules with two wrong copies, in step 8

two : ℕ → List Event
two m = Lag m 1 8 8 ∷ Lag m 3 8 8 ∷ []

each_module_is_named : map (λ m. wrong_module (two m) 8) (1 ∷ 2 ∷ 3 ∷ 4 ∷ 5 ∷ 6 ∷ 7 ∷ [])
    ≡ Some 1 ∷ Some 2 ∷ Some 3 ∷ Some 4 ∷ Some 5 ∷ Some 6 ∷ Some 7 ∷ []
unfolding two
each_module_is_named = refl

the_lower_one_is_named : map (λ m. wrong_module (two (m + 1) ++ two m) 8) (1 ∷ 2 ∷ 3 ∷ 4 ∷ 5 ∷ 6 ∷ []) ≡ Some 1 ∷ Some 2 ∷ Some 3 ∷ Some 4 ∷ Some 5 ∷ Some 6 ∷ []
unfolding two
the_lower_one_is_named = refl
