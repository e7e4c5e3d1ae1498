-- Worked examples, by computing.
use Rattle.std.proofs.Common.{◌≡◌, ℕ, ◌+◌, refl, false, List, [], ◌∷◌, ◌++◌}
use Rattle.std.specs.declared.option.Option.TheVariants.{None, Some}
use Rattle.lvdc_map.specs.Address.{Spot}
use Rattle.lvdc_map.specs.Hop.{hop_of}
use Rattle.lvdc_map.specs.Memory as memory
use Rattle.lvdc_map.specs.declared.placed.Placed.{Placed}
use Rattle.lvdc_plain.specs.Accesses.{fetched, operand, store}
use Rattle.lvdc_plain.specs.Plain.{PlainState}
use Rattle.lvdc_plain.specs.Run.{run}
use Rattle.lvdc_plain.specs.Table.{step}
use Rattle.lvdc_plain.specs.declared.records.Stop.TheVariants as stops

-- words from a location of bank 0 and a sector on
abbrev placed : ℕ → ℕ → List ℕ → List Placed
placed sector loc [] = []
placed sector loc (w ∷ ws) = record { at = record { pair = 0; sector = sector; loc = loc }; word = w } ∷ placed sector (loc + 1) ws

-- the plain machine after n times, with this code from 0 00 0 000 on, these words from 0 01 000 on, and no device
abbrev ran : List ℕ → List ℕ → ℕ → PlainState
ran codes words n =
    (run (record {
      image = placed 0 0 codes ++ placed 1 0 words;
      banks = 0;
      start = hop_of 0o16;
      unplugs = [];
      devices = [];
    }) n).plain

abbrev sum_that_wraps : ℕ → PlainState
sum_that_wraps n = ran (0o17000 ∷ 0o07001 ∷ 0o13002 ∷ 0o10003 ∷ []) (0o177777777 ∷ 1 ∷ []) n

wraps_a : (sum_that_wraps 3).a ≡ 0o200000000
wraps_a = refl

wraps_place : (sum_that_wraps 3).place.loc ≡ 3
wraps_place = refl

wraps_memory : memory.word_at (sum_that_wraps 3).memory (record { pair = 0; sector = 1; loc = 2 }) ≡ 0o200000000
wraps_memory = refl

transfer_saves : (sum_that_wraps 4).saver ≡ 0o000010016
transfer_saves = refl

transfer_goes : (sum_that_wraps 4).place.loc ≡ 3
transfer_goes = refl

abbrev divide : ℕ → PlainState
divide n = ran (0o17000 ∷ 0o03001 ∷ 0o17775 ∷ 0o17775 ∷ 0o17775 ∷ 0o17775 ∷ 0o17775 ∷ 0o17775 ∷ 0o17775 ∷ 0o17775 ∷ 0o17775 ∷ []) (0o040000000 ∷ 0o100000000 ∷ []) n

divide_a_10 : (divide 10).a ≡ 0
divide_a_10 = refl

divide_pq_10 : (divide 10).pq ≡ 0o100000000
divide_pq_10 = refl

divide_a_11 : (divide 11).a ≡ 0o100000000
divide_a_11 = refl

abbrev replaced_multiply : ℕ → PlainState
replaced_multiply n = ran (0o17000 ∷ 0o01000 ∷ 0o17001 ∷ 0o01001 ∷ 0o10004 ∷ []) (0o100000000 ∷ 0o040000000 ∷ []) n

replaced_6 : (replaced_multiply 6).pq ≡ 0
replaced_6 = refl

replaced_8 : (replaced_multiply 8).pq ≡ 0o010000000
replaced_8 = refl

abbrev landed_before : ℕ → PlainState
landed_before n = ran (0o17000 ∷ 0o01000 ∷ 0o17001 ∷ 0o17001 ∷ 0o17001 ∷ 0o01001 ∷ 0o10006 ∷ []) (0o100000000 ∷ 0o040000000 ∷ []) n

landed_before_6 : (landed_before 6).pq ≡ 0o040000000
landed_before_6 = refl

landed_before_10 : (landed_before 10).pq ≡ 0o010000000
landed_before_10 = refl

abbrev multiply_and_hold : ℕ → PlainState
multiply_and_hold n = ran (0o17000 ∷ 0o05000 ∷ 0o10002 ∷ []) (0o100000000 ∷ []) n

hold_5 : ((multiply_and_hold 5).a ≡ 0o100000000) × ((multiply_and_hold 5).pq ≡ 0) × ((multiply_and_hold 5).place.loc ≡ 2)
hold_5 = (refl, refl, refl)

hold_6 : ((multiply_and_hold 6).a ≡ 0o040000000) × ((multiply_and_hold 6).pq ≡ 0o040000000) × ((multiply_and_hold 6).place.loc ≡ 2) × ((multiply_and_hold 6).saver ≡ 0)
hold_6 = (refl, refl, refl, refl)

hold_7 : (multiply_and_hold 7).saver ≡ 0o000006016
hold_7 = refl

stops_name_their_cause : ((ran (0o16600 ∷ []) [] 5).stop ≡ Some stops.Exm) × ((ran (0o16600 ∷ []) [] 5).times ≡ 1) × ((ran (0o16203 ∷ []) [] 5).stop ≡ Some stops.Shift)
stops_name_their_cause = (refl, refl, refl)

zero_syllable_hops : ((ran [] [] 1).place.loc ≡ 0) × ((ran [] [] 1).saver ≡ 0o000002016) × ((ran [] [] 1).place.dupin ≡ false)
zero_syllable_hops = (refl, refl, refl)

store_wins : (ran (0o17000 ∷ 0o01000 ∷ 0o17000 ∷ 0o17000 ∷ 0o17000 ∷ 0o13775 ∷ []) (0o100000000 ∷ []) 6).pq ≡ 0o100000000
store_wins = refl

-- ---- what a time fetches, reads and stores

-- the machine at its start, before this instruction
abbrev before : ℕ → PlainState
before code = ran (code ∷ []) [] 0

-- a word of the saver in the residual sector
abbrev saved : Spot
saved = record { pair = 0; sector = 15; loc = 0o376 }

a_time_fetches_and_reads : (fetched (before 0o17000) ≡ Some (record { pair = 0; sector = 0; loc = 0 }))
    × (operand (before 0o17000) ≡ Some (record { pair = 0; sector = 1; loc = 0 })) × (store (before 0o17000) ≡ None)
a_time_fetches_and_reads = (refl, refl, refl)

a_store_reads_nothing : (operand (before 0o13002) ≡ None)
    × (store (record (before 0o13002) { a = 5 }) ≡ Some (record { at = record { pair = 0; sector = 1; loc = 2 }; word = 5 }))
a_store_reads_nothing = (refl, refl)

nothing_after_a_stop : (fetched (record (before 0o17000) { stop = Some stops.Shift }) ≡ None)
    × (operand (record (before 0o17000) { stop = Some stops.Shift }) ≡ None)
    × (store (record (before 0o13002) { stop = Some stops.Exm }) ≡ None)
nothing_after_a_stop = (refl, refl, refl)

nothing_in_a_hold : (fetched (record (before 0o17000) { hold = 1 }) ≡ None) × (operand (record (before 0o17000) { hold = 1 }) ≡ None)
    × (store (record (before 0o13002) { hold = 1 }) ≡ None)
nothing_in_a_hold = (refl, refl, refl)

-- CLA 776 reads memory, and not the saver
an_operand_at_776 : (operand (before 0o17776) ≡ Some saved)
    × ((step (record (before 0o17776) { saver = 0o77; memory = memory.stored (before 0o17776).memory saved 5 }) []).plain.a ≡ 5)
an_operand_at_776 = (refl, refl)

a_store_at_776 : store (record (before 0o13776) { a = 5; saver = 0o77 }) ≡ Some (record { at = saved; word = 0o77 })
a_store_at_776 = refl

pq_is_no_address : (operand (before 0o17775) ≡ None) × (store (before 0o13775) ≡ None)
pq_is_no_address = (refl, refl)
