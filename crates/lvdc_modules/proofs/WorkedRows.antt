-- Worked values of the definitions.
use Rattle.std.proofs.Common.{◌≡◌, refl}
use Rattle.std.specs.Prelude.{ℕ, [], ◌∷◌}
use Rattle.lvdc_modules.specs.declared.bus.Bus.{Bus}
use Rattle.lvdc_modules.specs.declared.wanted.Wanted.TheVariants.{Nothing, Fetch, Store, PortRead, PortWrite}
use Rattle.lvdc_modules.specs.Rows.{bus_of}
use Rattle.lvdc_modules.specs.States.{locator_of, selector_of, accumulator_of, multiplier_of, exchange_of}
use Rattle.lvdc_modules.specs.Timer.{timer_row}
use Rattle.lvdc_modules.specs.Locator.{locator_row}
use Rattle.lvdc_modules.specs.Decoder.{decoder_row}
use Rattle.lvdc_modules.specs.Selector.{selector_row}
use Rattle.lvdc_modules.specs.Accumulator.{accumulator_row}
use Rattle.lvdc_modules.specs.Multiplier.{multiplier_row}
use Rattle.lvdc_modules.specs.Exchange.{exchange_row}
use Rattle.lvdc_modules.specs.Wish.{wish}
use Rattle.lvdc_modules.specs.Next.{renewed}

-- the bus in a phase at location 004 with data sector 1: A has 24, OPERAND 5 and the saver 77; 17003 comes from memory
abbrev bus : ℕ → ℕ → ℕ → ℕ → Bus
bus phase hold instr request =
    bus_of
    ((phase ∷ hold ∷ [])
    ∷ (0o10004 ∷ 0o77 ∷ [])
    ∷ (instr ∷ [])
    ∷ (0o12 ∷ [])
    ∷ (24 ∷ 5 ∷ [])
    ∷ (0 ∷ 0 ∷ 0 ∷ 0 ∷ 0 ∷ [])
    ∷ (0 ∷ request ∷ [])
    ∷ [])
    0o17003
    0

phase_a_fetches : wish (bus 0 0 0 0) 0 ≡ Fetch (record { pair = 0; sector = 0; loc = 4 })
phase_a_fetches = refl

phase_a_decodes : decoder_row (bus 0 0 0 0) ≡ 0o17003 ∷ []
phase_a_decodes = refl

nothing_is_fetched_in_a_hold : wish (bus 0 1 0 0) 0 ≡ Nothing
nothing_is_fetched_in_a_hold = refl

sto_776_asks_for_the_saver : exchange_row (bus 1 0 0o13776 0) ≡ 0 ∷ 0o77762 ∷ []
sto_776_asks_for_the_saver = refl

what_was_asked_is_stored_in_a_hold_too : wish (bus 2 3 0 0o77762) 0 ≡ Store (record { pair = 0; sector = 15; loc = 0o376 }) 0o77
what_was_asked_is_stored_in_a_hold_too = refl

odd_module_of_a_simplex_pair : wish (bus 2 0 0 0o600031) 4 ≡ Store (record { pair = 6; sector = 0; loc = 3 }) 24
odd_module_of_a_simplex_pair = refl

mph_holds : timer_row (bus 2 0 0o05000 0) ≡ 0 ∷ 4 ∷ []
mph_holds = refl

mph_is_issued : multiplier_row (bus 2 0 0o05000 0) ≡ 0 ∷ 0o62 ∷ 1 ∷ 0 ∷ 6 ∷ []
mph_is_issued = refl

hop_goes_to_its_operand : locator_row (bus 2 0 0 0) ≡ 4 ∷ 0o12016 ∷ []
hop_goes_to_its_operand = refl

tra_goes_to_syllable_1 : locator_row (bus 2 0 0o10407 0) ≡ 0o1016004 ∷ 0o12016 ∷ []
tra_goes_to_syllable_1 = refl

cds_names_module_5_and_sector_2 : selector_row (bus 2 0 0o16522 0) ≡ 0o1222 ∷ []
cds_names_module_5_and_sector_2 = refl

sub_takes_the_operand_from_a : accumulator_row (bus 2 0 0o02000 0) ≡ 19 ∷ 5 ∷ []
sub_takes_the_operand_from_a = refl

exm_stops : exchange_row (bus 2 0 0o16600 0) ≡ 2 ∷ 0 ∷ []
exm_stops = refl

-- ---- all modules

-- the same bus, for which nothing has come from memory or port yet
abbrev empty : ℕ → ℕ → ℕ → ℕ → Bus
empty phase hold instr request = record (bus phase hold instr request) { memory = 0 }

-- the same bus with an MPH under way, of which CONTROL and Q are these
abbrev with_mph : Bus → ℕ → ℕ → Bus
with_mph b control q = record b { multiplier = multiplier_of (0 ∷ control ∷ 1 ∷ 0 ∷ q ∷ []) }

phase_a_changes_instr : renewed (record (bus 0 0 0 0o77762) { port = 7 }) ≡ empty 1 0 0o17003 0
phase_a_changes_instr = refl

phase_b_changes_operand : renewed (bus 1 0 0o07000 0o77762) ≡ record (empty 2 0 0o07000 0) { accumulator = accumulator_of (24 ∷ 0o17003 ∷ []) }
phase_b_changes_operand = refl

phase_b_of_sto_changes_request : renewed (bus 1 0 0o13776 0o77764) ≡ empty 2 0 0o13776 0o77762
phase_b_of_sto_changes_request = refl

phase_c_of_sub_changes_place_and_a :
    renewed (bus 2 0 0o02000 0o77762)
    ≡ record (empty 0 0 0o02000 0) {
      locator = locator_of (0o12004 ∷ 0o77 ∷ []);
      accumulator = accumulator_of (19 ∷ 5 ∷ []);
    }
phase_c_of_sub_changes_place_and_a = refl

the_unit_works_in_a_hold : renewed (with_mph (bus 0 4 0o05000 0o77762) 0o62 6) ≡ with_mph (empty 1 4 0o05000 0) 0o56 0o40000001
the_unit_works_in_a_hold = refl

-- ---- patterns that no run has

-- phase C, with another STOP
abbrev after_stop : ℕ → ℕ → Bus
after_stop stop instr = record (bus 2 0 instr 0) { exchange = exchange_of (stop ∷ 0 ∷ []) }

-- phase C, with 1 in each bit of PLACE, DATA and OPERAND
abbrev all_ones : ℕ → Bus
all_ones instr =
    record (bus 2 0 instr 0) {
      locator = locator_of (0o377777777 ∷ 0o77 ∷ []);
      selector = selector_of (0o377777777 ∷ []);
      accumulator = accumulator_of (24 ∷ 0o377777777 ∷ []);
    }

phase_3_is_c : timer_row (bus 3 0 0o05000 0) ≡ 0 ∷ 4 ∷ []
phase_3_is_c = refl

phase_3_exchanges : wish (bus 3 0 0 0o77762) 0 ≡ Store (record { pair = 0; sector = 15; loc = 0o376 }) 0o77
phase_3_exchanges = refl

phase_counts_modulo_4 : timer_row (bus 5 2 0 0) ≡ 2 ∷ 2 ∷ []
phase_counts_modulo_4 = refl

hold_counts_modulo_8 : timer_row (bus 2 0o13 0 0) ≡ 0 ∷ 2 ∷ []
hold_counts_modulo_8 = refl

hold_8_is_no_hold : wish (bus 0 8 0 0) 0 ≡ Fetch (record { pair = 0; sector = 0; loc = 4 })
hold_8_is_no_hold = refl

hold_stays_in_phase_a : timer_row (bus 0 0o13 0 0) ≡ 1 ∷ 0o13 ∷ []
hold_stays_in_phase_a = refl

instr_has_thirteen_bits : timer_row (bus 2 0 0o1005000 0) ≡ 0 ∷ 4 ∷ []
instr_has_thirteen_bits = refl

kind_3_writes_to_its_port : wish (bus 2 0 0 0o7771233) 0 ≡ PortWrite 0o123 24
kind_3_writes_to_its_port = refl

kind_4_reads_from_its_port : wish (bus 2 0 0 0o7771234) 0 ≡ PortRead 0o123
kind_4_reads_from_its_port = refl

kind_5_requests_nothing : wish (bus 2 0 0 0o77765) 0 ≡ Nothing
kind_5_requests_nothing = refl

kind_6_requests_nothing : wish (bus 2 0 0 0o77766) 0 ≡ Nothing
kind_6_requests_nothing = refl

kind_7_requests_nothing : wish (bus 2 0 0 0o77767) 0 ≡ Nothing
kind_7_requests_nothing = refl

exm_over_a_wrong_shift : exchange_row (after_stop 1 0o16600) ≡ 2 ∷ 0 ∷ []
exm_over_a_wrong_shift = refl

a_wrong_shift_over_exm : exchange_row (after_stop 2 0o16203) ≡ 1 ∷ 0 ∷ []
a_wrong_shift_over_exm = refl

stop_stays : exchange_row (after_stop 3 0o17000) ≡ 3 ∷ 0 ∷ []
stop_stays = refl

-- 111 1111 1 00000000 000 0000 1 0 0
the_next_place_has_its_fields_alone : locator_row (all_ones 0o17000) ≡ 0o377000004 ∷ 0o77 ∷ []
the_next_place_has_its_fields_alone = refl

-- 111 1111 1 11111111 000 0000 1 0 0, and the saver has all fields of the place after 377
the_place_of_hop_has_its_fields_alone : locator_row (all_ones 0) ≡ 0o377776004 ∷ 0o377001776 ∷ []
the_place_of_hop_has_its_fields_alone = refl

-- 111 1111 0 1 0
the_data_of_hop_has_its_fields_alone : selector_row (all_ones 0) ≡ 0o1772 ∷ []
the_data_of_hop_has_its_fields_alone = refl

the_data_of_cds_has_its_fields_alone : selector_row (all_ones 0o16522) ≡ 0o1222 ∷ []
the_data_of_cds_has_its_fields_alone = refl

data_stays_as_it_is : selector_row (all_ones 0o17000) ≡ 0o377777777 ∷ []
data_stays_as_it_is = refl
