-- Worked ends: when a run through every fault has come to the end of the plain run.
use Rattle.std.proofs.Common.{◌≡◌, ℕ, true, false, Some, None, refl}
use Rattle.lvdc_map.specs.Address.{Spot}
use Rattle.lvdc_runs.specs.Same.{is_same_stop, is_same_end}
use Rattle.lvdc_model.specs.declared.outcome.Outcome.TheVariants.{Stopped, Device}
use Rattle.lvdc_plain.specs.declared.records.PlainEnd.TheVariants as plain
use Rattle.lvdc_plain.specs.declared.records.Stop.TheVariants.{Shift, Exm, Memory}

-- location 000 of a sector of bank 0
sector : ℕ → Spot
sector number = record { pair = 0; sector = number; loc = 0 }

-- ---- causes

a_cause_is_itself : (is_same_stop Shift Shift ≡ true) × (is_same_stop Exm Exm ≡ true) × (is_same_stop (Memory (sector 1)) (Memory (sector 1)) ≡ true)
unfolding sector
a_cause_is_itself = (refl, refl, refl)

a_wrong_shift_is_no_exm : (is_same_stop Shift Exm ≡ false) × (is_same_stop Exm Shift ≡ false)
a_wrong_shift_is_no_exm = (refl, refl)

a_lost_word_is_no_instruction : (is_same_stop (Memory (sector 1)) Exm ≡ false) × (is_same_stop Shift (Memory (sector 1)) ≡ false)
unfolding sector
a_lost_word_is_no_instruction = (refl, refl)

two_lost_words : is_same_stop (Memory (sector 1)) (Memory (sector 2)) ≡ false
unfolding sector
two_lost_words = refl

-- ---- ends

both_go_on : is_same_end None None ≡ true
both_go_on = refl

both_stop_in_one_step : is_same_end (Some (Stopped 5 Exm)) (Some (plain.Stopped 5 Exm)) ≡ true
both_stop_in_one_step = refl

for_two_causes : is_same_end (Some (Stopped 5 Shift)) (Some (plain.Stopped 5 Exm)) ≡ false
for_two_causes = refl

in_two_steps : is_same_end (Some (Stopped 8 Exm)) (Some (plain.Stopped 5 Exm)) ≡ false
in_two_steps = refl

one_stops : (is_same_end None (Some (plain.Stopped 5 Exm)) ≡ false) × (is_same_end (Some (Stopped 5 Exm)) None ≡ false)
one_stops = (refl, refl)

a_failed_device_is_no_stop : (is_same_end (Some (Device 5 0)) (Some (plain.Stopped 5 Exm)) ≡ false) × (is_same_end (Some (Device 5 0)) None ≡ false)
a_failed_device_is_no_stop = (refl, refl)
