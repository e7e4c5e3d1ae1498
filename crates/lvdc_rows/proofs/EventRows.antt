-- Worked events: in which steps and of which copy each kind acts, what it does to the copy, and what can be recovered. The numbers of
-- each event are unlike: module 5, copy 2, steps 7 to 9, latch 3.
use Rattle.std.proofs.Common.{◌≡◌, List, [], ◌∷◌, Bool, true, false, Some, None, map, refl}
use Rattle.lvdc_word.specs.Cell.{code_of}
use Rattle.lvdc_map.specs.Address.{Spot}
use Rattle.lvdc_vote.specs.declared.hurt.Hurt.TheVariants as hurts
use Rattle.lvdc_fault.specs.Script.{makes_wrong, deafens, wrong_module, span_of, is_active, first_of, active_events}
use Rattle.lvdc_fault.specs.Hurts.{hurts_by, hurts_on}
use Rattle.lvdc_fault.specs.Recoverable.{is_recovered, shown_by}
use Rattle.lvdc_fault.specs.declared.event.Event.{Event}
use Rattle.lvdc_fault.specs.declared.event.Event.TheVariants.{Flip, Force, Lag, Deaf, Damage, Stick, Dead}

flip : Event
flip = Flip 5 2 7 9 3 0o60

force : Event
force = Force 5 2 7 9 3 0o60 0o40

lag : Event
lag = Lag 5 2 7 9

deaf : Event
deaf = Deaf 5 2 7 9

place : Spot
place = record { pair = 2; sector = 1; loc = 3 }

-- does an event make copy 2 of module 5 wrong in the steps 6, 7, 9 and 10?
wrong_in_steps : Event → List Bool
wrong_in_steps e = map (λ step. makes_wrong step 5 2 e) (6 ∷ 7 ∷ 9 ∷ 10 ∷ [])

-- does it in step 8 make copy 1 of module 5 wrong, copy 2 of module 4, and copy 5 of module 2?
wrong_elsewhere : Event → List Bool
wrong_elsewhere e = makes_wrong 8 5 1 e ∷ makes_wrong 8 4 2 e ∷ makes_wrong 8 2 5 e ∷ []

-- ---- wrong copies

from_the_first_step_to_the_last : map wrong_in_steps (flip ∷ force ∷ lag ∷ deaf ∷ [])
    ≡ (false ∷ true ∷ true ∷ false ∷ []) ∷ (false ∷ true ∷ true ∷ false ∷ []) ∷ (false ∷ true ∷ true ∷ false ∷ []) ∷ (false ∷ true ∷ true ∷ false ∷ []) ∷ []
unfolding wrong_in_steps flip force lag deaf
from_the_first_step_to_the_last = refl

no_other_copy : map wrong_elsewhere (flip ∷ force ∷ lag ∷ deaf ∷ [])
    ≡ (false ∷ false ∷ false ∷ []) ∷ (false ∷ false ∷ false ∷ []) ∷ (false ∷ false ∷ false ∷ []) ∷ (false ∷ false ∷ false ∷ []) ∷ []
unfolding wrong_elsewhere flip force lag deaf
no_other_copy = refl

no_event_on_memory : map wrong_in_steps (Damage 1 place 7 0o60 ∷ Stick 1 place 7 9 0o60 0o40 ∷ Dead 1 2 7 9 ∷ [])
    ≡ (false ∷ false ∷ false ∷ false ∷ []) ∷ (false ∷ false ∷ false ∷ false ∷ []) ∷ (false ∷ false ∷ false ∷ false ∷ []) ∷ []
unfolding wrong_in_steps place
no_event_on_memory = refl

only_deaf_copies_are_deaf : (map (λ step. deafens step 5 2 deaf) (6 ∷ 7 ∷ 9 ∷ 10 ∷ []) ≡ false ∷ true ∷ true ∷ false ∷ [])
    × (map (deafens 8 5 2) (flip ∷ force ∷ lag ∷ []) ≡ false ∷ false ∷ false ∷ [])
unfolding flip force lag deaf
only_deaf_copies_are_deaf = (refl, refl)

-- copies 1 and 3 of module 6, and 2 and 3 of module 3
the_lowest_of_two_modules : wrong_module (Lag 6 1 8 8 ∷ Lag 3 2 8 8 ∷ Lag 6 3 8 8 ∷ Lag 3 3 8 8 ∷ []) 8 ≡ Some 3
the_lowest_of_two_modules = refl

one_copy_of_each : wrong_module (Lag 6 1 8 8 ∷ Lag 3 2 8 8 ∷ Lag 6 1 8 8 ∷ []) 8 ≡ None
one_copy_of_each = refl

-- ---- what is done to a copy

in_step_8 : map (hurts_by 8 5 2) (flip ∷ force ∷ lag ∷ deaf ∷ [])
    ≡ (hurts.Flip 3 0o60 ∷ []) ∷ (hurts.Force 3 0o60 0o40 ∷ []) ∷ (hurts.Lag ∷ []) ∷ [] ∷ []
unfolding flip force lag deaf
in_step_8 = refl

a_flip_from_step_7_to_9 : map (λ step. hurts_by step 5 2 flip) (6 ∷ 7 ∷ 9 ∷ 10 ∷ []) ≡ [] ∷ (hurts.Flip 3 0o60 ∷ []) ∷ (hurts.Flip 3 0o60 ∷ []) ∷ [] ∷ []
unfolding flip
a_flip_from_step_7_to_9 = refl

a_force_from_step_7_to_9 : map (λ step. hurts_by step 5 2 force) (6 ∷ 7 ∷ 9 ∷ 10 ∷ [])
    ≡ [] ∷ (hurts.Force 3 0o60 0o40 ∷ []) ∷ (hurts.Force 3 0o60 0o40 ∷ []) ∷ [] ∷ []
unfolding force
a_force_from_step_7_to_9 = refl

a_lag_from_step_7_to_9 : map (λ step. hurts_by step 5 2 lag) (6 ∷ 7 ∷ 9 ∷ 10 ∷ []) ≡ [] ∷ (hurts.Lag ∷ []) ∷ (hurts.Lag ∷ []) ∷ [] ∷ []
unfolding lag
a_lag_from_step_7_to_9 = refl

nothing_to_another_copy : (map (hurts_by 8 5 1) (flip ∷ force ∷ lag ∷ []) ≡ [] ∷ [] ∷ [] ∷ []) × (map (hurts_by 8 2 5) (flip ∷ force ∷ lag ∷ []) ≡ [] ∷ [] ∷ [] ∷ [])
    × (map (hurts_by 8 4 2) (flip ∷ force ∷ lag ∷ []) ≡ [] ∷ [] ∷ [] ∷ [])
unfolding flip force lag
nothing_to_another_copy = (refl, refl, refl)

in_the_order_of_the_script : hurts_on 8 5 2 (lag ∷ force ∷ deaf ∷ flip ∷ []) ≡ hurts.Lag ∷ hurts.Force 3 0o60 0o40 ∷ hurts.Flip 3 0o60 ∷ []
unfolding flip force lag deaf
in_the_order_of_the_script = refl

-- ---- which events are active: damage in its step alone

first_steps : map first_of (flip ∷ force ∷ lag ∷ deaf ∷ Damage 1 place 4 0o60 ∷ Stick 1 place 7 9 0o60 0o40 ∷ Dead 1 2 7 9 ∷ [])
    ≡ 7 ∷ 7 ∷ 7 ∷ 7 ∷ 4 ∷ 7 ∷ 7 ∷ []
unfolding flip force lag deaf place
first_steps = refl

active_in_step_9 : map (is_active 9) (flip ∷ force ∷ lag ∷ deaf ∷ Damage 1 place 4 0o60 ∷ Damage 1 place 9 0o60 ∷ Stick 1 place 7 9 0o60 0o40 ∷ Dead 1 2 7 9 ∷ [])
    ≡ true ∷ true ∷ true ∷ true ∷ false ∷ true ∷ true ∷ true ∷ []
unfolding flip force lag deaf place
active_in_step_9 = refl

active_in_step_6 : active_events (flip ∷ Damage 1 place 6 0o60 ∷ Stick 1 place 6 9 0o60 0o40 ∷ Dead 1 2 7 9 ∷ Stick 0 place 4 5 0o60 0o40 ∷ []) 6
    ≡ Damage 1 place 6 0o60 ∷ Stick 1 place 6 9 0o60 0o40 ∷ []
unfolding flip place
active_in_step_6 = refl

damage_is_one_step : span_of (Damage 1 place 4 0o60) ≡ record { first = 4; last = 4 }
unfolding place
damage_is_one_step = refl

-- ---- what can be recovered in a simplex pair: twin 0 shows banks 0 to 3, twin 1 banks 4 to 7

by_the_twin_of_the_bank : map (λ bank. is_recovered 0b1111 (record { pair = bank; sector = 1; loc = 3 }) 7 (shown_by (code_of 7) (code_of 8))) (0 ∷ 1 ∷ 3 ∷ 4 ∷ 5 ∷ 7 ∷ []) ≡ true ∷ true ∷ true ∷ false ∷ false ∷ false ∷ []
by_the_twin_of_the_bank = refl
