-- Worked rows of what is in force on a copy.
use Rattle.std.proofs.Common.{◌≡◌, true, false, [], ◌∷◌, replicate, refl}
use Rattle.lvdc_vote.specs.Harms.{harm_of}
use Rattle.lvdc_vote.specs.declared.hurt.Hurt.TheVariants as hurts
use Rattle.lvdc_fault.specs.declared.event.Event.TheVariants.{Deaf, Flip}
use Rattle.lvdc_forces.specs.InForce.{faults_on, is_named, no_faults}
use Rattle.lvdc_forces.specs.declared.in_force.InForce.{InForce}

-- copy 3 of ACCUMULATOR, number 14, is deaf and has a bit of its second latch turned over; copy 2 has nothing
two_events_of_one_copy :
    let script = Deaf 5 3 0 9 ∷ Flip 5 3 0 9 1 4 ∷ [] in
    (faults_on script 4 14 ≡ record { deaf = true; harm = harm_of (hurts.Flip 1 4 ∷ []) }) × (faults_on script 4 13 ≡ no_faults)
two_events_of_one_copy = (refl, refl)

-- copy 2 of DECODER, number 7, is named where it is marked and any copy is named at all
named_copy :
    let marks = false ∷ false ∷ false ∷ false ∷ false ∷ false ∷ false ∷ true ∷ replicate 13 false in
    let force : InForce = record { any = true; deaf = false; marks = marks; copies = replicate 21 no_faults } in
    (is_named force 7 ≡ true) × (is_named force 6 ≡ false) × (is_named (record force { any = false }) 7 ≡ false)
named_copy = (refl, refl, refl)
