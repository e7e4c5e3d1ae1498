-- TIMER's phases, where at most one copy of it is wrong.
use Rattle.std.proofs.Common.{◌≡◌, ℕ, zero, suc, ◌+◌, ◌%◌, ◌<◌, false, List, [], ◌∷◌, map, refl, sym, ap, ◌∙◌, arith}
use Rattle.std.specs.Prelude.{◌==◌, if◌then◌else◌}
use Rattle.std.specs.Prelude.{slice_index}
use Rattle.lvdc_vote.specs.Copies.{Copies, IsSized, vote_of}
use Rattle.lvdc_vote.proofs.Votes.{two_vote}
use Rattle.lvdc_modules.specs.Rows.{rows, bus_of}
use Rattle.lvdc_modules.specs.Seen.{phase_of}
use Rattle.lvdc_modules.specs.declared.seen.Phase.TheVariants.{A, B, C}
use Rattle.lvdc_modules.specs.Timer.{timer_row, phase_after}
use Rattle.lvdc_modules.specs.declared.bus.Bus.{Bus}
use Rattle.lvdc_fault.specs.Script.{is_wrong, two_wrong}
use Rattle.lvdc_fault.specs.declared.event.Event.{Event}
use Rattle.lvdc_model.specs.Voted.{next_three, next_copies}
use Rattle.lvdc_model.proofs.Latching.{two_by, right_copy, length-next_copy}
use Rattle.lvdc_machine.specs.declared.mode.Mode.{Mode}
use Rattle.lvdc_machine.specs.declared.mode.Mode.TheVariants.{Guarded, Through}
use Rattle.lvdc_machine.specs.Room.{IsInTime}

-- the three copies latch TIMER's row, but for one
timer-votes : (script : List Event) (step : ℕ) (t : Copies) (copies : List Copies) (voted : Bus) → two_wrong script step 1 ≡ false
    → IsSized 2 t → vote_of (next_three script step 1 timer_row t copies voted) ≡ timer_row voted
timer-votes script step t copies voted two sized =
    two_vote _ _ _ (timer_row voted)
    (length-next_copy script step 1 1 2 timer_row t.one copies voted (λ b. refl) sized.one)
    (length-next_copy script step 1 2 2 timer_row t.two copies voted (λ b. refl) sized.two)
    (length-next_copy script step 1 3 2 timer_row t.three copies voted (λ b. refl) sized.three)
    (two_by (is_wrong script step 1 1) (is_wrong script step 1 2) (is_wrong script step 1 3) _ _ _ (timer_row voted) two
    (λ h. right_copy script step 1 1 timer_row t.one copies voted h)
    (λ h. right_copy script step 1 2 timer_row t.two copies voted h)
    (λ h. right_copy script step 1 3 timer_row t.three copies voted h))

-- PHASE goes round
round : (r : ℕ) → r < 3 → phase_after (phase_of r) ≡ suc r % 3
round zero h = refl
round (suc zero) h = refl
round (suc (suc zero)) h = refl
round (suc (suc (suc r))) h = absurd (omega arith)

-- also where PHASE has higher bits, which don't count
next-timed : (steps n : ℕ) → n % 4 ≡ steps % 3 → phase_after (phase_of n) % 4 ≡ (steps + 1) % 3
next-timed steps n is =
    let same : n % 4 % 4 ≡ n % 4 = omega arith in
    let low : phase_of (n % 4) ≡ phase_of n = ap (λ k. if k == 0 then A else (if k == 1 then B else C)) same in
    ap (λ p. phase_after p % 4) (sym low ∙ ap phase_of is)
    ∙ ap (λ k. k % 4) (round (steps % 3) (omega arith)) ∙ omega arith

-- a step in which a machine judges, and TIMER has at most one wrong copy, keeps the phase with the steps
pub stays-in-time : (mode : Mode) (script : List Event) (steps : ℕ) (copies : List Copies) (memory port : ℕ)
    → (mode ≡ Guarded → two_wrong script steps 1 ≡ false) → IsInTime mode copies steps
    → IsInTime mode (next_copies script steps 1 rows copies copies (bus_of (map vote_of copies) memory port)) (steps + 1)
stays-in-time Through script steps copies memory port right h = tt
stays-in-time Guarded script steps [] memory port right h = absurd h
stays-in-time Guarded script steps (t ∷ ts) memory port right h =
    let voted = bus_of (map vote_of (t ∷ ts)) memory port in
    record {
      sized = record {
        one = length-next_copy script steps 1 1 2 timer_row t.one (t ∷ ts) voted (λ b. refl) h.sized.one;
        two = length-next_copy script steps 1 2 2 timer_row t.two (t ∷ ts) voted (λ b. refl) h.sized.two;
        three = length-next_copy script steps 1 3 2 timer_row t.three (t ∷ ts) voted (λ b. refl) h.sized.three;
      };
      votes = ap (λ ws. slice_index ws 0 % 4) (timer-votes script steps t (t ∷ ts) voted (right refl) h.sized) ∙ next-timed steps _ h.votes;
    }
