-- What a script does to a copy names a latch of its module.
use Rattle.std.proofs.Common.{◌≡◌, ℕ, zero, suc, ◌<◌, Bool, true, false, ◌&&◌, ◌==◌, if◌then◌else◌, List, [], ◌∷◌, subst, refl, arith}
use Rattle.std.specs.Prelude.{All}
use Rattle.std.proofs.lemmas.Bool.{eqb-true}
use Rattle.std.proofs.lemmas.List.Elements.{All-append, All-nil}
use Rattle.lvdc_vote.specs.Latches.{FitsLatches}
use Rattle.lvdc_vote.specs.declared.hurt.Hurt.{Hurt}
use Rattle.lvdc_vote.specs.Numbers.{latches_of}
use Rattle.lvdc_fault.specs.Script.{acts_on, is_within}
use Rattle.lvdc_fault.specs.declared.event.Event.{Event}
use Rattle.lvdc_fault.specs.declared.event.Event.TheVariants.{Flip, Force, Lag}
use Rattle.lvdc_fault.specs.Events.{IsEvent}
use Rattle.lvdc_fault.specs.Hurts.{hurts_by, hurts_on}

-- a hurt under a condition
fits_one : (b : Bool) (n : ℕ) (hurt : Hurt) → (b ≡ true → FitsLatches n hurt) → All (FitsLatches n) (if b then hurt ∷ [] else [])
fits_one true n hurt fits zero d h = fits refl
fits_one true n hurt fits (suc k) d h = absurd (omega (arith, h))
fits_one false n hurt fits k d h = absurd (omega (arith, h))

-- the first of three conditions that hold
first_true : (a b c : Bool) → (a && b && c) ≡ true → a ≡ true
first_true true b c h = refl
first_true false b c h = h

-- an event acts on the module that it names
its_module : (number copy first last step m c : ℕ) → acts_on number copy first last step m c ≡ true → number ≡ m
its_module number copy first last step m c h = eqb-true number m (first_true (number == m) (copy == c) (is_within first last step) h)

-- so its hurt fits the latches of that module
hurt_fits : (step m c : ℕ) (e : Event) → IsEvent e → All (FitsLatches (latches_of m)) (hurts_by step m c e)
hurt_fits step m c (Flip number copy first last index mask) is =
    fits_one (acts_on number copy first last step m c) (latches_of m) _
    (λ h. subst (λ n. index < latches_of n) (its_module number copy first last step m c h) is.2)
hurt_fits step m c (Force number copy first last index mask value) is =
    fits_one (acts_on number copy first last step m c) (latches_of m) _
    (λ h. subst (λ n. index < latches_of n) (its_module number copy first last step m c h) is.2)
hurt_fits step m c (Lag number copy first last) is = fits_one (acts_on number copy first last step m c) (latches_of m) _ (λ h. tt)
hurt_fits step m c _ is = All-nil _

-- what a script does to a copy names latches of its module, where the events are in their ranges
pub hurts_fit : (step m c : ℕ) (es : List Event) → All IsEvent es → All (FitsLatches (latches_of m)) (hurts_on step m c es)
hurts_fit step m c [] are = All-nil _
hurts_fit step m c (e ∷ es) are =
    All-append (FitsLatches (latches_of m)) (hurts_by step m c e) (hurts_on step m c es)
    (hurt_fits step m c e (are 0 e (omega arith)))
    (hurts_fit step m c es (λ k d h. are (suc k) d (omega (arith, h))))
