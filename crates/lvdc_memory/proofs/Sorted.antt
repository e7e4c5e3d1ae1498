-- A stable sort by number keeps the order of those with one number.
use Rattle.std.proofs.Common.{◌≡◌, ℕ, zero, suc, ◌==◌, Bool, not, ◌&&◌, List, All, filter, nat_cmp, is_lt, arith, refl, sym, ap, ◌∙◌, subst, Bor}
use denote.Param.Members.{Mut}
use Rattle.std.specs.Fn.{Called}
use Rattle.std.specs.List.Sorted.{IsPermutation, IsStableByKey, IsStableByKeyClosure, ties}
use Rattle.std.proofs.lemmas.Bool.Decides.{nat_tests}
use Rattle.std.proofs.lemmas.Fn.{always_returns_same}
use Rattle.std.proofs.lemmas.List.Elements.{All-filter, filter_agree}
use Rattle.std.proofs.lemmas.List.Sorted.{All-permutation}
use Rattle.lvdc_fault.specs.Events.{IsEvent}
use Rattle.lvdc_fault.specs.declared.event.Event.{Event}
use Rattle.lvdc_fault.specs.declared.event.Event.TheVariants.{Damage, Dead}
use Rattle.lvdc_fault.specs.Script.{is_on_memory}
use Rattle.lvdc_memory.specs.OnMemory.{on_memory}
use Rattle.lvdc_memory.specs.Order.{number_of_event, has_number, AreOnMemory}

-- two numbers of which neither is less are one
neither_less : (m n : ℕ) → (not (is_lt (nat_cmp m n)) && not (is_lt (nat_cmp n m))) ≡ (n == m)
neither_less m n = grind (arith, nat_tests)

-- does an event come before another one by its number?
abbrev is_before : Event → Event → Bool
is_before a b = is_lt (nat_cmp (number_of_event a) (number_of_event b))

-- each number is that of an event
sample : ℕ → Event
sample zero = Damage 0 (record { pair = 0; sector = 0; loc = 0 }) 0 0
sample (suc n) = Dead 0 n 0 0

number_of-sample : (number : ℕ) → number_of_event (sample number) ≡ number
unfolding sample
number_of-sample zero = refl
number_of-sample (suc n) = omega arith

-- the events with the number of this one, after a stable sort
of_this : (events sorted : List Event) → IsStableByKey number_of_event nat_cmp events sorted → (e : Event)
    → filter (has_number (number_of_event e)) sorted ≡ filter (has_number (number_of_event e)) events
of_this events sorted stable e =
    let same = filter_agree (ties is_before e) (has_number (number_of_event e)) (λ f. neither_less (number_of_event e) (number_of_event f)) in
    sym (same sorted) ∙ stable e ∙ same events

-- what a stable sort makes of the events on memory, where each call of its closure gives the number
pub sorted-are_on_memory : {F : Type 0} {g : Mut F (Bor Event × Unit {0}) ℕ} {f : F} (script events sorted : List Event)
    → All IsEvent script → events ≡ on_memory script → IsPermutation events sorted → IsStableByKeyClosure g nat_cmp f events sorted
    → ((a : Bor Event × Unit {0}) (r : ℕ) (f' : F) → Called g f a r f' → (r ≡ number_of_event a.0.now) × (f' ≡ f)) → AreOnMemory script sorted
sorted-are_on_memory {g = g} {f = f} script events sorted all are moved stable calls =
    let by_number = stable number_of_event (always_returns_same g (λ a r. r ≡ number_of_event a.0.now) f calls) in
    record {
      same = λ number.
          subst (λ (n : ℕ). filter (has_number n) sorted ≡ filter (has_number n) events) (number_of-sample number) (of_this events sorted by_number (sample number))
          ∙ ap (filter (has_number number)) are;
      events = All-permutation IsEvent events sorted moved (subst (All IsEvent) (sym are) (All-filter is_on_memory IsEvent script all));
    }
