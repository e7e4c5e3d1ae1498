-- What a step finds in force, and what it puts in force.
use Rattle.std.proofs.Common.{◌≡◌, ℕ, zero, suc, ◌+◌, ◌-◌, ◌*◌, ◌≤◌, ◌<◌, List, [], ◌++◌, length, take, Option, None, Some, refl, sym, ap, ◌∙◌, subst, arith, append-nil}
use Rattle.std.specs.Prelude.{IfSome, IsSomeAnd}
use Rattle.std.proofs.lemmas.List.{take_all}
use Rattle.std.proofs.lemmas.List.Elements.{filter-append}
use Rattle.lvdc_map.specs.Memory.{Memory}
use Rattle.lvdc_fault.specs.declared.event.Event.{Event}
use Rattle.lvdc_model.specs.Exchanges.{damages}
use Rattle.lvdc_model.specs.Known.{last_made}
use Rattle.lvdc_model.specs.Trial.{Trial}
use Rattle.lvdc_model.specs.Twins.{Twins}
use Rattle.lvdc_memory.specs.Changes.{damages_in, Changes}
use Rattle.lvdc_memory.specs.Events.{LastUntil}
use Rattle.lvdc_memory.specs.Holds.{MemoryState, IsMemoryOf}
use Rattle.lvdc_memory.specs.News.{is_new, new_events}
use Rattle.lvdc_memory.specs.Order.{AreOnMemory}
use Rattle.lvdc_memory.specs.Parts.{events_of, part_at, AreParts, AreRight, AreRightSince}
use Rattle.lvdc_memory.specs.declared.parts.Part.{Part}
use Rattle.lvdc_memory.proofs.Changing.{changes-none, holds-changed}
use Rattle.lvdc_memory.proofs.Joining.{parts_append}
use Rattle.lvdc_memory.proofs.Ordered.{by_events, holds-ordered, holds-by-script, ordered-damages}
use Rattle.lvdc_memory.proofs.PartLaws.{right_later, none_new_later}

-- ---- part after part

-- the events up to the end of a part that are new
pub new-part : (last : Option ℕ) (step : ℕ) (events : List Event) (k : ℕ)
    → new_events last step (take (256 * (k + 1)) events) ≡ new_events last step (take (256 * k) events) ++ new_events last step (events_of events k)
new-part last step events k =
    ap (new_events last step) (sym (parts_append events k)) ∙ filter-append (is_new last step) (take (256 * k) events) (events_of events k)

-- where a part has none that is new
pub old-part : (last : Option ℕ) (step : ℕ) (events : List Event) (k : ℕ) → new_events last step (events_of events k) ≡ []
    → new_events last step (take (256 * (k + 1)) events) ≡ new_events last step (take (256 * k) events)
old-part last step events k none =
    new-part last step events k ∙ ap (λ (es : List Event). new_events last step (take (256 * k) events) ++ es) none ∙ append-nil (new_events last step (take (256 * k) events))

-- so many parts are all of them
pub all-parts : (events : List Event) (parts : List Part) (n : ℕ) → AreParts events parts → length parts ≤ n → take (256 * n) events ≡ events
all-parts events parts n are enough = take_all (256 * n) events (omega (arith, are.whole, enough))

-- ---- where no part has an event that is new

module _ (events : List Event) (parts : List Part) (are : AreParts events parts) where
  none-of : (last : Option ℕ) (step n : ℕ) → ((k : ℕ) → k < length parts → new_events last step (events_of events k) ≡ []) → n ≤ length parts
      → new_events last step (take (256 * n) events) ≡ []
  none-of last step zero none within = refl
  none-of last step (suc n) none within =
      let one : suc n ≡ n + 1 = omega arith in
      ap (λ (m : ℕ). new_events last step (take (256 * m) events)) one ∙ old-part last step events n (none n (omega (arith, within)))
      ∙ none-of last step n none (omega (arith, within))

  none-new : (last : Option ℕ) (step : ℕ) → ((k : ℕ) → k < length parts → new_events last step (events_of events k) ≡ []) → new_events last step events ≡ []
  none-new last step none =
      ap (new_events last step) (sym (all-parts events parts (length parts) are (omega arith))) ∙ none-of last step (length parts) none (omega arith)

  -- a later step that comes before one of the parts changes
  module _ (before step until : ℕ) (right : AreRight events before parts) (lasting : LastUntil until parts) (later : before < step) (soon : step < until) where
    below : (k : ℕ) → k < length parts → step < (part_at parts k).until
    below k h = omega (arith, soon, lasting k h)

    pub stays-right : AreRight events step parts
    stays-right k h = right_later (events_of events k) before step (part_at parts k) (right k h) later (below k h)

    stays-old : new_events (Some before) step events ≡ []
    stays-old = none-new (Some before) step (λ k h. none_new_later (events_of events k) before step (part_at parts k) (right k h) later (below k h))

    -- finds in force what is in force
    pub stays-holds : (o : Trial) (m : MemoryState) (t : Twins) (i : Memory) → AreOnMemory o.script events → IsMemoryOf o (Some before) m t i
        → IsMemoryOf o (Some step) m (damages step o.script t) i
    stays-holds o m t i same h =
        subst (λ (u : Twins). IsMemoryOf o (Some step) m u i) (ordered-damages o.script events same step t)
        (holds-by-script o events same (Some step) m (damages step events t) i
        (holds-changed (by_events o events) (Some before) step (Some step) m m t i refl
        (subst (λ (es : List Event). Changes events step (Some step) es m.twins m.twins) (sym stays-old) (changes-none events step (Some step) m.twins)) refl refl
        (holds-ordered o events same (Some before) m t i h)))

-- the same where a step may be in force or not
module _ (events : List Event) (parts : List Part) (are : AreParts events parts) (step until : ℕ) where
  abbrev pub Lasting : ℕ → Type 0
  Lasting before = (before < step) × (step < until)

  pub since-right : (last : Option ℕ) → AreRightSince events last parts → IfSome last (λ before. LastUntil until parts) → IsSomeAnd last Lasting → AreRight events step parts
  since-right None right lasting later = absurd later
  since-right (Some before) right lasting later = stays-right events parts are before step until right lasting later.0 later.1

  pub since-until : (last : Option ℕ) → IfSome last (λ before. LastUntil until parts) → IsSomeAnd last Lasting → LastUntil until parts
  since-until None lasting later = absurd later
  since-until (Some before) lasting later = lasting

  pub since-holds : (last : Option ℕ) → AreRightSince events last parts → IfSome last (λ before. LastUntil until parts) → IsSomeAnd last Lasting
      → (o : Trial) (m : MemoryState) (t : Twins) (i : Memory) → AreOnMemory o.script events → IsMemoryOf o last m t i → IsMemoryOf o (Some step) m (damages step o.script t) i
  since-holds None right lasting later o m t i same h = absurd later
  since-holds (Some before) right lasting later o m t i same h = stays-holds events parts are before step until right lasting later.0 later.1 o m t i same h

-- ---- what a step changes

ordered-in : (o : Trial) (events : List Event) → AreOnMemory o.script events → (damaged : Option ℕ) (t : Twins) → damages_in damaged events t ≡ damages_in damaged o.script t
ordered-in o events same None t = refl
ordered-in o events same (Some step) t = ordered-damages o.script events same step t

pub changed-holds : (o : Trial) (events : List Event) (last : Option ℕ) (step : ℕ) (damaged : Option ℕ) (old new : MemoryState) (t : Twins) (i : Memory) → IfSome damaged (λ other. other ≡ step)
    → Changes events step damaged (new_events last step events) old.twins new.twins → new.twins.banks ≡ old.twins.banks → new.ledger ≡ old.ledger
    → AreOnMemory o.script events → IsMemoryOf o last old t i → IsMemoryOf o (Some step) new (damages_in damaged o.script t) i
changed-holds o events last step damaged old new t i own changes banks ledger same h =
    subst (λ (u : Twins). IsMemoryOf o (Some step) new u i) (ordered-in o events same damaged t)
    (holds-by-script o events same (Some step) new (damages_in damaged events t) i
    (holds-changed (by_events o events) last step damaged old new t i own changes banks ledger (holds-ordered o events same last old t i h)))

-- the last step made is the one before
pub made-last : (steps : ℕ) → 0 < steps → last_made steps ≡ Some (steps - 1)
made-last zero some = absurd (omega (arith, some))
made-last (suc step) some = ap Some (omega arith)
