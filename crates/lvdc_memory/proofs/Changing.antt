-- What is in force changes only where an event is new.
use Rattle.std.proofs.Common.{◌≡◌, ℕ, ◌+◌, ◌<◌, ◌==◌, Bool, true, false, cond, not, ◌&&◌, ◌||◌, List, [], ◌∷◌, ◌++◌, length, take, get_or, Option, None, Some, refl, sym, ap, ◌∙◌, subst, bit_or, bit_xor}
use Rattle.std.specs.Prelude.{IfSome}
use Rattle.std.specs.List.{list_any}
use Rattle.std.proofs.lemmas.Bool.{true≢false}
use Rattle.std.proofs.lemmas.List.Elements.{filter-append}
use Rattle.std.proofs.lemmas.List.Folds.{list_any-append}
use Rattle.lvdc_word.specs.Cell.{with_stuck}
use Rattle.lvdc_map.specs.Address.{Spot, is_same}
use Rattle.lvdc_map.specs.Memory.{Memory, word_at, IsMemory}
use Rattle.lvdc_twin.specs.Store.{Store, nothing, stuck_in}
use Rattle.lvdc_twin.specs.Store as store
use Rattle.lvdc_twin.specs.declared.stuck.Stuck.{Stuck}
use Rattle.lvdc_fault.specs.Damage.{stuck_by, stuck_after, stuck, kills, is_dead}
use Rattle.lvdc_fault.specs.Ledger.{Intended}
use Rattle.lvdc_fault.specs.Script.{is_within}
use Rattle.lvdc_fault.specs.declared.event.Event.{Event}
use Rattle.lvdc_fault.specs.declared.event.Event.TheVariants.{Damage, Stick, Dead}
use Rattle.lvdc_model.specs.Exchanges.{damages_by, damages}
use Rattle.lvdc_model.specs.Trial.{Trial}
use Rattle.lvdc_model.specs.Twins.{Twins, with_place}
use Rattle.lvdc_memory.specs.Changes.{damages_in, StoreThese, Changes}
use Rattle.lvdc_memory.specs.Faults.{sticks_at, kills_in, stuck_since, is_dead_since}
use Rattle.lvdc_memory.specs.Holds.{MemoryState, Carries, IsMemoryOf}
use Rattle.lvdc_memory.specs.News.{is_new, new_events}
use Rattle.lvdc_memory.proofs.PartLaws.{take_next}

-- ---- one list of events after another

-- damage one list after another
damages-append : (step : ℕ) (es fs : List Event) (t : Twins) → damages step (es ++ fs) t ≡ damages step fs (damages step es t)
damages-append step [] fs t = refl
damages-append step (e ∷ es) fs t = damages-append step es fs (damages_by step e t)

damages_in-append : (damaged : Option ℕ) (es fs : List Event) (t : Twins) → damages_in damaged (es ++ fs) t ≡ damages_in damaged fs (damages_in damaged es t)
damages_in-append None es fs t = refl
damages_in-append (Some step) es fs t = damages-append step es fs t

damages_in-none : (damaged : Option ℕ) (t : Twins) → damages_in damaged [] t ≡ t
damages_in-none None t = refl
damages_in-none (Some step) t = refl

-- a change after another: where one of the two changes
both-changed : {X : Type 0} (a b : Bool) (x y : X) → cond a x (cond b x y) ≡ cond (b || a) x y
both-changed true true x y = refl
both-changed true false x y = refl
both-changed false true x y = refl
both-changed false false x y = refl

module _ (every : List Event) (step : ℕ) (damaged : Option ℕ) where
  -- by no event nothing changes
  pub changes-none : (s : Store) → Changes every step damaged [] s s
  changes-none s =
      record {
        stuck = λ twin two place here. refl;
        dead = λ twin two pair small. refl;
        cells = λ t stored. subst (StoreThese s) (sym (damages_in-none damaged t)) stored;
        selected = refl;
      }

  -- one list of events changes after another
  pub changes-append : (es fs : List Event) (s u v : Store) → Changes every step damaged es s u → Changes every step damaged fs u v → Changes every step damaged (es ++ fs) s v
  changes-append es fs s u v one two =
      record {
        stuck = λ twin small place here.
            two.stuck twin small place here
            ∙ ap (cond (list_any (sticks_at twin place) fs) (stuck every step twin place)) (one.stuck twin small place here)
            ∙ both-changed (list_any (sticks_at twin place) fs) (list_any (sticks_at twin place) es) (stuck every step twin place) (stuck_in s twin place)
            ∙ ap (λ (b : Bool). cond b (stuck every step twin place) (stuck_in s twin place)) (sym (list_any-append (sticks_at twin place) es fs));
        dead = λ twin small pair less.
            two.dead twin small pair less
            ∙ ap (cond (list_any (kills_in twin pair) fs) (is_dead every step twin pair)) (one.dead twin small pair less)
            ∙ both-changed (list_any (kills_in twin pair) fs) (list_any (kills_in twin pair) es) (is_dead every step twin pair) (store.is_dead s twin pair)
            ∙ ap (λ (b : Bool). cond b (is_dead every step twin pair) (store.is_dead s twin pair)) (sym (list_any-append (kills_in twin pair) es fs));
        cells = λ t stored. subst (StoreThese v) (sym (damages_in-append damaged es fs t)) (two.cells (damages_in damaged es t) (one.cells t stored));
        selected = two.selected ∙ one.selected;
      }

-- ---- one event more

-- those of the events up to it that are new
pub new-next : (last : Option ℕ) (step : ℕ) (events : List Event) (i : ℕ) (e : Event) → i < length events → e ≡ get_or events i e
    → new_events last step (take (i + 1) events) ≡ new_events last step (take i events) ++ new_events last step (e ∷ [])
new-next last step events i e within is =
    ap (new_events last step) (take_next events i e within is) ∙ filter-append (is_new last step) (take i events) (e ∷ [])

-- ---- an event that isn't new

-- neither of two
or_parts : (a b : Bool) → (a || b) ≡ false → (a ≡ false) × (b ≡ false)
or_parts false b h = (refl, h)
or_parts true b h = absurd (true≢false h)

-- a test that agrees
agrees : (a b : Bool) → cond a (not b) b ≡ false → b ≡ a
agrees true true h = refl
agrees true false h = absurd (true≢false h)
agrees false true h = absurd (true≢false h)
agrees false false h = refl

-- what an event sticks in the step that is in force, if one is
abbrev stuck_by_since : Option ℕ → ℕ → Spot → Event → Stuck → Stuck
stuck_by_since None twin place e s = s
stuck_by_since (Some before) twin place e s = stuck_by before twin place e s

-- does an event kill a twin of a pair in the step that is in force, if one is?
abbrev kills_since : Option ℕ → ℕ → ℕ → Event → Bool
kills_since None twin pair e = false
kills_since (Some before) twin pair e = kills before twin pair e

-- where bits are stuck or not
abbrev stuck_where : (on : Bool) (mask value : ℕ) (s : Stuck) → Stuck
stuck_where on mask value s = cond on (record { mask = bit_or s.mask mask; value = with_stuck s.value mask value }) s

and-false : (a b : Bool) → b ≡ false → (a && b) ≡ false
and-false true b h = h
and-false false b h = refl

-- sticks the same bits as before
stuck_by-old : (last : Option ℕ) (step twin : ℕ) (place : Spot) (e : Event) (s : Stuck) → is_new last step e ≡ false → stuck_by step twin place e s ≡ stuck_by_since last twin place e s
stuck_by-old None step twin place (Stick w at first to mask value) s h =
    ap (λ (b : Bool). stuck_where b mask value s) (and-false (w == twin && is_same place at) (is_within first to step) h)
stuck_by-old (Some before) step twin place (Stick w at first to mask value) s h =
    ap (λ (b : Bool). stuck_where ((w == twin && is_same place at) && b) mask value s) (agrees (is_within first to before) (is_within first to step) h)
stuck_by-old None step twin place _ s h = refl
stuck_by-old (Some before) step twin place _ s h = refl

-- kills the same twin as before
kills-old : (last : Option ℕ) (step twin pair : ℕ) (e : Event) → is_new last step e ≡ false → kills step twin pair e ≡ kills_since last twin pair e
kills-old None step twin pair (Dead w p first to) h = and-false (w == twin && p == pair) (is_within first to step) h
kills-old (Some before) step twin pair (Dead w p first to) h =
    ap (λ (b : Bool). (w == twin && p == pair) && b) (agrees (is_within first to before) (is_within first to step) h)
kills-old None step twin pair _ h = refl
kills-old (Some before) step twin pair _ h = refl

-- and damages nothing
undamaged : (last : Option ℕ) (step : ℕ) (e : Event) (t : Twins) → is_new last step e ≡ false → damages_by step e t ≡ t
undamaged last step (Damage twin place when mask) t h = ap (λ (b : Bool). cond b (with_place t twin place (bit_xor (word_at (t.cells twin) place) mask)) t) h
undamaged last step _ t h = refl

-- ---- an event elsewhere

-- sticks no bits here
stuck_by-elsewhere : (step twin : ℕ) (place : Spot) (e : Event) (s : Stuck) → sticks_at twin place e ≡ false → stuck_by step twin place e s ≡ s
stuck_by-elsewhere step twin place (Stick w at first to mask value) s h = ap (λ (b : Bool). stuck_where (b && is_within first to step) mask value s) h
stuck_by-elsewhere step twin place _ s h = refl

stuck_by_since-elsewhere : (last : Option ℕ) (twin : ℕ) (place : Spot) (e : Event) (s : Stuck) → sticks_at twin place e ≡ false → stuck_by_since last twin place e s ≡ s
stuck_by_since-elsewhere None twin place e s h = refl
stuck_by_since-elsewhere (Some before) twin place e s h = stuck_by-elsewhere before twin place e s h

-- kills no twin here
kills-elsewhere : (step twin pair : ℕ) (e : Event) → kills_in twin pair e ≡ false → kills step twin pair e ≡ false
kills-elsewhere step twin pair (Dead w p first to) h = ap (λ (b : Bool). b && is_within first to step) h
kills-elsewhere step twin pair _ h = refl

kills_since-elsewhere : (last : Option ℕ) (twin pair : ℕ) (e : Event) → kills_in twin pair e ≡ false → kills_since last twin pair e ≡ false
kills_since-elsewhere None twin pair e h = refl
kills_since-elsewhere (Some before) twin pair e h = kills-elsewhere before twin pair e h

-- ---- all events

-- what a list of events sticks in the step that is in force, if one is
abbrev stuck_after_since : Option ℕ → ℕ → Spot → List Event → Stuck → Stuck
stuck_after_since last twin place [] s = s
stuck_after_since last twin place (e ∷ es) s = stuck_after_since last twin place es (stuck_by_since last twin place e s)

after-since : (last : Option ℕ) (twin : ℕ) (place : Spot) (es : List Event) → stuck_after_since last twin place es nothing ≡ stuck_since last es twin place
after-since None twin place es = none es where
  none : (es : List Event) → stuck_after_since None twin place es nothing ≡ nothing
  none [] = refl
  none (e ∷ es) = none es
after-since (Some before) twin place es = same es nothing where
  same : (es : List Event) (s : Stuck) → stuck_after_since (Some before) twin place es s ≡ stuck_after before twin place es s
  same [] s = refl
  same (e ∷ es) s = same es (stuck_by before twin place e s)

any-since : (last : Option ℕ) (twin pair : ℕ) (es : List Event) → list_any (kills_since last twin pair) es ≡ is_dead_since last es twin pair
any-since None twin pair [] = refl
any-since None twin pair (e ∷ es) = any-since None twin pair es
any-since (Some before) twin pair es = refl

module _ (last : Option ℕ) (step : ℕ) where
  -- where none that is new sticks bits, the same bits are stuck as before
  stuck-step : (b : Bool) (twin : ℕ) (place : Spot) (e : Event) (es fs : List Event) (s : Stuck) → is_new last step e ≡ b
      → list_any (sticks_at twin place) (cond b (e ∷ fs) fs) ≡ false
      → ((s : Stuck) → list_any (sticks_at twin place) fs ≡ false → stuck_after step twin place es s ≡ stuck_after_since last twin place es s)
      → stuck_after step twin place (e ∷ es) s ≡ stuck_after_since last twin place (e ∷ es) s
  stuck-step true twin place e es fs s is none rest =
      let parts = or_parts (sticks_at twin place e) (list_any (sticks_at twin place) fs) none in
      ap (stuck_after step twin place es) (stuck_by-elsewhere step twin place e s parts.0 ∙ sym (stuck_by_since-elsewhere last twin place e s parts.0))
      ∙ rest (stuck_by_since last twin place e s) parts.1
  stuck-step false twin place e es fs s is none rest =
      ap (stuck_after step twin place es) (stuck_by-old last step twin place e s is) ∙ rest (stuck_by_since last twin place e s) none

  stuck-same : (twin : ℕ) (place : Spot) (es : List Event) (s : Stuck) → list_any (sticks_at twin place) (new_events last step es) ≡ false
      → stuck_after step twin place es s ≡ stuck_after_since last twin place es s
  stuck-same twin place [] s none = refl
  stuck-same twin place (e ∷ es) s none = stuck-step (is_new last step e) twin place e es (new_events last step es) s refl none (stuck-same twin place es)

  -- and so of the twins that are dead
  dead-step : (b : Bool) (twin pair : ℕ) (e : Event) (es fs : List Event) → is_new last step e ≡ b
      → list_any (kills_in twin pair) (cond b (e ∷ fs) fs) ≡ false
      → (list_any (kills_in twin pair) fs ≡ false → list_any (kills step twin pair) es ≡ list_any (kills_since last twin pair) es)
      → list_any (kills step twin pair) (e ∷ es) ≡ list_any (kills_since last twin pair) (e ∷ es)
  dead-step true twin pair e es fs is none rest =
      let parts = or_parts (kills_in twin pair e) (list_any (kills_in twin pair) fs) none in
      ap (λ (b : Bool). b || list_any (kills step twin pair) es) (kills-elsewhere step twin pair e parts.0 ∙ sym (kills_since-elsewhere last twin pair e parts.0))
      ∙ ap (λ (b : Bool). kills_since last twin pair e || b) (rest parts.1)
  dead-step false twin pair e es fs is none rest =
      ap (λ (b : Bool). b || list_any (kills step twin pair) es) (kills-old last step twin pair e is) ∙ ap (λ (b : Bool). kills_since last twin pair e || b) (rest none)

  dead-same : (twin pair : ℕ) (es : List Event) → list_any (kills_in twin pair) (new_events last step es) ≡ false
      → list_any (kills step twin pair) es ≡ list_any (kills_since last twin pair) es
  dead-same twin pair [] none = refl
  dead-same twin pair (e ∷ es) none = dead-step (is_new last step e) twin pair e es (new_events last step es) refl none (dead-same twin pair es)

  -- only those that are new damage
  damages-step : (b : Bool) (e : Event) (es fs : List Event) (t : Twins) → (b ≡ false → damages_by step e t ≡ t)
      → ((u : Twins) → damages step fs u ≡ damages step es u) → damages step (cond b (e ∷ fs) fs) t ≡ damages step (e ∷ es) t
  damages-step true e es fs t idle rest = rest (damages_by step e t)
  damages-step false e es fs t idle rest = rest t ∙ ap (damages step es) (sym (idle refl))

  damages-new : (es : List Event) (t : Twins) → damages step (new_events last step es) t ≡ damages step es t
  damages-new [] t = refl
  damages-new (e ∷ es) t = damages-step (is_new last step e) e es (new_events last step es) t (undamaged last step e t) (damages-new es)

  damages_in-new : (damaged : Option ℕ) (es : List Event) (t : Twins) → IfSome damaged (λ other. other ≡ step) → damages_in damaged (new_events last step es) t ≡ damages_in damaged es t
  damages_in-new None es t own = refl
  damages_in-new (Some other) es t own =
      subst (λ (n : ℕ). damages n (new_events last step es) t ≡ damages n es t) (sym own) (damages-new es t)

-- damage selects no twin
selected-where : (b : Bool) (t u : Twins) → u.selected ≡ t.selected → (cond b u t).selected ≡ t.selected
selected-where true t u h = h
selected-where false t u h = refl

selected-by : (step : ℕ) (e : Event) (t : Twins) → (damages_by step e t).selected ≡ t.selected
selected-by step (Damage twin place when mask) t = selected-where (when == step) t (with_place t twin place (bit_xor (word_at (t.cells twin) place) mask)) refl
selected-by step _ t = refl

selected-after : (step : ℕ) (es : List Event) (t : Twins) → (damages step es t).selected ≡ t.selected
selected-after step [] t = refl
selected-after step (e ∷ es) t = selected-after step es (damages_by step e t) ∙ selected-by step e t

selected-in : (damaged : Option ℕ) (es : List Event) (t : Twins) → (damages_in damaged es t).selected ≡ t.selected
selected-in None es t = refl
selected-in (Some step) es t = selected-after step es t

-- ---- what a step puts in force

-- new where it changes, and old where both are the same
new-or-old : {X : Type 0} (b : Bool) (x y z : X) → y ≡ z → (b ≡ false → z ≡ x) → cond b x y ≡ x
new-or-old true x y z old same = refl
new-or-old false x y z old same = old ∙ same refl

carries-changed : (last : Option ℕ) (step : ℕ) (damaged : Option ℕ) (events : List Event) (s u : Store) (t : Twins) → IfSome damaged (λ other. other ≡ step)
    → Changes events step damaged (new_events last step events) s u → Carries last events s t → Carries (Some step) events u (damages_in damaged events t)
carries-changed last step damaged events s u t own h old =
    record {
      cells = subst (StoreThese u) (damages_in-new last step damaged events t own) (h.cells t old.cells);
      selected = h.selected ∙ old.selected ∙ sym (selected-in damaged events t);
      stuck = λ twin two place here.
          h.stuck twin two place here
          ∙ new-or-old (list_any (sticks_at twin place) (new_events last step events)) (stuck events step twin place) (stuck_in s twin place) (stuck_since last events twin place)
          (old.stuck twin two place here)
          (λ none. sym (stuck-same last step twin place events nothing none ∙ after-since last twin place events));
      dead = λ twin two pair small.
          h.dead twin two pair small
          ∙ new-or-old (list_any (kills_in twin pair) (new_events last step events)) (is_dead events step twin pair) (store.is_dead s twin pair) (is_dead_since last events twin pair)
          (old.dead twin two pair small)
          (λ none. sym (dead-same last step twin pair events none ∙ any-since last twin pair events));
    }

-- the memory holds what the step puts in force
pub holds-changed : (o : Trial) (last : Option ℕ) (step : ℕ) (damaged : Option ℕ) (old new : MemoryState) (t : Twins) (i : Memory) → IfSome damaged (λ other. other ≡ step)
    → Changes o.script step damaged (new_events last step o.script) old.twins new.twins → new.twins.banks ≡ old.twins.banks → new.ledger ≡ old.ledger
    → IsMemoryOf o last old t i → IsMemoryOf o (Some step) new (damages_in damaged o.script t) i
holds-changed o last step damaged old new t i own changes banks ledger h =
    record {
      banks = banks ∙ h.banks;
      twins = carries-changed last step damaged o.script old.twins new.twins t own changes h.twins;
      words = subst (λ (l : Intended). IsMemory l.words i) (sym ledger) h.words;
    }
