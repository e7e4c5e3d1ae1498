-- The order of the events on memory changes nothing of what they do: those that act on one place of a twin, or on one twin of a pair,
-- follow each other as in the script.
use Rattle.std.proofs.Common.{◌≡◌, ℕ, ◌==◌, Bool, true, false, cond, ◌&&◌, ◌||◌, List, [], ◌∷◌, filter, true≢false, arith, refl, sym, ap, ◌∙◌}
use Rattle.std.specs.List.{list_any}
use Rattle.std.specs.declared.option.Option.{Option}
use Rattle.std.specs.declared.option.Option.TheVariants.{None, Some}
use Rattle.std.proofs.lemmas.Bool.Decides.{nat_tests}
use Rattle.lvdc_map.specs.Address.{Spot, is_same}
use Rattle.lvdc_map.specs.Memory.{Memory}
use Rattle.lvdc_twin.specs.Store.{nothing}
use Rattle.lvdc_twin.specs.declared.stuck.Stuck.{Stuck}
use Rattle.lvdc_fault.specs.Damage.{stuck_beside, stuck_by, stuck_after, stuck, kills, is_dead}
use Rattle.lvdc_fault.specs.Script.{is_within}
use Rattle.lvdc_fault.specs.declared.event.Event.{Event}
use Rattle.lvdc_fault.specs.declared.event.Event.TheVariants.{Damage, Stick, Dead}
use Rattle.lvdc_model.specs.Exchanges.{damages_by, damages}
use Rattle.lvdc_model.specs.Trial.{Trial}
use Rattle.lvdc_model.specs.Twins.{Twins}
use Rattle.lvdc_memory.specs.Faults.{stuck_since, is_dead_since}
use Rattle.lvdc_memory.specs.Holds.{MemoryState, IsMemoryOf}
use Rattle.lvdc_memory.specs.OnMemory.{on_memory}
use Rattle.lvdc_memory.specs.Order.{number_of_pair, number_of_place, has_number, AreOnMemory}
use Rattle.lvdc_memory.proofs.OnMemory.{stuck_only, dead_only, damages_only}

-- ---- an event that does nothing may be left out

module _ {S : Type 0} (act : Event → S → S) (run : List Event → S → S) (more : (e : Event) (es : List Event) (s : S) → run (e ∷ es) s ≡ run es (act e s))
    (is_kept : Event → Bool) (idle : (e : Event) (s : S) → is_kept e ≡ false → act e s ≡ s) where
  first_left_out : (e : Event) (es : List Event) → ((s : S) → run (filter is_kept es) s ≡ run es s) → (s : S) (kept : Bool) → is_kept e ≡ kept
      → run (cond kept (e ∷ filter is_kept es) (filter is_kept es)) s ≡ run (e ∷ es) s
  first_left_out e es later s true is = more e (filter is_kept es) s ∙ later (act e s) ∙ sym (more e es s)
  first_left_out e es later s false is = later s ∙ ap (run es) (sym (idle e s is)) ∙ sym (more e es s)

  -- of events that act one after the other
  left_out : (es : List Event) (s : S) → run (filter is_kept es) s ≡ run es s
  left_out [] s = refl
  left_out (e ∷ es) s = first_left_out e es (left_out es) s (is_kept e) refl

module _ (passes is_kept : Event → Bool) (idle : (e : Event) → is_kept e ≡ false → passes e ≡ false) where
  first_passes : (e : Event) (es : List Event) → list_any passes (filter is_kept es) ≡ list_any passes es → (kept : Bool) → is_kept e ≡ kept
      → list_any passes (cond kept (e ∷ filter is_kept es) (filter is_kept es)) ≡ list_any passes (e ∷ es)
  first_passes e es later true is = ap (λ (b : Bool). passes e || b) later
  first_passes e es later false is = later ∙ ap (λ (b : Bool). b || list_any passes es) (sym (idle e is))

  -- of events of which one is enough
  any_left_out : (es : List Event) → list_any passes (filter is_kept es) ≡ list_any passes es
  any_left_out [] = refl
  any_left_out (e ∷ es) = first_passes e es (any_left_out es) (is_kept e) refl

-- ---- an event with another number does nothing here

other_place : (w twin : ℕ) (at place : Spot) → (number_of_place w at == number_of_place twin place) ≡ false → (w == twin && is_same place at) ≡ false
other_place w twin at place other = grind (arith, nat_tests)

other_pair : (w twin p pair : ℕ) → (number_of_pair w p == number_of_pair twin pair) ≡ false → (w == twin && p == pair) ≡ false
other_pair w twin p pair other = grind (arith, nat_tests)

sticks-not : (step twin : ℕ) (place : Spot) (e : Event) (s : Stuck) → has_number (number_of_place twin place) e ≡ false → stuck_by step twin place e s ≡ s
sticks-not step twin place (Stick w at first last mask value) s other =
    ap (λ (b : Bool). cond (b && is_within first last step) (stuck_beside s mask value) s) (other_place w twin at place other)
sticks-not step twin place _ s other = refl

kills-not : (step twin pair : ℕ) (e : Event) → has_number (number_of_pair twin pair) e ≡ false → kills step twin pair e ≡ false
kills-not step twin pair (Dead w p first last) other = ap (λ (b : Bool). b && is_within first last step) (other_pair w twin p pair other)
kills-not step twin pair _ other = refl

damages-not : (step : ℕ) (e : Event) (t : Twins) → has_number 0 e ≡ false → damages_by step e t ≡ t
damages-not step (Damage w at when mask) t other = absurd (true≢false other)
damages-not step _ t other = refl

-- ---- so those with the number of a place do all that is done there

stuck_at : (step twin : ℕ) (place : Spot) (es : List Event) → stuck (filter (has_number (number_of_place twin place)) es) step twin place ≡ stuck es step twin place
stuck_at step twin place es =
    left_out (stuck_by step twin place) (stuck_after step twin place) (λ e es s. refl) (has_number (number_of_place twin place)) (sticks-not step twin place) es nothing

dead_in : (step twin pair : ℕ) (es : List Event) → is_dead (filter (has_number (number_of_pair twin pair)) es) step twin pair ≡ is_dead es step twin pair
dead_in step twin pair = any_left_out (kills step twin pair) (has_number (number_of_pair twin pair)) (kills-not step twin pair)

damages_of : (step : ℕ) (es : List Event) (t : Twins) → damages step (filter (has_number 0) es) t ≡ damages step es t
damages_of step = left_out (damages_by step) (damages step) (λ e es t. refl) (has_number 0) (damages-not step)

-- ---- so the order changes nothing

module _ (script events : List Event) (on : AreOnMemory script events) where
  pub ordered-stuck : (step twin : ℕ) (place : Spot) → stuck events step twin place ≡ stuck script step twin place
  ordered-stuck step twin place =
      sym (stuck_at step twin place events) ∙ ap (λ (es : List Event). stuck es step twin place) (on.same (number_of_place twin place))
      ∙ stuck_at step twin place (on_memory script) ∙ stuck_only step twin place script nothing

  pub ordered-dead : (step twin pair : ℕ) → is_dead events step twin pair ≡ is_dead script step twin pair
  ordered-dead step twin pair =
      sym (dead_in step twin pair events) ∙ ap (λ (es : List Event). is_dead es step twin pair) (on.same (number_of_pair twin pair))
      ∙ dead_in step twin pair (on_memory script) ∙ dead_only step twin pair script

  pub ordered-damages : (step : ℕ) (t : Twins) → damages step events t ≡ damages step script t
  ordered-damages step t =
      sym (damages_of step events t) ∙ ap (λ (es : List Event). damages step es t) (on.same 0)
      ∙ damages_of step (on_memory script) t ∙ damages_only step script t

  stuck_since-ordered : (last : Option ℕ) (twin : ℕ) (place : Spot) → stuck_since last events twin place ≡ stuck_since last script twin place
  stuck_since-ordered None twin place = refl
  stuck_since-ordered (Some step) twin place = ordered-stuck step twin place

  dead_since-ordered : (last : Option ℕ) (twin pair : ℕ) → is_dead_since last events twin pair ≡ is_dead_since last script twin pair
  dead_since-ordered None twin pair = refl
  dead_since-ordered (Some step) twin pair = ordered-dead step twin pair

-- a trial with these events as its script
abbrev pub by_events : Trial → List Event → Trial
by_events o events = record o { script = events }

module _ (o : Trial) (events : List Event) (on : AreOnMemory o.script events) (last : Option ℕ) (m : MemoryState) (t : Twins) (i : Memory) where
  -- what holds by the script holds by them
  pub holds-ordered : IsMemoryOf o last m t i → IsMemoryOf (by_events o events) last m t i
  holds-ordered h =
      record {
        banks = h.banks;
        twins =
            record {
              cells = h.twins.cells;
              selected = h.twins.selected;
              stuck = λ twin two place here. h.twins.stuck twin two place here ∙ sym (stuck_since-ordered o.script events on last twin place);
              dead = λ twin two pair small. h.twins.dead twin two pair small ∙ sym (dead_since-ordered o.script events on last twin pair);
            };
        words = h.words;
      }

  -- and what holds by them holds by the script
  pub holds-by-script : IsMemoryOf (by_events o events) last m t i → IsMemoryOf o last m t i
  holds-by-script h =
      record {
        banks = h.banks;
        twins =
            record {
              cells = h.twins.cells;
              selected = h.twins.selected;
              stuck = λ twin two place here. h.twins.stuck twin two place here ∙ stuck_since-ordered o.script events on last twin place;
              dead = λ twin two pair small. h.twins.dead twin two pair small ∙ dead_since-ordered o.script events on last twin pair;
            };
        words = h.words;
      }
