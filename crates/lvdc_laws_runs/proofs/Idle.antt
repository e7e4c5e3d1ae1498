-- Before its first event and after its last one no event of a script is active, and in a step without active events a script does nothing.
use Rattle.std.proofs.Common.{◌≡◌, ℕ, bit_xor, ◌+◌, ◌<◌, ◌≤◌, Bool, true, false, cond, ◌∷◌, [], List, refl, sym, ap, ◌∙◌, find, arith}
use Rattle.std.specs.Prelude.{All}
use Rattle.std.specs.List.{list_any}
use Rattle.std.specs.declared.option.Option.TheVariants.{None}
use Rattle.std.proofs.lemmas.Bool.Decides.{nat_tests}
use Rattle.std.proofs.lemmas.List.Elements.{All-head, All-tail}
use Rattle.lvdc_word.specs.Cell.{with_stuck}
use Rattle.lvdc_map.specs.Address.{Spot}
use Rattle.lvdc_map.specs.Memory as memory
use Rattle.lvdc_twin.specs.Store.{nothing}
use Rattle.lvdc_vote.specs.Copies.{Copies, settled}
use Rattle.lvdc_modules.specs.declared.bus.Bus.{Bus}
use Rattle.lvdc_fault.specs.declared.event.Event.{Event}
use Rattle.lvdc_fault.specs.declared.event.Event.TheVariants.{Flip, Force, Lag, Deaf, Damage, Stick, Dead}
use Rattle.lvdc_fault.specs.Script.{is_within, is_active, active_events, makes_wrong, is_wrong, are_two, wrong_module}
use Rattle.lvdc_fault.specs.Damage.{damaged, stuck_after, stuck, kills, is_dead, shown_of}
use Rattle.lvdc_fault.proofs.Actives.{idle_makes_none_wrong, idle_kills, any_active, damaged_active, stuck_active}
use Rattle.lvdc_model.specs.Twins.{Twins, with_place}
use Rattle.lvdc_model.specs.Voted.{next_copy, next_copies}
use Rattle.lvdc_model.specs.Exchanges.{damages_by, damages}
use Rattle.lvdc_model.proofs.Latching.{right_copy}
use Rattle.lvdc_laws_runs.specs.Early.{BeginsFrom, AllBeginFrom}
use Rattle.lvdc_laws_runs.specs.Joined.{EndsBefore, AllEndBefore}

-- where each event of a script is one that isn't active in a step, none is
none-of : (P : Event → Type 0) (step : ℕ) → ((e : Event) → P e → is_active step e ≡ false) → (script : List Event) → All P script → active_events script step ≡ []
none-of P step idle [] all = refl
none-of P step idle (e ∷ es) all =
    let here = idle e (All-head P e es all) in
    let rest = none-of P step idle es (All-tail P e es all) in
    λ i. cond (here i) (e ∷ rest i) (rest i)

-- ---- before the first event

module _ (first step : ℕ) (early : step < first) where
  within-none : (begin last : ℕ) → first ≤ begin → is_within begin last step ≡ false
  within-none begin last later = grind (arith, nat_tests)

  -- an event that begins later isn't active
  event-none : (e : Event) → BeginsFrom first e → is_active step e ≡ false
  event-none (Flip number copy begin last index mask) later = within-none begin last later
  event-none (Force number copy begin last index mask value) later = within-none begin last later
  event-none (Lag number copy begin last) later = within-none begin last later
  event-none (Deaf number copy begin last) later = within-none begin last later
  event-none (Damage twin at d mask) later = grind (arith, nat_tests)
  event-none (Stick twin at begin last mask value) later = within-none begin last later
  event-none (Dead twin pair begin last) later = within-none begin last later

  -- so none of the script is
  pub none-before : (script : List Event) → AllBeginFrom first script → active_events script step ≡ []
  none-before script later = none-of (BeginsFrom first) step event-none script later

-- ---- after the last event

module _ (last step : ℕ) (late : last ≤ step) where
  within-over : (begin end : ℕ) → end < last → is_within begin end step ≡ false
  within-over begin end over = grind (arith, nat_tests)

  -- an event that has ended isn't active
  event-over : (e : Event) → EndsBefore last e → is_active step e ≡ false
  event-over (Flip number copy begin end index mask) over = within-over begin end over
  event-over (Force number copy begin end index mask value) over = within-over begin end over
  event-over (Lag number copy begin end) over = within-over begin end over
  event-over (Deaf number copy begin end) over = within-over begin end over
  event-over (Damage twin at d mask) over = grind (arith, nat_tests)
  event-over (Stick twin at begin end mask value) over = within-over begin end over
  event-over (Dead twin pair begin end) over = within-over begin end over

  -- so none of the script is
  pub none-after : (script : List Event) → AllEndBefore last script → active_events script step ≡ []
  none-after script over = none-of (EndsBefore last) step event-over script over

-- ---- a step without active events

-- damage is done by active events alone
still_by : (step : ℕ) (e : Event) (t : Twins) → is_active step e ≡ false → damages_by step e t ≡ t
still_by step (Damage twin place d mask) t idle = ap (λ b. cond b (with_place t twin place (bit_xor (memory.word_at (t.cells twin) place) mask)) t) idle
still_by step _ t idle = refl

damages_step : (step : ℕ) (b : Bool) (e : Event) (es fs : List Event) (t : Twins) → (b ≡ false → damages_by step e t ≡ t)
    → ((t : Twins) → damages step fs t ≡ damages step es t) → damages step (cond b (e ∷ fs) fs) t ≡ damages step (e ∷ es) t
damages_step step true e es fs t idle rest = rest (damages_by step e t)
damages_step step false e es fs t idle rest = rest t ∙ ap (damages step es) (sym (idle refl))

damages_active : (step : ℕ) (es : List Event) (t : Twins) → damages step (active_events es step) t ≡ damages step es t
damages_active step [] t = refl
damages_active step (e ∷ es) t = damages_step step (is_active step e) e es (active_events es step) t (still_by step e t) (damages_active step es)

-- a script does nothing to memory in a step
pub record LeavesMemory (script : List Event) (step : ℕ) : Type 0 where
  pub dead : (twin pair : ℕ) → is_dead script step twin pair ≡ false
  pub shown : (twin : ℕ) (place : Spot) (cell : ℕ) → shown_of script step twin place cell ≡ shown_of [] step twin place cell
  pub damaged : (twin : ℕ) (place : Spot) (cell : ℕ) → damaged step twin place script cell ≡ cell

module _ (script : List Event) (step : ℕ) (none : active_events script step ≡ []) where
  -- no copy is wrong
  pub wrong-none : (m c : ℕ) → is_wrong script step m c ≡ false
  wrong-none m c = sym (any_active (makes_wrong step m c) step (idle_makes_none_wrong step m c) script) ∙ ap (list_any (makes_wrong step m c)) none

  -- no module has two wrong ones
  pub module-none : wrong_module script step ≡ None
  module-none = λ i. find (λ m. are_two (λ k. wrong-none m k i)) (1 ∷ 2 ∷ 3 ∷ 4 ∷ 5 ∷ 6 ∷ 7 ∷ [])

  -- no twin is dead
  pub dead-none : (twin pair : ℕ) → is_dead script step twin pair ≡ false
  dead-none twin pair = sym (any_active (kills step twin pair) step (idle_kills step twin pair) script) ∙ ap (list_any (kills step twin pair)) none

  -- nothing is stuck
  stuck-none : (twin : ℕ) (place : Spot) → stuck script step twin place ≡ nothing
  stuck-none twin place = sym (stuck_active step twin place script nothing) ∙ ap (λ es. stuck_after step twin place es nothing) none

  -- each twin shows what it shows under no script
  pub shown-same : (twin : ℕ) (place : Spot) (cell : ℕ) → shown_of script step twin place cell ≡ shown_of [] step twin place cell
  shown-same twin place cell =
      λ i. cond (dead-none twin place.pair i) 0 (with_stuck cell (stuck-none twin place i).mask (stuck-none twin place i).value)

  -- no cell is damaged
  pub damaged-none : (twin : ℕ) (place : Spot) (cell : ℕ) → damaged step twin place script cell ≡ cell
  damaged-none twin place cell = sym (damaged_active step twin place script cell) ∙ ap (λ es. damaged step twin place es cell) none

  pub leaves-none : LeavesMemory script step
  leaves-none = record { dead = dead-none; shown = shown-same; damaged = damaged-none }

  -- nor are the twins
  pub damages-none : (t : Twins) → damages step script t ≡ t
  damages-none t = sym (damages_active step script t) ∙ ap (λ es. damages step es t) none

  -- each copy latches what it latches under no script
  copy-same : (m c : ℕ) (row : Bus → List ℕ) (old : List ℕ) (copies : List Copies) (bus : Bus)
      → next_copy script step m c row old copies bus ≡ next_copy [] step m c row old copies bus
  copy-same m c row old copies bus = right_copy script step m c row old copies bus (wrong-none m c) ∙ sym (right_copy [] step m c row old copies bus refl)

  pub copies-same : (m : ℕ) (rows : List (Bus → List ℕ)) (ts copies : List Copies) (bus : Bus)
      → next_copies script step m rows ts copies bus ≡ next_copies [] step m rows ts copies bus
  copies-same m [] ts copies bus = refl
  copies-same m (row ∷ rest) [] copies bus = refl
  copies-same m (row ∷ rest) (t ∷ ts) copies bus =
      let later = copies-same (m + 1) rest ts copies bus in
      λ i. settled (copy-same m 1 row t.one copies bus i) (copy-same m 2 row t.two copies bus i) (copy-same m 3 row t.three copies bus i) ∷ later i
