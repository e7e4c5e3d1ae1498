-- The stored cells are the codes of the plain run's words, as long as a script does nothing to memory.
use Rattle.std.proofs.Common.{◌≡◌, ℕ, zero, suc, ◌<◌, true, false, cond, ◌||◌, List, [], ◌∷◌, refl, ap, ◌∙◌}
use Rattle.std.proofs.lemmas.List.Elements.{All-head, All-tail}
use Rattle.lvdc_word.specs.Cell.{code_of, with_stuck}
use Rattle.lvdc_map.specs.Address.{Spot}
use Rattle.lvdc_map.specs.Banks.{home, holds}
use Rattle.lvdc_map.specs.Memory.{word_at}
use Rattle.lvdc_twin.specs.declared.stuck.Stuck.{Stuck}
use Rattle.lvdc_twin.specs.Store.{nothing}
use Rattle.lvdc_fault.specs.Damage.{damaged_by, damaged, stuck_by, stuck_after, kills, is_dead}
use Rattle.lvdc_fault.specs.declared.event.Event.{Event}
use Rattle.lvdc_fault.specs.declared.event.Event.TheVariants.{Damage, Stick, Dead}
use Rattle.lvdc_model.proofs.Stuck.{nothing-stuck}
use Rattle.lvdc_model.specs.Trial.{Trial, plain_in}
use Rattle.lvdc_model.specs.CellsBefore.{damaged_at, cell_before, shown_at}
use Rattle.lvdc_laws_voted.specs.Laws.{PortLaw}
use Rattle.lvdc_laws_voted.proofs.Unhurt.{cell-next}
use Rattle.lvdc_laws_runs.specs.Joined.{SparesMemory, AllSpareMemory, StoresWords}
use Rattle.lvdc_laws_runs.proofs.Idle.{LeavesMemory}
use Rattle.lvdc_laws_runs.proofs.Judged.{after-same}

-- ---- a script without an event on memory

no-death : (step twin pair : ℕ) (e : Event) → SparesMemory e → kills step twin pair e ≡ false
no-death step twin pair (Dead w p first last) spares = absurd spares
no-death step twin pair _ spares = refl

no-damage : (step twin : ℕ) (place : Spot) (e : Event) (cell : ℕ) → SparesMemory e → damaged_by step twin place e cell ≡ cell
no-damage step twin place (Damage w at t mask) cell spares = absurd spares
no-damage step twin place _ cell spares = refl

no-sticking : (step twin : ℕ) (place : Spot) (e : Event) (s : Stuck) → SparesMemory e → stuck_by step twin place e s ≡ s
no-sticking step twin place (Stick w at first last mask value) s spares = absurd spares
no-sticking step twin place _ s spares = refl

none-dead : (step twin pair : ℕ) (script : List Event) → AllSpareMemory script → is_dead script step twin pair ≡ false
none-dead step twin pair [] spare = refl
none-dead step twin pair (e ∷ es) spare =
    let here = no-death step twin pair e (All-head SparesMemory e es spare) in
    let rest = none-dead step twin pair es (All-tail SparesMemory e es spare) in
    λ i. here i || rest i

none-damaged : (step twin : ℕ) (place : Spot) (script : List Event) (cell : ℕ) → AllSpareMemory script → damaged step twin place script cell ≡ cell
none-damaged step twin place [] cell spare = refl
none-damaged step twin place (e ∷ es) cell spare =
    ap (damaged step twin place es) (no-damage step twin place e cell (All-head SparesMemory e es spare))
    ∙ none-damaged step twin place es cell (All-tail SparesMemory e es spare)

none-stuck : (step twin : ℕ) (place : Spot) (script : List Event) (s : Stuck) → AllSpareMemory script → stuck_after step twin place script s ≡ s
none-stuck step twin place [] s spare = refl
none-stuck step twin place (e ∷ es) s spare =
    ap (stuck_after step twin place es) (no-sticking step twin place e s (All-head SparesMemory e es spare))
    ∙ none-stuck step twin place es s (All-tail SparesMemory e es spare)

-- it does nothing to memory in any step
pub spared-leaves : (script : List Event) (step : ℕ) → AllSpareMemory script → LeavesMemory script step
spared-leaves script step spare = record {
  dead = λ twin pair. none-dead step twin pair script spare;
  shown = λ twin place cell.
      let alive = none-dead step twin place.pair script spare in
      let free = none-stuck step twin place script nothing spare in
      λ i. cond (alive i) 0 (with_stuck cell (free i).mask (free i).value);
  damaged = λ twin place cell. none-damaged step twin place script cell spare;
}

-- ---- the stored cells

-- a step in which a script does nothing to memory leaves words
pub words-next : PortLaw → (o : Trial) (step : ℕ) → LeavesMemory o.script step → StoresWords o step → StoresWords o (suc step)
words-next law o step leaves stores = λ twin two at held.
    after-same o step leaves twin at (cell_before o twin at step)
    ∙ cell-next law o.opening twin at held step (cell_before o twin at step) (stores twin two at held)

-- in such a step each twin shows the code of the plain run's word
pub word-shown : (o : Trial) (step : ℕ) → LeavesMemory o.script step → StoresWords o step → (twin : ℕ) → twin < 2 → (at : Spot)
    → holds o.opening.banks twin at ≡ true → shown_at o twin at step ≡ code_of (word_at (plain_in o step).memory at)
word-shown o step leaves stores twin two at held =
    leaves.shown twin (home at) (damaged_at o step twin at (cell_before o twin at step))
    ∙ nothing-stuck _
    ∙ leaves.damaged twin (home at) (cell_before o twin at step)
    ∙ stores twin two at held

-- so all words are there under a script without an event on memory
pub spared-words : PortLaw → (o : Trial) → AllSpareMemory o.script → (step : ℕ) → StoresWords o step
spared-words law o spare zero = λ twin two at held. refl
spared-words law o spare (suc step) = words-next law o step (spared-leaves o.script step spare) (spared-words law o spare step)
