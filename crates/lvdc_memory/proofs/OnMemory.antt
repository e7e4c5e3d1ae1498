-- The memory goes by the events on it alone as by the whole script.
use Rattle.std.proofs.Common.{◌≡◌, ℕ, ◌+◌, Bool, ◌||◌, List, [], ◌∷◌, ◌++◌, take, slice_get, refl, sym, ap, ◌∙◌}
use Rattle.std.proofs.lemmas.List.{take_more}
use Rattle.std.proofs.lemmas.List.Elements.{filter-append}
use Rattle.std.proofs.lemmas.Option.{slice_get_within, get_or_from_slice_get}
use Rattle.std.specs.declared.option.Option.{Option}
use Rattle.std.specs.declared.option.Option.TheVariants.{None, Some}
use Rattle.lvdc_map.specs.Address.{Spot}
use Rattle.lvdc_map.specs.Memory.{Memory}
use Rattle.lvdc_twin.specs.declared.stuck.Stuck.{Stuck}
use Rattle.lvdc_fault.specs.Damage.{stuck_by, stuck_after, kills, is_dead}
use Rattle.lvdc_fault.specs.declared.event.Event.{Event}
use Rattle.lvdc_fault.specs.declared.event.Event.TheVariants.{Damage, Stick, Dead}
use Rattle.lvdc_model.specs.Exchanges.{damages_by, damages}
use Rattle.lvdc_model.specs.Trial.{Trial}
use Rattle.lvdc_model.specs.Twins.{Twins}
use Rattle.lvdc_memory.specs.Faults.{stuck_since, is_dead_since}
use Rattle.lvdc_memory.specs.Holds.{MemoryState, IsMemoryOf}
use Rattle.lvdc_fault.specs.Script.{is_on_memory}
use Rattle.lvdc_memory.specs.OnMemory.{on_memory}

-- ---- what the events on memory do is what all do

pub stuck_only : (step twin : ℕ) (place : Spot) (es : List Event) (s : Stuck) → stuck_after step twin place (on_memory es) s ≡ stuck_after step twin place es s
stuck_only step twin place [] s = refl
stuck_only step twin place (Stick w at first last mask value ∷ es) s = stuck_only step twin place es (stuck_by step twin place (Stick w at first last mask value) s)
stuck_only step twin place (_ ∷ es) s = stuck_only step twin place es s

pub dead_only : (step twin pair : ℕ) (es : List Event) → is_dead (on_memory es) step twin pair ≡ is_dead es step twin pair
dead_only step twin pair [] = refl
dead_only step twin pair (Dead w p first last ∷ es) = ap (λ (b : Bool). kills step twin pair (Dead w p first last) || b) (dead_only step twin pair es)
dead_only step twin pair (_ ∷ es) = dead_only step twin pair es

pub damages_only : (step : ℕ) (es : List Event) (t : Twins) → damages step (on_memory es) t ≡ damages step es t
damages_only step [] t = refl
damages_only step (Damage w at d mask ∷ es) t = damages_only step es (damages_by step (Damage w at d mask) t)
damages_only step (_ ∷ es) t = damages_only step es t

-- ---- so it holds by them

stuck_same : (last : Option ℕ) (script : List Event) (twin : ℕ) (place : Spot) → stuck_since last (on_memory script) twin place ≡ stuck_since last script twin place
stuck_same None script twin place = refl
stuck_same (Some step) script twin place = stuck_only step twin place script _

dead_same : (last : Option ℕ) (script : List Event) (twin pair : ℕ) → is_dead_since last (on_memory script) twin pair ≡ is_dead_since last script twin pair
dead_same None script twin pair = refl
dead_same (Some step) script twin pair = dead_only step twin pair script

-- a trial with the events on memory alone
abbrev pub only : Trial → Trial
only o = record o { script = on_memory o.script }

pub holds-only : (o : Trial) (last : Option ℕ) (m : MemoryState) (t : Twins) (i : Memory) → IsMemoryOf o last m t i → IsMemoryOf (only o) last m t i
holds-only o last m t i h =
    record {
      banks = h.banks;
      twins =
          record {
            cells = h.twins.cells;
            selected = h.twins.selected;
            stuck = λ twin two place here. h.twins.stuck twin two place here ∙ sym (stuck_same last o.script twin place);
            dead = λ twin two pair small. h.twins.dead twin two pair small ∙ sym (dead_same last o.script twin pair);
          };
      words = h.words;
    }

pub holds-whole : (o : Trial) (last : Option ℕ) (m : MemoryState) (t : Twins) (i : Memory) → IsMemoryOf (only o) last m t i → IsMemoryOf o last m t i
holds-whole o last m t i h =
    record {
      banks = h.banks;
      twins =
          record {
            cells = h.twins.cells;
            selected = h.twins.selected;
            stuck = λ twin two place here. h.twins.stuck twin two place here ∙ stuck_same last o.script twin place;
            dead = λ twin two pair small. h.twins.dead twin two pair small ∙ dead_same last o.script twin pair;
          };
      words = h.words;
    }

-- ---- as they are gathered

-- those of the events up to this one
pub only_next : (script : List Event) (i : ℕ) (e : Event) → slice_get script i ≡ Some e → on_memory (take (i + 1) script) ≡ on_memory (take i script) ++ on_memory (e ∷ [])
only_next script i e here =
    ap on_memory (take_more script i e (slice_get_within script i e here) ∙ ap (λ (x : Event). take i script ++ x ∷ []) (get_or_from_slice_get script i e e here))
    ∙ filter-append is_on_memory (take i script) (e ∷ [])
