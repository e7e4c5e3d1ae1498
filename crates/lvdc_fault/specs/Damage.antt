-- What a script does to memory at a step: damage, stuck bits and dead twins, by twin and physical place.
use Rattle.std.specs.Prelude.{ℕ, Bool, false, ◌==◌, ◌&&◌, if◌then◌else◌, List, fold, bit_or, bit_xor}
use Rattle.std.specs.List.{list_any}
use Rattle.lvdc_word.specs.Cell.{with_stuck}
use Rattle.lvdc_map.specs.Address.{Spot, is_same}
use Rattle.lvdc_twin.specs.declared.stuck.Stuck.{Stuck}
use Rattle.lvdc_fault.specs.declared.event.Event.{Event}
use Rattle.lvdc_fault.specs.declared.event.Event.TheVariants.{Damage, Stick, Dead}
use Rattle.lvdc_fault.specs.Script.{is_within}

-- the cell that a twin stores at a place, after one event
abbrev pub damaged_by : ℕ → ℕ → Spot → Event → ℕ → ℕ
damaged_by step twin place (Damage w at t mask) cell = if t == step && w == twin && is_same place at then bit_xor cell mask else cell
damaged_by step twin place _ cell = cell

-- the stored cell after the damage of a step, with which the step begins, in the order of the script
abbrev pub damaged : ℕ → ℕ → Spot → List Event → ℕ → ℕ
damaged step twin place script cell = fold (λ now e. damaged_by step twin place e now) cell script

-- what is stuck at a place of a twin, after one event: where bits meet, the later ones count
abbrev pub stuck_by : ℕ → ℕ → Spot → Event → Stuck → Stuck
stuck_by step twin place (Stick w at first last mask value) s =
    if w == twin && is_same place at && is_within first last step then record { mask = bit_or s.mask mask; value = with_stuck s.value mask value } else s
stuck_by step twin place _ s = s

-- what is stuck at a place of a twin during a step
abbrev pub stuck : List Event → ℕ → ℕ → Spot → Stuck
stuck script step twin place = fold (λ now e. stuck_by step twin place e now) (record { mask = 0; value = 0 }) script

-- what a list of events adds to what is stuck
abbrev pub stuck_after : ℕ → ℕ → Spot → List Event → Stuck → Stuck
stuck_after step twin place events s = fold (λ now e. stuck_by step twin place e now) s events

-- what is stuck once bits are stuck beside others: where they meet on a bit, the later ones count
abbrev pub stuck_beside : Stuck → ℕ → ℕ → Stuck
stuck_beside before mask value = record { mask = bit_or before.mask mask; value = with_stuck before.value mask value }

-- does an event make a twin of a pair dead at a step?
abbrev pub kills : ℕ → ℕ → ℕ → Event → Bool
kills step twin pair (Dead w p first last) = w == twin && p == pair && is_within first last step
kills step twin pair _ = false

-- is a twin of a pair dead during a step?
abbrev pub is_dead : List Event → ℕ → ℕ → ℕ → Bool
is_dead script step twin pair = list_any (kills step twin pair) script

-- what a twin shows of a stored cell: 0 where it is dead, else the cell with its stuck bits replaced
abbrev pub shown_of : List Event → ℕ → ℕ → Spot → ℕ → ℕ
shown_of script step twin place cell =
    if is_dead script step twin place.pair then 0 else with_stuck cell (stuck script step twin place).mask (stuck script step twin place).value
