-- When a program repairs the damage of a script: a condition on its lines and on what the plain run reads and stores.
use Rattle.std.specs.Prelude.{ℕ, zero, suc, ◌-◌, ◌*◌, Bool, true, false, not, ◌&&◌, ◌||◌, List, [], ◌∷◌, Option, Some}
use Rattle.std.specs.List.{list_all}
use Rattle.lvdc_map.specs.Address.{Spot, is_same}
use Rattle.lvdc_fault.specs.Damage.{is_dead}
use Rattle.lvdc_fault.specs.declared.event.Event.{Event}
use Rattle.lvdc_fault.specs.declared.event.Event.TheVariants.{Damage}
use Rattle.lvdc_withstands.specs.Form.{lines_in, one_wrong_before, is_duplex, is_seen, place_of, is_one_sound}
use Rattle.lvdc_model.specs.Trial.{Trial}
use Rattle.lvdc_withstands.specs.Touches.{touches_between}

-- ---- the lines alone

-- a twin of a pair that is dead in a step before this one is dead in the next one
abbrev pub stays_dead : List Event → ℕ → ℕ → ℕ → Bool
stays_dead script twin pair zero = true
stays_dead script twin pair (suc step) = stays_dead script twin pair step && (not (is_dead script step twin pair) || is_dead script (suc step) twin pair)

-- a twin of this pair that dies stays dead to the last step of so many times
abbrev pub is_lasting_in : List Event → ℕ → ℕ → Bool
is_lasting_in script count pair = stays_dead script 0 pair (3 * count - 1) && stays_dead script 1 pair (3 * count - 1)

-- at each step each module has at most one wrong copy; each line on memory names a duplex pair, and a reader of parity sees it; a
-- twin that dies stays dead, and the other twin is sound
abbrev pub is_limited : List Event → ℕ → ℕ → Bool
is_limited script banks count =
    one_wrong_before script (3 * count) && list_all (is_duplex banks) (lines_in count script) && list_all is_seen (lines_in count script)
    && list_all (is_lasting_in script count) (0 ∷ 1 ∷ 2 ∷ 3 ∷ []) && list_all (is_one_sound (lines_in count script)) (0 ∷ 1 ∷ 2 ∷ 3 ∷ [])

-- ---- two lines

-- two places, where there are two, are one
abbrev pub is_one_place : Option Spot → Option Spot → Bool
is_one_place (Some at) (Some place) = is_same at place
is_one_place _ _ = false

-- two lines name two places, or both damage one place at steps that are apart
abbrev pub are_apart : (Spot → ℕ → ℕ → Bool) → Event → Event → Bool
are_apart apart (Damage w at t mask) (Damage v place u turned) = not (is_same at place) || apart at t u
are_apart apart e f = not (is_one_place (place_of e) (place_of f))

-- any two lines pass this test
abbrev pub each_two : (Event → Event → Bool) → List Event → Bool
each_two test [] = true
each_two test (e ∷ es) = list_all (test e) es && each_two test es

-- ---- the condition

-- the faults are limited so; and between two damages of a place, in whichever twins, the plain run reads or stores it, from the step
-- of the earlier one on and before that of the later one, and a place where bits stick is named by no other line
abbrev pub repairs : Trial → ℕ → Bool
repairs o count = is_limited o.script o.opening.banks count && each_two (are_apart (touches_between o)) (lines_in count o.script)
