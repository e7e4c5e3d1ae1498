-- When a script masks by form: a condition on its lines, the banks and the count of times alone. Whatever program runs, each step
-- is then admissible.
use Rattle.std.specs.Prelude.{ℕ, zero, suc, ◌+◌, ◌*◌, ◌/◌, ◌%◌, ◌^◌, Bool, true, false, not, ◌&&◌, ◌||◌, ◌==◌, nat_lt, nat_le, is_none, List, [], ◌∷◌, filter, filter_map, find, Option, None, Some}
use Rattle.std.specs.List.{list_any, list_all}
use Rattle.lvdc_word.specs.Cell.{ones}
use Rattle.lvdc_map.specs.Address.{Spot, is_same}
use Rattle.lvdc_map.specs.Banks.{is_simplex}
use Rattle.lvdc_fault.specs.Script.{first_of, wrong_module}
use Rattle.lvdc_fault.specs.declared.event.Event.{Event}
use Rattle.lvdc_fault.specs.declared.event.Event.TheVariants.{Damage, Stick, Dead}
use Rattle.lvdc_withstands.specs.declared.condition.Condition.{Condition}
use Rattle.lvdc_withstands.specs.declared.condition.Condition.TheVariants.{Copies, Pairs, Places, Deaths}

-- the lines that begin in a run of so many times; a time has three steps
abbrev pub lines_in : ℕ → List Event → List Event
lines_in count script = filter (λ e. nat_lt (first_of e) (3 * count)) script

-- ---- copies

-- at each step before this one each module has at most one wrong copy
abbrev pub one_wrong_before : List Event → ℕ → Bool
one_wrong_before script zero = true
one_wrong_before script (suc step) = one_wrong_before script step && is_none (wrong_module script step)

-- ---- one line on memory

-- a pair that isn't declared simplex; a number from 4 on, which no pair has, counts as duplex
abbrev pub is_duplex_pair : ℕ → ℕ → Bool
is_duplex_pair banks pair = nat_le 4 pair || not (is_simplex banks pair)

-- it names a duplex pair
abbrev pub is_duplex : ℕ → Event → Bool
is_duplex banks (Damage twin at step mask) = is_duplex_pair banks at.pair
is_duplex banks (Stick twin at first last mask value) = is_duplex_pair banks at.pair
is_duplex banks (Dead twin pair first last) = is_duplex_pair banks pair
is_duplex banks _ = true

-- a half has an odd number of bits
abbrev pub is_odd : ℕ → Bool
is_odd half = ones 14 half % 2 == 1

-- it is a half of at most one bit
abbrev pub is_single : ℕ → Bool
is_single half = nat_lt half (2 ^ 14) && nat_le (ones 14 half) 1

-- a reader of parity sees it: damage of an odd number of bits in some half, and at most one stuck bit in each half
abbrev pub is_seen : Event → Bool
is_seen (Damage twin at step mask) = is_odd (mask / 2 ^ 14) || is_odd (mask % 2 ^ 14)
is_seen (Stick twin at first last mask value) = is_single (mask / 2 ^ 14) && is_single (mask % 2 ^ 14)
is_seen _ = true

-- the twin that it kills is dead up to the last step
abbrev pub is_lasting : ℕ → Event → Bool
is_lasting count (Dead twin pair first last) = nat_le (3 * count) (last + 1)
is_lasting count _ = true

-- ---- all lines on memory

-- the place where it damages a cell or makes bits stick, in whichever twin
abbrev pub place_of : Event → Option Spot
place_of (Damage twin at step mask) = Some at
place_of (Stick twin at first last mask value) = Some at
place_of _ = None

-- no place is named twice
abbrev pub none_twice : List Spot → Bool
none_twice [] = true
none_twice (at ∷ more) = not (list_any (is_same at) more) && none_twice more

-- does it name this twin of this pair?
abbrev pub names_twin : ℕ → ℕ → Event → Bool
names_twin pair twin (Damage w at step mask) = at.pair == pair && w == twin
names_twin pair twin (Stick w at first last mask value) = at.pair == pair && w == twin
names_twin pair twin (Dead w p first last) = p == pair && w == twin
names_twin pair twin _ = false

-- does a twin of this pair die by it?
abbrev pub kills_in : ℕ → Event → Bool
kills_in pair (Dead w p first last) = p == pair
kills_in pair _ = false

-- where a twin of a pair dies, no line names the other twin
abbrev pub is_one_sound : List Event → ℕ → Bool
is_one_sound lines pair = not (list_any (kills_in pair) lines && list_any (names_twin pair 0) lines && list_any (names_twin pair 1) lines)

-- ---- the form

-- whether a condition is met: at each step each module has at most one wrong copy; each line on memory names a duplex pair; a place
-- is damaged or stuck by one line at most, over both twins, and a reader of parity sees it; a twin that dies stays dead, and the
-- other twin is sound
abbrev pub is_met : List Event → ℕ → ℕ → Condition → Bool
is_met script banks count Copies = one_wrong_before script (3 * count)
is_met script banks count Pairs = list_all (is_duplex banks) (lines_in count script)
is_met script banks count Places = list_all is_seen (lines_in count script) && none_twice (filter_map place_of (lines_in count script))
is_met script banks count Deaths = list_all (is_lasting count) (lines_in count script) && list_all (is_one_sound (lines_in count script)) (0 ∷ 1 ∷ 2 ∷ 3 ∷ [])

-- the four conditions in the order in which they are told
abbrev pub conditions : List Condition
conditions = Copies ∷ Pairs ∷ Places ∷ Deaths ∷ []

-- a script masks by form where all four are met
abbrev pub masks : List Event → ℕ → ℕ → Bool
masks script banks count = list_all (is_met script banks count) conditions

-- the first condition that isn't met, where there is one
abbrev pub first_unmet : List Event → ℕ → ℕ → Option Condition
first_unmet script banks count = find (λ condition. not (is_met script banks count condition)) conditions
