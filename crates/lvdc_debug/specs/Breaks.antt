-- Breakpoints: sixteen at most, in the order in which they were set.
use Rattle.std.specs.Prelude.{Bool, ◌==◌, ◌&&◌, ◌||◌, nat_lt, List, [], ◌∷◌, ◌++◌, length, if◌then◌else◌}
use Rattle.std.specs.List.{list_any}
use Rattle.lvdc_map.specs.Address.{is_same}
use Rattle.lvdc_debug.specs.declared.command.Spot2.{Spot2}

-- two places of instructions are the same where address and syllable are
abbrev pub is_same_spot : Spot2 → Spot2 → Bool
is_same_spot a b = is_same a.at b.at && a.syl == b.syl

-- the place is a breakpoint
abbrev pub is_set : List Spot2 → Spot2 → Bool
is_set breaks spot = list_any (is_same_spot spot) breaks

-- the place is a breakpoint already, or there is room for one more
abbrev pub takes : List Spot2 → Spot2 → Bool
takes breaks spot = is_set breaks spot || nat_lt (length breaks) 16

-- the breakpoints with this one; one that is there already changes nothing, nor does one for which there is no room
abbrev pub with_break : List Spot2 → Spot2 → List Spot2
with_break breaks spot =
    if is_set breaks spot then breaks else (if nat_lt (length breaks) 16 then breaks ++ spot ∷ [] else breaks)
