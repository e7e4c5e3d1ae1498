-- Worked lines of saved texts whose numbers are unlike, as they are printed and as they are read, and what is no such line.
use Rattle.std.proofs.Common.{◌≡◌, ℕ, List, [], ◌∷◌, ◌++◌, true, false, Some, None, map, codes, refl}
use Rattle.std.specs.Fmt.{digits}
use Rattle.lvdc_map.specs.Address.{Spot}
use Rattle.lvdc_text.specs.Lines.{tokens_from}
use Rattle.lvdc_text.specs.Numbers.{octal_text, word_in}
use Rattle.lvdc_fault.specs.declared.event.Event.{Event}
use Rattle.lvdc_fault.specs.declared.event.Event.TheVariants.{Flip, Force, Lag, Deaf, Damage, Stick, Dead}
use Rattle.lvdc_lines.specs.Fields.{step_in, twin_in, pair_in, cell_in, module_copy_in, index_in, span_in, place_in}
use Rattle.lvdc_lines.specs.Noted.{lines_of}
use Rattle.lvdc_save.specs.declared.entry.Entry.{Entry}
use Rattle.lvdc_save.specs.declared.entry.Entry.TheVariants as says
use Rattle.lvdc_save.specs.Entries.{entry_of}
use Rattle.lvdc_save.specs.Lines.{fault_line, entry_line}

place : Spot
place = record { pair = 3; sector = 15; loc = 254 }

-- one event of each kind
events : List Event
events = Flip 6 2 7 9 4 0o60 ∷ Force 6 2 7 9 4 0o60 0o40 ∷ Lag 6 2 7 9 ∷ Deaf 6 2 7 9 ∷ Damage 1 place 7 0o60 ∷ Stick 1 place 7 9 0o60 0o40 ∷ Dead 1 3 7 9 ∷ []

-- their lines, without LF
texts : List (List ℕ)
texts =
    codes "FLIP 6 2 7 9 4 000000060" ∷ codes "FORCE 6 2 7 9 4 000000060 000000040" ∷ codes "LAG 6 2 7 9" ∷ codes "DEAF 6 2 7 9" ∷ codes "DAMAGE 1 3 17 376 7 0000000060"
    ∷ codes "STICK 1 3 17 376 7 9 0000000060 0000000040" ∷ codes "DEAD 1 3 7 9" ∷ []

-- other entries
entries : List Entry
entries =
    says.Steps 12 ∷ says.Count 5 ∷ says.Simplex 10 ∷ says.Select (0 ∷ 1 ∷ 1 ∷ 0 ∷ []) ∷ says.Cell (record { twin = 1; at = place; cell = 0o1777777777 })
    ∷ says.Word (record { at = record { pair = 7; sector = 1; loc = 3 }; word = 0o77 }) ∷ says.Exchange (record { time = 12; port = 0o14; reading = false; word = 7 })
    ∷ says.Exchange (record { time = 11; port = 0o15; reading = true; word = 6 }) ∷ says.Repair (record { step = 7; at = place; twin = 1; switched = false })
    ∷ says.Repair (record { step = 8; at = place; twin = 0; switched = true }) ∷ says.State (record { port = 0o14; word = 7 }) ∷ says.Unplug (record { port = 0o377; time = 12 })
    ∷ says.End ∷ []

-- their lines, without LF
lines : List (List ℕ)
lines =
    codes "STEPS 12" ∷ codes "COUNT 5" ∷ codes "SIMPLEX 1 3" ∷ codes "SELECT 0 1 1 0" ∷ codes "CELL 1 3 17 376 1777777777"
    ∷ codes "WORD 7 01 003 000000077" ∷ codes "OUT 12 014 000000007"
    ∷ codes "IN 11 015 000000006" ∷ codes "REPAIR 7 3 17 376 1"
    ∷ codes "REPAIR 8 3 17 376 0 SWITCH" ∷ codes "STATE 014 000000007" ∷ codes "UNPLUG 377 12"
    ∷ codes "END" ∷ []

-- a text with LF behind it
ended : List ℕ → List ℕ
ended text = text ++ codes "\n"

-- ---- printed

events_printed : map fault_line events ≡ map ended texts
unfolding events texts ended place digits octal_text
events_printed = refl

entries_printed : map entry_line entries ≡ map ended lines
unfolding entries lines ended place digits octal_text lines_of
entries_printed = refl

-- ---- read

events_read : map entry_of texts ≡ map (λ e. Some (says.Fault e)) events
unfolding events texts place digits octal_text tokens_from word_in lines_of step_in twin_in pair_in cell_in module_copy_in index_in span_in place_in
events_read = refl

entries_read : map entry_of lines ≡ map (λ e. Some e) entries
unfolding entries lines place digits octal_text tokens_from word_in lines_of step_in twin_in pair_in cell_in module_copy_in index_in span_in place_in
entries_read = refl

-- the greatest numbers
limits : map entry_of (codes "STEPS 3000000" ∷ codes "COUNT 1000000" ∷ codes "UNPLUG 000 1000000" ∷ codes "SIMPLEX 0 1 2 3" ∷ [])
    ≡ Some (says.Steps 3000000) ∷ Some (says.Count 1000000) ∷ Some (says.Unplug (record { port = 0; time = 1000000 })) ∷ Some (says.Simplex 15) ∷ []
unfolding digits octal_text tokens_from word_in lines_of
limits = refl

-- one more, a field too many, too few digits, and a word that isn't there
no_entries : map entry_of (codes "STEPS 3000001" ∷ codes "COUNT 1000001" ∷ codes "UNPLUG 000 1000001" ∷ codes "STEPS 1 2" ∷ codes "COUNT 1 2" ∷ codes "SELECT 0 1 2 0" ∷ codes "SELECT 0 1 1" ∷ codes "SELECT 0 1 1 0 0" ∷ [])
    ≡ None ∷ None ∷ None ∷ None ∷ None ∷ None ∷ None ∷ None ∷ []
unfolding digits octal_text tokens_from word_in lines_of
no_entries = refl

nor_these : map entry_of (codes "SIMPLEX" ∷ codes "SIMPLEX 4" ∷ codes "SIMPLEX 1 0" ∷ codes "STATE 400 000000007" ∷ codes "STATE 14 000000007" ∷ codes "OUT 12 014 7" ∷ codes "IN 12 014 000000007 1" ∷ codes "REPAIR 7 3 17 376 1 SWITCHED" ∷ codes "CELL 1 3 17 376 2000000000" ∷ codes "CELL 2 3 17 376 0000000001" ∷ codes "CELL 1 4 17 376 0000000001" ∷ codes "WORD 8 01 003 000000077" ∷ codes "END 1" ∷ codes "ENDS" ∷ [])
    ≡ None ∷ None ∷ None ∷ None ∷ None ∷ None ∷ None ∷ None ∷ None ∷ None ∷ None ∷ None ∷ None ∷ None ∷ []
unfolding digits octal_text tokens_from word_in lines_of twin_in pair_in cell_in place_in
nor_these = refl
