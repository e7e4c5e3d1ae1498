-- Worked rows of studies, by computing.
use Rattle.std.proofs.Common.{◌≡◌, ℕ, ◌+◌, List, [], ◌∷◌, ◌++◌, true, false, None, Some, refl}
use Rattle.lvdc_word.specs.Cell.{with_stuck}
use Rattle.lvdc_vote.specs.Bits.{majority, flipped, forced}
use Rattle.lvdc_map.specs.Address.{Spot}
use Rattle.lvdc_map.specs.Hop.{hop_of}
use Rattle.lvdc_map.specs.declared.placed.Placed.{Placed}
use Rattle.lvdc_port.specs.Supplies.{supplied}
use Rattle.lvdc_port.specs.declared.device.Kind.TheVariants.{Tape, Recorder}
use Rattle.lvdc_plain.specs.declared.records.Exchange.{Exchange}
use Rattle.lvdc_fault.specs.declared.event.Event.{Event}
use Rattle.lvdc_fault.specs.declared.event.Event.TheVariants.{Flip, Force, Lag, Damage, Dead}
use Rattle.lvdc_fault.specs.declared.verdict.Verdict.TheVariants.{Admissible, Logic, Memory}
use Rattle.lvdc_report.specs.Voted.{counts_below}
use Rattle.lvdc_study.specs.declared.difference.Difference.TheVariants.{End, Port, Registers, Words}
use Rattle.lvdc_study.specs.declared.row.Row.{Row}
use Rattle.lvdc_study.specs.Outcomes.{time_of_difference, least_below}
use Rattle.lvdc_study.specs.Study.{row_of}

-- words at the locations of a sector of bank 0, from one location on
abbrev placed : ℕ → ℕ → List ℕ → List Placed
placed sector loc [] = []
placed sector loc (w ∷ ws) = record { at = record { pair = 0; sector = sector; loc = loc }; word = w } ∷ placed sector (loc + 1) ws

abbrev at : ℕ → ℕ → Spot
at sector loc = record { pair = 0; sector = sector; loc = loc }

-- ---- a sum that wraps at the sign

abbrev sum : List Event → Row
sum script = row_of (record {
  image = placed 0 0 (0o17000 ∷ 0o07001 ∷ 0o13002 ∷ 0o10003 ∷ []) ++ placed 1 0 (0o177777777 ∷ 1 ∷ []);
  banks = 0;
  start = hop_of 0o16;
  unplugs = [];
  devices = [];
}) 3 (record { name = []; script = script })

-- one wrong copy
outvoted : sum (Flip 5 1 3 3 0 1 ∷ []) ≡ record { name = []; verdict = Admissible; difference = None; copies = 1; repairs = 0; first_repair = None; masks = true }
unfolding with_stuck majority flipped counts_below least_below
outvoted = refl

-- two copies make an AND of the sum
another_operation : sum (Flip 3 1 4 4 0 0o1000 ∷ Flip 3 2 4 4 0 0o1000 ∷ [])
    ≡ record { name = []; verdict = Logic 4 3; difference = Some Registers; copies = 1; repairs = 0; first_repair = None; masks = false }
unfolding with_stuck majority flipped counts_below least_below
another_operation = refl

-- two copies keep the zeros that they would have latched
nothing_lost : sum (Lag 5 1 0 0 ∷ Lag 5 2 0 0 ∷ [])
    ≡ record { name = []; verdict = Logic 0 5; difference = None; copies = 0; repairs = 0; first_repair = None; masks = false }
unfolding with_stuck majority flipped counts_below least_below
nothing_lost = refl

-- ---- a word is read from a tape, stored, written to a recorder, and waited for

abbrev copier : List Event → Row
copier script = row_of (record {
  image = placed 0 0 (0o12400 ∷ 0o13002 ∷ 0o12017 ∷ 0o10003 ∷ []);
  banks = 0;
  start = hop_of 0o16;
  unplugs = [];
  devices = supplied (record { port = 0; word = 5 } ∷ []) (record { port = 0; kind = Tape; state = [] } ∷ record { port = 0o17; kind = Recorder; state = [] } ∷ []);
}) 4 (record { name = []; script = script })

-- A changes between the store and the write
output : copier (Flip 5 1 5 5 0 1 ∷ Flip 5 2 5 5 0 1 ∷ [])
    ≡ record { name = []; verdict = Logic 5 5; difference = Some (Port 2); copies = 1; repairs = 0; first_repair = None; masks = false }
unfolding with_stuck majority flipped counts_below least_below
output = refl

-- a stop in step 2
halt : copier (Force 7 1 2 2 0 3 1 ∷ Force 7 2 2 2 0 3 1 ∷ [])
    ≡ record { name = []; verdict = Logic 2 7; difference = Some End; copies = 1; repairs = 0; first_repair = None; masks = false }
unfolding with_stuck majority flipped forced counts_below least_below
halt = refl

-- the write is left out
skip : copier (Flip 2 1 5 5 0 0o2000 ∷ Flip 2 3 5 5 0 0o2000 ∷ [])
    ≡ record { name = []; verdict = Logic 5 2; difference = Some (Port 2); copies = 1; repairs = 0; first_repair = None; masks = false }
unfolding with_stuck majority flipped counts_below least_below
skip = refl

-- it comes a time later: the lesser time is that of the plain run's line
slow : copier (Flip 2 1 5 5 0 0o6000 ∷ Flip 2 2 5 5 0 0o6000 ∷ [])
    ≡ record { name = []; verdict = Logic 5 2; difference = Some (Port 2); copies = 1; repairs = 0; first_repair = None; masks = false }
unfolding with_stuck majority flipped counts_below least_below
slow = refl

-- the read is made twice: the lesser time is that of the other run's line
twice : copier (Flip 2 2 2 2 0 0o2000 ∷ Flip 2 3 2 2 0 0o2000 ∷ [])
    ≡ record { name = []; verdict = Logic 2 2; difference = Some (Port 1); copies = 1; repairs = 0; first_repair = None; masks = false }
unfolding with_stuck majority flipped counts_below least_below
twice = refl

-- A changes in the last step
late : copier (Flip 5 2 11 11 0 1 ∷ Flip 5 3 11 11 0 1 ∷ [])
    ≡ record { name = []; verdict = Logic 11 5; difference = Some Registers; copies = 1; repairs = 0; first_repair = None; masks = false }
unfolding with_stuck majority flipped counts_below least_below
late = refl

-- A changes for the store alone
stored : copier (Flip 5 1 3 3 0 1 ∷ Flip 5 2 3 3 0 1 ∷ Flip 5 1 5 5 0 1 ∷ Flip 5 2 5 5 0 1 ∷ [])
    ≡ record { name = []; verdict = Logic 3 5; difference = Some (Words (at 1 2)); copies = 2; repairs = 0; first_repair = None; masks = false }
unfolding with_stuck majority flipped counts_below least_below
stored = refl

-- no good cell is left for the read of step 6
both : copier (Damage 0 (at 0 2) 6 1 ∷ Damage 1 (at 0 2) 6 1 ∷ [])
    ≡ record { name = []; verdict = Memory 6 (at 0 2); difference = Some End; copies = 0; repairs = 0; first_repair = None; masks = false }
unfolding with_stuck majority flipped counts_below least_below
both = refl

one : copier (Damage 0 (at 0 1) 3 1 ∷ [])
    ≡ record { name = []; verdict = Admissible; difference = None; copies = 0; repairs = 1; first_repair = Some 3; masks = true }
unfolding with_stuck majority flipped counts_below least_below
one = refl

-- each read of the dead twin is noted, and it comes back
away : copier (Dead 0 0 0 3 ∷ [])
    ≡ record { name = []; verdict = Admissible; difference = None; copies = 0; repairs = 2; first_repair = Some 0; masks = false }
unfolding with_stuck majority flipped counts_below least_below
away = refl

-- ---- logs

abbrev line : ℕ → ℕ → Exchange
line time word = record { time = time; port = 0; reading = true; word = word }

-- a line that the other log lacks, and two lines that differ, whichever is the earlier
logs : (time_of_difference (line 3 5 ∷ line 7 5 ∷ []) (line 3 5 ∷ []) ≡ Some 7) × (time_of_difference [] (line 4 5 ∷ []) ≡ Some 4)
    × (time_of_difference (line 3 5 ∷ []) (line 3 6 ∷ []) ≡ Some 3) × (time_of_difference (line 3 5 ∷ []) (line 9 5 ∷ []) ≡ Some 3)
    × (time_of_difference (line 9 5 ∷ []) (line 3 5 ∷ []) ≡ Some 3) × (time_of_difference (line 3 5 ∷ []) (line 3 5 ∷ []) ≡ None)
logs = (refl, refl, refl, refl, refl, refl)
