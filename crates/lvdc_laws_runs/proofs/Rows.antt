-- Worked rows: from which step the events of a script begin, before which they have ended, and which of them are on memory.
use Rattle.std.proofs.Common.{◌<◌, ◌≤◌, [], ◌∷◌, arith}
use Rattle.std.proofs.lemmas.List.Elements.{All-nil, All-cons, All-head, All-tail}
use Rattle.lvdc_fault.specs.declared.event.Event.{Event}
use Rattle.lvdc_fault.specs.declared.event.Event.TheVariants.{Flip, Damage}
use Rattle.lvdc_laws_runs.specs.Early.{BeginsFrom, AllBeginFrom}
use Rattle.lvdc_laws_runs.specs.Joined.{EndsBefore, AllEndBefore, SparesMemory, AllSpareMemory}

-- a flip in the steps 9 to 12
abbrev flip : Event
flip = Flip 1 2 9 12 0 1

-- damage in step 7
abbrev damage : Event
damage = Damage 0 (record { pair = 0; sector = 1; loc = 2 }) 7 3

-- both begin at step 7 or later
row-seven : AllBeginFrom 7 (flip ∷ damage ∷ [])
row-seven = All-cons (BeginsFrom 7) flip (damage ∷ []) (omega arith) (All-cons (BeginsFrom 7) damage [] (omega arith) (All-nil (BeginsFrom 7)))

-- damage in step 7 doesn't begin at step 8 or later
row-eight : AllBeginFrom 8 (flip ∷ damage ∷ []) → ⊥
row-eight h =
    let late : 8 ≤ 7 = All-head (BeginsFrom 8) damage [] (All-tail (BeginsFrom 8) flip (damage ∷ []) h) in
    omega (arith, late)

-- nor does a flip that begins at step 9 and lasts until step 12 begin at step 10 or later
row-ten : AllBeginFrom 10 (flip ∷ []) → ⊥
row-ten h =
    let late : 10 ≤ 9 = All-head (BeginsFrom 10) flip [] h in
    omega (arith, late)

-- both have ended before step 13
row-over : AllEndBefore 13 (flip ∷ damage ∷ [])
row-over = All-cons (EndsBefore 13) flip (damage ∷ []) (omega arith) (All-cons (EndsBefore 13) damage [] (omega arith) (All-nil (EndsBefore 13)))

-- a flip that lasts until step 12 hasn't ended before step 12
row-last : AllEndBefore 12 (flip ∷ []) → ⊥
row-last h =
    let over : 12 < 12 = All-head (EndsBefore 12) flip [] h in
    omega (arith, over)

-- nor has damage in step 7 before step 7
row-own : AllEndBefore 7 (damage ∷ []) → ⊥
row-own h =
    let over : 7 < 7 = All-head (EndsBefore 7) damage [] h in
    omega (arith, over)

-- a flip is not on memory, and damage is
row-spared : AllSpareMemory (flip ∷ [])
row-spared = All-cons SparesMemory flip [] tt (All-nil SparesMemory)

row-hurt : AllSpareMemory (damage ∷ flip ∷ []) → ⊥
row-hurt h = All-head SparesMemory damage (flip ∷ []) h
