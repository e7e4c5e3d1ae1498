-- For how many exchanges and repairs a machine has room.
use Rattle.std.specs.Prelude.{◌≡◌, ℕ, ◌-◌, ◌*◌, ◌/◌, ◌%◌, ◌<◌, List, [], ◌∷◌, slice_index}
use Rattle.lvdc_vote.specs.Copies.{Copies, IsSized, vote_of}
use Rattle.lvdc_modules.specs.declared.wanted.Wanted.{Wanted}
use Rattle.lvdc_modules.specs.declared.wanted.Wanted.TheVariants.{Nothing, Fetch, Operand, Store, PortRead, PortWrite}
use Rattle.lvdc_machine.specs.declared.mode.Mode.{Mode}
use Rattle.lvdc_machine.specs.declared.mode.Mode.TheVariants.{Guarded, Through}
use Rattle.lvdc_machine.specs.declared.mode.Pace.{Pace}
use Rattle.lvdc_machine.specs.declared.mode.Pace.TheVariants.{ByTime, ByStep}
use Rattle.lvdc_machine.specs.View.{View}

-- a machine that judges makes one port exchange in a time at most; through every fault each step may make one
abbrev pub pace_of : Mode → Pace
pace_of Guarded = ByTime
pace_of Through = ByStep

-- the port exchanges that may still be made
abbrev pub exchanges_left : Pace → ℕ → ℕ → ℕ
exchanges_left ByTime steps limit = limit - steps / 3
exchanges_left ByStep steps limit = 3 * limit - steps

-- those that a machine may still make
abbrev pub exchanges_to_come : View → ℕ
exchanges_to_come m = exchanges_left m.pace m.steps m.limit

-- the repairs that may still be noted: two in a time, or one in each step
abbrev pub repairs_left : Pace → ℕ → ℕ → ℕ
repairs_left ByTime steps limit = 2 * limit - (steps - steps / 3)
repairs_left ByStep steps limit = 3 * limit - steps

-- a port exchange has its room in this step: by times only the last step of a time makes one
abbrev pub MayExchange : Pace → ℕ → Type 0
MayExchange ByTime steps = steps % 3 ≡ 2
MayExchange ByStep steps = Unit {0}

-- a repair has its room in this step: by times only the first two steps of a time read
abbrev pub MayRepair : Pace → ℕ → Type 0
MayRepair ByTime steps = steps % 3 < 2
MayRepair ByStep steps = Unit {0}

-- what is wanted has its room in this step
abbrev pub IsDue : Pace → ℕ → Wanted → Type 0
IsDue pace steps Nothing = Unit {0}
IsDue pace steps (Fetch at) = MayRepair pace steps
IsDue pace steps (Operand at) = MayRepair pace steps
IsDue pace steps (Store at word) = Unit {0}
IsDue pace steps (PortRead port) = MayExchange pace steps
IsDue pace steps (PortWrite port word) = MayExchange pace steps

-- the copies of TIMER have their two latches each, and the vote of PHASE, of which the low two bits count, goes with the steps
pub record IsTimed (steps : ℕ) (t : Copies) : Type 0 where
  pub sized : IsSized 2 t
  pub votes : slice_index (vote_of t) 0 % 4 ≡ steps % 3

-- where a machine judges, the voted PHASE goes with the steps
abbrev pub IsInTime : Mode → List Copies → ℕ → Type 0
IsInTime Through copies steps = Unit {0}
IsInTime Guarded [] steps = ⊥
IsInTime Guarded (t ∷ ts) steps = IsTimed steps t
