-- TIMER, module 1: the phases go round, and MPH begins a hold of four instruction times.
use Rattle.std.specs.Prelude.{ℕ, ◌-◌, List, ◌==◌, if◌then◌else◌}
use Rattle.lvdc_isa.specs.declared.op.Op.{Op}
use Rattle.lvdc_isa.specs.declared.op.Op.TheVariants.{Mph}
use Rattle.lvdc_modules.specs.declared.bus.Bus.{Bus}
use Rattle.lvdc_modules.specs.declared.timer.TimerState.{TimerState}
use Rattle.lvdc_modules.specs.declared.seen.Phase.{Phase}
use Rattle.lvdc_modules.specs.declared.seen.Phase.TheVariants.{A, B, C}
use Rattle.lvdc_modules.specs.Seen.{phase, hold, instruction}
use Rattle.lvdc_modules.specs.States.{timer_latches}

-- PHASE goes from A to 1, from B to 2, from C to 0
abbrev pub phase_after : Phase → ℕ
phase_after A = 1
phase_after B = 2
phase_after C = 0

-- the hold that an instruction begins
abbrev pub held_by : Op → ℕ
held_by Mph = 4
held_by _ = 0

-- HOLD changes in phase C alone: a hold falls by one, and where none is left the instruction may begin one
abbrev pub hold_after : Phase → Bus → Op → ℕ
hold_after A b op = b.timer.hold
hold_after B b op = b.timer.hold
hold_after C b op = if hold b == 0 then held_by op else hold b - 1

-- the timer after an instruction that no hold keeps from being executed
abbrev pub held_timer : Op → TimerState
held_timer op = record { phase = 0; hold = held_by op }

-- TIMER: what its latches become in a phase
abbrev pub timer : Bus → TimerState
timer b = record { phase = phase_after (phase b); hold = hold_after (phase b) b (instruction b).op }

-- the same as a list
abbrev pub timer_row : Bus → List ℕ
timer_row b = timer_latches (timer b)
