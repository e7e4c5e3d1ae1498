-- What the modules see on the bus: phase, hold, instruction and place.
use Rattle.std.specs.Prelude.{ℕ, ◌%◌, ◌^◌, ◌==◌, if◌then◌else◌}
use Rattle.lvdc_map.specs.Hop.{HopConstant, hop_of}
use Rattle.lvdc_isa.specs.Instr.{instr}
use Rattle.lvdc_isa.specs.declared.instr.Instr.{Instr}
use Rattle.lvdc_modules.specs.declared.bus.Bus.{Bus}
use Rattle.lvdc_modules.specs.declared.seen.Phase.{Phase}
use Rattle.lvdc_modules.specs.declared.seen.Phase.TheVariants.{A, B, C}
use Rattle.lvdc_modules.specs.declared.seen.Doing.{Doing}
use Rattle.lvdc_modules.specs.declared.seen.Doing.TheVariants.{Fetching, Taking, Executing, Waiting}

-- the phase that the low two bits of PHASE number: 0 is A, 1 is B, 2 and 3 are C
abbrev pub phase_of : ℕ → Phase
phase_of number = if number % 4 == 0 then A else (if number % 4 == 1 then B else C)

-- the phase that PHASE numbers
abbrev pub phase : Bus → Phase
phase b = phase_of b.timer.phase

-- the instruction times for which nothing more is fetched: the low three bits of HOLD
abbrev pub hold : Bus → ℕ
hold b = b.timer.hold % 8

-- what a phase is for
abbrev pub doing_in : Phase → Doing
doing_in A = Fetching
doing_in B = Taking
doing_in C = Executing

-- what is done: what the phase is for, but nothing while a hold is left
abbrev pub doing : Bus → Doing
doing b = if hold b == 0 then doing_in (phase b) else Waiting

-- the instruction: the low thirteen bits of INSTR, decoded
abbrev pub instruction : Bus → Instr
instruction b = instr (b.decoder.instr % 2 ^ 13)

-- the place: what PLACE names, with the data fields that DATA names
abbrev pub here : Bus → HopConstant
here b =
    record (hop_of b.locator.place) {
      dmod = (hop_of b.selector.hold_place).dmod;
      dsec = (hop_of b.selector.hold_place).dsec;
      dupdn = (hop_of b.selector.hold_place).dupdn;
    }
