-- SELECTOR, module 4: where operands stand.
use Rattle.std.specs.Prelude.{ℕ, false, List}
use Rattle.lvdc_map.specs.Hop.{HopConstant, hop_of, word_of_hop}
use Rattle.lvdc_map.specs.Place.{with_data}
use Rattle.lvdc_isa.specs.declared.instr.Instr.{Instr}
use Rattle.lvdc_isa.specs.declared.op.Op.{Op}
use Rattle.lvdc_isa.specs.declared.op.Op.TheVariants.{Hop, Cds}
use Rattle.lvdc_modules.specs.declared.bus.Bus.{Bus}
use Rattle.lvdc_modules.specs.declared.selector.SelectorState.{SelectorState}
use Rattle.lvdc_modules.specs.declared.seen.Doing.{Doing}
use Rattle.lvdc_modules.specs.declared.seen.Doing.TheVariants.{Executing}
use Rattle.lvdc_modules.specs.Seen.{doing, instruction, here}
use Rattle.lvdc_modules.specs.States.{selector_latches}

-- the fields that DATA keeps: the data fields alone
abbrev pub data_fields : HopConstant → ℕ
data_fields h = word_of_hop (record h { imod = 0; isec = 0; syl = 0; loc = 0; dupin = false })

-- what each operation makes of DATA at the place h
abbrev pub selected : Op → Bus → HopConstant → ℕ → SelectorState
selected Hop b h address = record { hold_place = data_fields (hop_of b.accumulator.operand) }
selected Cds b h address = record { hold_place = data_fields (with_data h address) }
selected _ b h address = b.selector

-- DATA changes only where an instruction is executed
abbrev pub selector_by : Doing → Bus → HopConstant → Instr → SelectorState
selector_by Executing b h i = selected i.op b h i.address
selector_by _ b h i = b.selector

-- SELECTOR: what its latch becomes in a phase
abbrev pub selector : Bus → SelectorState
selector b = selector_by (doing b) b (here b) (instruction b)

-- the same as a list
abbrev pub selector_row : Bus → List ℕ
selector_row b = selector_latches (selector b)
