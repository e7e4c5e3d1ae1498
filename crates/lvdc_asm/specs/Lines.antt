-- What the lines of a source come to, one after another.
use Rattle.std.specs.Prelude.{◌≡◌, ℕ, ◌+◌, true, List, [], ◌∷◌, slice_index_or, Option, None, Some, unwrap_or, Result, Ok, Err}
use Rattle.lvdc_isa.specs.Instr.{syllable_of}
use Rattle.lvdc_isa.specs.declared.op.Op.{Op}
use Rattle.lvdc_source.specs.Items.{takes}
use Rattle.lvdc_source.specs.declared.item.Body.{Body}
use Rattle.lvdc_source.specs.declared.item.Body.TheVariants.{Constant, Instruction}
use Rattle.lvdc_source.specs.declared.item.Item.{Item}
use Rattle.lvdc_source.specs.declared.item.Operand.{Operand}
use Rattle.lvdc_source.specs.declared.item.Operand.TheVariants.{Number, Pair, Name, Literal}
use Rattle.lvdc_place.specs.declared.spot.Spot.{Spot as Place}
use Rattle.lvdc_map.specs.Address.{Spot}
use Rattle.lvdc_asm.specs.DataPlace.{DataPlace}
use Rattle.lvdc_asm.specs.Data.{data_after}
use Rattle.lvdc_asm.specs.Hop.{Plan, target_of}
use Rattle.lvdc_asm.specs.Locations.{with_code, with_word}
use Rattle.lvdc_asm.specs.Operands.{or_refused, number_address, pair_address, name_address, constant_word}
use Rattle.lvdc_asm.specs.Pool.{Progress, LiteralPlace, literal_of, literal_place}
use Rattle.lvdc_asm.specs.declared.fault.AsmFault.{AsmFault}
use Rattle.lvdc_asm.specs.declared.fault.AsmFault.TheVariants.{OutOfRange}

-- the nine address bits of an operand, and what has been assembled with it
pub record OperandAddress : Type 0 where
  pub address : ℕ
  pub progress : Progress

-- an address that needs no room
abbrev pub plain_address : Progress → Result ℕ AsmFault → Result OperandAddress AsmFault
plain_address progress (Err fault) = Err fault
plain_address progress (Ok address) = Ok (record { address = address; progress = progress })

-- the address of a literal that is stored: its location, with A9 0
abbrev pub literal_address : Result LiteralPlace AsmFault → Result OperandAddress AsmFault
literal_address (Err fault) = Err fault
literal_address (Ok place) = Ok (record { address = place.at.loc; progress = place.progress })

-- the address of a literal whose word is known
abbrev pub word_address : ℕ → DataPlace → Progress → Result ℕ AsmFault → Result OperandAddress AsmFault
word_address line assumed progress (Err fault) = Err fault
word_address line assumed progress (Ok w) = literal_address (literal_place line progress (literal_of assumed w))

-- the address of an operand on a line, for an instruction that stands here where this data place is assumed
abbrev pub operand_address : Plan → ℕ → Op → Spot → DataPlace → Progress → Operand → Result OperandAddress AsmFault
operand_address plan line op here assumed progress (Number n) = plain_address progress (or_refused (OutOfRange line) (number_address op n))
operand_address plan line op here assumed progress (Pair pair sector) = plain_address progress (or_refused (OutOfRange line) (pair_address pair sector))
operand_address plan line op here assumed progress (Name name offset) = plain_address progress (name_address line op here assumed offset (target_of plan name))
operand_address plan line op here assumed progress (Literal constant) = word_address line assumed progress (constant_word plan line constant)

-- an instruction of this address stands in its slot
abbrev pub with_instruction : Op → Spot → ℕ → Result OperandAddress AsmFault → Result Progress AsmFault
with_instruction op here syl (Err fault) = Err fault
with_instruction op here syl (Ok operand) =
    Ok (record operand.progress { locations = with_code operand.progress.locations here syl (syllable_of (record { op = op; address = operand.address })) })

-- a constant stands at its location
abbrev pub with_constant : Spot → Progress → Result ℕ AsmFault → Result Progress AsmFault
with_constant here progress (Err fault) = Err fault
with_constant here progress (Ok w) = Ok (record progress { locations = with_word progress.locations here w })

-- what a line that stands here adds
abbrev pub line_at : Plan → ℕ → DataPlace → Place → Body → Progress → Result Progress AsmFault
line_at plan line assumed here (Constant constant) progress = with_constant here.at progress (constant_word plan line constant)
line_at plan line assumed here (Instruction op operand) progress =
    with_instruction op here.at (unwrap_or here.syl 0) (operand_address plan line op here.at assumed progress operand)
line_at plan line assumed here _ progress = Ok progress

-- what a line adds; one that takes no place adds nothing
abbrev pub line_done : Plan → DataPlace → Option Place → Item → Progress → Result Progress AsmFault
line_done plan assumed None item progress = Ok progress
line_done plan assumed (Some here) item progress = line_at plan item.line assumed here item.body progress

-- the lines that follow, in order, up to the first that is wrong
abbrev pub lines_after : Plan → ℕ → DataPlace → List Item → Result Progress AsmFault → Result Progress AsmFault
lines_after plan number assumed items (Err fault) = Err fault
lines_after plan number assumed [] (Ok progress) = Ok progress
lines_after plan number assumed (item ∷ items) (Ok progress) =
    lines_after plan (number + 1) (data_after assumed item.body) items (line_done plan assumed (slice_index_or plan.spots number None) item progress)

-- an instruction has an operand of a form that its operation takes
abbrev pub HasOperand : Body → Type 0
HasOperand (Instruction op operand) = takes op operand ≡ true
HasOperand _ = Unit {0}
