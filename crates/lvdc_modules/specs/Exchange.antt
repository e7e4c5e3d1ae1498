-- EXCHANGE, module 7: the stop, and what phase C exchanges.
use Rattle.std.specs.Prelude.{ℕ, List, if◌then◌else◌}
use Rattle.lvdc_map.specs.Hop.{HopConstant}
use Rattle.lvdc_map.specs.Place.{a9, low_bits, operand_kind}
use Rattle.lvdc_map.specs.declared.operand.OperandKind.{OperandKind}
use Rattle.lvdc_map.specs.declared.operand.OperandKind.TheVariants.{Memory, Pq, Saver}
use Rattle.lvdc_isa.specs.declared.instr.Instr.{Instr}
use Rattle.lvdc_isa.specs.declared.op.Op.{Op}
use Rattle.lvdc_isa.specs.declared.op.Op.TheVariants.{Pio, Sto, WrongShift, Exm}
use Rattle.lvdc_modules.specs.declared.bus.Bus.{Bus}
use Rattle.lvdc_modules.specs.declared.exchange.ExchangeState.{ExchangeState}
use Rattle.lvdc_modules.specs.declared.request.Request.{Request}
use Rattle.lvdc_modules.specs.declared.request.Request.TheVariants.{Nothing, StoreA, StoreSaver, PortWrite, PortRead}
use Rattle.lvdc_modules.specs.declared.seen.Doing.{Doing}
use Rattle.lvdc_modules.specs.declared.seen.Doing.TheVariants.{Taking, Executing}
use Rattle.lvdc_modules.specs.Seen.{doing, instruction, here}
use Rattle.lvdc_modules.specs.Request.{destination, word_of_request}
use Rattle.lvdc_modules.specs.States.{exchange_latches}

-- what a store asks for at the place h: A into memory, the saver into one of its words, nothing for PQ
abbrev pub store_request : OperandKind → HopConstant → ℕ → Request
store_request Memory h address = StoreA (destination h address)
store_request Saver h address = StoreSaver (destination h address)
store_request Pq h address = Nothing

-- what each operation asks for at the place h
abbrev pub requested : Op → HopConstant → ℕ → Request
requested Sto h address = store_request (operand_kind address) h address
requested Pio h address = if a9 address then PortRead (low_bits address) else PortWrite (low_bits address)
requested _ h address = Nothing

-- REQUEST is set where the operand is taken, and is 0 after every other phase
abbrev pub request_by : Doing → HopConstant → Instr → ℕ
request_by Taking h i = word_of_request (requested i.op h i.address)
request_by _ h i = 0

-- what each operation makes of STOP: 1 is a wrong shift, 2 is EXM
abbrev pub stopped : Op → ℕ → ℕ
stopped WrongShift stop = 1
stopped Exm stop = 2
stopped _ stop = stop

-- STOP changes only where an instruction is executed
abbrev pub stop_by : Doing → Bus → Instr → ℕ
stop_by Executing b i = stopped i.op b.exchange.stop
stop_by _ b i = b.exchange.stop

-- EXCHANGE: what its latches become in a phase
abbrev pub exchange : Bus → ExchangeState
exchange b =
    record {
      stop = stop_by (doing b) b (instruction b);
      request = request_by (doing b) (here b) (instruction b);
    }

-- the same as a list
abbrev pub exchange_row : Bus → List ℕ
exchange_row b = exchange_latches (exchange b)
