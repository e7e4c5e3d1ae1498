-- What follows for each module from a bus.
use Rattle.lvdc_mul.specs.Unit.{kind}
use Rattle.lvdc_modules.specs.Timer.{timer}
use Rattle.lvdc_modules.specs.Locator.{locator}
use Rattle.lvdc_modules.specs.Decoder.{decoder}
use Rattle.lvdc_modules.specs.Selector.{selector}
use Rattle.lvdc_modules.specs.Accumulator.{a_landed, accumulated, accumulator}
use Rattle.lvdc_modules.specs.Multiplier.{working, landing, unit_pq, unit_working, pq_after, working_after, multiplier_with, multiplier}
use Rattle.lvdc_modules.specs.Exchange.{exchange}
use Rattle.lvdc_isa.specs.declared.instr.Instr.{Instr}
use Rattle.lvdc_modules.specs.declared.bus.Bus.{Bus}

-- the bus with the state that follows for each module, and with what came from memory and port in this phase
abbrev pub next_states : Bus → Bus
next_states b =
    record {
      timer = timer b;
      locator = locator b;
      decoder = decoder b;
      selector = selector b;
      accumulator = accumulator b;
      multiplier = multiplier b;
      exchange = exchange b;
      memory = b.memory;
      port = b.port;
    }

-- the bus of the next phase, for which nothing has come from memory or port yet
abbrev pub renewed : Bus → Bus
renewed b = record (next_states b) { memory = 0; port = 0 }

-- the bus after the phase of the arithmetic unit, whose product of an MPH lands in A
abbrev pub after_unit : Bus → Bus
after_unit b =
    record b {
      accumulator = record b.accumulator { a = a_landed (kind (working b)) (landing b) b.accumulator.a };
      multiplier = multiplier_with (unit_pq b) (unit_working b);
    }

-- the bus after the phase of the arithmetic unit in which an instruction is executed
abbrev pub after_operation : Instr → Bus → Bus
after_operation i b =
    record b {
      accumulator =
          record b.accumulator { a = a_landed (kind (working b)) (landing b) (accumulated i.op b i.address) };
      multiplier = multiplier_with (pq_after i.op b i.address) (working_after i.op b i.address);
    }
