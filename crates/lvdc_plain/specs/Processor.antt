-- A processor that holds the registers and the memory of a plain state.
use Rattle.std.specs.Prelude.{◌≡◌, ℕ, ◌+◌, ◌*◌}
use Rattle.std.specs.declared.option.Option.{Option}
use Rattle.std.specs.declared.option.Option.TheVariants.{None, Some}
use Rattle.lvdc_map.specs.Memory.{IsMemory}
use Rattle.lvdc_plain.specs.Plain.{PlainState}
use Rattle.lvdc_plain.specs.declared.processor.Processor.{Processor}
use Rattle.lvdc_plain.specs.declared.records.PlainEnd.{PlainEnd}
use Rattle.lvdc_plain.specs.declared.records.PlainEnd.TheVariants.{Stopped}
use Rattle.lvdc_plain.specs.declared.records.Stop.{Stop}

-- the same registers, the same results on their way, and the same words
pub record Holds (r : Processor) (p : PlainState) : Type 0 where
  pub banks : r.banks ≡ p.banks
  pub place : r.place ≡ p.place
  pub a : r.a ≡ p.a
  pub pq : r.pq ≡ p.pq
  pub saver : r.saver ≡ p.saver
  pub pending : r.pending ≡ p.pending
  pub hold : r.hold ≡ p.hold
  pub memory : IsMemory r.words p.memory

-- the banks, PQ and the result on its way are as before
pub record LeavesResults (old new : Processor) : Type 0 where
  pub banks : new.banks ≡ old.banks
  pub pq : new.pq ≡ old.pq
  pub pending : new.pending ≡ old.pending

-- the end that a stop in this time is
abbrev pub end_of : ℕ → Option Stop → Option PlainEnd
end_of times None = None
end_of times (Some stop) = Some (Stopped (3 * times + 2) stop)
