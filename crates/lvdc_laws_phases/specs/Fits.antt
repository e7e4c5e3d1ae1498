-- Plain states of words.
use Rattle.std.specs.Prelude.{◌^◌, ◌<◌}
use Rattle.std.specs.declared.option.Option.{Option}
use Rattle.std.specs.declared.option.Option.TheVariants.{None, Some}
use Rattle.lvdc_map.specs.Address.{Spot}
use Rattle.lvdc_map.specs.Hop.{IsHopConstant}
use Rattle.lvdc_map.specs.Memory.{word_at}
use Rattle.lvdc_plain.specs.declared.records.Pending.{Pending}
use Rattle.lvdc_plain.specs.Plain.{PlainState}
use Rattle.lvdc_plain.specs.View.{ByInstruction}

-- a result on its way is a word
abbrev pub PendingFits : Option Pending → Type 0
PendingFits None = Unit {0}
PendingFits (Some r) = r.result < 2 ^ 26

-- the place is one, registers, results and memory hold words, and a stop has an instruction as its cause
pub record PlainFits (p : PlainState) : Type 0 where
  pub place : IsHopConstant p.place
  pub a : p.a < 2 ^ 26
  pub pq : p.pq < 2 ^ 26
  pub saver : p.saver < 2 ^ 26
  pub pending : PendingFits p.pending
  pub words : (at : Spot) → word_at p.memory at < 2 ^ 26
  pub stop : ByInstruction p.stop
