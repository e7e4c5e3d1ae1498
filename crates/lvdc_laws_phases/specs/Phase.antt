-- When the latches of the seven modules stand for a plain state in a phase of its next instruction time.
use Rattle.std.specs.Prelude.{◌≡◌, ℕ, zero, suc, ◌^◌, ◌<◌, true}
use Rattle.std.specs.declared.option.Option.{Option}
use Rattle.std.specs.declared.option.Option.TheVariants.{None, Some}
use Rattle.lvdc_map.specs.Hop.{IsHopConstant, fetch_of, syllable_at}
use Rattle.lvdc_map.specs.Memory.{word_at}
use Rattle.lvdc_isa.specs.Instr.{takes_operand}
use Rattle.lvdc_plain.specs.declared.records.Stop.{Stop}
use Rattle.lvdc_plain.specs.declared.records.Stop.TheVariants as stops
use Rattle.lvdc_plain.specs.Plain.{PlainState}
use Rattle.lvdc_plain.specs.Table.{fetched_instr, operand_place, word_of_place}
use Rattle.lvdc_modules.specs.declared.bus.Bus.{Bus}
use Rattle.lvdc_modules.specs.Locator.{place_fields, locator}
use Rattle.lvdc_modules.specs.Selector.{data_fields, selector}
use Rattle.lvdc_modules.specs.Request.{word_of_request}
use Rattle.lvdc_modules.specs.Exchange.{requested, exchange}
use Rattle.lvdc_modules.specs.Timer.{timer}
use Rattle.lvdc_modules.specs.Decoder.{decoder}
use Rattle.lvdc_modules.specs.Accumulator.{accumulator}
use Rattle.lvdc_modules.specs.Multiplier.{multiplier, working}
use Rattle.lvdc_laws_phases.specs.Work.{IsWork, IsHeld}

-- the number that STOP has for a stop
abbrev pub stop_number : Option Stop → ℕ
stop_number None = 0
stop_number (Some stops.Shift) = 1
stop_number (Some stops.Exm) = 2
stop_number (Some (stops.Memory at)) = 3

-- the syllable that is fetched
abbrev pub fetched_syllable : PlainState → ℕ
fetched_syllable p = syllable_at p.place (word_at p.memory (fetch_of p.banks p.place))

-- REQUEST in a phase, by hold: the instruction's in the third phase with hold 0, and 0 in every other case
abbrev pub request_due : ℕ → ℕ → PlainState → ℕ
request_due zero hold p = 0
request_due (suc zero) hold p = 0
request_due (suc (suc n)) zero p = word_of_request (requested (fetched_instr p).op p.place (fetched_instr p).address)
request_due (suc (suc n)) (suc hold) p = 0

-- the latches on the bus are those of the plain state in this phase of its next time: 0, 1 or 2
pub record IsPhase (phase : ℕ) (b : Bus) (p : PlainState) : Type 0 where
  pub phase_is : b.timer.phase ≡ phase
  pub hold : b.timer.hold ≡ p.hold
  pub place : b.locator.place ≡ place_fields p.place
  pub data_place : b.selector.hold_place ≡ data_fields p.place
  pub saver : b.locator.saver ≡ p.saver
  pub a : b.accumulator.a ≡ p.a
  pub pq : b.multiplier.pq ≡ p.pq
  pub work : IsWork p.pending phase (working b)
  pub stop : b.exchange.stop ≡ stop_number p.stop
  pub request : b.exchange.request ≡ request_due phase p.hold p
  pub fetched : 0 < phase → p.hold ≡ 0 → b.decoder.instr ≡ fetched_syllable p
  pub operand : 1 < phase → p.hold ≡ 0 → takes_operand (fetched_instr p).op ≡ true
      → b.accumulator.operand ≡ word_of_place p (operand_place p (fetched_instr p).address)
  pub held : IsHeld p.pending p.hold
  pub in_range : IsHopConstant p.place
  pub few : p.hold < 5
  pub syllable : b.decoder.instr < 2 ^ 13

-- what is taken from the bus as an operand is a word
pub record CarriesWords (b : Bus) : Type 0 where
  pub a : b.accumulator.a < 2 ^ 26
  pub operand : b.accumulator.operand < 2 ^ 26
  pub memory : b.memory < 2 ^ 26

-- the next latches, with the words that the next phase finds
abbrev pub after : Bus → ℕ → ℕ → Bus
after b memory port =
    record {
      timer = timer b;
      locator = locator b;
      decoder = decoder b;
      selector = selector b;
      accumulator = accumulator b;
      multiplier = multiplier b;
      exchange = exchange b;
      memory = memory;
      port = port;
    }
