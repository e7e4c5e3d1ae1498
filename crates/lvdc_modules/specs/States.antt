-- The latches of the seven modules by their indices, and the state that has given latches.
use Rattle.std.specs.Prelude.{ℕ, List, [], ◌∷◌, slice_index}
use Rattle.lvdc_modules.specs.declared.timer.TimerState.{TimerState}
use Rattle.lvdc_modules.specs.declared.locator.LocatorState.{LocatorState}
use Rattle.lvdc_modules.specs.declared.decoder.DecoderState.{DecoderState}
use Rattle.lvdc_modules.specs.declared.selector.SelectorState.{SelectorState}
use Rattle.lvdc_modules.specs.declared.accumulator.AccumulatorState.{AccumulatorState}
use Rattle.lvdc_modules.specs.declared.multiplier.MultiplierState.{MultiplierState}
use Rattle.lvdc_modules.specs.declared.exchange.ExchangeState.{ExchangeState}

-- the latches of TIMER
abbrev pub timer_latches : TimerState → List ℕ
timer_latches s = s.phase ∷ s.hold ∷ []

-- the state of TIMER with these latches
abbrev pub timer_of : List ℕ → TimerState
timer_of words = record { phase = slice_index words 0; hold = slice_index words 1 }

-- the latches of LOCATOR
abbrev pub locator_latches : LocatorState → List ℕ
locator_latches s = s.place ∷ s.saver ∷ []

-- the state of LOCATOR with these latches
abbrev pub locator_of : List ℕ → LocatorState
locator_of words = record { place = slice_index words 0; saver = slice_index words 1 }

-- the latch of DECODER
abbrev pub decoder_latches : DecoderState → List ℕ
decoder_latches s = s.instr ∷ []

-- the state of DECODER with this latch
abbrev pub decoder_of : List ℕ → DecoderState
decoder_of words = record { instr = slice_index words 0 }

-- the latch of SELECTOR
abbrev pub selector_latches : SelectorState → List ℕ
selector_latches s = s.hold_place ∷ []

-- the state of SELECTOR with this latch
abbrev pub selector_of : List ℕ → SelectorState
selector_of words = record { hold_place = slice_index words 0 }

-- the latches of ACCUMULATOR
abbrev pub accumulator_latches : AccumulatorState → List ℕ
accumulator_latches s = s.a ∷ s.operand ∷ []

-- the state of ACCUMULATOR with these latches
abbrev pub accumulator_of : List ℕ → AccumulatorState
accumulator_of words = record { a = slice_index words 0; operand = slice_index words 1 }

-- the latches of MULTIPLIER
abbrev pub multiplier_latches : MultiplierState → List ℕ
multiplier_latches s = s.pq ∷ s.control ∷ s.m ∷ s.h ∷ s.q ∷ []

-- the state of MULTIPLIER with these latches
abbrev pub multiplier_of : List ℕ → MultiplierState
multiplier_of words =
    record {
      pq = slice_index words 0;
      control = slice_index words 1;
      m = slice_index words 2;
      h = slice_index words 3;
      q = slice_index words 4;
    }

-- the latches of EXCHANGE
abbrev pub exchange_latches : ExchangeState → List ℕ
exchange_latches s = s.stop ∷ s.request ∷ []

-- the state of EXCHANGE with these latches
abbrev pub exchange_of : List ℕ → ExchangeState
exchange_of words = record { stop = slice_index words 0; request = slice_index words 1 }
