-- The seven modules side by side: their rows in the order of their numbers, the bus of lists of latches, and the start.
use Rattle.std.specs.Prelude.{ℕ, List, [], ◌∷◌, slice_index_or}
use Rattle.lvdc_map.specs.Hop.{HopConstant}
use Rattle.lvdc_modules.specs.declared.bus.Bus.{Bus}
use Rattle.lvdc_modules.specs.States.{timer_of, locator_of, decoder_of, selector_of, accumulator_of, multiplier_of, exchange_of}
use Rattle.lvdc_modules.specs.Timer.{timer_row}
use Rattle.lvdc_modules.specs.Locator.{place_fields, locator_row}
use Rattle.lvdc_modules.specs.Decoder.{decoder_row}
use Rattle.lvdc_modules.specs.Selector.{data_fields, selector_row}
use Rattle.lvdc_modules.specs.Accumulator.{accumulator_row}
use Rattle.lvdc_modules.specs.Multiplier.{multiplier_row}
use Rattle.lvdc_modules.specs.Exchange.{exchange_row}

-- what the latches of each module become, from module 1 on
abbrev pub rows : List (Bus → List ℕ)
rows =
    timer_row
    ∷ locator_row
    ∷ decoder_row
    ∷ selector_row
    ∷ accumulator_row
    ∷ multiplier_row
    ∷ exchange_row
    ∷ []

-- the latches of a module, counted from 0, in the lists of all seven
abbrev pub latches_at : List (List ℕ) → ℕ → List ℕ
latches_at lists index = slice_index_or lists index []

-- the bus on which the seven modules have these lists of latches, with these words from memory and port
abbrev pub bus_of : List (List ℕ) → ℕ → ℕ → Bus
bus_of lists memory port =
    record {
      timer = timer_of (latches_at lists 0);
      locator = locator_of (latches_at lists 1);
      decoder = decoder_of (latches_at lists 2);
      selector = selector_of (latches_at lists 3);
      accumulator = accumulator_of (latches_at lists 4);
      multiplier = multiplier_of (latches_at lists 5);
      exchange = exchange_of (latches_at lists 6);
      memory = memory;
      port = port;
    }

-- the latches of each module at the start: all are 0 but PLACE and DATA
abbrev pub start_latches : HopConstant → List (List ℕ)
start_latches start =
    (0 ∷ 0 ∷ [])
    ∷ (place_fields start ∷ 0 ∷ [])
    ∷ (0 ∷ [])
    ∷ (data_fields start ∷ [])
    ∷ (0 ∷ 0 ∷ [])
    ∷ (0 ∷ 0 ∷ 0 ∷ 0 ∷ 0 ∷ [])
    ∷ (0 ∷ 0 ∷ [])
    ∷ []
