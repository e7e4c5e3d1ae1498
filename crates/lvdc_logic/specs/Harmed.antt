-- What the copies of the seven modules latch under what is in force on them. Copy n is copy n % 3 of module n / 3, both counted from 0.
use Rattle.std.specs.Prelude.{ℕ, ◌+◌, ◌/◌, ◌%◌, List}
use Rattle.lvdc_vote.specs.Copies.{Copies, settled}
use Rattle.lvdc_vote.specs.Harms.{harmed, harmed_by}
use Rattle.lvdc_modules.specs.States.{timer_latches, locator_latches, decoder_latches, selector_latches, accumulator_latches, multiplier_latches, exchange_latches}
use Rattle.lvdc_modules.specs.declared.bus.Bus.{Bus}
use Rattle.lvdc_model.specs.Voted.{inputs}
use Rattle.lvdc_forces.specs.InForce.{harm_on}
use Rattle.lvdc_forces.specs.declared.in_force.Faults.{Faults}
use Rattle.lvdc_forces.specs.declared.in_force.InForce.{InForce}
use Rattle.lvdc_logic.specs.Latching.{copies_in, latches_in, row_of}
use Rattle.lvdc_logic.specs.declared.triples.Triples.{Triples}

-- what a copy latches on which this is in force, in a step in which all modules have these copies, and their votes are on this bus
unfoldable pub latched_under : Faults → Triples → Bus → ℕ → List ℕ
latched_under f t voted n = harmed (latches_in t n) (row_of (n / 3) (inputs f.deaf (copies_in t) (n % 3 + 1) voted)) f.harm

-- the copies of a module, numbered from the first on, in the next step of copies that don't wait for one another: each that is named has
-- what it latches under what is wrong with it, where these words follow, and every other one has these words
abbrev pub three_harmed : InForce → ℕ → Copies → List ℕ → Copies
three_harmed f first t next =
    settled
    (harmed_by (harm_on f first) t.one next)
    (harmed_by (harm_on f (first + 1)) t.two next)
    (harmed_by (harm_on f (first + 2)) t.three next)

-- those of all modules, where the states on this bus follow
abbrev pub after_harms : InForce → Triples → Bus → Triples
after_harms f t b =
    record {
      timer = three_harmed f 0 t.timer (timer_latches b.timer);
      locator = three_harmed f 3 t.locator (locator_latches b.locator);
      decoder = three_harmed f 6 t.decoder (decoder_latches b.decoder);
      selector = three_harmed f 9 t.selector (selector_latches b.selector);
      accumulator = three_harmed f 12 t.accumulator (accumulator_latches b.accumulator);
      multiplier = three_harmed f 15 t.multiplier (multiplier_latches b.multiplier);
      exchange = three_harmed f 18 t.exchange (exchange_latches b.exchange);
    }
