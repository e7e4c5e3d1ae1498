use Rattle.std.proofs.Common.{[], ◌∷◌, arith, ap}
use Rattle.std.specs.Prelude.{◌^◌}
use Rattle.lvdc_modules.specs.States.{timer_of, locator_of, decoder_of, selector_of, accumulator_of, multiplier_of, exchange_of}
use Rattle.lvdc_logic.specs.Counts.{counts_in}
use Rattle.lvdc_logic.proofs.Differing.{at_most}
use Rattle.lvdc_logic.proofs.triples.Triples.renew_under.Goals as goal

pub renew-requires : goal.renew-requires
renew-requires c = record { first = omega arith; fresh = c.requires.fresh.timer; differed = at_most (2 ^ 63) (counts_in c.args.counts.now) c.requires.differed 0 }

pub renew-requires-2 : goal.renew-requires-2
renew-requires-2 c = record { first = omega arith; fresh = c.requires.fresh.locator; differed = at_most (2 ^ 63) (counts_in c.args.counts.now) c.requires.differed 1 }

pub renew-requires-3 : goal.renew-requires-3
renew-requires-3 c = record { first = omega arith; fresh = c.requires.fresh.decoder; differed = at_most (2 ^ 63) (counts_in c.args.counts.now) c.requires.differed 2 }

pub renew-requires-4 : goal.renew-requires-4
renew-requires-4 c = record { first = omega arith; fresh = c.requires.fresh.selector; differed = at_most (2 ^ 63) (counts_in c.args.counts.now) c.requires.differed 3 }

pub renew-requires-5 : goal.renew-requires-5
renew-requires-5 c = record { first = omega arith; fresh = c.requires.fresh.accumulator; differed = at_most (2 ^ 63) (counts_in c.args.counts.now) c.requires.differed 4 }

pub renew-requires-6 : goal.renew-requires-6
renew-requires-6 c = record { first = omega arith; fresh = c.requires.fresh.multiplier; differed = at_most (2 ^ 63) (counts_in c.args.counts.now) c.requires.differed 5 }

pub renew-requires-7 : goal.renew-requires-7
renew-requires-7 c = record { first = omega arith; fresh = c.requires.fresh.exchange; differed = at_most (2 ^ 63) (counts_in c.args.counts.now) c.requires.differed 6 }

pub returns-clause-votes : goal.returns-clause-votes
returns-clause-votes c = λ i.
    record {
      timer = ap timer_of c.renew.ensures.vote i;
      locator = ap locator_of c.renew-2.ensures.vote i;
      decoder = ap decoder_of c.renew-3.ensures.vote i;
      selector = ap selector_of c.renew-4.ensures.vote i;
      accumulator = ap accumulator_of c.renew-5.ensures.vote i;
      multiplier = ap multiplier_of c.renew-6.ensures.vote i;
      exchange = ap exchange_of c.renew-7.ensures.vote i;
      memory = c.args.next.now.memory;
      port = c.args.next.now.port;
    }

pub returns-clause-value : goal.returns-clause-value
returns-clause-value c = λ i.
    record {
      timer = c.renew.ensures.value i;
      locator = c.renew-2.ensures.value i;
      decoder = c.renew-3.ensures.value i;
      selector = c.renew-4.ensures.value i;
      accumulator = c.renew-5.ensures.value i;
      multiplier = c.renew-6.ensures.value i;
      exchange = c.renew-7.ensures.value i;
    }

pub returns-clause-counts : goal.returns-clause-counts
returns-clause-counts c = λ i.
    c.renew.ensures.counts i ∷ c.renew-2.ensures.counts i ∷ c.renew-3.ensures.counts i ∷ c.renew-4.ensures.counts i
    ∷ c.renew-5.ensures.counts i ∷ c.renew-6.ensures.counts i ∷ c.renew-7.ensures.counts i ∷ []

pub returns-clause-sized : goal.returns-clause-sized
returns-clause-sized c = record {
  timer = c.renew.ensures.sized;
  locator = c.renew-2.ensures.sized;
  decoder = c.renew-3.ensures.sized;
  selector = c.renew-4.ensures.sized;
  accumulator = c.renew-5.ensures.sized;
  multiplier = c.renew-6.ensures.sized;
  exchange = c.renew-7.ensures.sized;
}
