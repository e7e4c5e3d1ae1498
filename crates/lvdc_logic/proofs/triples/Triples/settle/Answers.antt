use Rattle.std.proofs.Common.{[], ◌∷◌}
use Rattle.std.specs.Prelude.{◌^◌}
use Rattle.lvdc_logic.specs.Counts.{counts_in}
use Rattle.lvdc_logic.proofs.Differing.{at_most}
use Rattle.lvdc_logic.proofs.triples.Triples.settle.Goals as goal

pub settle-requires : goal.settle-requires
settle-requires c = record { differed = at_most (2 ^ 63) (counts_in c.args.counts.now) c.requires.differed 0 }

pub settle-requires-2 : goal.settle-requires-2
settle-requires-2 c = record { differed = at_most (2 ^ 63) (counts_in c.args.counts.now) c.requires.differed 1 }

pub settle-requires-3 : goal.settle-requires-3
settle-requires-3 c = record { differed = at_most (2 ^ 63) (counts_in c.args.counts.now) c.requires.differed 2 }

pub settle-requires-4 : goal.settle-requires-4
settle-requires-4 c = record { differed = at_most (2 ^ 63) (counts_in c.args.counts.now) c.requires.differed 3 }

pub settle-requires-5 : goal.settle-requires-5
settle-requires-5 c = record { differed = at_most (2 ^ 63) (counts_in c.args.counts.now) c.requires.differed 4 }

pub settle-requires-6 : goal.settle-requires-6
settle-requires-6 c = record { differed = at_most (2 ^ 63) (counts_in c.args.counts.now) c.requires.differed 5 }

pub settle-requires-7 : goal.settle-requires-7
settle-requires-7 c = record { differed = at_most (2 ^ 63) (counts_in c.args.counts.now) c.requires.differed 6 }

pub returns-clause-value : goal.returns-clause-value
returns-clause-value c = λ i.
    record {
      timer = c.settle.ensures.value i;
      locator = c.settle-2.ensures.value i;
      decoder = c.settle-3.ensures.value i;
      selector = c.settle-4.ensures.value i;
      accumulator = c.settle-5.ensures.value i;
      multiplier = c.settle-6.ensures.value i;
      exchange = c.settle-7.ensures.value i;
    }

pub returns-clause-counts : goal.returns-clause-counts
returns-clause-counts c = λ i.
    c.settle.ensures.counts i ∷ c.settle-2.ensures.counts i ∷ c.settle-3.ensures.counts i ∷ c.settle-4.ensures.counts i
    ∷ c.settle-5.ensures.counts i ∷ c.settle-6.ensures.counts i ∷ c.settle-7.ensures.counts i ∷ []

pub returns-clause-sized : goal.returns-clause-sized
returns-clause-sized c = record {
  timer = c.settle.ensures.sized;
  locator = c.settle-2.ensures.sized;
  decoder = c.settle-3.ensures.sized;
  selector = c.settle-4.ensures.sized;
  accumulator = c.settle-5.ensures.sized;
  multiplier = c.settle-6.ensures.sized;
  exchange = c.settle-7.ensures.sized;
}
