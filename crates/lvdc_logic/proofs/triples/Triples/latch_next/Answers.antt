use Rattle.std.proofs.Common.{◌≡◌, ◌+◌, ◌-◌, ◌%◌, refl, arith}
use Rattle.lvdc_logic.specs.Harmed.{latched_under}
use Rattle.lvdc_logic.proofs.triples.Triples.latch_next.Goals as goal

pub returns-then-faults : goal.returns-then-faults
unfolding latched_under
returns-then-faults c =
    let own : c.args.number % 3 + 1 - 1 ≡ c.args.number % 3 = omega arith in
    rw (c.latch.ensures, c.copied_bus-heard.ensures, c.if-faults.true, own) refl

pub returns-else-faults : goal.returns-else-faults
unfolding latched_under
returns-else-faults c = rw (c.latch-else-faults.ensures, c.if-faults.false) refl
