use Rattle.std.proofs.Common.{◌≡◌, ◌/◌, refl, arith}
use Rattle.lvdc_logic.proofs.triples.Triples.latch.Goals as goal

pub latch_under-requires : goal.latch_under-requires
latch_under-requires c = record { copy = omega arith; fresh = rw c.in-0.is at c.requires.fresh }

pub returns-in-0 : goal.returns-in-0
returns-in-0 c = rw (c.in-0.is, c.latch_under.ensures) refl

pub latch_under-requires-in-1 : goal.latch_under-requires-in-1
latch_under-requires-in-1 c = record { copy = omega arith; fresh = rw c.in-1.is at c.requires.fresh }

pub returns-in-1 : goal.returns-in-1
returns-in-1 c = rw (c.in-1.is, c.latch_under-in-1.ensures) refl

pub latch_under-requires-in-2 : goal.latch_under-requires-in-2
latch_under-requires-in-2 c = record { copy = omega arith; fresh = rw c.in-2.is at c.requires.fresh }

pub returns-in-2 : goal.returns-in-2
returns-in-2 c = rw (c.in-2.is, c.latch_under-in-2.ensures) refl

pub latch_under-requires-in-3 : goal.latch_under-requires-in-3
latch_under-requires-in-3 c = record { copy = omega arith; fresh = rw c.in-3.is at c.requires.fresh }

pub returns-in-3 : goal.returns-in-3
returns-in-3 c = rw (c.in-3.is, c.latch_under-in-3.ensures) refl

pub latch_under-requires-in-4 : goal.latch_under-requires-in-4
latch_under-requires-in-4 c = record { copy = omega arith; fresh = rw c.in-4.is at c.requires.fresh }

pub returns-in-4 : goal.returns-in-4
returns-in-4 c = rw (c.in-4.is, c.latch_under-in-4.ensures) refl

pub latch_under-requires-in-5 : goal.latch_under-requires-in-5
latch_under-requires-in-5 c = record { copy = omega arith; fresh = rw c.in-5.is at c.requires.fresh }

pub returns-in-5 : goal.returns-in-5
returns-in-5 c = rw (c.in-5.is, c.latch_under-in-5.ensures) refl

pub latch_under-requires-in_default : goal.latch_under-requires-in_default
latch_under-requires-in_default c =
    let last : c.args.number / 3 ≡ 6 = omega arith in record { copy = omega arith; fresh = rw last at c.requires.fresh }

pub returns-in_default : goal.returns-in_default
returns-in_default c = let last : c.args.number / 3 ≡ 6 = omega arith in rw (last, c.latch_under-in_default.ensures) refl
