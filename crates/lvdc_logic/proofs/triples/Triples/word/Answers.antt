use Rattle.std.proofs.Common.{◌≡◌, ◌-◌, sym, arith}
use Rattle.std.proofs.lemmas.Option.{get_or_from_slice_get}
use Rattle.lvdc_vote.specs.Copies.{copy_of}
use Rattle.lvdc_logic.proofs.triples.Triples.word.Goals as goal

pub word-requires : goal.word-requires
word-requires c = record { copy = omega arith; index = rw c.in-1.is at c.requires.index }

pub returns-in-1 : goal.returns-in-1
returns-in-1 c = rw c.in-1.is (sym (get_or_from_slice_get (copy_of c.args.self.now.timer (c.args.copy - 1)) c.args.index c.word.result 0 c.word.ensures))

pub word-requires-in-2 : goal.word-requires-in-2
word-requires-in-2 c = record { copy = omega arith; index = rw c.in-2.is at c.requires.index }

pub returns-in-2 : goal.returns-in-2
returns-in-2 c = rw c.in-2.is (sym (get_or_from_slice_get (copy_of c.args.self.now.locator (c.args.copy - 1)) c.args.index c.word-in-2.result 0 c.word-in-2.ensures))

pub word-requires-in-3 : goal.word-requires-in-3
word-requires-in-3 c = record { copy = omega arith; index = rw c.in-3.is at c.requires.index }

pub returns-in-3 : goal.returns-in-3
returns-in-3 c = rw c.in-3.is (sym (get_or_from_slice_get (copy_of c.args.self.now.decoder (c.args.copy - 1)) c.args.index c.word-in-3.result 0 c.word-in-3.ensures))

pub word-requires-in-4 : goal.word-requires-in-4
word-requires-in-4 c = record { copy = omega arith; index = rw c.in-4.is at c.requires.index }

pub returns-in-4 : goal.returns-in-4
returns-in-4 c = rw c.in-4.is (sym (get_or_from_slice_get (copy_of c.args.self.now.selector (c.args.copy - 1)) c.args.index c.word-in-4.result 0 c.word-in-4.ensures))

pub word-requires-in-5 : goal.word-requires-in-5
word-requires-in-5 c = record { copy = omega arith; index = rw c.in-5.is at c.requires.index }

pub returns-in-5 : goal.returns-in-5
returns-in-5 c = rw c.in-5.is (sym (get_or_from_slice_get (copy_of c.args.self.now.accumulator (c.args.copy - 1)) c.args.index c.word-in-5.result 0 c.word-in-5.ensures))

pub word-requires-in-6 : goal.word-requires-in-6
word-requires-in-6 c = record { copy = omega arith; index = rw c.in-6.is at c.requires.index }

pub returns-in-6 : goal.returns-in-6
returns-in-6 c = rw c.in-6.is (sym (get_or_from_slice_get (copy_of c.args.self.now.multiplier (c.args.copy - 1)) c.args.index c.word-in-6.result 0 c.word-in-6.ensures))

pub word-requires-in_default : goal.word-requires-in_default
word-requires-in_default c = let last : c.args.number ≡ 7 = omega arith in record { copy = omega arith; index = rw last at c.requires.index }

pub returns-in_default : goal.returns-in_default
returns-in_default c = let last : c.args.number ≡ 7 = omega arith in rw last (sym (get_or_from_slice_get (copy_of c.args.self.now.exchange (c.args.copy - 1)) c.args.index c.word-in_default.result 0 c.word-in_default.ensures))
