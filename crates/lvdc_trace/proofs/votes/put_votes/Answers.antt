use Rattle.std.proofs.Common.{◌≡◌, ℕ, ◌+◌, ◌*◌, suc, ap, arith}
use Rattle.lvdc_vote.specs.Numbers.{latches_of}
use Rattle.lvdc_lines.proofs.LineLists.{lines_below_none, lines_below_more}
use Rattle.lvdc_trace.specs.Steps.{told_vote}
use Rattle.lvdc_trace.proofs.Lengths.{vote_room}
use Rattle.lvdc_trace.proofs.votes.put_votes.Goals as goal

-- the room of one module more
room-more : (modules : ℕ) → vote_room (modules + 1) ≡ vote_room modules + (7 + 10 * latches_of (modules + 1))
room-more modules = let e : modules + 1 ≡ suc modules = omega arith in ap vote_room e

pub loop-modules-init : goal.loop-modules-init
loop-modules-init c = record {
  lines = λ copies are. lines_below_none (λ modules. told_vote c.args.always copies c.args.machine.now.copies (modules + 1)) c.args.out.now.items;
  short = omega arith;
}

pub loop-modules-preserved : goal.loop-modules-preserved
loop-modules-preserved c = record {
  lines = λ copies are.
      lines_below_more (λ modules. told_vote c.args.always copies c.args.machine.now.copies (modules + 1)) c.loop-modules.modules c.args.out.now.items
      c.loop-modules.out.items c.put_vote.new.out.items (c.loop-modules.invariant.lines copies are) (c.in_ok-put_vote.ensures.line copies are);
  short = omega (arith, room-more c.loop-modules.modules, c.loop-modules.invariant.short, c.in_ok-put_vote.ensures.short);
}

pub returns-clause-lines : goal.returns-clause-lines
returns-clause-lines c = λ copies are.
    let all : c.loop-modules.modules ≡ 7 = omega (arith, c.loop-modules-test.false, c.loop-modules.auto.modules-end) in
    rw all at (c.loop-modules.invariant.lines copies are)
