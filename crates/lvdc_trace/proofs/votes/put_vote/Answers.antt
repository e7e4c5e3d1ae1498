use Rattle.std.proofs.Common.{ap, length, arith, length-append, ℕ}
use Rattle.lvdc_trace.proofs.Lengths.{length-vote_line}
use Rattle.lvdc_trace.proofs.votes.put_vote.Goals as goal

pub returns-in_ok-put_vote_line-clause-short : goal.returns-in_ok-put_vote_line-clause-short
returns-in_ok-put_vote_line-clause-short c =
    omega (
      arith,
      length-append {A = ℕ},
      length-vote_line c.args.machine.now.copies c.args.number (omega (arith, c.requires.last)),
      ap length c.in_ok-put_vote_line.ensures,
    )
