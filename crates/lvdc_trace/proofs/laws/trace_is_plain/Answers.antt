use Rattle.lvdc_trace.proofs.Faithful.{PlainLaws, step-plainly}
use Rattle.lvdc_trace.proofs.laws.trace_is_plain.Goals as goal

pub returns : goal.returns
returns c = λ o opens step made is.
    let law : PlainLaws o = record {
      comes = c.guarded_run.ensures o opens;
      same = c.judges_alone.ensures o opens;
      times = c.guarded_times.ensures o opens;
      steps = c.guarded_ends.ensures.steps o opens;
      begun = c.step_begun.ensures o opens;
      one = c.survivor_is_read.ensures.one;
      two = c.survivor_is_read.ensures.two;
    } in
    step-plainly o law step made is
