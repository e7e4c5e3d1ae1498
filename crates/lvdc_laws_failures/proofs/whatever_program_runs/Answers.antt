use Rattle.std.proofs.Common.{◌*◌, ◌∙◌}
use Rattle.lvdc_laws_failures.proofs.Plainly.{known-same}
use Rattle.lvdc_laws_failures.proofs.whatever_program_runs.Goals as goal

pub returns-clause-form : goal.returns-clause-form
returns-clause-form c o a count ok form one =
    let w = c.form_withstands.ensures o count ok form in
    let good = w.masked.verdict in
    record {
      shows = c.account_is_plain.ensures.times o a ok count good one;
      end = c.account_is_plain.ensures.end o a ok count good one;
      made = c.account_is_plain.ensures.steps o a ok count good one;
      known = λ at bank. known-same o a (3 * count) at (c.any_failure_is_masked.ensures.masked o a ok (3 * count) good one) ∙ w.known at bank;
    }

pub returns-clause-three : goal.returns-clause-three
returns-clause-three c o a count twin copy ok three one =
    let w = c.all_at_once.ensures o count twin copy ok three in
    let good = w.masked.verdict in
    record {
      shows = c.account_is_plain.ensures.times o a ok count good one;
      end = c.account_is_plain.ensures.end o a ok count good one;
      made = c.account_is_plain.ensures.steps o a ok count good one;
      known = λ at bank. known-same o a (3 * count) at (c.any_failure_is_masked.ensures.masked o a ok (3 * count) good one) ∙ w.known at bank;
    }
