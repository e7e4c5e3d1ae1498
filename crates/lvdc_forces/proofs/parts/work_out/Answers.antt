use Rattle.std.proofs.Common.{ℕ, ◌+◌, ◌-◌, ◌*◌, ◌/◌, ◌%◌, List, All, ap, sym, subst, ◌∙◌}
use Rattle.lvdc_fault.specs.declared.event.Event.{Event}
use Rattle.lvdc_fault.proofs.Parts.{part_events}
use Rattle.lvdc_forces.specs.Parts.{StaysUntil, events_of_part}
use Rattle.lvdc_forces.specs.Shares.{share_at, share_on}
use Rattle.lvdc_forces.specs.declared.shares.Share.{Share}
use Rattle.lvdc_forces.proofs.PartLaws.{right_part}
use Rattle.lvdc_forces.proofs.parts.work_out.Goals as goal

pub returns-clause-right : goal.returns-clause-right
returns-clause-right c =
    let script = c.args.script.now in
    let from : ℕ = 256 * c.args.number in
    let step = c.args.step in
    let same = part_events script from (from + c.min.result) (c.len-length.result - from) (ap (λ (n : ℕ). n - from) c.len-length.ensures) (ap (λ (n : ℕ). from + n) c.min.ensures) in
    right_part (events_of_part script c.args.number) step c.of_shares.result
    (λ n h. ap (λ (shares : List Share). share_at shares n) c.of_shares.ensures.shares ∙ c.shares_of.ensures n h ∙ ap (λ (es : List Event). share_on es step (n / 3 + 1) (n % 3 + 1)) same)
    (subst (λ (until : ℕ). All (StaysUntil step until) (events_of_part script c.args.number)) (sym c.of_shares.ensures.until)
    (subst (All (StaysUntil step c.until_of-until.result)) same c.until_of-until.ensures.stays))
