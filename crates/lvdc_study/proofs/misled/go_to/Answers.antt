use Rattle.std.proofs.Common.{◌≢◌, ℕ, ◌+◌, ◌*◌, sym, ap, ◌∙◌, arith}
use Rattle.std.proofs.lemmas.Bool.{true≢false}
use Rattle.lvdc_fault.specs.declared.verdict.Verdict.TheVariants.{Admissible}
use Rattle.lvdc_runs.proofs.Stationed.{none-told}
use Rattle.lvdc_study.proofs.Saying.{refusal-is, replays-on, may-go-on, replays-through}
use Rattle.lvdc_study.proofs.misled.go_to.Goals as goal

pub returns-else-is_some-clause-replays : goal.returns-else-is_some-clause-replays
returns-else-is_some-clause-replays g c = λ o first n h.
    replays-on o first n (3 * c.args.more) c.args.said c.args.machine.now c.run.new.self _ _ h (c.run.ensures.stands o first n h.stands) c.run.ensures.leaves.keeps.mode
    (none-told c.ended.result c.run.new.self.end c.is_some.result c.ended.ensures c.is_some.ensures c.if-is_some.false)

pub go_through-requires-clause-refused : goal.go_through-requires-clause-refused
go_through-requires-clause-refused g c =
    let r = c.requires.replay in
    let left = c.requires.left in
    let keeps = c.run.ensures.leaves.keeps.limit in
    let verdict = c.verdict_of-verdict.result in
    let bad : verdict ≢ Admissible = λ good. true≢false (sym (c.is_admissible.ensures.1 good) ∙ c.if-is_admissible.false) in
    may-go-on r.trial r.first r.n (3 * c.args.more) c.args.said verdict c.args.machine.now c.run.new.self _ _ r.replays
    (c.run.ensures.stands r.trial r.first r.n r.replays.stands) (c.may_go_on.ensures.mode c.if-not-may_go_on.false) (c.may_go_on.ensures.few c.if-not-may_go_on.false)
    (refusal-is c.run.new.self.end verdict c.verdict_of-verdict.ensures.end bad) (omega (arith, left, keeps))

pub returns-clause-replays : goal.returns-clause-replays
returns-clause-replays g c = λ o first n h.
    let verdict = c.verdict_of-verdict.result in
    let bad : verdict ≢ Admissible = λ good. true≢false (sym (c.is_admissible.ensures.1 good) ∙ c.if-is_admissible.false) in
    let stands = c.run.ensures.stands o first n h.stands in
    replays-through o first n (3 * c.args.more) (c.steps.result + 3 * c.args.more) c.args.said verdict c.args.machine.now c.run.new.self c.go_through.new.self _ _ _ h stands
    (c.may_go_on.ensures.mode c.if-not-may_go_on.false) (refusal-is c.run.new.self.end verdict c.verdict_of-verdict.ensures.end bad)
    (ap (λ (k : ℕ). k + 3 * c.args.more) c.steps.ensures) (c.in-Ok.ensures.goes.stands o first (n + 3 * c.args.more) h.begins stands) c.in-Ok.ensures.goes.turns.mode
    (none-told c.ended-2.result c.go_through.new.self.end c.is_some-2.result c.ended-2.ensures c.is_some-2.ensures c.if-is_some-2.false)
