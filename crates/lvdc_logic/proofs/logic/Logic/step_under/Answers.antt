use Rattle.std.proofs.Common.{rules, arith, [], ◌∷◌, Bool, false, ◌&&◌, ◌+◌, ◌^◌, refl, sym, ◌∙◌, ap, subst}
use Rattle.std.proofs.lemmas.Bool.{false≢true}
use Rattle.lvdc_vote.proofs.Differences.{none_differs}
use Rattle.lvdc_modules.specs.States.{timer_latches, locator_latches, decoder_latches, selector_latches, accumulator_latches, multiplier_latches, exchange_latches}
use Rattle.lvdc_modules.specs.Rows.{rows}
use Rattle.lvdc_modules.specs.declared.bus.Bus.{Bus}
use Rattle.lvdc_model.specs.Voted.{next_copies, thrice}
use Rattle.lvdc_logic.specs.Logic.{DifferedAtMost}
use Rattle.lvdc_forces.specs.InForce.{mark_at}
use Rattle.lvdc_logic.specs.Counts.{counts_in}
use Rattle.lvdc_logic.specs.Latching.{alike, copies_by, copies_in, new_latches}
use Rattle.lvdc_logic.specs.declared.triples.Triples.{Triples}
use Rattle.lvdc_logic.proofs.Alike.{alike_voted, renewed_alike, votes_with}
use Rattle.lvdc_logic.proofs.Commits.{steps_are}
use Rattle.lvdc_logic.proofs.Differing.{agreed_counted, counted_at_most}
use Rattle.lvdc_logic.proofs.logic.Logic.step_under.Goals as goal

pub returns-else-force-clause-copies : goal.returns-else-force-clause-copies
returns-else-force-clause-copies c script step events in_force =
    let l = c.self.inside in
    let t = copies_by l.apart l.triples l.bus in
    let force = c.args.force.now in
    let votes = votes_with (copies_in t) l.bus c.args.memory c.args.port c.self.invariant.votes in
    let voted : Bus = record l.bus { memory = c.args.memory; port = c.args.port } in
    rw (← c.self.view_is)
    (ap (λ (b : Bus). copies_in (alike b)) c.renew.ensures
    ∙ ap copies_in (renewed_alike t voted c.self.invariant.fresh)
    ∙ steps_are script step t (λ n. false) [] voted (new_latches script step t voted) c.self.invariant.fresh (λ n h. refl) (λ n h e. absurd (false≢true e))
    (λ n h off. in_force.others n h (ap (λ (any : Bool). any && mark_at force.marks n) c.if-force.false))
    ∙ ap (next_copies script step 1 rows (copies_in t) (copies_in t)) votes)

pub returns-else-force-clause-counts : goal.returns-else-force-clause-counts
returns-else-force-clause-counts c =
    let b = c.renew.new.self in
    let counts = c.self.inside.counts in
    rw (← c.self.view_is)
    (λ i.
    agreed_counted (thrice (timer_latches b.timer)) counts.timer (search rules) (none_differs (timer_latches b.timer)) i
    ∷ agreed_counted (thrice (locator_latches b.locator)) counts.locator (search rules) (none_differs (locator_latches b.locator)) i
    ∷ agreed_counted (thrice (decoder_latches b.decoder)) counts.decoder (search rules) (none_differs (decoder_latches b.decoder)) i
    ∷ agreed_counted (thrice (selector_latches b.selector)) counts.selector (search rules) (none_differs (selector_latches b.selector)) i
    ∷ agreed_counted (thrice (accumulator_latches b.accumulator)) counts.accumulator (search rules) (none_differs (accumulator_latches b.accumulator)) i
    ∷ agreed_counted (thrice (multiplier_latches b.multiplier)) counts.multiplier (search rules) (none_differs (multiplier_latches b.multiplier)) i
    ∷ agreed_counted (thrice (exchange_latches b.exchange)) counts.exchange (search rules) (none_differs (exchange_latches b.exchange)) i
    ∷ [])

pub returns-else-force-clause-differed : goal.returns-else-force-clause-differed
returns-else-force-clause-differed c most before number copy =
    omega (arith, subst (DifferedAtMost most) (ap (λ v. v.counts) (sym c.self.view_is)) before number copy)

pub returns-then-force-clause-copies : goal.returns-then-force-clause-copies
returns-then-force-clause-copies c script step events in_force =
    let l = c.self.inside in
    let t = copies_by l.apart l.triples l.bus in
    rw (← c.self.view_is)
    (c.step.ensures.copies script step events in_force
    ∙ ap (λ (t : Triples). next_copies script step 1 rows (copies_in t) (copies_in t) (record l.bus { memory = c.args.memory; port = c.args.port })) c.stand_apart.ensures
    ∙ ap (next_copies script step 1 rows (copies_in t) (copies_in t)) (votes_with (copies_in t) l.bus c.args.memory c.args.port c.self.invariant.votes))

pub returns-then-force-clause-counts : goal.returns-then-force-clause-counts
returns-then-force-clause-counts c = rw (← c.self.view_is) c.step.ensures.counts

pub returns-then-force-clause-differed : goal.returns-then-force-clause-differed
returns-then-force-clause-differed c most before =
    subst (DifferedAtMost (most + 1)) (sym c.step.ensures.counts)
    (counted_at_most most (copies_in c.step.new.self) (counts_in c.self.inside.counts) (subst (DifferedAtMost most) (ap (λ v. v.counts) (sym c.self.view_is)) before))

pub step-requires-clause-differed : goal.step-requires-clause-differed
step-requires-clause-differed c = subst (DifferedAtMost (2 ^ 63)) (ap (λ v. v.counts) (sym c.self.view_is)) c.requires.differed

pub invariant_of-self-else-force : goal.invariant_of-self-else-force
invariant_of-self-else-force c =
    alike_voted c.renew.new.self (ap (λ (b : Bus). b.memory) c.renew.ensures) (ap (λ (b : Bus). b.port) c.renew.ensures)

pub step-requires-clause-votes : goal.step-requires-clause-votes
step-requires-clause-votes c =
    let l = c.self.inside in
    let t = copies_by l.apart l.triples l.bus in
    rw c.stand_apart.ensures (votes_with (copies_in t) l.bus c.args.memory c.args.port c.self.invariant.votes)
