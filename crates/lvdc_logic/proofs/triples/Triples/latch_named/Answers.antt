use Rattle.std.proofs.Common.{ℕ, ◌<◌, ◌≤◌, length, take, slice_index_or, refl, sym, ◌∙◌, ap, subst}
use Rattle.std.proofs.lemmas.List.{take_all}
use Rattle.lvdc_vote.specs.Copies.{IsFullOrder}
use Rattle.lvdc_logic.specs.Latching.{after_numbers}
use Rattle.lvdc_forces.specs.InForce.{faults_at, mark_at}
use Rattle.lvdc_logic.specs.Harmed.{latched_under}
use Rattle.lvdc_logic.proofs.Numbers.{numbers_none, numbers_more, numbers_pass, numbers_fresh, latched_stays}
use Rattle.lvdc_logic.proofs.triples.Triples.latch_named.Goals as goal
use Rattle.lvdc_logic.proofs.triples.Triples.latch_named.Goals.{then-is_marked, else-is_marked}

pub latch_next-requires-clause-fresh : goal.latch_next-requires-clause-fresh
latch_next-requires-clause-fresh c =
    let i = c.loop-number.number-index in
    let n = slice_index_or c.copies-number-items.result.now i 0 in
    let same = c.copies-number-items.ensures.copies in
    let full = c.copies-number-items.ensures.full in
    let words = λ (n : ℕ). latched_under (faults_at c.args.force.now.copies n) c.args.self.now c.args.voted.now n in
    rw c.loop-number.invariant
    (numbers_fresh c.args.self.now (mark_at c.args.force.now.marks) c.args.order.now i n words c.requires.fresh
    (subst (IsFullOrder 21) same full).each_once.once
    (subst (λ o. i < length o) same c.loop-number-test.true)
    (ap (λ o. slice_index_or o i 0) (sym same))
    (full.each_once.below i 0 c.loop-number-test.true))

pub loop-number-preserved : goal.loop-number-preserved
loop-number-preserved c =
    let i = c.loop-number.number-index in
    let t = c.args.self.now in
    let named = mark_at c.args.force.now.marks in
    let order = c.args.order.now in
    let n = slice_index_or c.copies-number-items.result.now i 0 in
    let same = c.copies-number-items.ensures.copies in
    let words = λ (n : ℕ). latched_under (faults_at c.args.force.now.copies n) t c.args.voted.now n in
    let within = subst (λ o. i < length o) same c.loop-number-test.true in
    let at = ap (λ o. slice_index_or o i 0) (sym same) in
    elim c.if-is_marked.branch [
      | then-is_marked w ↦
          w.self-is ∙ w.latch_next.ensures
          ∙ rw (c.loop-number.invariant, w.on_copy.ensures, latched_stays (faults_at c.args.force.now.copies n) t named (take i order) words c.args.voted.now n)
          (numbers_more t named order i n words (words n) within at refl (sym c.is_marked.ensures ∙ w.if-is_marked.true))
      | else-is_marked w ↦ w.self-is ∙ c.loop-number.invariant ∙ numbers_pass t named order i n words within at (sym c.is_marked.ensures ∙ w.if-is_marked.false)
    ]

pub returns-clause-value : goal.returns-clause-value
returns-clause-value c =
    let t = c.args.self.now in
    let named = mark_at c.args.force.now.marks in
    let words = λ (n : ℕ). latched_under (faults_at c.args.force.now.copies n) t c.args.voted.now n in
    let within = subst (λ o. length o ≤ c.loop-number.number-index) c.copies-number-items.ensures.copies c.loop-number-test.false in
    c.loop-number.invariant ∙ ap (λ order. after_numbers t named order words) (take_all c.loop-number.number-index c.args.order.now within)

pub loop-number-init : goal.loop-number-init
loop-number-init c =
    numbers_none c.args.self.now (mark_at c.args.force.now.marks) (λ n. latched_under (faults_at c.args.force.now.copies n) c.args.self.now c.args.voted.now n)
