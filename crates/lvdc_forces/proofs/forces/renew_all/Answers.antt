use Rattle.std.proofs.Common.{◌≡◌, ℕ, ◌<◌, ◌≤◌, length, get_or, length-set, refl, sym, subst, ◌∙◌, arith}
use Rattle.std.proofs.lemmas.List.{get_or-set_other}
use Rattle.std.proofs.lemmas.Option.{get_or_from_slice_get, slice_get-get_or}
use Rattle.lvdc_forces.specs.Parts.{no_part, part_of_script, events_of_part, IsRightUntil}
use Rattle.lvdc_forces.specs.declared.part.Part.{Part}
use Rattle.lvdc_fault.proofs.Lists.{set_next}
use Rattle.lvdc_forces.proofs.forces.renew_all.Goals as goal

pub loop-number-preserved : goal.loop-number-preserved
loop-number-preserved c =
    let so_far = c.loop-number.invariant in
    let i = c.loop-number.number in
    let items = c.loop-number.parts.items in
    let new = c.renew.new.part in
    let script = c.args.script.now in
    let within : i < length items = omega (arith, so_far.count, c.loop-number-test.true, c.len-number-end.ensures) in
    let was = c.index_mut.result.now in
    let here : part_of_script items i ≡ was = get_or_from_slice_get items i (get_or items i was) no_part (slice_get-get_or items i was within) ∙ sym c.index_mut.ensures.value in
    record {
      count = length-set items i new ∙ so_far.count;
      later = omega (arith, so_far.later, c.renew.ensures.later, c.renew.ensures.until, c.min-until.ensures);
      until = set_next (λ (k : ℕ) (p : Part). c.min-until.result ≤ p.until) items i i new no_part refl within
          (λ k below. omega (arith, so_far.until k below, c.min-until.ensures)) (omega (arith, c.renew.ensures.until, c.min-until.ensures));
      right = set_next (λ (k : ℕ) (p : Part). IsRightUntil (events_of_part script k) c.args.at (part_of_script c.args.parts.now.items k) → IsRightUntil (events_of_part script k) c.args.step p) items i i new
          no_part refl within so_far.right
          (λ before. c.renew.ensures.right (subst (IsRightUntil (events_of_part script i) c.args.at) (sym (so_far.others i (omega arith)) ∙ here) before));
      others = λ k low. get_or-set_other items i k new no_part (λ (same : k ≡ i). omega (arith, same, low)) ∙ so_far.others k (omega (arith, low));
    }

pub returns-clause-right : goal.returns-clause-right
returns-clause-right c before k below =
    c.loop-number.invariant.right k (omega (arith, below, c.loop-number-test.false, c.len-number-end.ensures)) (before k below)
