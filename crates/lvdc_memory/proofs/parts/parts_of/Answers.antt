-- One part more, and at the end all of them.
use Rattle.std.proofs.Common.{◌≡◌, ℕ, ◌+◌, List, [], ◌∷◌, ◌++◌, length, sym, subst, ap, ◌∙◌, arith}
use Rattle.std.proofs.lemmas.List.{length_push}
use Rattle.lvdc_fault.specs.declared.event.Event.{Event}
use Rattle.lvdc_memory.specs.Parts.{events_of, no_part, part_at, IsWithin}
use Rattle.lvdc_memory.specs.declared.parts.Part.{Part}
use Rattle.lvdc_memory.proofs.PartLaws.{push_next}
use Rattle.lvdc_memory.proofs.parts.parts_of.Goals as goal

pub loop-number-preserved : goal.loop-number-preserved
loop-number-preserved c =
    let so_far = c.loop-number.invariant in
    let events = c.args.events.now in
    let before = c.loop-number.parts.items in
    let part = c.unknown.result in
    let items : c.push.new.self.items ≡ before ++ part ∷ [] = c.in_ok-push.ensures.items in
    let here : IsWithin (events_of events (length before)) part =
    subst (λ (n : ℕ). IsWithin (events_of events n) part) (sym so_far.count) (subst (λ (es : List Event). IsWithin es part) c.part_of.ensures c.unknown.ensures) in
    record {
      few = omega (arith, c.loop-number-test.true);
      count = ap (λ (ps : List Part). length ps) items ∙ length_push before part ∙ ap (λ (n : ℕ). n + 1) so_far.count;
      within = λ k below.
          subst (λ (ps : List Part). IsWithin (events_of events k) (part_at ps k)) (sym items)
          (push_next (λ (n : ℕ) (p : Part). IsWithin (events_of events n) p) before part no_part (λ n h. so_far.within n (omega (arith, h, so_far.count))) here k
          (omega (arith, below, so_far.count)));
    }

pub returns : goal.returns
returns c =
    let so_far = c.loop-number.invariant in
    record {
      whole = omega (arith, so_far.count, c.loop-number-test.false, c.div_ceil-count.ensures);
      few = omega (arith, so_far.count, so_far.few, c.div_ceil-count.ensures);
      within = λ k below. so_far.within k (omega (arith, below, so_far.count));
    }
