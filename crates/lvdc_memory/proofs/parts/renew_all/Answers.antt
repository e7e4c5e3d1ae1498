-- One part more is right, and the others are as they were.
use Rattle.std.proofs.Common.{◌≡◌, ◌≢◌, ℕ, ◌<◌, ◌≤◌, List, [], length, get_or, set, length-set, refl, sym, subst, ◌∙◌, ap, arith}
use Rattle.std.specs.Prelude.{IfSome}
use Rattle.std.proofs.lemmas.List.{get_or-set_same, get_or-set_other}
use Rattle.std.proofs.lemmas.Option.{get_or_from_slice_get, slice_get-get_or}
use Rattle.lvdc_fault.specs.declared.event.Event.{Event}
use Rattle.lvdc_memory.specs.News.{new_events}
use Rattle.lvdc_memory.specs.Parts.{no_part, part_at, events_of, IsRight, IsWithin}
use Rattle.lvdc_memory.specs.declared.parts.Part.{Part}
use Rattle.lvdc_fault.proofs.Lists.{set_next}
use Rattle.lvdc_memory.proofs.parts.renew_all.Goals as goal

pub loop-number-preserved : goal.loop-number-preserved
loop-number-preserved c =
    let so_far = c.loop-number.invariant in
    let i = c.loop-number.number in
    let items = c.loop-number.parts in
    let old = get_or items i c.index-parts-number.result in
    let new = c.renew.new.self in
    let events = c.args.events.now in
    let given = c.args.parts.now in
    let last = c.args.last in
    let step = c.args.step in
    let within : i < length items = omega (arith, so_far.count, c.loop-number-test.true) in
    let was : part_at given i ≡ old =
    sym (so_far.others i (omega arith)) ∙ get_or_from_slice_get items i old no_part (slice_get-get_or items i c.index-parts-number.result within) in
    let same : (get_or (set items i new) i c.index-parts-number-in-loop-number.result).until ≡ new.until =
    ap (λ (p : Part). p.until) (get_or-set_same items i new c.index-parts-number-in-loop-number.result within) in
    let kept : IsWithin (events_of events i) old → IsWithin (events_of events i) new =
    subst (λ (es : List Event). IsWithin es old → IsWithin es new) c.part_of.ensures c.renew.ensures.within in
    let right : IfSome last (λ at. IsRight (events_of events i) at old) → IsRight (events_of events i) step new =
    subst (λ (es : List Event). IfSome last (λ at. IsRight es at old) → IsRight es step new) c.part_of.ensures c.renew.ensures.right in
    let none : new.since ≢ step → IfSome last (λ at. IsRight (events_of events i) at old) → new_events last step (events_of events i) ≡ [] =
    subst (λ (es : List Event). new.since ≢ step → IfSome last (λ at. IsRight es at old) → new_events last step es ≡ []) c.part_of.ensures c.renew.ensures.new in
    record {
      count = length-set items i new ∙ so_far.count;
      until = set_next (λ (k : ℕ) (p : Part). c.min-until.result ≤ p.until) items i i new no_part refl within
          (λ k below. omega (arith, so_far.until k below, c.min-until.ensures)) (omega (arith, same, c.min-until.ensures));
      within = set_next (λ (k : ℕ) (p : Part). IsWithin (events_of events k) (part_at given k) → IsWithin (events_of events k) p) items i i new no_part refl within so_far.within
          (λ before. kept (subst (IsWithin (events_of events i)) was before));
      right = set_next (λ (k : ℕ) (p : Part). IfSome last (λ at. IsRight (events_of events k) at (part_at given k)) → IsRight (events_of events k) step p) items i i new no_part
          refl within so_far.right
          (λ before. right (subst (λ (p : Part). IfSome last (λ at. IsRight (events_of events i) at p)) was before));
      new = set_next
          (λ (k : ℕ) (p : Part). p.since ≢ step → IfSome last (λ at. IsRight (events_of events k) at (part_at given k)) → new_events last step (events_of events k) ≡ []) items i i
          new no_part refl within so_far.new
          (λ other before. none other (subst (λ (p : Part). IfSome last (λ at. IsRight (events_of events i) at p)) was before));
      others = λ k low. get_or-set_other items i k new no_part (λ (same : k ≡ i). omega (arith, same, low)) ∙ so_far.others k (omega (arith, low));
    }

pub returns-clause-parts : goal.returns-clause-parts
returns-clause-parts c =
    let so_far = c.loop-number.invariant in
    let parts = c.requires.parts in
    record {
      whole = omega (arith, parts.whole, so_far.count);
      few = omega (arith, parts.few, so_far.count);
      within = λ k below.
          so_far.within k (omega (arith, below, so_far.count, c.loop-number-test.false)) (parts.within k (omega (arith, below, so_far.count)));
    }
