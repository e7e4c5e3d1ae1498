-- A run that is long enough is the least place; one that ends early rules out the places up to its end.
use Rattle.std.proofs.Common.{◌≡◌, ◌+◌, ◌-◌, ◌%◌, ◌<◌, ◌≤◌, max, true, false, Some, sym, ap, ◌∙◌, arith, inl, inr}
use Rattle.std.specs.Option.{option_map}
use Rattle.std.proofs.lemmas.Bool.{cases_lt}
use Rattle.lvdc_place.specs.Slot.{Slot, slot_at, slot_after}
use Rattle.lvdc_place.specs.Slots.{set_of, is_free_at, are_free, slots_at, block_slots}
use Rattle.lvdc_place.proofs.Least.{least-is, least-none}
use Rattle.lvdc_place.proofs.Runs.{free-all, none-before}
use Rattle.lvdc_place.proofs.taken.Taken.least_free.Goals as goal

pub returns-then-run-size-clause-place : goal.returns-then-run-size-clause-place
returns-then-run-size-clause-place c =
    let taken = set_of c.args.self.now in
    let kind = c.args.kind.now in
    let size = c.args.size in
    let from = c.args.from in
    let number = c.loop-number.number in
    let low : from ≤ number = c.loop-number.invariant.low in
    let high : number < c.args.end = c.loop-number-test.true in
    let whole : c.free_run-run.result ≡ size = c.if-run-size.true in
    let passes : is_free_at taken kind size number ≡ true =
    ap (λ (slot : Slot). are_free taken (block_slots kind size slot)) (sym c.numbered-place.ensures)
    ∙ free-all taken kind size c.numbered-place.result (record { free = λ k below. c.free_run-run.ensures.free k (omega arith) }) in
    ap Some c.numbered-place.ensures
    ∙ ap (option_map slot_at) (sym (least-is (is_free_at taken kind size) from (c.args.end - from) number low (omega arith) passes c.loop-number.invariant.none))

pub loop-number-preserved : goal.loop-number-preserved
loop-number-preserved c =
    let taken = set_of c.args.self.now in
    let kind = c.args.kind.now in
    let size = c.args.size in
    let number = c.loop-number.number in
    let run = c.free_run-run.result in
    let place = c.numbered-place.result in
    let low : c.args.from ≤ number = c.loop-number.invariant.low in
    let most : run ≤ size = c.free_run-run.ensures.most in
    let other : run ≡ size → ⊥ = c.if-run-size.false in
    let short : run < size = omega arith in
    let at : place.loc ≡ number % 256 = ap (λ (slot : Slot). slot.loc) c.numbered-place.ensures in
    let reach : place.loc + run ≤ 256 = c.free_run-run.ensures.within in
    let within : number % 256 + run ≤ 256 = omega arith in
    let ends : are_free taken (slots_at kind (slot_after (slot_at number) run)) ≡ false =
    ap (λ (slot : Slot). are_free taken (slots_at kind (slot_after slot run))) (sym c.numbered-place.ensures) ∙ c.free_run-run.ensures.end short in
    let step : c.from-number.result ≡ max run 1 = c.from-number.ensures ∙ c.max.ensures in
    record {
      low = omega arith;
      none = record {
        fails = λ p a b. elim (cases_lt p number) [
          | inl early ↦ c.loop-number.invariant.none.fails p a early
          | inr late ↦ none-before taken kind size number run p within short ends late (omega arith)
        ];
      };
    }

pub returns-clause-place : goal.returns-clause-place
returns-clause-place c =
    let taken = set_of c.args.self.now in
    let from = c.args.from in
    let end = c.args.end in
    let number = c.loop-number.number in
    let low : from ≤ number = c.loop-number.invariant.low in
    let past : end ≤ number = c.loop-number-test.false in
    ap (option_map slot_at) (sym (least-none (is_free_at taken c.args.kind.now c.args.size) from (end - from)
    (record { fails = λ p a b. c.loop-number.invariant.none.fails p a (omega arith) })))
