use Rattle.std.proofs.Common.{List, subst, rules}
use Rattle.std.specs.List.Sorted.{IsPermutation}
use Rattle.std.proofs.lemmas.List.Sorted.{IsNonDecreasingBy-from_sort_by_key}
use Rattle.lvdc_fault.specs.Script.{first_of}
use Rattle.lvdc_fault.specs.declared.event.Event.{Event}
use Rattle.lvdc_withstands.proofs.Steps.{decided}
use Rattle.lvdc_withstands.proofs.copies.has_one_wrong.Goals as goal

pub has_never_two-requires : goal.has_never_two-requires
has_never_two-requires c = rw c.deref.ensures.value (IsNonDecreasingBy-from_sort_by_key first_of _ c.sort_unstable_by_key.ensures.sorted (λ a r q k. search rules))

pub returns : goal.returns
returns c script count e =
    decided count script c.deref.result.now
    (subst (λ (xs : List Event). IsPermutation xs c.deref.result.now) e (rw c.deref.ensures.value c.sort_unstable_by_key.ensures.permutation))
    c.has_never_two.result c.has_never_two.ensures
