use Rattle.std.proofs.Common.{rules, tests, nat_eq, not, [], ◌≡◌, Bool, true, false, true≢false, Result, Ok, Err, is_err, OnErr, List, ℕ, map, length, cond, sym, ap, ◌∙◌, arith}
use Rattle.std.specs.List.{slice_split}
use Rattle.std.proofs.lemmas.Iterator.Splits.{YieldsList-from_slice_split}
use Rattle.std.proofs.lemmas.Iterator.Consumers.{YieldsList-at, YieldsList-turn, YieldsList-end}
use Rattle.lvdc_source.specs.Numbers.{is_comma}
use Rattle.lvdc_macro.specs.Substitution.{arguments_of}
use Rattle.lvdc_macro.proofs.arguments.arguments_of.Goals as goal

-- an operand that isn't empty is split
split_where : (operand : List ℕ) (e : Bool) → e ≡ nat_eq (length operand) 0 → e ≡ false → arguments_of operand ≡ slice_split is_comma operand
split_where operand e is some = ap (λ (b : Bool). cond (not b) (slice_split is_comma operand) []) (sym is ∙ some)

on_err : {T E : Type 0} (r : Result T E) (P : Type 0) → is_err r ≡ true → OnErr r P → P
on_err (Ok x) P e h = absurd (true≢false (sym e))
on_err (Err x) P e h = h

pub returns-clause-some : goal.returns-clause-some
returns-clause-some c =
    ap (map (λ a. a.now)) c.loop-argument.invariant.2
    ∙ (YieldsList-end
    (YieldsList-at c.into_iter-argument-iterator.ensures.into_iter_gives
    (YieldsList-from_slice_split _ is_comma c.args.operand.now c.split-argument-items.ensures.rest c.split-argument-items.ensures.done c.split-argument-items.ensures.closure (λ x r q k. search (rules, tests))))
    c.loop-argument.yielded _ c.loop-argument.yielded_by _ _ c.in-None.is c.next.ensures.steps).0
    ∙ sym (split_where c.args.operand.now c.is_empty.result c.is_empty.ensures c.if-is_empty.false)

pub returns-then-is_err-clause-none : goal.returns-then-is_err-clause-none
returns-then-is_err-clause-none c =
    let turn = (YieldsList-turn
    (YieldsList-at c.into_iter-argument-iterator.ensures.into_iter_gives
    (YieldsList-from_slice_split _ is_comma c.args.operand.now c.split-argument-items.ensures.rest c.split-argument-items.ensures.done c.split-argument-items.ensures.closure (λ x r q k. search (rules, tests))))
    c.loop-argument.yielded _ c.loop-argument.yielded_by _ _ _ c.in-Some.is c.next.ensures.steps).0 in
    let parts = split_where c.args.operand.now c.is_empty.result c.is_empty.ensures c.if-is_empty.false in
    let items = c.loop-argument.invariant.2 in
    let full : length c.loop-argument.arguments.items ≡ 9 = on_err c.try_push.result _ (sym c.is_err.ensures.value ∙ c.if-is_err.true) c.try_push.ensures.full in
    omega (arith, ap length parts, ap length items, turn, full)
