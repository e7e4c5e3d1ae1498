use Rattle.std.proofs.Common.{◌≡◌, ◌∷◌, ◌++◌, [], None, length, rules, ap, ◌∙◌, arith}
use Rattle.std.specs.List.{slice_split}
use Rattle.lvdc_text.specs.Numbers.{number_of}
use Rattle.lvdc_source.specs.Numbers.{is_comma, octals_in, octals_of}
use Rattle.lvdc_source.proofs.Fields.{with_numbers, octals_of-split, at_number, at_other, at_full}
use Rattle.lvdc_source.proofs.numbers.octals.Goals as goal

pub loop-rest-init : goal.loop-rest-init
loop-rest-init c = rw c.new-numbers.ensures (octals_of-split c.args.text.now)

pub returns-in_err-number-clause-none : goal.returns-in_err-number-clause-none
returns-in_err-number-clause-none c =
    let so_far : with_numbers c.loop-rest.numbers.items (octals_in (slice_split is_comma c.in-Some.fields.now)) ≡ octals_of c.args.text.now =
    rw c.in-Some.is at c.loop-rest.invariant in
    let none : octals_of c.args.text.now ≡ None =
    at_other c.loop-rest.numbers.items c.in-Some.fields.now (octals_of c.args.text.now) so_far (c.in_err-number.ensures.value ∙ ap (number_of 8 9) c.cut.ensures.before) in
    rw (c.from_residual.ensures, none) tt

pub returns-then-is_err-clause-none : goal.returns-then-is_err-clause-none
returns-then-is_err-clause-none c =
    let so_far : with_numbers c.loop-rest.numbers.items (octals_in (slice_split is_comma c.in-Some.fields.now)) ≡ octals_of c.args.text.now =
    rw c.in-Some.is at c.loop-rest.invariant in
    let exact : length c.loop-rest.numbers.items ≡ 4 = search rules in
    at_full c.loop-rest.numbers.items c.in-Some.fields.now (octals_of c.args.text.now) so_far c.in_ok-number.number (omega arith)
    (c.in_ok-number.ensures.value ∙ ap (number_of 8 9) c.cut.ensures.before)

pub loop-rest-preserved : goal.loop-rest-preserved
loop-rest-preserved c =
    let so_far : with_numbers c.loop-rest.numbers.items (octals_in (slice_split is_comma c.in-Some.fields.now)) ≡ octals_of c.args.text.now =
    rw c.in-Some.is at c.loop-rest.invariant in
    let pushed : c.try_push.new.self.items ≡ c.loop-rest.numbers.items ++ c.in_ok-number.number ∷ [] = search rules in
    rw (pushed, c.cut.ensures.after)
    (at_number c.loop-rest.numbers.items c.in-Some.fields.now (octals_of c.args.text.now) so_far c.in_ok-number.number
    (c.in_ok-number.ensures.value ∙ ap (number_of 8 9) c.cut.ensures.before))
