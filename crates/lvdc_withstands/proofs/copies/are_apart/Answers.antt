use Rattle.std.proofs.Common.{List, sym, subst, take}
use Rattle.std.proofs.lemmas.List.{take_all}
use Rattle.lvdc_fault.specs.declared.event.Event.{Event}
use Rattle.lvdc_withstands.specs.Copies.{NeverMeet}
use Rattle.lvdc_withstands.proofs.Sweeps.{Swept, rising-take, taken, swept-next, first-meets, second-meets}
use Rattle.lvdc_withstands.proofs.copies.are_apart.Goals as goal

pub returns-in-None : goal.returns-in-None
returns-in-None c =
    let lines = c.args.lines.now in
    let i = c.loop-line.line-index in
    let e = c.line-item.result in
    first-meets lines i c.args.number c.args.one c.args.other c.loop-line.one_until c.loop-line.other_until e c.loop-line-test.true c.line-item.is c.loop-line.invariant
    (rising-take lines i e c.requires c.loop-line-test.true c.line-item.is) c.in-None.ensures

pub returns-in-None-wrong_until : goal.returns-in-None-wrong_until
returns-in-None-wrong_until c =
    let lines = c.args.lines.now in
    let i = c.loop-line.line-index in
    let e = c.line-item.result in
    second-meets lines i c.args.number c.args.one c.args.other c.loop-line.one_until c.loop-line.other_until e c.loop-line-test.true c.line-item.is c.loop-line.invariant
    (rising-take lines i e c.requires c.loop-line-test.true c.line-item.is) c.in-Some.until (taken lines i e c.loop-line-test.true c.line-item.is) c.in-Some.ensures
    c.in-None-wrong_until.ensures

pub loop-line-preserved : goal.loop-line-preserved
loop-line-preserved c =
    let lines = c.args.lines.now in
    let i = c.loop-line.line-index in
    let e = c.line-item.result in
    subst (λ (xs : List Event). Swept xs c.args.number c.args.one c.args.other c.in-Some.until c.in-Some-wrong_until.until) (sym (taken lines i e c.loop-line-test.true c.line-item.is))
    (swept-next (take i lines) e c.args.number c.args.one c.args.other c.loop-line.one_until c.loop-line.other_until c.loop-line.invariant
    (rising-take lines i e c.requires c.loop-line-test.true c.line-item.is) c.in-Some.until c.in-Some-wrong_until.until c.in-Some.ensures c.in-Some-wrong_until.ensures)

pub returns : goal.returns
returns c =
    let lines = c.args.lines.now in
    subst (λ (xs : List Event). NeverMeet xs c.args.number c.args.one c.args.other) (take_all c.loop-line.line-index lines c.loop-line-test.false) c.loop-line.invariant.apart
