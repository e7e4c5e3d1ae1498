use Rattle.std.proofs.Common.{refl, sym, ◌∙◌, ap}
use Rattle.lvdc_macro.specs.Macros.{meaning_of}
use Rattle.lvdc_macro.specs.Making.{macros_of}
use Rattle.lvdc_macro.proofs.Stepping.{is_new, definition_begins}
use Rattle.lvdc_macro.proofs.source.outside.Goals as goal

pub call-requires-clause-body : goal.call-requires-clause-body
call-requires-clause-body c = rw c.in-Call.is at (c.in_ok-meaning_of.ensures.within c.args.bytes.now c.requires.bodies)

pub returns-else-not-may_be_named-clause-begun : goal.returns-else-not-may_be_named-clause-begun
returns-else-not-may_be_named-clause-begun c =
    (refl, is_new c.args.bytes.now c.args.macros.now c.in-Begin.name.now (sym (c.may_be_named.ensures c.args.bytes.now) ∙ c.if-not-may_be_named.false))

pub returns-else-not-may_be_named-clause-brings : goal.returns-else-not-may_be_named-clause-brings
returns-else-not-may_be_named-clause-brings c = λ lines.
    definition_begins c.args.bytes.now c.args.macros.now c.args.out.now c.args.line.now c.in-Begin.name.now lines _
    (ap (meaning_of (macros_of c.args.bytes.now c.args.macros.now)) (sym c.part-text.ensures) ∙ (rw c.in-Begin.is at (c.in_ok-meaning_of.ensures.means c.args.bytes.now)))
    (sym (c.may_be_named.ensures c.args.bytes.now) ∙ c.if-not-may_be_named.false)
