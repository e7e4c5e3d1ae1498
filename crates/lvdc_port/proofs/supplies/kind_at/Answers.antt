use Rattle.std.proofs.Common.{sym, ap, ◌∙◌, arith}
use Rattle.std.specs.declared.option.Option.TheVariants.{Some}
use Rattle.lvdc_port.proofs.Places.{first_within}
use Rattle.lvdc_port.proofs.Supplied.{kind_first, kind_lacking}
use Rattle.lvdc_port.proofs.supplies.kind_at.Goals as goal

pub index-requires : goal.index-requires
index-requires g c = omega (arith, first_within c.in-Some.ensures, c.deref.ensures.len)

pub returns-in-Some : goal.returns-in-Some
returns-in-Some g c =
    ap (λ k. Some k) c.kind_of.ensures
    ∙ sym (kind_first _ (rw c.deref.ensures.value at c.in-Some.ensures) c.index.ensures)

pub returns-in-None : goal.returns-in-None
returns-in-None g c = sym (kind_lacking (rw c.deref.ensures.value at c.in-None.ensures))
