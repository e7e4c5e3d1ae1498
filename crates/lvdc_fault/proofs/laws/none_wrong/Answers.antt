use Rattle.std.proofs.Common.{IsNone, refl, sym, subst}
use Rattle.lvdc_fault.specs.Script.{two_wrong, wrong_module}
use Rattle.lvdc_fault.proofs.Lowest.{none_of_seven}
use Rattle.lvdc_fault.proofs.laws.none_wrong.Goals as goal

pub returns : goal.returns
returns c script step e = (none_of_seven (two_wrong script step) (wrong_module script step) refl).0 (subst IsNone (sym e) refl)
