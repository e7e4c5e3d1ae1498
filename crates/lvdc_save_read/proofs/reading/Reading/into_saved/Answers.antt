use Rattle.std.proofs.Common.{◌≡◌, sym, ap, ◌∙◌, refl, arith}
use Rattle.lvdc_save.specs.Reading.{Progress, rank}
use Rattle.lvdc_save_read.proofs.Soundness.{whole_last}
use Rattle.lvdc_save_read.proofs.reading.Reading.into_saved.Goals as goal

ended : (c : goal.After-into_whole) → rank c.args.self.section ≡ 15
ended c = ap (λ (r : Progress). rank r.section) (sym c.self.view_is) ∙ sym c.rank.ensures ∙ c.if-rank.false ∙ c.rank-2.ensures

pub returns-clause-saved : goal.returns-clause-saved
returns-clause-saved c = rw (c.into_whole.ensures, ended c) refl

pub returns-clause-whole : goal.returns-clause-whole
returns-clause-whole c = rw c.into_whole.ensures (whole_last c.args.self c.requires (ended c))

pub returns-clause-steps : goal.returns-clause-steps
returns-clause-steps c = rw c.into_whole.ensures (c.requires.counted.within (omega (arith, ended c)))

pub returns-clause-count : goal.returns-clause-count
returns-clause-count c = rw c.into_whole.ensures c.requires.counted.most

pub returns-clause-few : goal.returns-clause-few
returns-clause-few c = rw c.into_whole.ensures c.requires.events.few

pub returns-clause-events : goal.returns-clause-events
returns-clause-events c = rw c.into_whole.ensures c.requires.events.events
