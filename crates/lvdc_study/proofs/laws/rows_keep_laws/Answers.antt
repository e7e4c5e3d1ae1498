use Rattle.lvdc_study.proofs.Studying.{each-keeps}
use Rattle.lvdc_study.proofs.laws.rows_keep_laws.Goals as goal

pub returns : goal.returns
returns c = each-keeps c.admissible_comes_to_the_same.ensures c.form_masks.ensures
