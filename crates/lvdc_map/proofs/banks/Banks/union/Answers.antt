use Rattle.lvdc_map.proofs.Unions.{simplex_in_either, there_in_union}
use Rattle.lvdc_map.proofs.banks.Banks.union.Goals as goal

pub returns-clause-pairs : goal.returns-clause-pairs
returns-clause-pairs c pair = rw (c.self.view_is, c.other.view_is) (simplex_in_either c.args.self c.args.other pair)

pub returns-clause-there : goal.returns-clause-there
returns-clause-there c at there = rw (c.self.view_is, c.other.view_is) (there_in_union c.args.self c.args.other at there)
