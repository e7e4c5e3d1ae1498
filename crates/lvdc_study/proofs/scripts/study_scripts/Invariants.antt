use Rattle.std.proofs.Common.{◌≡◌, ◌++◌, All, Contains}
use Rattle.lvdc_runs.specs.Scripts.{IsScript}
use Rattle.lvdc_study.specs.Study.{opening_over, rows_of}
use Rattle.lvdc_study.proofs.scripts.study_scripts.Given as goal

abbrev pub invariant-loop-named : goal.invariant-loop-named
invariant-loop-named g l = record {
  rows : l.rows.items ++ rows_of (opening_over l.fn.program (g.B.Bench.devices l.fn.bench)) l.fn.program.count l.named-iterator.rest.items
      ≡ rows_of (opening_over l.fn.program (g.B.Bench.devices l.fn.bench)) l.fn.program.count l.fn.scripts.items;
  left : All IsScript l.named-iterator.rest.items;
  known : All (Contains l.fn.scripts.items) l.named-iterator.rest.items;
}
