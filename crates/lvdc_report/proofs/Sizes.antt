-- How long the titles are.
use Rattle.std.proofs.Common.{◌≤◌, length, arith}
use Rattle.lvdc_report.specs.Report.{title_line}
use Rattle.lvdc_report.specs.declared.title.Title.{Title}
use Rattle.lvdc_report.specs.declared.title.Title.TheVariants.{Run, Plain, Through}

pub length-title_line : (title : Title) → length (title_line title) ≤ 13
length-title_line Run = omega arith
length-title_line Plain = omega arith
length-title_line Through = omega arith
