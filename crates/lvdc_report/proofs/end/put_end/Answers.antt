use Rattle.std.proofs.Common.{◌≡◌, ℕ, List, ◌++◌, codes, decimal, append_assoc}
use Rattle.lvdc_text.specs.Numbers.{octal_text}
use Rattle.lvdc_model.specs.declared.outcome.Outcome.TheVariants.{Device}
use Rattle.lvdc_report.specs.Report.{end_text}
use Rattle.lvdc_report.proofs.end.put_end.Goals as goal

-- the name of the line and its fields, one after another
device_line : (out : List ℕ) (step port : ℕ) → out ++ codes "END DEVICE" ++ (codes " " ++ (decimal step ++ (codes " " ++ (octal_text 3 port ++ codes "\n"))))
    ≡ out ++ end_text (Device step port)
device_line out step port = simp append_assoc

pub returns-in-Device-clause-text : goal.returns-in-Device-clause-text
returns-in-Device-clause-text c =
    rw (c.in-Device.is, ← c.from.ensures, ← device_line c.args.out.now.items c.in-Device.step c.from.result) c.put_line-in-Device.ensures.text
