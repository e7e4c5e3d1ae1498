use Rattle.std.proofs.Common.{◌≡◌, ℕ, List, ◌++◌, codes, decimal, append_assoc}
use Rattle.lvdc_map.specs.Address.{Spot}
use Rattle.lvdc_text.specs.Pieces.{spot_text}
use Rattle.lvdc_fault.specs.declared.verdict.Verdict.TheVariants as verdicts
use Rattle.lvdc_model.specs.declared.outcome.Outcome.TheVariants.{Inadmissible}
use Rattle.lvdc_report.specs.Report.{end_text}
use Rattle.lvdc_report.proofs.end.put_inadmissible.Goals as goal

-- the name of the line and its fields, one after another
logic_line : (out : List ℕ) (step number : ℕ) → out ++ codes "END INADMISSIBLE" ++ (codes " " ++ (decimal step ++ (codes " LOGIC " ++ (decimal number ++ codes "\n"))))
    ≡ out ++ end_text (Inadmissible (verdicts.Logic step number))
logic_line out step number = simp append_assoc

memory_line : (out : List ℕ) (step : ℕ) (at : Spot) → out ++ codes "END INADMISSIBLE" ++ (codes " " ++ (decimal step ++ (codes " MEMORY " ++ (spot_text at ++ codes "\n"))))
    ≡ out ++ end_text (Inadmissible (verdicts.Memory step at))
memory_line out step at = simp append_assoc

pub returns-in-Logic-clause-text : goal.returns-in-Logic-clause-text
returns-in-Logic-clause-text c =
    rw (c.in-Logic.is, ← logic_line c.args.out.now.items c.in-Logic.step c.in-Logic.module) c.put_line-in-Logic.ensures.text

pub returns-in-Memory-clause-text : goal.returns-in-Memory-clause-text
returns-in-Memory-clause-text c =
    rw (c.in-Memory.is, ← memory_line c.args.out.now.items c.in-Memory.step c.in-Memory.address) c.put_line-in-Memory.ensures.text
