use Rattle.std.proofs.Common.{◌≡◌, ℕ, List, [], ◌++◌, codes, decimal, append_assoc}
use Rattle.std.proofs.lemmas.List.{append-nil}
use Rattle.lvdc_command_campaign.specs.Texts.{counts_text}
use Rattle.lvdc_command_campaign.proofs.text.put_counts.Goals as goal

-- the title and the counts, one after another
counts : (out title : List ℕ) (scripts admissible same : ℕ)
    → out ++ (title ++ (codes " " ++ (decimal scripts ++ (codes " ADMISSIBLE " ++ (decimal admissible ++ (codes " SAME " ++ (decimal same ++ []))))))) ≡ out ++ counts_text title scripts admissible same
counts out title scripts admissible same = simp (append_assoc, append-nil)

pub returns-clause-text : goal.returns-clause-text
returns-clause-text c = rw (← counts c.args.out.now.items c.args.title.now c.args.scripts c.args.admissible c.args.same) c.put.ensures.text
