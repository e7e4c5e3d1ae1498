-- What is asked of the rows of a campaign: an admissible one that differs breaks it, whatever stands beside it.
use Rattle.std.proofs.Common.{◌≡◌, true, false, true≢false, List, [], ◌∷◌, refl, sym}
use Rattle.std.proofs.lemmas.List.Elements.{All-head, All-tail}
use Rattle.lvdc_fault.specs.declared.verdict.Verdict.TheVariants.{Admissible, Logic}
use Rattle.lvdc_campaign.specs.declared.row.Row.{Row}
use Rattle.lvdc_command_campaign.specs.Answers.{AreSame}

abbrev differs : Row
differs = record { name = []; verdict = Admissible; same = false }

abbrev not_admitted : Row
not_admitted = record { name = []; verdict = Logic 4 3; same = false }

an_admissible_one_differs : (rows : List Row) → AreSame (differs ∷ rows) → ⊥
an_admissible_one_differs rows same = true≢false (sym (All-head (λ (row : Row). row.verdict ≡ Admissible → row.same ≡ true) differs rows same refl))

the_second_one_differs : (rows : List Row) → AreSame (not_admitted ∷ differs ∷ rows) → ⊥
the_second_one_differs rows same = an_admissible_one_differs rows (All-tail (λ (row : Row). row.verdict ≡ Admissible → row.same ≡ true) not_admitted (differs ∷ rows) same)
