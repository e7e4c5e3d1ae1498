-- Worked decks of an empty image.
use Rattle.std.proofs.Common.{◌≡◌, List, ℕ, [], ◌∷◌, refl}
use Rattle.std.specs.Prelude.{codes}
use Rattle.std.specs.Fmt.{digits}
use Rattle.lvdc_text.specs.Joined.{text_of}
use Rattle.lvdc_text.specs.Lines.{lines_from, tokens_from}
use Rattle.lvdc_image.specs.Reading.{banks_named, banks_in, image_of, words_from as words_told}
use Rattle.lvdc_lines.specs.Fields.{step_in, twin_in, pair_in, cell_in, module_copy_in, span_in, place_in}
use Rattle.lvdc_deck.specs.Deck.{told_from, deck_from}
use Rattle.lvdc_reply.specs.Answer.{Answer, answer_with}
use Rattle.lvdc_command_form.specs.Answers.{form_answer}

-- what is answered to the deck of an empty image with these lines after it, from line 4 on, where there are no devices
answered : List (List ℕ) → Answer
answered lines = form_answer (text_of (codes "IMAGE" ∷ codes "LVDC 1" ∷ codes "END" ∷ lines)) []

no_faults : answered (codes "RUN 2" ∷ []) ≡ answer_with 0 (codes "FORM YES\n") []
unfolding answered lines_from tokens_from told_from deck_from words_told image_of
no_faults = refl

-- the second copy fails in the step in which the first one does last
two_copies : answered (codes "FAULTS" ∷ codes "LAG 5 1 0 3" ∷ codes "LAG 5 2 3 9" ∷ codes "RUN 2" ∷ []) ≡ answer_with 0 (codes "FORM NO 1\n") []
unfolding answered lines_from tokens_from told_from deck_from words_told image_of module_copy_in span_in step_in
two_copies = refl

-- the twin comes back, too, but the least condition is told
a_simplex_pair : answered (codes "SIMPLEX 0" ∷ codes "FAULTS" ∷ codes "DAMAGE 0 0 01 000 0 1" ∷ codes "DEAD 0 1 0 1" ∷ codes "RUN 2" ∷ []) ≡ answer_with 0 (codes "FORM NO 2\n") []
unfolding answered lines_from tokens_from told_from deck_from words_told image_of banks_named banks_in twin_in pair_in place_in cell_in span_in step_in
a_simplex_pair = refl

-- of two times the steps are 0 to 5
the_second_after_the_run : answered (codes "FAULTS" ∷ codes "LAG 5 1 0 9" ∷ codes "LAG 5 2 6 9" ∷ codes "RUN 2" ∷ []) ≡ answer_with 0 (codes "FORM YES\n") []
unfolding answered lines_from tokens_from told_from deck_from words_told image_of module_copy_in span_in step_in
the_second_after_the_run = refl

-- two lines name a place
a_place_twice : answered (codes "FAULTS" ∷ codes "DAMAGE 0 0 01 000 0 1" ∷ codes "STICK 1 0 01 000 5 5 0 0" ∷ codes "RUN 2" ∷ []) ≡ answer_with 0 (codes "FORM NO 3\n") []
unfolding answered lines_from tokens_from told_from deck_from words_told image_of twin_in pair_in place_in cell_in span_in step_in
a_place_twice = refl

-- of the steps 0 to 5 the twin is back in the last
back_in_the_last_step : answered (codes "FAULTS" ∷ codes "DEAD 0 1 3 4" ∷ codes "RUN 2" ∷ []) ≡ answer_with 0 (codes "FORM NO 4\n") []
unfolding answered lines_from tokens_from told_from deck_from words_told image_of twin_in pair_in span_in step_in
back_in_the_last_step = refl

no_such_module : answered (codes "FAULTS" ∷ codes "LAG 8 1 0 0" ∷ codes "RUN 2" ∷ []) ≡ answer_with 2 (codes "REFUSED BadLine 5\n") []
unfolding answered lines_from tokens_from told_from deck_from words_told image_of module_copy_in span_in step_in digits
no_such_module = refl
