-- Worked messages: what comes before what, and the greatest numbers.
use Rattle.std.proofs.Common.{◌≡◌, ℕ, List, [], ◌∷◌, None, refl, codes}
use Rattle.lvdc_image.specs.Image.{Contents}
use Rattle.lvdc_text.specs.Numbers.{word_in}
use Rattle.lvdc_lines.specs.Fields.{pair_in, place_in}
use Rattle.lvdc_uplink.specs.Messages.{id_in, count_in}
use Rattle.lvdc_uplink.specs.Link.{link_to}
use Rattle.lvdc_uplink.specs.History.{answers_from}
use Rattle.lvdc_uplink.specs.declared.answer.Answer.{Answer}
use Rattle.lvdc_uplink.specs.declared.answer.Answer.TheVariants.{Opened, Framed, Form, Missing}

empty : Contents
empty = record { words = []; start = None; banks = 0 }

answers : List (List ℕ) → List Answer
answers texts = answers_from (link_to empty) texts

-- a frame that is missing comes before a wrong check word
missing_first : answers (codes "OPEN 1 2" ∷ codes "COMMIT 1 5" ∷ codes "FRAME 1 1 0 01 000 5 407" ∷ codes "COMMIT 1 5" ∷ []) ≡ Opened 1 ∷ Missing 1 ∷ Framed 1 1 ∷ Missing 2 ∷ []
unfolding answers empty word_in pair_in place_in id_in count_in
missing_first = refl

-- the greatest id and the most frames, and one more of each
greatest : answers (codes "OPEN 1000000 1" ∷ codes "OPEN 999999 65" ∷ codes "OPEN 999999 64" ∷ []) ≡ Form ∷ Form ∷ Opened 999999 ∷ []
unfolding answers empty word_in pair_in place_in id_in count_in
greatest = refl
