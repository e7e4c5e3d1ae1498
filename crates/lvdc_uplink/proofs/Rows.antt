-- Worked values of the definitions.
use Rattle.std.proofs.Common.{◌≡◌, ℕ, List, [], ◌∷◌, None, Some, refl, codes}
use Rattle.lvdc_map.specs.declared.placed.Placed.{Placed}
use Rattle.lvdc_image.specs.Image.{Contents}
use Rattle.lvdc_text.specs.Numbers.{word_in}
use Rattle.lvdc_lines.specs.Fields.{pair_in, place_in}
use Rattle.lvdc_uplink.specs.Frames.{bare_load, frame_check}
use Rattle.lvdc_uplink.specs.Patching.{with_word}
use Rattle.lvdc_uplink.specs.Messages.{id_in, count_in}
use Rattle.lvdc_uplink.specs.Link.{link_to}
use Rattle.lvdc_uplink.specs.History.{answers_from, link_after}
use Rattle.lvdc_uplink.specs.Heard.{nothing_heard, heard_from}
use Rattle.lvdc_uplink.specs.declared.answer.Answer.{Answer}
use Rattle.lvdc_uplink.specs.declared.answer.Answer.TheVariants.{Opened, Framed, Committed, Abandoned, Form, Busy, Old, NoLoad, Range, Check, Differs, Missing}

empty : Contents
empty = record { words = []; start = None; banks = 0 }

answers : List (List ℕ) → List Answer
answers texts = answers_from (link_to empty) texts

words_after : List (List ℕ) → List Placed
words_after texts = (link_after (link_to empty) texts).image.words

-- the word at place 0/01/loc
word : ℕ → ℕ → Placed
word loc value = record { at = record { pair = 0; sector = 1; loc = loc }; word = value }

check_word : frame_check 1 1 (record { at = record { pair = 0; sector = 1; loc = 0 }; words = 5 ∷ [] }) ≡ 0o407
check_word = refl

-- a word takes the place of one at its address, and stands at its own place otherwise
replaced : with_word (word 0 1 ∷ word 2 2 ∷ []) (word 2 3) ≡ word 0 1 ∷ word 2 3 ∷ []
unfolding word
replaced = refl

between : with_word (word 0 1 ∷ word 2 2 ∷ []) (word 1 3) ≡ word 0 1 ∷ word 1 3 ∷ word 2 2 ∷ []
unfolding word
between = refl

-- a load that is committed twice is applied once
committed : List (List ℕ)
committed = codes "OPEN 1 1" ∷ codes "FRAME 1 1 0 01 000 5 407" ∷ codes "COMMIT 1 407" ∷ codes "COMMIT 1 407" ∷ []

committed_answers : answers committed ≡ Opened 1 ∷ Framed 1 1 ∷ Committed 1 ∷ Committed 1 ∷ []
unfolding answers empty committed word_in pair_in place_in id_in count_in
committed_answers = refl

committed_words : words_after committed ≡ word 0 5 ∷ []
unfolding words_after empty committed word word_in pair_in place_in id_in count_in
committed_words = refl

-- each refusal
refused : answers (codes "OPEN 1 2" ∷ codes "FRAME 1 1 0 01 000 5 406" ∷ codes "COMMIT 1 0" ∷ codes "OPEN 2 1" ∷ []) ≡ Opened 1 ∷ Check 0o407 ∷ Missing 1 ∷ Busy 1 ∷ []
unfolding answers empty word_in pair_in place_in id_in count_in
refused = refl

closed : answers (codes "OPEN 2 1" ∷ codes "ABANDON 2" ∷ codes "ABANDON 2" ∷ codes "OPEN 2 1" ∷ codes "OPEN 0 1" ∷ codes "" ∷ []) ≡ Opened 2 ∷ Abandoned 2 ∷ NoLoad ∷ Opened 2 ∷ Form ∷ Form ∷ []
unfolding answers empty word_in pair_in place_in id_in count_in
closed = refl

-- the last location of a sector may be written, and no word past it
at_the_end : answers (codes "OPEN 1 2" ∷ codes "FRAME 1 1 0 01 377 5 1006" ∷ codes "FRAME 1 2 0 01 377 5 5 0" ∷ codes "FRAME 1 3 0 01 000 5 0" ∷ codes "FRAME 1 1 0 01 377 6 1007" ∷ [])
    ≡ Opened 1 ∷ Framed 1 1 ∷ Range ∷ Range ∷ Differs 1 ∷ []
unfolding answers empty word_in pair_in place_in id_in count_in
at_the_end = refl

-- frames come in any order, and are applied in that of their numbers
out_of_order : List (List ℕ)
out_of_order = codes "OPEN 1 2" ∷ codes "FRAME 1 2 0 01 000 7 412" ∷ codes "FRAME 1 1 0 01 000 5 407" ∷ codes "COMMIT 1 1021" ∷ codes "OPEN 1 1" ∷ []

out_of_order_answers : answers out_of_order ≡ Opened 1 ∷ Framed 1 2 ∷ Framed 1 1 ∷ Committed 1 ∷ Old 1 ∷ []
unfolding answers empty out_of_order word_in pair_in place_in id_in count_in
out_of_order_answers = refl

out_of_order_words : words_after out_of_order ≡ word 0 7 ∷ []
unfolding words_after empty out_of_order word word_in pair_in place_in id_in count_in
out_of_order_words = refl

-- a load that was committed is committed again with its check word alone, and the open load is opened again with as many frames alone
again_or_not : List (List ℕ)
again_or_not = codes "OPEN 1 1" ∷ codes "OPEN 1 2" ∷ codes "FRAME 1 1 0 01 000 5 407" ∷ codes "COMMIT 1 406" ∷ codes "COMMIT 1 407" ∷ codes "COMMIT 1 406" ∷ codes "OPEN 2 1" ∷ codes "COMMIT 1 407" ∷ []

again_answers : answers again_or_not ≡ Opened 1 ∷ Busy 1 ∷ Framed 1 1 ∷ Check 0o407 ∷ Committed 1 ∷ NoLoad ∷ Opened 2 ∷ Committed 1 ∷ []
unfolding answers empty again_or_not word_in pair_in place_in id_in count_in
again_answers = refl

-- what is heard of those lines: one load was committed, and another is open
again_heard : heard_from again_or_not (answers again_or_not) nothing_heard
    ≡ record { load = Some (bare_load 2 1); done = record { id = 1; frames = Some (record { at = record { pair = 0; sector = 1; loc = 0 }; words = 5 ∷ [] }) ∷ [] } ∷ [] }
unfolding answers empty again_or_not word_in pair_in place_in id_in count_in
again_heard = refl
