-- Worked messages of an uplink: their limits, their check words, what each is answered, and what a listener makes of them.
use Rattle.std.proofs.Common.{◌≡◌, ℕ, List, [], ◌∷◌, ◌++◌, Bool, false, true, Option, Some, None, Ok, Err, replicate, is_some, refl}
use Rattle.std.specs.Prelude.{codes}
use Rattle.std.specs.Fmt.{digits}
use Rattle.lvdc_image.specs.Image.{Contents}
use Rattle.lvdc_image.specs.Reading.{entry_in, words_from as words_told, banks_named, banks_in, image_of}
use Rattle.lvdc_lines.specs.Fields.{pair_in, place_in}
use Rattle.lvdc_text.specs.Lines.{lines_from, tokens_from}
use Rattle.lvdc_text.specs.Numbers.{octal_text, word_in}
use Rattle.lvdc_uplink.specs.Frames.{Frame, Load, is_same_frame, staged, frame_check, load_check}
use Rattle.lvdc_uplink.specs.Heard.{Heard, opened, hears, changed, last_id, last_check}
use Rattle.lvdc_uplink.specs.Input.{from_heading, request_of}
use Rattle.lvdc_uplink.specs.Link.{link_to, opens, stages, frames, is_acknowledged}
use Rattle.lvdc_uplink.specs.Messages.{message_of, id_in, count_in}
use Rattle.lvdc_uplink.specs.declared.answer.Answer.TheVariants.{Opened, Framed, Committed, Abandoned, Form, Busy, NoLoad, Differs}
use Rattle.lvdc_uplink.specs.declared.fault.PatchFault.TheVariants.{NoProgram}

-- ---- limits

-- is a line one of the four messages?
is_message : List ℕ → Bool
is_message text = is_some (message_of text)

ids : (is_message (codes "OPEN 999999 64") ≡ true) × (is_message (codes "OPEN 0000001 1") ≡ false) × (is_message (codes "OPEN 1 65") ≡ false)
unfolding is_message tokens_from word_in octal_text pair_in place_in id_in count_in digits
ids = (refl, refl, refl)

ids_above_64 : (is_message (codes "FRAME 65 64 0 00 000 1 1") ≡ true) × (is_message (codes "COMMIT 65 1") ≡ true) × (is_message (codes "ABANDON 65") ≡ true)
unfolding is_message tokens_from word_in octal_text pair_in place_in id_in count_in digits
ids_above_64 = (refl, refl, refl)

numbers_of_frames : (is_message (codes "FRAME 1 65 0 00 000 1 1") ≡ false) × (is_message (codes "FRAME 1 0 0 00 000 1 1") ≡ false)
unfolding is_message tokens_from word_in octal_text pair_in place_in id_in count_in digits
numbers_of_frames = (refl, refl)

words_of_frames : (is_message (codes "FRAME 1 1 0 00 000 7") ≡ false) × (is_message (codes "FRAME 1 1 0 00 000 1 2 3 4 5 6 7 1 7") ≡ true)
    × (is_message (codes "FRAME 1 1 0 00 000 1 2 3 4 5 6 7 1 2 7") ≡ false)
unfolding is_message tokens_from word_in octal_text pair_in place_in id_in count_in digits
words_of_frames = (refl, refl, refl)

no_other_word : is_message (codes "FLY 1") ≡ false
unfolding is_message tokens_from word_in octal_text pair_in place_in id_in count_in digits
no_other_word = refl

-- 120 bytes, and 121
longest_line : (is_message (codes "ABANDON 1" ++ replicate 111 32) ≡ true) × (is_message (codes "ABANDON 1" ++ replicate 112 32) ≡ false)
unfolding is_message tokens_from word_in octal_text pair_in place_in id_in count_in digits
longest_line = (refl, refl)

-- ---- frames and check words

-- a frame of sector 00
frame : ℕ → List ℕ → Frame
frame loc words = record { at = record { pair = 0; sector = 0; loc = loc }; words = words }

-- the load of this id, with these frames
load : ℕ → List (Option Frame) → Load
load id staged_frames = record { id = id; frames = staged_frames }

other_places : (is_same_frame (frame 1 (5 ∷ [])) (frame 2 (5 ∷ [])) ≡ false) × (is_same_frame (frame 1 (5 ∷ [])) (frame 1 (5 ∷ [])) ≡ true)
unfolding frame
other_places = (refl, refl)

second_frame : (staged (load 5 (None ∷ Some (frame 1 (2 ∷ [])) ∷ [])) 2 ≡ Some (frame 1 (2 ∷ []))) × (staged (load 5 (None ∷ Some (frame 1 (2 ∷ [])) ∷ [])) 1 ≡ None)
unfolding load frame
second_frame = (refl, refl)

-- 5 + 3 + 256 + 67,108,863 + 33,554,434, less 67,108,864
check_of_a_frame : frame_check 5 3 (record (frame 0 (67108863 ∷ 33554434 ∷ [])) { at = record { pair = 0; sector = 1; loc = 0 } }) ≡ 33554697
unfolding frame
check_of_a_frame = refl

-- the second and the fourth frame: 5 + 2 + 0 + 1 and 5 + 4 + 1 + 2
check_of_a_load : load_check (load 5 (None ∷ Some (frame 0 (1 ∷ [])) ∷ None ∷ Some (frame 1 (2 ∷ [])) ∷ [])) ≡ 20
unfolding load frame
check_of_a_load = refl

-- 50,331,654 + 50,331,656, less 67,108,864
check_of_a_large_load : load_check (load 5 (Some (frame 0 (50331648 ∷ [])) ∷ Some (frame 1 (50331648 ∷ [])) ∷ [])) ≡ 33554446
unfolding load frame
check_of_a_large_load = refl

-- ---- answers

-- an image with one word, and the link to it
one_word : Contents
one_word = record { words = record { at = record { pair = 0; sector = 0; loc = 1 }; word = 9 } ∷ []; start = None; banks = 0 }

other_id_open : (opens 6 2 (link_to one_word) (Some (load 5 (None ∷ None ∷ []))) ≡ record { answer = Busy 5; link = link_to one_word })
    × (opens 5 3 (link_to one_word) (Some (load 5 (None ∷ None ∷ []))) ≡ record { answer = Busy 5; link = link_to one_word })
    × (opens 5 2 (link_to one_word) (Some (load 5 (None ∷ None ∷ []))) ≡ record { answer = Opened 5; link = link_to one_word })
unfolding load one_word
other_id_open = (refl, refl, refl)

same_frame_again : (stages 2 (frame 1 (2 ∷ [])) (load 5 []) (Some (frame 1 (2 ∷ []))) ≡ record { answer = Framed 5 2; load = load 5 [] })
    × (stages 2 (frame 1 (2 ∷ [])) (load 5 []) (Some (frame 1 (3 ∷ []))) ≡ record { answer = Differs 2; load = load 5 [] })
unfolding load frame
same_frame_again = (refl, refl)

frame_without_load : frames 1 (frame 1 (2 ∷ [])) 5 (link_to one_word) None ≡ record { answer = NoLoad; link = link_to one_word }
unfolding frame one_word
frame_without_load = refl

acknowledged : (is_acknowledged (Abandoned 1) ≡ true) × (is_acknowledged (Committed 1) ≡ true) × (is_acknowledged NoLoad ≡ false) × (is_acknowledged Form ≡ false)
acknowledged = (refl, refl, refl, refl)

-- ---- what is heard

-- one load was committed, and another one is open
two_loads : Heard
two_loads = record { load = Some (load 7 (Some (frame 2 (3 ∷ [])) ∷ [])); done = load 5 (Some (frame 1 (2 ∷ [])) ∷ []) ∷ [] }

open_again : opened 7 1 two_loads.load ≡ Some (load 7 (Some (frame 2 (3 ∷ [])) ∷ []))
unfolding two_loads load frame
open_again = refl

committed_in_order : hears (codes "COMMIT 7 15") (Committed 7) two_loads
    ≡ record { load = None; done = load 5 (Some (frame 1 (2 ∷ [])) ∷ []) ∷ load 7 (Some (frame 2 (3 ∷ [])) ∷ []) ∷ [] }
unfolding two_loads load frame tokens_from word_in octal_text pair_in place_in id_in count_in digits
committed_in_order = refl

abandoned : hears (codes "ABANDON 7") (Abandoned 7) two_loads ≡ record { load = None; done = two_loads.done }
unfolding two_loads load frame tokens_from word_in octal_text pair_in place_in id_in count_in digits
abandoned = refl

-- the later load writes last, over the image's own word
loads_in_order : changed one_word (load 5 (Some (frame 1 (2 ∷ 4 ∷ [])) ∷ []) ∷ load 7 (Some (frame 2 (3 ∷ [])) ∷ []) ∷ [])
    ≡ record one_word { words = record { at = record { pair = 0; sector = 0; loc = 1 }; word = 2 } ∷ record { at = record { pair = 0; sector = 0; loc = 2 }; word = 3 } ∷ [] }
unfolding one_word load frame
loads_in_order = refl

-- 7 + 1 + 2 + 3
last_load : (last_id 0 (load 5 (Some (frame 1 (2 ∷ [])) ∷ []) ∷ load 7 (Some (frame 2 (3 ∷ [])) ∷ []) ∷ []) ≡ 7)
    × (last_check 0 (load 5 (Some (frame 1 (2 ∷ [])) ∷ []) ∷ load 7 (Some (frame 2 (3 ∷ [])) ∷ []) ∷ []) ≡ 13)
unfolding load frame
last_load = (refl, refl)

-- ---- the headings

headings_with_blanks : request_of (codes " IMAGE \nLVDC 1\nEND\n UPLINK \n") ≡ Ok (record { image = record { words = []; start = None; banks = 0 }; messages = [] })
unfolding lines_from tokens_from from_heading word_in entry_in words_told banks_named banks_in image_of
headings_with_blanks = refl

no_image : (request_of [] ≡ Err (NoProgram 1)) × (request_of (codes "\n\n") ≡ Err (NoProgram 3))
unfolding lines_from tokens_from from_heading
no_image = (refl, refl)
