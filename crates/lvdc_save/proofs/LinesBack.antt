-- Each line of a saved text says its entry again, in order.
use Rattle.std.proofs.Common.{◌≡◌, ℕ, suc, ◌+◌, List, [], ◌∷◌, ◌++◌, All, map, length, codes, Option, Some, Result, Ok, Err, refl, sym, ap, ◌∙◌, append_assoc}
use Rattle.std.proofs.lemmas.List.{length-map}
use Rattle.std.proofs.lemmas.List.Elements.{All-head, All-tail}
use Rattle.lvdc_text.specs.Lines.{lines_of, numbered, numbered_line}
use Rattle.lvdc_port.specs.Device.{Device}
use Rattle.lvdc_lines.specs.Noted as noted
use Rattle.lvdc_save.specs.declared.entry.Entry.{Entry}
use Rattle.lvdc_save.specs.declared.fault.SaveFault.{SaveFault}
use Rattle.lvdc_save.specs.Lines.{entry_line}
use Rattle.lvdc_save.specs.Reading.{Progress, nothing_said, by_entry, and_then, told_from, whole_of, saved_from, saved_of, told_entries}
use Rattle.lvdc_save.specs.Printed.{IsPrinted}
use Rattle.lvdc_save.proofs.Words.{words-printing}
use Rattle.lvdc_save.proofs.Ended.{ended, ArePrinting, counted, numbered-ended}
use Rattle.lvdc_save.proofs.EntryLines.{entry_word, entry_fields, entry_text, entry_word-word, entry-words, entry-spelled}
use Rattle.lvdc_save.proofs.EntriesBack.{entry-back}

-- ---- the lines

-- the text of entries is their lines, with LF after each
text-ended : (es : List Entry) → All IsPrinted es → noted.lines_of entry_line es ≡ ended (map entry_text es)
unfolding noted.lines_of
text-ended [] all = refl
text-ended (e ∷ es) all =
    ap (λ (line : List ℕ). line ++ noted.lines_of entry_line es) (entry-spelled e (All-head IsPrinted e es all))
    ∙ append_assoc (entry_text e) (codes "\n") (noted.lines_of entry_line es)
    ∙ ap (λ (rest : List ℕ). entry_text e ++ (10 ∷ rest)) (text-ended es (All-tail IsPrinted e es all))

printing : (es : List Entry) → All IsPrinted es → ArePrinting (map entry_text es)
printing [] all = tt
printing (e ∷ es) all =
    let is = All-head IsPrinted e es all in
    (words-printing (entry_word e) (entry_fields e) (entry_word-word e is) (entry-words e is), printing es (All-tail IsPrinted e es all))

-- the numbered lines of the text of entries
numbered-entries : (es : List Entry) → All IsPrinted es →
    numbered (noted.lines_of entry_line es) (lines_of (noted.lines_of entry_line es)) ≡ counted 1 (map entry_text es)
numbered-entries es all =
    ap (λ (bytes : List ℕ). numbered bytes (lines_of bytes)) (text-ended es all) ∙ numbered-ended (map entry_text es) (printing es all)

-- ---- what they say

goes_on : {A B : Type 0} (a : Result A SaveFault) (f g : A → Result B SaveFault) → ((x : A) → f x ≡ g x) → and_then a f ≡ and_then a g
goes_on (Ok x) f g same = same x
goes_on (Err fault) f g same = refl

told-counted : (devices : List Device) (number : ℕ) (r : Progress) (es : List Entry) → All IsPrinted es →
    told_from devices r (counted number (map entry_text es)) ≡ told_entries devices number r es
unfolding told_from told_entries
told-counted devices number r [] all = refl
told-counted devices number r (e ∷ es) all =
    ap (λ (found : Option Entry). and_then (by_entry devices number r found) (λ s. told_from devices s (counted (number + 1) (map entry_text es))))
    (entry-back e (All-head IsPrinted e es all))
    ∙ goes_on (by_entry devices number r (Some e)) (λ s. told_from devices s (counted (number + 1) (map entry_text es)))
    (λ s. told_entries devices (number + 1) s es)
    (λ s. told-counted devices (number + 1) s es (All-tail IsPrinted e es all))

-- what the lines of the text of entries say is what the entries say
pub told-entries : (devices : List Device) (r : Progress) (es : List Entry) → All IsPrinted es →
    told_from devices r (numbered (noted.lines_of entry_line es) (lines_of (noted.lines_of entry_line es))) ≡ told_entries devices 1 r es
told-entries devices r es all = ap (told_from devices r) (numbered-entries es all) ∙ told-counted devices 1 r es all

length-counted : (number : ℕ) (texts : List (List ℕ)) → length (counted number texts) ≡ length texts
length-counted number [] = refl
length-counted number (text ∷ texts) = ap suc (length-counted (number + 1) texts)

counted-texts : (es : List Entry) → length (counted 1 (map entry_text es)) ≡ length es
counted-texts es = length-counted 1 (map entry_text es) ∙ length-map es entry_text

-- there are as many lines as entries
pub count-entries : (es : List Entry) → All IsPrinted es → length (lines_of (noted.lines_of entry_line es)) ≡ length es
count-entries es all =
    sym (length-map (lines_of (noted.lines_of entry_line es)) (numbered_line (noted.lines_of entry_line es)))
    ∙ ap length (numbered-entries es all) ∙ counted-texts es

-- what the text of entries means is what the entries come to
pub saved-entries : (devices : List Device) (es : List Entry) → All IsPrinted es →
    saved_of devices (noted.lines_of entry_line es) ≡ and_then (told_entries devices 1 nothing_said es) (whole_of (length es + 1))
saved-entries devices es all =
    ap (saved_from devices) (numbered-entries es all)
    ∙ ap (λ (told : Result Progress SaveFault). and_then told (whole_of (length (counted 1 (map entry_text es)) + 1)))
    (told-counted devices 1 nothing_said es all)
    ∙ ap (λ (lines : ℕ). and_then (told_entries devices 1 nothing_said es) (whole_of (lines + 1))) (counted-texts es)
