-- The line of an entry by its words.
use Rattle.std.proofs.Common.{◌≡◌, ℕ, ◌<◌, Bool, true, false, List, [], ◌∷◌, ◌++◌, All, map, codes, decimal, refl, sym, ap, ◌∙◌, arith, append_assoc, append-nil, if◌then◌else◌}
use Rattle.std.specs.Prelude.{fold}
use Rattle.std.proofs.lemmas.List.Elements.{All-head, All-tail}
use Rattle.lvdc_map.specs.Address.{Spot}
use Rattle.lvdc_text.specs.Numbers.{octal_text}
use Rattle.lvdc_image.specs.Image.{spot_text}
use Rattle.lvdc_lines.specs.Noted.{lines_of, direction, switch_text}
use Rattle.lvdc_save.specs.declared.entry.CopyState.{CopyState}
use Rattle.lvdc_save.specs.declared.entry.Entry.{Entry}
use Rattle.lvdc_save.specs.declared.entry.Entry.TheVariants as says
use Rattle.lvdc_save.specs.Lines.{number_after, word_after, spot_after, entry_line}
use Rattle.lvdc_save.specs.Printed.{IsPrinted}
use Rattle.lvdc_save.proofs.Words.{IsWord, AreWords, after_blanks, with_word, one_by_one, and_group, octal-word, decimal-word}
use Rattle.lvdc_save.proofs.FaultFields.{spot_fields, fault_word, fault_fields, AreWords-append, spot-words, fault_word-word, fault-words}
use Rattle.lvdc_save.proofs.FaultLines.{three, spot-then, with_feed, fault-spelled}
use Rattle.lvdc_save.proofs.PairsAndOrders.{pair_fields, pairs-words, pairs-spelled, letters, letters-word}

-- ---- the words

abbrev pub direction_word : Bool → List ℕ
direction_word reading = if reading then codes "IN" else codes "OUT"

abbrev pub switch_fields : Bool → List (List ℕ)
switch_fields switched = if switched then codes "SWITCH" ∷ [] else []

abbrev pub latch_fields : List ℕ → List (List ℕ)
latch_fields latches = map (λ latch. octal_text 9 latch) latches

abbrev pub twin_fields : List ℕ → List (List ℕ)
twin_fields twins = map (λ twin. decimal twin) twins

-- the first word of the line of an entry
abbrev pub entry_word : Entry → List ℕ
entry_word says.Title = codes "LVDC"
entry_word (says.Steps steps) = codes "STEPS"
entry_word (says.Count count) = codes "COUNT"
entry_word (says.Simplex banks) = codes "SIMPLEX"
entry_word (says.Copy copy) = codes "COPY"
entry_word (says.Select twins) = codes "SELECT"
entry_word (says.Cell held) = codes "CELL"
entry_word (says.Word placed) = codes "WORD"
entry_word (says.Exchange exchange) = direction_word exchange.reading
entry_word (says.Repair repair) = codes "REPAIR"
entry_word (says.State supply) = codes "STATE"
entry_word (says.Unplug unplug) = codes "UNPLUG"
entry_word (says.Fault event) = fault_word event
entry_word (says.Order order) = letters order
entry_word says.End = codes "END"

-- the other words
abbrev pub entry_fields : Entry → List (List ℕ)
entry_fields says.Title = codes "SAVE" ∷ codes "1" ∷ []
entry_fields (says.Steps steps) = decimal steps ∷ []
entry_fields (says.Count count) = decimal count ∷ []
entry_fields (says.Simplex banks) = pair_fields banks
entry_fields (says.Copy copy) = decimal copy.number ∷ decimal copy.copy ∷ decimal copy.count ∷ latch_fields copy.latches
entry_fields (says.Select twins) = twin_fields twins
entry_fields (says.Cell held) = decimal held.twin ∷ spot_fields held.at ++ octal_text 10 held.cell ∷ []
entry_fields (says.Word placed) = spot_fields placed.at ++ octal_text 9 placed.word ∷ []
entry_fields (says.Exchange exchange) = decimal exchange.time ∷ octal_text 3 exchange.port ∷ octal_text 9 exchange.word ∷ []
entry_fields (says.Repair repair) = decimal repair.step ∷ spot_fields repair.at ++ decimal repair.twin ∷ switch_fields repair.switched
entry_fields (says.State supply) = octal_text 3 supply.port ∷ octal_text 9 supply.word ∷ []
entry_fields (says.Unplug unplug) = octal_text 3 unplug.port ∷ decimal unplug.time ∷ []
entry_fields (says.Fault event) = fault_fields event
entry_fields (says.Order order) = []
entry_fields says.End = []

-- the line without its LF
abbrev pub entry_text : Entry → List ℕ
entry_text e = entry_word e ++ after_blanks (entry_fields e)

-- ---- each is a word

direction_word-word : (reading : Bool) → IsWord (direction_word reading)
direction_word-word true = record { some = omega arith; visible = refl }
direction_word-word false = record { some = omega arith; visible = refl }

pub entry_word-word : (e : Entry) → IsPrinted e → IsWord (entry_word e)
entry_word-word says.Title is = record { some = omega arith; visible = refl }
entry_word-word (says.Steps steps) is = record { some = omega arith; visible = refl }
entry_word-word (says.Count count) is = record { some = omega arith; visible = refl }
entry_word-word (says.Simplex banks) is = record { some = omega arith; visible = refl }
entry_word-word (says.Copy copy) is = record { some = omega arith; visible = refl }
entry_word-word (says.Select twins) is = record { some = omega arith; visible = refl }
entry_word-word (says.Cell held) is = record { some = omega arith; visible = refl }
entry_word-word (says.Word placed) is = record { some = omega arith; visible = refl }
entry_word-word (says.Exchange exchange) is = direction_word-word exchange.reading
entry_word-word (says.Repair repair) is = record { some = omega arith; visible = refl }
entry_word-word (says.State supply) is = record { some = omega arith; visible = refl }
entry_word-word (says.Unplug unplug) is = record { some = omega arith; visible = refl }
entry_word-word (says.Fault event) is = fault_word-word event
entry_word-word (says.Order order) is = letters-word order is
entry_word-word says.End is = record { some = omega arith; visible = refl }

latch-words : (latches : List ℕ) → AreWords (latch_fields latches)
latch-words [] = tt
latch-words (latch ∷ latches) = (octal-word 9 latch (omega arith), latch-words latches)

twin-words : (twins : List ℕ) → All (λ twin. twin < 2) twins → AreWords (twin_fields twins)
twin-words [] all = tt
twin-words (twin ∷ twins) all =
    let low = All-head (λ t. t < 2) twin twins all in
    (decimal-word twin (omega (arith, low)), twin-words twins (All-tail (λ t. t < 2) twin twins all))

switch-words : (switched : Bool) → AreWords (switch_fields switched)
switch-words true = (record { some = omega arith; visible = refl }, tt)
switch-words false = tt

pub entry-words : (e : Entry) → IsPrinted e → AreWords (entry_fields e)
entry-words says.Title is = (record { some = omega arith; visible = refl }, (record { some = omega arith; visible = refl }, tt))
entry-words (says.Steps steps) is = (decimal-word steps (omega (arith, is)), tt)
entry-words (says.Count count) is = (decimal-word count (omega (arith, is)), tt)
entry-words (says.Simplex banks) is = pairs-words banks
entry-words (says.Copy copy) is =
    let number = is.named.last_module in let one = is.named.last_copy in let steps = is.count in (
      decimal-word copy.number (omega (arith, number)),
      (
        decimal-word copy.copy (omega (arith, one)),
        (decimal-word copy.count (omega (arith, steps)), latch-words copy.latches),
      ),
    )
entry-words (says.Select twins) is = twin-words twins is.1
entry-words (says.Cell held) is =
    let twin = is.place.twin in (
      decimal-word held.twin (omega (arith, twin)),
      AreWords-append (spot_fields held.at) (octal_text 10 held.cell ∷ []) (spot-words held.at)
          (octal-word 10 held.cell (omega arith), tt),
    )
entry-words (says.Word placed) is =
    AreWords-append (spot_fields placed.at) (octal_text 9 placed.word ∷ []) (spot-words placed.at) (octal-word 9 placed.word (omega arith), tt)
entry-words (says.Exchange exchange) is =
    let time = is.time in (
      decimal-word exchange.time (omega (arith, time)),
      (
        octal-word 3 exchange.port (omega arith),
        (octal-word 9 exchange.word (omega arith), tt),
      ),
    )
entry-words (says.Repair repair) is =
    let step = is.step in let twin = is.twin in (
      decimal-word repair.step (omega (arith, step)),
      AreWords-append (spot_fields repair.at) (decimal repair.twin ∷ switch_fields repair.switched) (spot-words repair.at)
          (decimal-word repair.twin (omega (arith, twin)), switch-words repair.switched),
    )
entry-words (says.State supply) is = (octal-word 3 supply.port (omega arith), (octal-word 9 supply.word (omega arith), tt))
entry-words (says.Unplug unplug) is =
    let time = is.time in (octal-word 3 unplug.port (omega arith), (decimal-word unplug.time (omega (arith, time)), tt))
entry-words (says.Fault event) is = fault-words event is
entry-words (says.Order order) is = tt
entry-words says.End is = tt

-- ---- the line is its words

latches-blanks : (latches : List ℕ) → lines_of word_after latches ≡ after_blanks (latch_fields latches)
unfolding lines_of
latches-blanks [] = refl
latches-blanks (latch ∷ latches) = ap (λ (rest : List ℕ). word_after latch ++ rest) (latches-blanks latches)

twins-blanks : (twins : List ℕ) → lines_of number_after twins ≡ after_blanks (twin_fields twins)
unfolding lines_of
twins-blanks [] = refl
twins-blanks (twin ∷ twins) = ap (λ (rest : List ℕ). number_after twin ++ rest) (twins-blanks twins)

copy-spelled : (c : CopyState)
    → codes "COPY" ++ number_after c.number ++ number_after c.copy ++ number_after c.count ++ lines_of word_after c.latches
    ≡ entry_text (says.Copy c)
copy-spelled c =
    ap (λ (latches : List ℕ). codes "COPY" ++ number_after c.number ++ number_after c.copy ++ number_after c.count ++ latches)
    (latches-blanks c.latches)
    ∙ and_group (codes "COPY") (decimal c.number ∷ decimal c.copy ∷ decimal c.count ∷ []) (latch_fields c.latches)

select-spelled : (twins : List ℕ) → codes "SELECT" ++ lines_of number_after twins ≡ entry_text (says.Select twins)
select-spelled twins = ap (λ (text : List ℕ). codes "SELECT" ++ text) (twins-blanks twins)

exchange-spelled : (reading : Bool) (time port word : List ℕ) →
    direction reading ++ time ++ codes " " ++ port ++ codes " " ++ word ≡ direction_word reading ++ after_blanks (time ∷ port ∷ word ∷ [])
exchange-spelled true time port word = three (codes "IN " ++ time) port word
exchange-spelled false time port word = three (codes "OUT " ++ time) port word

switch-spelled : (text : List ℕ) (switched : Bool) → text ++ switch_text switched ≡ fold with_word text (switch_fields switched)
switch-spelled text true = refl
switch-spelled text false = append-nil text

repair-spelled : (step twin : ℕ) (at : Spot) (switched : Bool) →
    codes "REPAIR " ++ decimal step ++ codes " " ++ spot_text at ++ codes " " ++ decimal twin ++ switch_text switched
    ≡ codes "REPAIR" ++ after_blanks (decimal step ∷ spot_fields at ++ decimal twin ∷ switch_fields switched)
repair-spelled step twin at switched =
    ap (λ (text : List ℕ). text ++ switch_text switched)
    (append_assoc (codes "REPAIR " ++ decimal step ++ codes " " ++ spot_text at) (codes " ") (decimal twin)
    ∙ ap (λ (text : List ℕ). text ++ number_after twin) (append_assoc (codes "REPAIR " ++ decimal step) (codes " ") (spot_text at)))
    ∙ switch-spelled (codes "REPAIR" ++ number_after step ++ spot_after at ++ number_after twin) switched
    ∙ spot-then (codes "REPAIR") (decimal step ∷ []) at (decimal twin ∷ switch_fields switched)

-- the line of an entry is its words, with LF after them
pub entry-spelled : (e : Entry) → IsPrinted e → entry_line e ≡ entry_text e ++ codes "\n"
entry-spelled says.Title is = refl
entry-spelled (says.Steps steps) is = with_feed _ _ (one_by_one (codes "STEPS") (decimal steps ∷ []))
entry-spelled (says.Count count) is = with_feed _ _ (one_by_one (codes "COUNT") (decimal count ∷ []))
entry-spelled (says.Simplex banks) is = with_feed _ _ (pairs-spelled banks is.1)
entry-spelled (says.Copy copy) is = with_feed _ _ (copy-spelled copy)
entry-spelled (says.Select twins) is = with_feed _ _ (select-spelled twins)
entry-spelled (says.Cell held) is = with_feed _ _ (spot-then (codes "CELL") (decimal held.twin ∷ []) held.at (octal_text 10 held.cell ∷ []))
entry-spelled (says.Word placed) is = with_feed _ _ (spot-then (codes "WORD") [] placed.at (octal_text 9 placed.word ∷ []))
entry-spelled (says.Exchange exchange) is =
    with_feed _ _ (exchange-spelled exchange.reading (decimal exchange.time) (octal_text 3 exchange.port) (octal_text 9 exchange.word))
entry-spelled (says.Repair repair) is = with_feed _ _ (repair-spelled repair.step repair.twin repair.at repair.switched)
entry-spelled (says.State supply) is = with_feed _ _ (one_by_one (codes "STATE") (octal_text 3 supply.port ∷ octal_text 9 supply.word ∷ []))
entry-spelled (says.Unplug unplug) is = with_feed _ _ (one_by_one (codes "UNPLUG") (octal_text 3 unplug.port ∷ decimal unplug.time ∷ []))
entry-spelled (says.Fault event) is = fault-spelled event
entry-spelled (says.Order order) is = with_feed _ _ (sym (append-nil (letters order)))
entry-spelled says.End is = refl
