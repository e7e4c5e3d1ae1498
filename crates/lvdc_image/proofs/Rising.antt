-- The words that lines tell have rising addresses, whose banks are there.
use Rattle.std.proofs.Common.{◌≡◌, ℕ, ◌+◌, ◌^◌, ◌<◌, ◌≤◌, Bool, true, false, ltb, ◌&&◌, List, [], ◌∷◌, codes, Result, Ok, Err, Option, None, Some, refl, sym, ap, ◌∙◌, subst, arith, if◌then◌else◌}
use Rattle.std.specs.Str.{bytes_eq}
use Rattle.std.proofs.lemmas.Bool.{ltb-true, ltb-false, lt-ltb}
use Rattle.std.proofs.lemmas.List.Elements.{All-nil, All-cons}
use Rattle.lvdc_map.specs.Address.{Spot, IsAddress, number_of}
use Rattle.lvdc_map.specs.Banks.{is_there}
use Rattle.lvdc_map.specs.Memory.{are_rising, AllThere}
use Rattle.lvdc_map.specs.declared.placed.Placed.{Placed}
use Rattle.lvdc_image.specs.declared.entry.Entry.{Entry}
use Rattle.lvdc_image.specs.declared.fault.ImageFault.{ImageFault}
use Rattle.lvdc_image.specs.declared.fault.ImageFault.TheVariants.{AddressOrder, BadWord}
use Rattle.lvdc_text.specs.Lines.{NumberedLine}
use Rattle.lvdc_image.specs.Reading.{field, is_spaced, entry_of, entry_in, placed_of, least_after, with_word, after_end, words_from}
use Rattle.lvdc_image.proofs.Parts.{both, some_if}
use Rattle.lvdc_image.proofs.WordLines.{words_from-end, words_from-line, words_from-none}

-- an address of these banks, and a word
pub record StandsIn (banks : ℕ) (placed : Placed) : Type 0 where
  pub at : IsAddress placed.at
  pub there : is_there banks placed.at ≡ true
  pub word : placed.word < 2 ^ 26

-- the words have addresses of these banks, which rise from this place on
abbrev pub RiseFrom : ℕ → ℕ → List Placed → Type 0
RiseFrom banks least [] = Unit {0}
RiseFrom banks least (placed ∷ words) = (least ≤ number_of placed.at) × StandsIn banks placed × RiseFrom banks (number_of placed.at + 1) words

pub are_rising-from : (banks least : ℕ) (words : List Placed) → RiseFrom banks least words → are_rising words ≡ true
are_rising-from banks least [] rise = refl
are_rising-from banks least (p ∷ []) rise = refl
are_rising-from banks least (p ∷ q ∷ words) rise =
    rw (lt-ltb (number_of p.at) (number_of q.at) (omega (arith, rise.2.0))) (are_rising-from banks (number_of p.at + 1) (q ∷ words) rise.2)

pub AllThere-from : (banks least : ℕ) (words : List Placed) → RiseFrom banks least words → AllThere banks words
AllThere-from banks least [] rise = All-nil (λ (p : Placed). is_there banks p.at ≡ true)
AllThere-from banks least (p ∷ words) rise =
    All-cons (λ (p : Placed). is_there banks p.at ≡ true) p words rise.1.there (AllThere-from banks (number_of p.at + 1) words rise.2)

-- an entry's numbers, and that they name an address of these banks
pub record TellsEntry (banks : ℕ) (pair sector loc value : Option ℕ) (entry : Entry) : Type 0 where
  pub pair_is : pair ≡ Some entry.at.pair
  pub sector_is : sector ≡ Some entry.at.sector
  pub loc_is : loc ≡ Some entry.at.loc
  pub value_is : value ≡ Some entry.value
  pub at : IsAddress entry.at
  pub there : is_there banks entry.at ≡ true

entry_of-numbers : (banks pair sector loc value : ℕ) (entry : Entry) → entry_of banks (Some pair) (Some sector) (Some loc) (Some value) ≡ Some entry
    → TellsEntry banks (Some pair) (Some sector) (Some loc) (Some value) entry
entry_of-numbers banks pair sector loc value entry e =
    let at : Spot = record { pair = pair; sector = sector; loc = loc } in
    let one : Entry = record { at = at; value = value } in
    let found = some_if (ltb pair 8 && ltb sector 16 && ltb loc 256 && is_there banks at) (Some one) entry e in
    let same : one ≡ entry = let some = found.1 in cc in
    let outer = both (ltb pair 8 && ltb sector 16 && ltb loc 256) (is_there banks at) found.0 in
    let inner = both (ltb pair 8 && ltb sector 16) (ltb loc 256) outer.0 in
    let first = both (ltb pair 8) (ltb sector 16) inner.0 in
    let address : IsAddress at = record { pair = ltb-true pair 8 first.0; sector = ltb-true sector 16 first.1; loc = ltb-true loc 256 inner.1 } in
    record {
      pair_is = ap (λ (x : Entry). Some x.at.pair) same;
      sector_is = ap (λ (x : Entry). Some x.at.sector) same;
      loc_is = ap (λ (x : Entry). Some x.at.loc) same;
      value_is = ap (λ (x : Entry). Some x.value) same;
      at = subst (λ (x : Entry). IsAddress x.at) same address;
      there = subst (λ (x : Entry). is_there banks x.at ≡ true) same outer.1;
    }

pub entry_of-some : (banks : ℕ) (pair sector loc value : Option ℕ) (entry : Entry) → entry_of banks pair sector loc value ≡ Some entry → TellsEntry banks pair sector loc value entry
entry_of-some banks None sector loc value entry e = absurd (cc)
entry_of-some banks (Some pair) None loc value entry e = absurd (cc)
entry_of-some banks (Some pair) (Some sector) None value entry e = absurd (cc)
entry_of-some banks (Some pair) (Some sector) (Some loc) None entry e = absurd (cc)
entry_of-some banks (Some pair) (Some sector) (Some loc) (Some value) entry e = entry_of-numbers banks pair sector loc value entry e

-- what a word line tells
pub entry_in-some : (banks : ℕ) (text : List ℕ) (entry : Entry) → entry_in banks text ≡ Some entry
    → (is_spaced text ≡ true) × TellsEntry banks (field 0 1 text) (field 2 2 text) (field 5 3 text) (field 9 9 text) entry
unfolding entry_in
entry_in-some banks text entry e =
    let told = some_if (is_spaced text) (entry_of banks (field 0 1 text) (field 2 2 text) (field 5 3 text) (field 9 9 text)) entry e in
    (told.0, entry_of-some banks (field 0 1 text) (field 2 2 text) (field 5 3 text) (field 9 9 text) entry told.1)

placed_of-tests : (falls fits : Bool) (order size : ImageFault) (one found : Placed) → (if falls then Err order else (if fits then Ok one else Err size)) ≡ Ok found
    → (falls ≡ false) × (fits ≡ true) × (one ≡ found)
placed_of-tests true fits order size one found e = absurd (cc)
placed_of-tests false true order size one found e = (refl, refl, cc)
placed_of-tests false false order size one found e = absurd (cc)

-- the word of a line is its entry's, at a place that is far enough
pub record IsPlacedAt (least : ℕ) (told : Option Entry) (placed : Placed) : Type 0 where
  pub entry : told ≡ Some (record { at = placed.at; value = placed.word })
  pub rises : least ≤ number_of placed.at
  pub word : placed.word < 2 ^ 26

placed_of-ok_entry : (least number : ℕ) (entry : Entry) (placed : Placed) → placed_of least number (Some entry) ≡ Ok placed → IsPlacedAt least (Some entry) placed
placed_of-ok_entry least number entry placed e =
    let found = placed_of-tests (ltb (number_of entry.at) least) (ltb entry.value (2 ^ 26)) (AddressOrder number) (BadWord number) (record { at = entry.at; word = entry.value }) placed e in
    record {
      entry = ap (λ (p : Placed). Some (record { at = p.at; value = p.word })) found.2;
      rises = subst (λ (p : Placed). least ≤ number_of p.at) found.2 (ltb-false (number_of entry.at) least found.0);
      word = subst (λ (p : Placed). p.word < 2 ^ 26) found.2 (ltb-true entry.value (2 ^ 26) found.1);
    }

pub placed_of-ok : (least number : ℕ) (told : Option Entry) (placed : Placed) → placed_of least number told ≡ Ok placed → IsPlacedAt least told placed
placed_of-ok least number None placed e = absurd (cc)
placed_of-ok least number (Some entry) placed e = placed_of-ok_entry least number entry placed e

-- the words of lines begin with that of the first
pub with_word-ok : (read : Result Placed ImageFault) (later : Result (List Placed) ImageFault) (words : List Placed) → with_word read later ≡ Ok words
    → (placed : Placed) × (rest : List Placed) × (read ≡ Ok placed) × (later ≡ Ok rest) × (words ≡ placed ∷ rest)
with_word-ok (Ok placed) (Ok rest) words e = (placed, rest, refl, refl, cc)
with_word-ok (Ok placed) (Err fault) words e = absurd (cc)
with_word-ok (Err fault) later words e = absurd (cc)

pub after_end-ok : (lines : List NumberedLine) (words : List Placed) → after_end lines ≡ Ok words → (lines ≡ []) × (words ≡ [])
after_end-ok [] words e = (refl, cc)
after_end-ok (line ∷ lines) words e = absurd (cc)

-- what the lines from a word line on tell, where those after it tell words that rise
line_rises : (banks least : ℕ) (told : Option Entry) (placed : Placed) (rest : List Placed)
    → ((entry : Entry) → told ≡ Some entry → IsAddress entry.at × (is_there banks entry.at ≡ true))
    → IsPlacedAt least told placed → RiseFrom banks (number_of placed.at + 1) rest → RiseFrom banks least (placed ∷ rest)
line_rises banks least told placed rest tells found rise =
    let address = tells (record { at = placed.at; value = placed.word }) found.entry in
    (found.rises, record { at = address.0; there = address.1; word = found.word }, rise)

entry_in-address : (banks : ℕ) (text : List ℕ) (entry : Entry) → entry_in banks text ≡ Some entry → IsAddress entry.at × (is_there banks entry.at ≡ true)
entry_in-address banks text entry e = let told = entry_in-some banks text entry e in (told.1.at, told.1.there)

by_test : (banks least next : ℕ) (line : NumberedLine) (lines : List NumberedLine) (words : List Placed)
    → ((least : ℕ) (rest : List Placed) → words_from banks least (line.number + 1) lines ≡ Ok rest → RiseFrom banks least rest)
    → words_from banks least next (line ∷ lines) ≡ Ok words → (ends : Bool) → bytes_eq line.text (codes "END") ≡ ends → RiseFrom banks least words
by_test banks least next line lines words later e true ends =
    subst (RiseFrom banks least) (sym (after_end-ok lines words (sym (words_from-end banks least next line lines ends) ∙ e)).1) tt
by_test banks least next line lines words later e false ends =
    let read : Result Placed ImageFault = placed_of least line.number (entry_in banks line.text) in
    let parts = with_word-ok read (words_from banks (least_after read) (line.number + 1) lines) words (sym (words_from-line banks least next line lines read ends refl) ∙ e) in
    let placed : Placed = parts.0 in
    let rest : List Placed = parts.1 in
    let rise : RiseFrom banks (number_of placed.at + 1) rest =
    later (number_of placed.at + 1) rest (ap (λ (r : Result Placed ImageFault). words_from banks (least_after r) (line.number + 1) lines) (sym parts.2) ∙ parts.3) in
    subst (RiseFrom banks least) (sym parts.4)
    (line_rises banks least (entry_in banks line.text) placed rest (entry_in-address banks line.text) (placed_of-ok least line.number (entry_in banks line.text) placed parts.2) rise)

-- the words that lines tell rise
pub words_from-rise : (banks least next : ℕ) (lines : List NumberedLine) (words : List Placed) → words_from banks least next lines ≡ Ok words → RiseFrom banks least words
words_from-rise banks least next [] words e = absurd (let none = words_from-none banks least next in cc)
words_from-rise banks least next (line ∷ lines) words e =
    by_test banks least next line lines words (λ (l : ℕ) (rest : List Placed) r. words_from-rise banks l (line.number + 1) lines rest r) e (bytes_eq line.text (codes "END")) refl

pub words_from-rising : (banks next : ℕ) (lines : List NumberedLine) (words : List Placed) → words_from banks 0 next lines ≡ Ok words → are_rising words ≡ true
words_from-rising banks next lines words e = are_rising-from banks 0 words (words_from-rise banks 0 next lines words e)

pub words_from-there : (banks next : ℕ) (lines : List NumberedLine) (words : List Placed) → words_from banks 0 next lines ≡ Ok words → AllThere banks words
words_from-there banks next lines words e = AllThere-from banks 0 words (words_from-rise banks 0 next lines words e)
