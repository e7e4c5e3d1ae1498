-- Reading the words of an image line by line.
use Rattle.std.proofs.Common.{◌≡◌, ℕ, ◌+◌, ◌<◌, ◌≤◌, Bool, true, false, List, [], ◌∷◌, ◌++◌, length, get_or, drop, codes, Result, Ok, Err, refl, sym, ap, ◌∙◌, append_assoc}
use Rattle.std.specs.Str.{bytes_eq}
use Rattle.std.proofs.lemmas.List.{append-nil, drop_more, drop_all}
use Rattle.lvdc_map.specs.Address.{number_of}
use Rattle.lvdc_map.specs.declared.placed.Placed.{Placed}
use Rattle.lvdc_text.specs.declared.cutting.Line.{Line}
use Rattle.lvdc_text.specs.Lines.{part_of, NumberedLine, numbered}
use Rattle.lvdc_image.specs.declared.fault.ImageFault.{ImageFault}
use Rattle.lvdc_image.specs.declared.fault.ImageFault.TheVariants.{BadImageLine}
use Rattle.lvdc_image.specs.Reading.{entry_in, placed_of, least_after, with_word, after_end, words_from}

-- these words stand before the others
abbrev pub with_words : List Placed → Result (List Placed) ImageFault → Result (List Placed) ImageFault
with_words words (Ok more) = Ok (words ++ more)
with_words words (Err fault) = Err fault

with_words-word : (words : List Placed) (placed : Placed) (read : Result (List Placed) ImageFault)
    → with_words words (with_word (Ok placed) read) ≡ with_words (words ++ placed ∷ []) read
with_words-word words placed (Ok more) = ap (λ (all : List Placed). Ok all) (sym (append_assoc words (placed ∷ []) more))
with_words-word words placed (Err fault) = refl

pub words_from-end : (banks least next : ℕ) (line : NumberedLine) (lines : List NumberedLine) → bytes_eq line.text (codes "END") ≡ true
    → words_from banks least next (line ∷ lines) ≡ after_end lines
unfolding words_from
words_from-end banks least next line lines e = rw e

pub words_from-line : (banks least next : ℕ) (line : NumberedLine) (lines : List NumberedLine) (read : Result Placed ImageFault)
    → bytes_eq line.text (codes "END") ≡ false → placed_of least line.number (entry_in banks line.text) ≡ read
    → words_from banks least next (line ∷ lines) ≡ with_word read (words_from banks (least_after read) (line.number + 1) lines)
unfolding words_from
words_from-line banks least next line lines read e p = rw (e, p)

pub words_from-none : (banks least next : ℕ) → words_from banks least next [] ≡ Err (BadImageLine next)
unfolding words_from
words_from-none banks least next = refl

-- the step at a line of the loop
module _ (bytes : List ℕ) (words : List Placed) (banks least next index : ℕ) (lines : List Line) (d : Line) (text : List ℕ) (ends : Bool)
    (total : Result (List Placed) ImageFault) (within : index < length lines) (reads : text ≡ part_of bytes (get_or lines index d))
    (tests : ends ≡ bytes_eq text (codes "END")) (so_far : with_words words (words_from banks least next (numbered bytes (drop index lines))) ≡ total) where
  by_this : with_words words (words_from banks least next (record { number = (get_or lines index d).number; text = part_of bytes (get_or lines index d) } ∷ numbered bytes (drop (index + 1) lines))) ≡ total
  by_this = ap (λ (found : List NumberedLine). with_words words (words_from banks least next found)) (sym (ap (numbered bytes) (drop_more lines index d within))) ∙ so_far

  ended : ends ≡ true → with_words words (after_end (numbered bytes (drop (index + 1) lines))) ≡ total
  ended e =
      ap (with_words words) (sym (words_from-end banks least next (record { number = (get_or lines index d).number; text = part_of bytes (get_or lines index d) }) (numbered bytes (drop (index + 1) lines))
      (ap (λ (t : List ℕ). bytes_eq t (codes "END")) (sym reads) ∙ sym tests ∙ e)))
      ∙ by_this

  pub at_end : ends ≡ true → length lines ≤ index + 1 → total ≡ Ok words
  at_end e l =
      sym (ended e) ∙ ap (λ (found : List Line). with_words words (after_end (numbered bytes found))) (drop_all (index + 1) lines l)
      ∙ ap (λ (all : List Placed). Ok all) (append-nil words)

  pub at_line_after_end : ends ≡ true → index + 1 < length lines → total ≡ Err (BadImageLine (get_or lines (index + 1) d).number)
  at_line_after_end e l = sym (ended e) ∙ ap (λ (found : List NumberedLine). with_words words (after_end found)) (ap (numbered bytes) (drop_more lines (index + 1) d l))

  by_line : (read : Result Placed ImageFault) → ends ≡ false → read ≡ placed_of least (get_or lines index d).number (entry_in banks text)
      → with_words words (with_word read (words_from banks (least_after read) ((get_or lines index d).number + 1) (numbered bytes (drop (index + 1) lines)))) ≡ total
  by_line read e r =
      ap (with_words words) (sym (words_from-line banks least next (record { number = (get_or lines index d).number; text = part_of bytes (get_or lines index d) }) (numbered bytes (drop (index + 1) lines)) read
      (ap (λ (t : List ℕ). bytes_eq t (codes "END")) (sym reads) ∙ sym tests ∙ e)
      (ap (λ (t : List ℕ). placed_of least (get_or lines index d).number (entry_in banks t)) (sym reads) ∙ sym r)))
      ∙ by_this

  pub at_word : (placed : Placed) → ends ≡ false → Ok placed ≡ placed_of least (get_or lines index d).number (entry_in banks text)
      → with_words (words ++ placed ∷ []) (words_from banks (number_of placed.at + 1) ((get_or lines index d).number + 1) (numbered bytes (drop (index + 1) lines))) ≡ total
  at_word placed e r =
      sym (with_words-word words placed (words_from banks (number_of placed.at + 1) ((get_or lines index d).number + 1) (numbered bytes (drop (index + 1) lines))))
      ∙ by_line (Ok placed) e r

  pub at_fault : (fault : ImageFault) → ends ≡ false → Err fault ≡ placed_of least (get_or lines index d).number (entry_in banks text) → total ≡ Err fault
  at_fault fault e r = sym (by_line (Err fault) e r)

pub at_missing_end : (bytes : List ℕ) (words : List Placed) (banks least next index : ℕ) (lines : List Line) (total : Result (List Placed) ImageFault) → length lines ≤ index
    → with_words words (words_from banks least next (numbered bytes (drop index lines))) ≡ total → total ≡ Err (BadImageLine next)
at_missing_end bytes words banks least next index lines total l so_far =
    sym so_far ∙ ap (λ (found : List Line). with_words words (words_from banks least next (numbered bytes found))) (drop_all index lines l)
    ∙ ap (with_words words) (words_from-none banks least next)
