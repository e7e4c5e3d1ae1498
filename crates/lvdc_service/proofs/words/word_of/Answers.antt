use Rattle.std.proofs.Common.{◌≡◌, ℕ, ◌<◌, ◌≤◌, true, List, length, get_or, sym, subst, ⊎_elim, arith}
use Rattle.std.proofs.lemmas.Bool.{cases_lt}
use Rattle.std.proofs.lemmas.List.{get_or_past}
use Rattle.std.specs.Str.{IsUtf8}
use Rattle.std.proofs.lemmas.Str.{IsUtf8-from_ascii}
use Rattle.std.proofs.lemmas.List.Sums.{AllPass-from_list_all}
use Rattle.std.proofs.lemmas.Bool.Decides.{nat_tests}
use Rattle.lvdc_service.specs.Frames.{is_graphic, is_word}
use Rattle.lvdc_service.proofs.words.word_of.Goals as goal

ascii : (b : ℕ) → is_graphic b ≡ true → b < 128
ascii b h = grind (arith, nat_tests)

graphic_at : (word : List ℕ) → is_word word ≡ true → (i : ℕ) → i < length word → is_graphic (get_or word i 0) ≡ true
graphic_at word h i l = AllPass-from_list_all is_graphic word (grind (arith, nat_tests)) i 0 l

word_utf8 : (word : List ℕ) → is_word word ≡ true → IsUtf8 word
word_utf8 word h = IsUtf8-from_ascii word (λ i. ⊎_elim
    (λ (l : i < length word). ascii (get_or word i 0) (graphic_at word h i l))
    (λ (l : length word ≤ i). omega (arith, get_or_past word i 0 l))
    (cases_lt i (length word)))

pub unreachable-requires : goal.unreachable-requires
unreachable-requires c = c.in-Err.ensures.cases.0 (subst IsUtf8 (sym c.bytes_of.ensures) (word_utf8 _ c.requires.word))
