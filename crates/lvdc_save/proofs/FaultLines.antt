-- The line of an event is its words, each after a blank.
use Rattle.std.specs.Prelude.{fold}
use Rattle.std.proofs.Common.{◌≡◌, ℕ, List, [], ◌∷◌, ◌++◌, codes, decimal, ap, ◌∙◌, append_assoc, append-nil}
use Rattle.lvdc_map.specs.Address.{Spot}
use Rattle.lvdc_text.specs.Numbers.{octal_text}
use Rattle.lvdc_fault.specs.declared.event.Event.{Event}
use Rattle.lvdc_fault.specs.declared.event.Event.TheVariants.{Flip, Force, Lag, Deaf, Damage, Stick, Dead}
use Rattle.lvdc_save.specs.Lines.{number_after, spot_after, acts_on, fault_line}
use Rattle.lvdc_save.proofs.Words.{after_blanks, with_word, one_by_one, with_group}
use Rattle.lvdc_save.proofs.FaultFields.{copy_fields, spot_fields, fault_word, fault_fields}

-- three words with blanks between them
pub three : (a b c : List ℕ) → a ++ codes " " ++ b ++ codes " " ++ c ≡ a ++ (32 ∷ (b ++ (32 ∷ (c ++ []))))
three a b c = simp (append_assoc, append-nil)

-- an address after a blank
pub spot-blanks : (at : Spot) → spot_after at ≡ after_blanks (spot_fields at)
spot-blanks at = ap (λ (text : List ℕ). codes " " ++ text) (three (octal_text 1 at.pair) (octal_text 2 at.sector) (octal_text 3 at.loc))

-- a copy and its steps
pub acts-blanks : (number copy first last : ℕ) → acts_on number copy first last ≡ after_blanks (copy_fields number copy first last)
acts-blanks number copy first last = one_by_one (number_after number) (decimal copy ∷ decimal first ∷ decimal last ∷ [])

acts-then : (word : List ℕ) (number copy first last : ℕ) (after : List (List ℕ)) →
    fold with_word (word ++ acts_on number copy first last) after ≡ word ++ after_blanks (copy_fields number copy first last ++ after)
acts-then word number copy first last after =
    ap (λ (acts : List ℕ). fold with_word (word ++ acts) after) (acts-blanks number copy first last)
    ∙ with_group word [] (copy_fields number copy first last) after

pub spot-then : (word : List ℕ) (before : List (List ℕ)) (at : Spot) (after : List (List ℕ)) →
    fold with_word (fold with_word word before ++ spot_after at) after ≡ word ++ after_blanks (before ++ spot_fields at ++ after)
spot-then word before at after =
    ap (λ (spot : List ℕ). fold with_word (fold with_word word before ++ spot) after) (spot-blanks at)
    ∙ with_group word before (spot_fields at) after

-- with LF after it
pub with_feed : (text spelled : List ℕ) → text ≡ spelled → text ++ codes "\n" ≡ spelled ++ codes "\n"
with_feed text spelled e = ap (λ (t : List ℕ). t ++ codes "\n") e

-- the line of an event is its words
pub fault-spelled : (e : Event) → fault_line e ≡ (fault_word e ++ after_blanks (fault_fields e)) ++ codes "\n"
fault-spelled (Flip number copy first last index mask) =
    with_feed _ _ (acts-then (codes "FLIP") number copy first last (decimal index ∷ octal_text 9 mask ∷ []))
fault-spelled (Force number copy first last index mask value) =
    with_feed _ _ (acts-then (codes "FORCE") number copy first last (decimal index ∷ octal_text 9 mask ∷ octal_text 9 value ∷ []))
fault-spelled (Lag number copy first last) = with_feed _ _ (acts-then (codes "LAG") number copy first last [])
fault-spelled (Deaf number copy first last) = with_feed _ _ (acts-then (codes "DEAF") number copy first last [])
fault-spelled (Damage twin at step mask) =
    with_feed _ _ (spot-then (codes "DAMAGE") (decimal twin ∷ []) at (decimal step ∷ octal_text 10 mask ∷ []))
fault-spelled (Stick twin at first last mask value) =
    with_feed _ _ (spot-then (codes "STICK") (decimal twin ∷ []) at
    (decimal first ∷ decimal last ∷ octal_text 10 mask ∷ octal_text 10 value ∷ []))
fault-spelled (Dead twin pair first last) =
    with_feed _ _ (one_by_one (codes "DEAD") (decimal twin ∷ decimal pair ∷ decimal first ∷ decimal last ∷ []))
