-- The line of an event by its words, and the event by them.
use Rattle.std.proofs.Common.{◌≡◌, ℕ, ◌^◌, ◌<◌, ◌≤◌, List, [], ◌∷◌, ◌++◌, codes, decimal, Some, refl, arith}
use Rattle.lvdc_map.specs.Address.{Spot}
use Rattle.lvdc_text.specs.Numbers.{octal_text}
use Rattle.lvdc_vote.specs.Numbers.{latches_of}
use Rattle.lvdc_fault.specs.declared.event.Event.{Event}
use Rattle.lvdc_fault.specs.declared.event.Event.TheVariants.{Flip, Force, Lag, Deaf, Damage, Stick, Dead}
use Rattle.lvdc_fault.specs.Events.{IsCopy, IsSpan, IsEvent, STEPS}
use Rattle.lvdc_lines.specs.Fields.{index_in}
use Rattle.lvdc_lines.specs.Lines.{fault_in}
use Rattle.lvdc_save.proofs.Below.{few_latches}
use Rattle.lvdc_save.proofs.Words.{IsWord, AreWords, octal-word, decimal-word}
use Rattle.lvdc_save.proofs.Fields.{decimal-read, word-read, step-read, twin-read, one_pair-read, cell-read, place-read, module_copy-read, span-read}

-- ---- the words of the line

-- a copy and its steps
abbrev pub copy_fields : ℕ → ℕ → ℕ → ℕ → List (List ℕ)
copy_fields number copy first last = decimal number ∷ decimal copy ∷ decimal first ∷ decimal last ∷ []

-- an address
abbrev pub spot_fields : Spot → List (List ℕ)
spot_fields at = octal_text 1 at.pair ∷ octal_text 2 at.sector ∷ octal_text 3 at.loc ∷ []

abbrev pub fault_word : Event → List ℕ
fault_word (Flip number copy first last index mask) = codes "FLIP"
fault_word (Force number copy first last index mask value) = codes "FORCE"
fault_word (Lag number copy first last) = codes "LAG"
fault_word (Deaf number copy first last) = codes "DEAF"
fault_word (Damage twin at step mask) = codes "DAMAGE"
fault_word (Stick twin at first last mask value) = codes "STICK"
fault_word (Dead twin pair first last) = codes "DEAD"

abbrev pub fault_fields : Event → List (List ℕ)
fault_fields (Flip number copy first last index mask) = copy_fields number copy first last ++ decimal index ∷ octal_text 9 mask ∷ []
fault_fields (Force number copy first last index mask value) =
    copy_fields number copy first last ++ decimal index ∷ octal_text 9 mask ∷ octal_text 9 value ∷ []
fault_fields (Lag number copy first last) = copy_fields number copy first last
fault_fields (Deaf number copy first last) = copy_fields number copy first last
fault_fields (Damage twin at step mask) = decimal twin ∷ spot_fields at ++ decimal step ∷ octal_text 10 mask ∷ []
fault_fields (Stick twin at first last mask value) =
    decimal twin ∷ spot_fields at ++ decimal first ∷ decimal last ∷ octal_text 10 mask ∷ octal_text 10 value ∷ []
fault_fields (Dead twin pair first last) = decimal twin ∷ decimal pair ∷ decimal first ∷ decimal last ∷ []

-- ---- each is a word

number-word : (n limit : ℕ) → n < limit → limit ≤ 10 ^ 7 → IsWord (decimal n)
number-word n limit low few = decimal-word n (omega (arith, low, few))

pub AreWords-append : (front back : List (List ℕ)) → AreWords front → AreWords back → AreWords (front ++ back)
AreWords-append [] back f b = b
AreWords-append (word ∷ words) back f b = (f.0, AreWords-append words back f.1 b)

span-words : (first last : ℕ) (words : List (List ℕ)) → IsSpan first last → AreWords words → AreWords (decimal first ∷ decimal last ∷ words)
span-words first last words span more =
    (decimal-word first (omega (arith, span.in_order, span.below)), (decimal-word last (omega (arith, span.below)), more))

copy-words : (number copy first last : ℕ) → IsCopy number copy → IsSpan first last → AreWords (copy_fields number copy first last)
copy-words number copy first last is span =
    (number-word number 8 is.last_module (omega arith), (number-word copy 4 is.last_copy (omega arith), span-words first last [] span tt))

pub spot-words : (at : Spot) → AreWords (spot_fields at)
spot-words at = (octal-word 1 at.pair (omega arith), (octal-word 2 at.sector (omega arith), (octal-word 3 at.loc (omega arith), tt)))

pub fault_word-word : (e : Event) → IsWord (fault_word e)
fault_word-word (Flip number copy first last index mask) = record { some = omega arith; visible = refl }
fault_word-word (Force number copy first last index mask value) = record { some = omega arith; visible = refl }
fault_word-word (Lag number copy first last) = record { some = omega arith; visible = refl }
fault_word-word (Deaf number copy first last) = record { some = omega arith; visible = refl }
fault_word-word (Damage twin at step mask) = record { some = omega arith; visible = refl }
fault_word-word (Stick twin at first last mask value) = record { some = omega arith; visible = refl }
fault_word-word (Dead twin pair first last) = record { some = omega arith; visible = refl }

pub fault-words : (e : Event) → IsEvent e → AreWords (fault_fields e)
fault-words (Flip number copy first last index mask) is =
    let few = few_latches number is.0.last_module in
    AreWords-append (copy_fields number copy first last) (decimal index ∷ octal_text 9 mask ∷ []) (copy-words number copy first last is.0 is.1)
    (decimal-word index (omega (arith, is.2, few)), (octal-word 9 mask (omega arith), tt))
fault-words (Force number copy first last index mask value) is =
    let few = few_latches number is.0.last_module in
    AreWords-append (copy_fields number copy first last) (decimal index ∷ octal_text 9 mask ∷ octal_text 9 value ∷ [])
    (copy-words number copy first last is.0 is.1)
    (decimal-word index (omega (arith, is.2, few)), (octal-word 9 mask (omega arith), (octal-word 9 value (omega arith), tt)))
fault-words (Lag number copy first last) is = copy-words number copy first last is.0 is.1
fault-words (Deaf number copy first last) is = copy-words number copy first last is.0 is.1
fault-words (Damage twin at step mask) is = (
  number-word twin 2 is.0 (omega arith),
  AreWords-append (spot_fields at) (decimal step ∷ octal_text 10 mask ∷ []) (spot-words at)
      (number-word step STEPS is.2 (omega arith), (octal-word 10 mask (omega arith), tt)),
)
fault-words (Stick twin at first last mask value) is = (
  number-word twin 2 is.0 (omega arith),
  AreWords-append (spot_fields at) (decimal first ∷ decimal last ∷ octal_text 10 mask ∷ octal_text 10 value ∷ [])
      (spot-words at) (span-words first last (octal_text 10 mask ∷ octal_text 10 value ∷ []) is.2
      (octal-word 10 mask (omega arith), (octal-word 10 value (omega arith), tt))),
)
fault-words (Dead twin pair first last) is =
    (number-word twin 2 is.0 (omega arith), (number-word pair 4 is.1 (omega arith), span-words first last [] is.2 tt))

-- ---- the event again

index-read : (number copy index : ℕ) → number < 8 → index < latches_of number
    → index_in (Some (record { number = number; copy = copy })) (decimal index) ≡ Some index
unfolding index_in
index-read number copy index one l = decimal-read 0 (latches_of number) index (omega arith) l (omega (arith, l, few_latches number one))

pub fault-read : (e : Event) → IsEvent e → fault_in (fault_word e ∷ fault_fields e) ≡ Some e
fault-read (Flip number copy first last index mask) is =
    rw (module_copy-read number copy is.0, span-read first last is.1, index-read number copy index is.0.last_module is.2, word-read mask is.3) refl
fault-read (Force number copy first last index mask value) is =
    rw (
      module_copy-read number copy is.0,
      span-read first last is.1,
      index-read number copy index is.0.last_module is.2,
      word-read mask is.3,
      word-read value is.4,
    ) refl
fault-read (Lag number copy first last) is = rw (module_copy-read number copy is.0, span-read first last is.1) refl
fault-read (Deaf number copy first last) is = rw (module_copy-read number copy is.0, span-read first last is.1) refl
fault-read (Damage twin at step mask) is =
    rw (twin-read twin is.0, place-read at is.1.pair is.1.sector is.1.loc, step-read step is.2, cell-read mask is.3) refl
fault-read (Stick twin at first last mask value) is =
    rw (
      twin-read twin is.0,
      place-read at is.1.pair is.1.sector is.1.loc,
      span-read first last is.2,
      cell-read mask is.3,
      cell-read value is.4,
    ) refl
fault-read (Dead twin pair first last) is = rw (twin-read twin is.0, one_pair-read pair is.1, span-read first last is.2) refl
