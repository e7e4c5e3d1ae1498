-- Words that are 0 and known have no line.
use Rattle.std.proofs.Common.{◌≡◌, ℕ, ◌<◌, Bool, true, false, cond, List, [], get_or, refl, sym, ap, ◌∙◌, arith}
use Rattle.lvdc_map.specs.Address.{Spot, IsAddress, spot_at, number_of}
use Rattle.lvdc_map.specs.Banks.{is_there}
use Rattle.lvdc_map.specs.Memory.{Memory, word_at, IsMemory}
use Rattle.lvdc_model.specs.Known.{is_known}
use Rattle.lvdc_model.specs.Trial.{Trial}
use Rattle.lvdc_model.specs.Voted.{Voted}
use Rattle.lvdc_machine.specs.Stands.{shown_by, shown_of}
use Rattle.lvdc_machine.specs.declared.shown.Shown.{Shown}
use Rattle.lvdc_machine.specs.declared.shown.Shown.TheVariants.{Known, Unknown}
use Rattle.lvdc_report.specs.Report.{told_line, plain_line}
use Rattle.lvdc_report.specs.Voted.{shown_line}

-- the address of a number below 32,768
pub address : (number : ℕ) → number < 32768 → IsAddress (spot_at number)
address number small = record { pair = omega (arith, small); sector = omega arith; loc = omega arith }

pub number-back : (number : ℕ) → number_of (spot_at number) ≡ number
number-back number = omega arith

there-or-not : (b : Bool) (line : List ℕ) → line ≡ [] → cond b line [] ≡ []
there-or-not true line none = none
there-or-not false line none = refl

-- the word that is told
abbrev told : Shown → ℕ
told (Known word) = word
told Unknown = 1

none-told : (known : Bool) (at : Spot) (word : ℕ) → shown_by known word ≡ Known 0 → told_line known at word ≡ []
none-told true at word e = let none : word ≡ 0 = ap told e in ap (told_line true at) none
none-told false at word e = search e

-- of the voted machine
pub shown-blank : (banks : ℕ) (o : Trial) (v : Voted) (number : ℕ) → shown_of o v (spot_at number) ≡ Known 0 → shown_line banks o v number ≡ []
shown-blank banks o v number e =
    there-or-not (is_there banks (spot_at number)) _ (none-told (is_known o v (spot_at number)) (spot_at number) (word_at v.intended (spot_at number)) e)

-- of the plain machine
pub plain-blank : (banks : ℕ) (words : List ℕ) (m : Memory) (number : ℕ) → number < 32768 → IsMemory words m → get_or words number 0 ≡ 0 → plain_line banks m number ≡ []
plain-blank banks words m number small is none =
    there-or-not (is_there banks (spot_at number)) _ (zero-line (word_at m (spot_at number)) word)
  where
    word : word_at m (spot_at number) ≡ 0
    word = sym (is.same (spot_at number) (address number small)) ∙ ap (λ (n : ℕ). get_or words n 0) (number-back number) ∙ none

    zero-line : (w : ℕ) → w ≡ 0 → told_line true (spot_at number) w ≡ []
    zero-line w e = ap (told_line true (spot_at number)) e
