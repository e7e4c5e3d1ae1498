-- The memory of an image with more words is its memory with those words stored, one after another.
use Rattle.std.proofs.Common.{◌≡◌, ℕ, ◌+◌, ◌<◌, ◌≤◌, Bool, true, false, List, [], ◌∷◌, length, refl, sym, ap, ◌∙◌, arith, if◌then◌else◌, Option, None, Some}
use Rattle.std.specs.Prelude.{nat_lt, All}
use Rattle.std.proofs.lemmas.Bool.{ltb-true, ltb-false, leb-true}
use Rattle.std.proofs.lemmas.List.Elements.{All-nil, All-cons, All-head, All-tail, All-append}
use Rattle.lvdc_map.specs.Address.{Spot, IsAddress, is_same, number_of}
use Rattle.lvdc_map.specs.Memory.{Memory, stored, loaded}
use Rattle.lvdc_map.specs.declared.placed.Placed.{Placed}
use Rattle.lvdc_map.proofs.Addresses.{same-spot}
use Rattle.lvdc_uplink.specs.Frames.{Frame, Load, Fits, FitsIfStaged}
use Rattle.lvdc_uplink.specs.Patching.{placed_from, placed_in, placed_by, with_word, with_words}
use Rattle.lvdc_uplink.proofs.Placing.{RiseFrom, with_word-rises, with_word-all}
use Rattle.lvdc_uplink.proofs.Sound.{AllFit}

abbrev pub HasAddress : Placed → Type 0
HasAddress p = IsAddress p.at

-- addresses with the same number are the same
same-number : (a b : Spot) → IsAddress a → IsAddress b → number_of a ≡ number_of b → a ≡ b
same-number a b in_a in_b same =
    let p : a.pair ≡ b.pair = omega (arith, in_a.sector, in_a.loc, in_b.sector, in_b.loc, same) in
    let q : a.sector ≡ b.sector = omega (arith, in_a.loc, in_b.loc, same, p) in
    let r : a.loc ≡ b.loc = omega (arith, same, p, q) in
    λ i. record { pair = p i; sector = q i; loc = r i }

number-same : (a b : Spot) → is_same a b ≡ true → number_of a ≡ number_of b
number-same a b same = ap number_of (same-spot a b same)

stored-here : (m : Memory) (a at : Spot) (w : ℕ) → is_same at a ≡ true → stored m a w at ≡ w
stored-here m a at w same = rw same refl

stored-there : (m : Memory) (a at : Spot) (w : ℕ) → is_same at a ≡ false → stored m a w at ≡ m at
stored-there m a at w other = rw other refl

other-number : (a b : Spot) → number_of a < number_of b → (test : Bool) → is_same a b ≡ test → test ≡ false
other-number a b less true same = absurd (omega (arith, number-same a b same))
other-number a b less false same = refl

pub loaded-same : (words : List Placed) (m k : Memory) (at : Spot) → m at ≡ k at → loaded words m at ≡ loaded words k at
loaded-same [] m k at same = same
loaded-same (p ∷ ps) m k at same =
    loaded-same ps (stored m p.at p.word) (stored k p.at p.word) at (ap (λ (w : ℕ). if is_same at p.at then p.word else w) same)

-- what stands below the words stays
loaded-below : (least : ℕ) (words : List Placed) (m : Memory) (at : Spot) → RiseFrom least words → number_of at < least → loaded words m at ≡ m at
loaded-below least [] m at rise below = refl
loaded-below least (p ∷ ps) m at rise below =
    let less : number_of at < number_of p.at = omega (arith, rise.0, below) in
    loaded-below (number_of p.at + 1) ps (stored m p.at p.word) at rise.1 (omega (arith, less))
    ∙ stored-there m p.at at p.word (other-number at p.at less (is_same at p.at) refl)

-- ---- one more word

module _ (old : Placed) (words : List Placed) (new : Placed) (m : Memory) (at : Spot) (in_old : IsAddress old.at) (in_new : IsAddress new.at)
    (rise : RiseFrom (number_of old.at + 1) words) where
  before : number_of new.at < number_of old.at → (here : Bool) → is_same at new.at ≡ here
      → loaded (new ∷ old ∷ words) m at ≡ (if here then new.word else loaded (old ∷ words) m at)
  before less true same =
      loaded-below (number_of old.at) (old ∷ words) (stored m new.at new.word) at (omega arith, rise) (omega (arith, number-same at new.at same))
      ∙ stored-here m new.at at new.word same
  before less false other = loaded-same (old ∷ words) (stored m new.at new.word) m at (stored-there m new.at at new.word other)

  instead : number_of old.at ≡ number_of new.at → (here : Bool) → is_same at new.at ≡ here
      → loaded (new ∷ words) m at ≡ (if here then new.word else loaded (old ∷ words) m at)
  instead numbers true same =
      loaded-below (number_of old.at + 1) words (stored m new.at new.word) at rise (omega (arith, number-same at new.at same, numbers))
      ∙ stored-here m new.at at new.word same
  instead numbers false other =
      let spot : old.at ≡ new.at = same-number old.at new.at in_old in_new numbers in
      let away : is_same at old.at ≡ false = rw spot other in
      loaded-same words (stored m new.at new.word) (stored m old.at old.word) at
      (stored-there m new.at at new.word other ∙ sym (stored-there m old.at at old.word away))

with_word-by : (old : Placed) (words : List Placed) (new : Placed) (m : Memory) (at : Spot) → IsAddress old.at → IsAddress new.at
    → RiseFrom (number_of old.at + 1) words
    → loaded (with_word words new) (stored m old.at old.word) at ≡ stored (loaded words (stored m old.at old.word)) new.at new.word at
    → (below above : Bool) → nat_lt (number_of old.at) (number_of new.at) ≡ below → nat_lt (number_of new.at) (number_of old.at) ≡ above
    → loaded (if below then old ∷ with_word words new else (if above then new ∷ old ∷ words else new ∷ words)) m at ≡ stored (loaded (old ∷ words) m) new.at new.word at
with_word-by old words new m at in_old in_new rise later true above b a = later
with_word-by old words new m at in_old in_new rise later false true b a =
    before old words new m at in_old in_new rise (ltb-true (number_of new.at) (number_of old.at) a) (is_same at new.at) refl
with_word-by old words new m at in_old in_new rise later false false b a =
    instead old words new m at in_old in_new rise
    (omega (arith, ltb-false (number_of old.at) (number_of new.at) b, ltb-false (number_of new.at) (number_of old.at) a)) (is_same at new.at) refl

with_word-loaded : (least : ℕ) (words : List Placed) (new : Placed) (m : Memory) (at : Spot) → RiseFrom least words → All HasAddress words → IsAddress new.at
    → loaded (with_word words new) m at ≡ stored (loaded words m) new.at new.word at
with_word-loaded least [] new m at rise all in_new = refl
with_word-loaded least (old ∷ words) new m at rise all in_new =
    with_word-by old words new m at (All-head HasAddress old words all) in_new rise.1
    (with_word-loaded (number_of old.at + 1) words new (stored m old.at old.word) at rise.1 (All-tail HasAddress old words all) in_new)
    (nat_lt (number_of old.at) (number_of new.at)) (nat_lt (number_of new.at) (number_of old.at)) refl refl

-- ---- more words

pub with_words-loaded : (more words : List Placed) (m : Memory) (at : Spot) → RiseFrom 0 words → All HasAddress words → All HasAddress more
    → loaded (with_words words more) m at ≡ loaded more (loaded words m) at
with_words-loaded [] words m at rise all new = refl
with_words-loaded (p ∷ more) words m at rise all new =
    let here : IsAddress p.at = All-head HasAddress p more new in
    with_words-loaded more (with_word words p) m at (with_word-rises 0 words p (omega arith) rise) (with_word-all HasAddress words p here all)
    (All-tail HasAddress p more new)
    ∙ loaded-same more (loaded (with_word words p) m) (stored (loaded words m) p.at p.word) at (with_word-loaded 0 words p m at rise all here)

-- ---- words of frames have addresses

placed_from-addresses : (words : List ℕ) (at : Spot) → at.pair < 4 → at.sector < 16 → at.loc + length words ≤ 256 → All HasAddress (placed_from at words)
placed_from-addresses [] at pair sector within = All-nil HasAddress
placed_from-addresses (word ∷ words) at pair sector within =
    All-cons HasAddress (record { at = at; word = word }) (placed_from (record at { loc = at.loc + 1 }) words)
    (record { pair = omega (arith, pair); sector = sector; loc = omega (arith, within) })
    (placed_from-addresses words (record at { loc = at.loc + 1 }) pair sector (omega (arith, within)))

placed_in-addresses : (frames : List (Option Frame)) → All FitsIfStaged frames → All HasAddress (placed_in frames)
placed_in-addresses [] fit = All-nil HasAddress
placed_in-addresses (None ∷ frames) fit = placed_in-addresses frames (All-tail FitsIfStaged None frames fit)
placed_in-addresses (Some frame ∷ frames) fit =
    let this : Fits frame = All-head FitsIfStaged (Some frame) frames fit in
    All-append HasAddress (placed_from frame.at frame.words) (placed_in frames)
    (placed_from-addresses frame.words frame.at this.pair this.sector (leb-true (frame.at.loc + length frame.words) 256 this.stays))
    (placed_in-addresses frames (All-tail FitsIfStaged (Some frame) frames fit))

pub placed_by-addresses : (loads : List Load) → AllFit loads → All HasAddress (placed_by loads)
placed_by-addresses [] fit = All-nil HasAddress
placed_by-addresses (load ∷ loads) fit =
    All-append HasAddress (placed_in load.frames) (placed_by loads) (placed_in-addresses load.frames fit.0) (placed_by-addresses loads fit.1)
