-- The words of a load, frame after frame.
use Rattle.std.proofs.Common.{◌≡◌, ℕ, ◌+◌, ◌<◌, true, List, [], ◌∷◌, length, get_or, drop, Option, None, Some, refl, sym, ap, ◌∙◌}
use Rattle.std.specs.Prelude.{All}
use Rattle.std.proofs.lemmas.Bool.{lt-ltb}
use Rattle.std.proofs.lemmas.List.{drop_more}
use Rattle.std.proofs.lemmas.List.Elements.{All-nil, All-cons, All-head, All-tail, All-append}
use Rattle.lvdc_map.specs.Address.{Spot}
use Rattle.lvdc_map.specs.Banks.{is_there}
use Rattle.lvdc_map.specs.declared.placed.Placed.{Placed}
use Rattle.lvdc_uplink.specs.Frames.{Frame, FitsIfStaged}
use Rattle.lvdc_uplink.specs.Patching.{placed_from, placed_in, with_words}
use Rattle.lvdc_uplink.proofs.Placing.{with_words-append}

module _ (frames : List (Option Frame)) (i : ℕ) (d : Option Frame) (within : i < length frames) (before : List Placed) where
  by_this : (this : Option Frame) → get_or frames i d ≡ this → placed_in (drop i frames) ≡ placed_in (this ∷ drop (i + 1) frames)
  by_this this is = ap placed_in (drop_more frames i d within) ∙ ap (λ (f : Option Frame). placed_in (f ∷ drop (i + 1) frames)) is

  pub after-some : (frame : Frame) → get_or frames i d ≡ Some frame → (now : List Placed) → now ≡ with_words before (placed_from frame.at frame.words)
      → with_words now (placed_in (drop (i + 1) frames)) ≡ with_words before (placed_in (drop i frames))
  after-some frame is now are =
      ap (λ (ws : List Placed). with_words ws (placed_in (drop (i + 1) frames))) are
      ∙ sym (with_words-append (placed_from frame.at frame.words) (placed_in (drop (i + 1) frames)) before)
      ∙ ap (with_words before) (sym (by_this (Some frame) is))

  pub after-none : get_or frames i d ≡ None → with_words before (placed_in (drop (i + 1) frames)) ≡ with_words before (placed_in (drop i frames))
  after-none is = ap (with_words before) (sym (by_this None is))

-- ---- the banks of the words are there

abbrev pub IsThere : ℕ → Placed → Type 0
IsThere banks p = is_there banks p.at ≡ true

is_there-pair : (banks : ℕ) (at : Spot) → at.pair < 4 → is_there banks at ≡ true
is_there-pair banks at low = rw (lt-ltb at.pair 4 low) refl

placed_from-there : (banks : ℕ) (words : List ℕ) (at : Spot) → at.pair < 4 → All (IsThere banks) (placed_from at words)
placed_from-there banks [] at low = All-nil (IsThere banks)
placed_from-there banks (word ∷ words) at low =
    All-cons (IsThere banks) (record { at = at; word = word }) (placed_from (record at { loc = at.loc + 1 }) words)
    (is_there-pair banks at low) (placed_from-there banks words (record at { loc = at.loc + 1 }) low)

pub placed_in-there : (banks : ℕ) (frames : List (Option Frame)) → All FitsIfStaged frames → All (IsThere banks) (placed_in frames)
placed_in-there banks [] fit = All-nil (IsThere banks)
placed_in-there banks (None ∷ frames) fit = placed_in-there banks frames (All-tail FitsIfStaged None frames fit)
placed_in-there banks (Some frame ∷ frames) fit =
    All-append (IsThere banks) (placed_from frame.at frame.words) (placed_in frames)
    (placed_from-there banks frame.words frame.at (All-head FitsIfStaged (Some frame) frames fit).pair)
    (placed_in-there banks frames (All-tail FitsIfStaged (Some frame) frames fit))
