-- What a store makes of a word and of a cell, what is shown of a cell with stuck bits, and when a cell survives in two twins.
use Rattle.std.proofs.Common.{◌≡◌, ℕ, ◌/◌, ◌%◌, ◌^◌, Bool, true, false, not, ◌&&◌, ◌||◌, cond, ◌==◌, ◌⊎◌, inl, inr, refl, sym, ap, ◌∙◌}
use Rattle.std.specs.Int.Bits.{or_zero_l}
use Rattle.std.specs.declared.option.Option.{Option}
use Rattle.std.specs.declared.option.Option.TheVariants.{None, Some}
use Rattle.std.proofs.lemmas.Bool.{true≢false, eq-eqb, or_left, or_right, not_from_false}
use Rattle.lvdc_word.specs.Cell.{code_of, is_good, with_stuck}
use Rattle.lvdc_map.specs.Address.{Spot, is_same}
use Rattle.lvdc_map.specs.Banks.{home, holds}
use Rattle.lvdc_map.specs.declared.placed.Placed.{Placed}
use Rattle.lvdc_twin.specs.declared.stuck.Stuck.{Stuck}
use Rattle.lvdc_twin.specs.Store.{nothing, survives}
use Rattle.lvdc_fault.specs.Damage.{is_dead, stuck_beside}
use Rattle.lvdc_model.specs.Trial.{Trial}
use Rattle.lvdc_model.specs.CellsBefore.{overwritten}
use Rattle.lvdc_model.proofs.Stuck.{nothing-stuck}
use Rattle.lvdc_withstands.specs.Form.{is_single}
use Rattle.lvdc_withstands.specs.Touches.{stores_it}
use Rattle.lvdc_withstands.proofs.Seen.{stuck-seen}

-- ---- a store

-- the word at an address after a store, where there is one
abbrev pub word_after : Option Placed → Spot → ℕ → ℕ
word_after None at w = w
word_after (Some s) at w = cond (is_same at s.at) s.word w

-- the cell of a twin that holds the address and is alive, after a store: the code of the word, or what it was
pub record Stored (o : Trial) (now twin w before : ℕ) (at : Spot) (s : Option Placed) : Type 0 where
  pub to_it : stores_it s at ≡ true → overwritten o now twin at s before ≡ code_of (word_after s at w)
  pub cell : stores_it s at ≡ false → overwritten o now twin at s before ≡ before
  pub word : stores_it s at ≡ false → word_after s at w ≡ w

pub stored : (o : Trial) (now twin w cell : ℕ) (at : Spot) (s : Option Placed) → holds o.opening.banks twin at ≡ true
    → is_dead o.script now twin (home at).pair ≡ false → Stored o now twin w cell at s
stored o now twin w cell at None held alive = record { to_it = λ h. absurd (true≢false (sym h)); cell = λ h. refl; word = λ h. refl }
stored o now twin w cell at (Some s) held alive =
    record {
      to_it = λ h. rw (held, alive, h) refl;
      cell = λ h. rw (held, alive, h) refl;
      word = λ h. rw h refl;
    }

-- ---- what is shown

-- of a good cell with what is stuck beside nothing: the cell or a bad one
pub beside-shown : (cell mask value : ℕ) (s : Stuck) → is_good cell ≡ true → (is_single (mask / 2 ^ 14) && is_single (mask % 2 ^ 14)) ≡ true
    → (s ≡ nothing) ⊎ (s ≡ stuck_beside nothing mask value) → (with_stuck cell s.mask s.value ≡ cell) ⊎ (is_good (with_stuck cell s.mask s.value) ≡ false)
beside-shown cell mask value s good single (inl e) = inl (ap (λ (t : Stuck). with_stuck cell t.mask t.value) e ∙ nothing-stuck cell)
beside-shown cell mask value s good single (inr e) = by_case (stuck-seen cell mask (with_stuck 0 mask value) good single)
  where
    same : with_stuck cell s.mask s.value ≡ with_stuck cell mask (with_stuck 0 mask value)
    same = ap (λ (t : Stuck). with_stuck cell t.mask t.value) e ∙ ap (λ (m : ℕ). with_stuck cell m (with_stuck 0 mask value)) (or_zero_l mask)

    by_case : (with_stuck cell mask (with_stuck 0 mask value) ≡ cell) ⊎ (is_good (with_stuck cell mask (with_stuck 0 mask value)) ≡ false)
        → (with_stuck cell s.mask s.value ≡ cell) ⊎ (is_good (with_stuck cell s.mask s.value) ≡ false)
    by_case (inl k) = inl (same ∙ k)
    by_case (inr bad) = inr (ap is_good same ∙ bad)

-- ---- what two twins show

-- a cell survives where one twin shows it, and the other it or a bad one
pub survives-first : (code zeroth first : ℕ) → zeroth ≡ code → (first ≡ code) ⊎ (is_good first ≡ false) → survives code zeroth first ≡ true
survives-first code zeroth first e right = rw (eq-eqb zeroth code e) (by_case right)
  where
    by_case : (first ≡ code) ⊎ (is_good first ≡ false) → (first == code || not (is_good first)) ≡ true
    by_case (inl k) = or_left (first == code) (not (is_good first)) (eq-eqb first code k)
    by_case (inr bad) = or_right (first == code) (not (is_good first)) (not_from_false (is_good first) bad)

pub survives-second : (code zeroth first : ℕ) → (zeroth ≡ code) ⊎ (is_good zeroth ≡ false) → first ≡ code → survives code zeroth first ≡ true
survives-second code zeroth first (inl e) k = survives-first code zeroth first e (inl k)
survives-second code zeroth first (inr bad) k =
    rw (eq-eqb first code k, bad) (by_test (zeroth == code))
  where
    by_test : (b : Bool) → (((b || true) && (b || true)) && true) ≡ true
    by_test true = refl
    by_test false = refl
