-- Where each twin that holds an address shows the code of its word.
use Rattle.std.proofs.Common.{◌≡◌, ℕ, zero, suc, ◌/◌, ◌%◌, ◌<◌, Bool, true, false, cond, ◌&&◌, ◌||◌, not, Option, sym, ap, ◌∙◌, refl, arith}
use Rattle.std.specs.Prelude.{◌==◌}
use Rattle.std.proofs.lemmas.Bool.{eqb-true, eq-eqb, and_parts, and_from}
use Rattle.lvdc_word.specs.Cell.{code_of, is_good}
use Rattle.lvdc_map.specs.Address.{Spot}
use Rattle.lvdc_map.specs.Banks.{is_simplex, home, IsPlace}
use Rattle.lvdc_map.specs.Memory.{Memory, word_at}
use Rattle.lvdc_twin.specs.Calls.{all_show}
use Rattle.lvdc_twin.specs.Store.{Store, shown_in, survives}
use Rattle.lvdc_fault.specs.Recoverable.{recovers_by, is_recovered, shown_by}
use Rattle.lvdc_model.specs.Known.{shows_since}
use Rattle.lvdc_model.specs.Trial.{Trial}
use Rattle.lvdc_model.specs.Twins.{Twins}
use Rattle.lvdc_memory.specs.Holds.{MemoryState, IsMemoryOf}
use Rattle.lvdc_memory.proofs.Carrying.{recovered-holds}

-- each twin shows the cell, whether it holds the address or not
pub all-show-both : (t : Store) (at : Spot) (cell : ℕ) → at.pair < 8 → ((twin : ℕ) → twin < 2 → shown_in t twin (home at) ≡ cell) → all_show t at cell ≡ true
all-show-both t at cell small shown = by_case (is_simplex t.banks (at.pair % 4))
  where
    by_case : (b : Bool) → cond b (shown_in t (at.pair / 4) (home at) == cell) (shown_in t 0 (home at) == cell && shown_in t 1 (home at) == cell) ≡ true
    by_case true = eq-eqb (shown_in t (at.pair / 4) (home at)) cell (shown (at.pair / 4) (omega (arith, small)))
    by_case false =
        and_from (shown_in t 0 (home at) == cell) (shown_in t 1 (home at) == cell)
        (eq-eqb (shown_in t 0 (home at)) cell (shown 0 (omega arith))) (eq-eqb (shown_in t 1 (home at)) cell (shown 1 (omega arith)))

-- a cell that both show survives
both_survive : (cell zeroth first : ℕ) → zeroth ≡ cell → first ≡ cell → survives cell zeroth first ≡ true
both_survive cell zeroth first z f =
    (λ i. (eq-eqb zeroth cell z i || first == cell) && (eq-eqb zeroth cell z i || not (is_good zeroth)) && (eq-eqb first cell f i || not (is_good first)))

-- so the word can be recovered, by whether the pair is simplex
recovered_by : (b : Bool) (bank cell : ℕ) (shown : ℕ → ℕ) → bank < 8
    → cond b (shown (bank / 4) == cell) (shown 0 == cell && shown 1 == cell) ≡ true
    → recovers_by b bank cell (shown_by (shown 0) (shown 1)) ≡ true
recovered_by true bank cell shown small h = ap (λ (c : ℕ). c == cell) (of_two (bank / 4) (omega (arith, small))) ∙ h
  where
    of_two : (twin : ℕ) → twin < 2 → shown_by (shown 0) (shown 1) twin ≡ shown twin
    of_two zero two = refl
    of_two (suc zero) two = refl
    of_two (suc (suc n)) two = absurd (omega (arith, two))
recovered_by false bank cell shown small h =
    let parts = and_parts (shown 0 == cell) (shown 1 == cell) h in
    both_survive cell (shown 0) (shown 1) (eqb-true (shown 0) cell parts.0) (eqb-true (shown 1) cell parts.1)

-- so it can be recovered from what the twins show
pub recovered-sound : (o : Trial) (in_force : Option ℕ) (m : MemoryState) (t : Twins) (i : Memory) (at : Spot) (cell : ℕ) → IsMemoryOf o in_force m t i → at.pair < 8 → IsPlace (home at)
    → cell ≡ code_of (word_at i at) → all_show m.twins at cell ≡ true
    → is_recovered o.opening.banks at (word_at i at) (λ twin. shows_since in_force o t twin at) ≡ true
recovered-sound o in_force m t i at cell h small here is shown =
    sym (recovered-holds o in_force m t i at (shown_in m.twins 0 (home at)) (shown_in m.twins 1 (home at)) h small here refl refl)
    ∙ ap (λ (c : ℕ). recovers_by (is_simplex m.twins.banks (at.pair % 4)) at.pair c (shown_by (shown_in m.twins 0 (home at)) (shown_in m.twins 1 (home at)))) (sym is)
    ∙ recovered_by (is_simplex m.twins.banks (at.pair % 4)) at.pair cell (λ twin. shown_in m.twins twin (home at)) small shown
