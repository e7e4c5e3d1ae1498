-- What reads and stores of two twins leave is what the voted machine's twins are left with.
use Rattle.std.proofs.Common.{◌≡◌, ℕ, zero, suc, ◌-◌, ◌/◌, ◌%◌, ◌<◌, Bool, true, false, cond, ◌&&◌, List, Option, None, Some, Result, Ok, Err, IfOk, IfSome, slice_index, slice_set, refl, sym, ap, ◌∙◌, subst, arith}
use Rattle.std.specs.Prelude.{◌==◌}
use Rattle.lvdc_word.specs.Cell.{code_of, with_stuck}
use Rattle.lvdc_map.specs.Address.{Spot, is_same}
use Rattle.lvdc_map.specs.Banks.{is_simplex, home, holds, IsPlace}
use Rattle.lvdc_map.specs.Memory.{Memory, word_at, stored, IsMemory}
use Rattle.lvdc_twin.specs.Calls as calls
use Rattle.lvdc_twin.specs.Calls.{ChangesAreLocal}
use Rattle.lvdc_twin.specs.Store as store
use Rattle.lvdc_twin.specs.Store.{Store, IsStore, stored_in, shown_in, survives}
use Rattle.lvdc_twin.specs.declared.both_bad.BothBad.{BothBad}
use Rattle.lvdc_twin.specs.declared.read_out.ReadOut.{ReadOut}
use Rattle.lvdc_fault.specs.Ledger.{Intended}
use Rattle.lvdc_fault.specs.Recoverable.{recovers_by, is_recovered, shown_by}
use Rattle.lvdc_fault.specs.declared.event.Event.{Event}
use Rattle.lvdc_model.specs.Known.{shows_since}
use Rattle.lvdc_model.specs.Trial.{Trial}
use Rattle.lvdc_model.specs.Twins as model
use Rattle.lvdc_model.specs.Twins.{Twins, shows, answer_by, after_read, after_store}
use Rattle.lvdc_model.proofs.Stuck.{nothing-stuck}
use Rattle.lvdc_memory.specs.Holds.{MemoryState, Carries, IsMemoryOf}

-- ---- one cell

-- both sides of a condition
cond-same : {X : Type 0} (b : Bool) (p q x y : X) → p ≡ q → x ≡ y → cond b p x ≡ cond b q y
cond-same true p q x y e f = e
cond-same false p q x y e f = f

-- what a memory holds once a cell is stored in it, where it is
stored-where : (b : Bool) (m : Memory) (here place : Spot) (cell x : ℕ) → x ≡ word_at m place
    → cond (b && is_same place here) cell x ≡ word_at (cond b (stored m here cell) m) place
stored-where true m here place cell x f = cond-same (is_same place here) cell cell x (word_at m place) refl f
stored-where false m here place cell x f = f

-- a twin stores a cell at a place
pub cell-carries : ChangesAreLocal → (in_force : Option ℕ) (script : List Event) (s : Store) (t : Twins) (twin : ℕ) (place : Spot) (cell : ℕ) → IsStore s → IsPlace place → twin < 2
    → Carries in_force script s t → Carries in_force script (store.with_cell s twin place cell) (model.with_place t twin place cell)
cell-carries law in_force script s t twin place cell whole here two h =
    record {
      cells = λ w small other p. law.cells s twin place cell w other whole two small here p
          ∙ stored-where (w == twin) (t.cells w) place other cell (stored_in s w other) (h.cells w small other p);
      selected = h.selected;
      stuck = h.stuck;
      dead = h.dead;
    }

-- a twin that isn't dead stores the code of a word
word-carries : ChangesAreLocal → (o : Trial) (step : ℕ) (s : Store) (t : Twins) (twin : ℕ) (at : Spot) (w : ℕ) → IsStore s → IsPlace (home at) → twin < 2
    → Carries (Some step) o.script s t → Carries (Some step) o.script (store.with_word s twin (home at) w) (model.with_word o step t twin at w)
word-carries law o step s t twin at w whole here two h =
    subst (λ (d : Bool). Carries (Some step) o.script (store.with_word s twin (home at) w) (cond d t (model.with_cell t twin at (code_of w))))
    (h.dead twin two (home at).pair here.pair) (by_case (store.is_dead s twin (home at).pair))
  where
    by_case : (d : Bool) → Carries (Some step) o.script (cond d s (store.with_cell s twin (home at) (code_of w))) (cond d t (model.with_cell t twin at (code_of w)))
    by_case true = h
    by_case false = cell-carries law (Some step) o.script s t twin (home at) (code_of w) whole here two h

-- ---- a read

-- what a twin shows
shown-carries : (o : Trial) (step : ℕ) (s : Store) (t : Twins) (twin : ℕ) (at : Spot) → IsPlace (home at) → twin < 2 → Carries (Some step) o.script s t
    → shown_in s twin (home at) ≡ shows o step t twin at
shown-carries o step s t twin at here two h =
    λ i. cond (h.dead twin two (home at).pair here.pair i) 0
    (with_stuck (h.cells twin two (home at) here i) (h.stuck twin two (home at) here i).mask (h.stuck twin two (home at) here i).value)

-- a read answers alike, by whether the pair is simplex
answer-carries : (b : Bool) (o : Trial) (step : ℕ) (s : Store) (t : Twins) (at : Spot) → IsStore s → IsPlace (home at) → at.pair < 8 → Carries (Some step) o.script s t
    → cond b (calls.answer_by_one (shown_in s (at.pair / 4) (home at)))
    (calls.answer_by_two (slice_index s.selected (home at).pair) (shown_in s (slice_index s.selected (home at).pair) (home at)) (shown_in s (1 - slice_index s.selected (home at).pair) (home at)))
    ≡ answer_by b o step t at
answer-carries true o step s t at whole here bank h = ap calls.answer_by_one (shown-carries o step s t (at.pair / 4) at here (omega arith) h)
answer-carries false o step s t at whole here bank h =
    let n = slice_index s.selected (home at).pair in
    let small : n < 2 = whole.selected (home at).pair in
    let other : 1 - n < 2 = omega arith in
    (λ i. calls.answer_by_two n (shown-carries o step s t n at here small h i) (shown-carries o step s t (1 - n) at here other h i))
    ∙ ap (λ (xs : List ℕ). calls.answer_by_two (slice_index xs (home at).pair) (shows o step t (slice_index xs (home at).pair) at) (shows o step t (1 - slice_index xs (home at).pair) at)) h.selected

-- what a read answers
pub read-answers : (o : Trial) (step : ℕ) (s : Store) (t : Twins) (at : Spot) → IsStore s → IsPlace (home at) → at.pair < 8 → s.banks ≡ o.opening.banks
    → Carries (Some step) o.script s t → calls.answer_of s at ≡ model.read_answer o step t at
read-answers o step s t at whole here bank banks h =
    answer-carries (is_simplex s.banks (home at).pair) o step s t at whole here bank h
    ∙ ap (λ (b : ℕ). answer_by (is_simplex b (home at).pair) o step t at) banks

-- the twin repaired
repaired-carries : ChangesAreLocal → (repaired : Option ℕ) (o : Trial) (step : ℕ) (s : Store) (t : Twins) (at : Spot) (w : ℕ) → IsStore s → IsPlace (home at) → IfSome repaired (λ twin. twin < 2)
    → Carries (Some step) o.script s t → Carries (Some step) o.script (calls.repaired_by repaired s (home at) w) (model.rewritten repaired o step t at w)
repaired-carries law None o step s t at w whole here small h = h
repaired-carries law (Some twin) o step s t at w whole here small h = word-carries law o step s t twin at w whole here small h

-- the twin selected
switched-carries : (b : Bool) (in_force : Option ℕ) (script : List Event) (s : Store) (t : Twins) (pair : ℕ) → Carries in_force script s t
    → Carries in_force script (calls.switched_by b s pair) (model.switched_by b t pair)
switched-carries true in_force script s t pair h =
    record { cells = h.cells; selected = ap (λ (xs : List ℕ). slice_set xs pair (1 - slice_index xs pair)) h.selected; stuck = h.stuck; dead = h.dead }
switched-carries false in_force script s t pair h = h

-- what a read leaves
pub read-carries : ChangesAreLocal → (answer : Result ReadOut BothBad) (o : Trial) (step : ℕ) (s : Store) (t : Twins) (at : Spot) → IsStore s → IsPlace (home at)
    → IfOk answer (λ r. IfSome r.repaired (λ twin. twin < 2)) → Carries (Some step) o.script s t
    → IfOk answer (λ r. Carries (Some step) o.script (calls.after_answer answer s (home at)) (after_read o step t at r))
read-carries law (Ok r) o step s t at whole here small h =
    switched-carries r.switched (Some step) o.script (calls.repaired_by r.repaired s (home at) r.word) (model.rewritten r.repaired o step t at r.word) (home at).pair
    (repaired-carries law r.repaired o step s t at r.word whole here small h)
read-carries law (Err bad) o step s t at whole here small h = tt

-- ---- a store

-- a twin that holds the address is stored in alike, and one that doesn't not at all
held-carries : ChangesAreLocal → (b : Bool) (o : Trial) (step : ℕ) (s : Store) (t : Twins) (twin : ℕ) (at : Spot) (w : ℕ) → IsStore s → IsPlace (home at) → twin < 2
    → Carries (Some step) o.script s t → Carries (Some step) o.script (cond b (store.with_word s twin (home at) w) s) (cond b (model.with_word o step t twin at w) t)
held-carries law true o step s t twin at w whole here two h = word-carries law o step s t twin at w whole here two h
held-carries law false o step s t twin at w whole here two h = h

-- so of one twin
one-carries : ChangesAreLocal → (o : Trial) (step : ℕ) (s : Store) (t : Twins) (twin : ℕ) (at : Spot) (w : ℕ) → IsStore s → IsPlace (home at) → twin < 2 → s.banks ≡ o.opening.banks
    → Carries (Some step) o.script s t → Carries (Some step) o.script (calls.with_held s twin at w) (model.with_held o step twin at w t)
one-carries law o step s t twin at w whole here two banks h =
    subst (λ (b : ℕ). Carries (Some step) o.script (calls.with_held s twin at w) (cond (holds b twin at) (model.with_word o step t twin at w) t)) banks
    (held-carries law (holds s.banks twin at) o step s t twin at w whole here two h)

-- what a store leaves
pub store-carries : ChangesAreLocal → (o : Trial) (step : ℕ) (s : Store) (t : Twins) (at : Spot) (w : ℕ) → IsStore s → IsPlace (home at) → s.banks ≡ o.opening.banks
    → Carries (Some step) o.script s t → Carries (Some step) o.script (calls.after_write s at w) (after_store o step at w t)
store-carries law o step s t at w whole here banks h =
    one-carries law o step (calls.with_held s 0 at w) (model.with_held o step 0 at w t) 1 at w (law.whole s 0 at w whole) here (omega arith)
    (law.banks s 0 at w ∙ banks) (one-carries law o step s t 0 at w whole here (omega arith) banks h)

-- ---- what can be recovered

-- what a twin shows with what is in force
pub shown-since : (in_force : Option ℕ) (o : Trial) (s : Store) (t : Twins) (twin : ℕ) (at : Spot) → IsPlace (home at) → twin < 2 → Carries in_force o.script s t
    → shown_in s twin (home at) ≡ shows_since in_force o t twin at
shown-since None o s t twin at here two h =
    (λ i. cond (h.dead twin two (home at).pair here.pair i) 0
    (with_stuck (h.cells twin two (home at) here i) (h.stuck twin two (home at) here i).mask (h.stuck twin two (home at) here i).value))
    ∙ nothing-stuck (model.cell_at t twin at)
shown-since (Some step) o s t twin at here two h = shown-carries o step s t twin at here two h

-- what can be recovered is the same by equal cells
recovered_by : (b : Bool) (bank cell : ℕ) (f g : ℕ → ℕ) → bank < 8 → ((twin : ℕ) → twin < 2 → f twin ≡ g twin) → recovers_by b bank cell f ≡ recovers_by b bank cell g
recovered_by true bank cell f g small same = ap (λ (c : ℕ). c == cell) (same (bank / 4) (omega arith))
recovered_by false bank cell f g small same = λ i. survives cell (same 0 (omega arith) i) (same 1 (omega arith) i)

-- only what two twins show counts
pub recovered-same : (banks : ℕ) (at : Spot) (w : ℕ) (f g : ℕ → ℕ) → at.pair < 8 → ((twin : ℕ) → twin < 2 → f twin ≡ g twin) → is_recovered banks at w f ≡ is_recovered banks at w g
recovered-same banks at w f g small same = recovered_by (is_simplex banks (at.pair % 4)) at.pair (code_of w) f g small same

-- ---- the whole memory

-- what a read leaves
pub read-holds : ChangesAreLocal → (answer : Result ReadOut BothBad) (s u : Store) (m v : MemoryState) (at : Spot) → IsStore s → IsPlace (home at) → IfOk answer (λ r. IfSome r.repaired (λ twin. twin < 2))
    → u ≡ calls.after_answer answer s (home at) → u.banks ≡ s.banks → m.twins ≡ s → v.twins ≡ u → v.ledger ≡ m.ledger
    → IfOk answer (λ r. (o : Trial) (step : ℕ) (t : Twins) (i : Memory) → IsMemoryOf o (Some step) m t i → IsMemoryOf o (Some step) v (after_read o step t at r) i)
read-holds law (Ok r) s u m v at whole here small after banks ms vu ledger = λ o step t i h.
    let before : Carries (Some step) o.script s t = subst (λ (x : Store). Carries (Some step) o.script x t) ms h.twins in
    record {
      banks = ap (λ (x : Store). x.banks) vu ∙ banks ∙ ap (λ (x : Store). x.banks) (sym ms) ∙ h.banks;
      twins = subst (λ (x : Store). Carries (Some step) o.script x (after_read o step t at r)) (sym (vu ∙ after)) (read-carries law (Ok r) o step s t at whole here small before);
      words = subst (λ (l : Intended). IsMemory l.words i) (sym ledger) h.words;
    }
read-holds law (Err bad) s u m v at whole here small after banks ms vu ledger = tt

-- what can be recovered
pub recovered-holds : (o : Trial) (in_force : Option ℕ) (m : MemoryState) (t : Twins) (i : Memory) (at : Spot) (zeroth first : ℕ) → IsMemoryOf o in_force m t i → at.pair < 8 → IsPlace (home at)
    → zeroth ≡ shown_in m.twins 0 (home at) → first ≡ shown_in m.twins 1 (home at)
    → is_recovered m.twins.banks at (word_at i at) (shown_by zeroth first) ≡ is_recovered o.opening.banks at (word_at i at) (λ twin. shows_since in_force o t twin at)
recovered-holds o in_force m t i at zeroth first h small here is_zeroth is_first =
    ap (λ (b : ℕ). is_recovered b at (word_at i at) (shown_by zeroth first)) h.banks
    ∙ recovered-same o.opening.banks at (word_at i at) (shown_by zeroth first) (λ twin. shows_since in_force o t twin at) small shown
  where
    shown : (twin : ℕ) → twin < 2 → shown_by zeroth first twin ≡ shows_since in_force o t twin at
    shown zero two = is_zeroth ∙ shown-since in_force o m.twins t 0 at here two h.twins
    shown (suc zero) two = is_first ∙ shown-since in_force o m.twins t 1 at here two h.twins
    shown (suc (suc n)) two = absurd (omega arith)
