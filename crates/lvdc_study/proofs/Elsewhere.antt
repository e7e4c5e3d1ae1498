-- The stored cells of an address that is at no place are the codes of the plain run's words: no event names it, and nothing is stored there.
use Rattle.std.proofs.Common.{◌≡◌, ℕ, zero, suc, ◌<◌, ◌%◌, Bool, true, false, cond, ◌==◌, ◌&&◌, List, [], ◌∷◌, refl, sym, ap, ◌∙◌, subst, arith}
use Rattle.std.specs.Prelude.{All, not, bit_xor, ◌||◌}
use Rattle.std.specs.declared.option.Option.{Option}
use Rattle.std.specs.declared.option.Option.TheVariants.{None, Some}
use Rattle.std.proofs.lemmas.List.Elements.{All-nil, All-head, All-tail}
use Rattle.lvdc_word.specs.Cell.{code_of}
use Rattle.lvdc_map.specs.Address.{Spot, is_same}
use Rattle.lvdc_map.specs.Banks.{home, holds, IsPlace}
use Rattle.lvdc_map.specs.Hop.{HopConstant, IsHopConstant}
use Rattle.lvdc_map.specs.Memory.{word_at}
use Rattle.lvdc_map.specs.Place.{a9, data_spot}
use Rattle.lvdc_map.specs.declared.place.Place.TheVariants as places
use Rattle.lvdc_map.specs.declared.placed.Placed.{Placed}
use Rattle.lvdc_map.proofs.Addresses.{same-spot}
use Rattle.lvdc_isa.specs.declared.op.Op.{Op}
use Rattle.lvdc_isa.specs.declared.op.Op.TheVariants.{Sto}
use Rattle.lvdc_plain.specs.Accesses.{accessed, store_to, store_of, store}
use Rattle.lvdc_plain.specs.Plain.{PlainState}
use Rattle.lvdc_plain.specs.Run.{Opening}
use Rattle.lvdc_plain.specs.Table.{fetched_instr}
use Rattle.lvdc_plain.specs.declared.records.Stop.{Stop}
use Rattle.lvdc_fault.specs.Damage.{damaged_by, damaged, is_dead}
use Rattle.lvdc_fault.specs.Events.{IsEvent}
use Rattle.lvdc_fault.specs.declared.event.Event.{Event}
use Rattle.lvdc_fault.specs.declared.event.Event.TheVariants.{Damage}
use Rattle.lvdc_model.specs.CellsBefore.{is_mended, mended, overwritten, cell_after, cell_before}
use Rattle.lvdc_model.specs.Trial.{Trial, plain_in, store_at, store_in_phase}
use Rattle.lvdc_laws_voted.specs.Laws.{PortLaw}
use Rattle.lvdc_laws_voted.proofs.Unhurt.{cell-next}
use Rattle.lvdc_runs.specs.Scripts.{trial_under}

-- what is accessed is there
access-is : (stop : Option Stop) (hold : ℕ) (access : Option Placed) (s : Placed) → accessed stop hold access ≡ Some s → access ≡ Some s
access-is None zero access s is = is
access-is None (suc hold) access s is = absurd (cc (is))
access-is (Some why) hold access s is = absurd (cc (is))

-- an operand's address is that of a place
data-place : (banks : ℕ) (h : HopConstant) (address : ℕ) → h.dsec < 16 → IsPlace (home (data_spot banks h address))
data-place banks h address small = record { pair = omega arith; sector = by_sector (a9 address); loc = omega arith }
  where
    by_sector : (b : Bool) → cond b 15 h.dsec < 16
    by_sector true = omega arith
    by_sector false = small

abbrev spot-of : Spot → Option Placed → Spot
spot-of other None = other
spot-of other (Some s) = s.at

store-by : (p : PlainState) (pq saver : Bool) (at : Spot) → IsPlace (home at) → (s : Placed)
    → store_to p (cond pq places.Pq (cond saver (places.Saver at) (places.Memory at))) ≡ Some s → IsPlace (home s.at)
store-by p true saver at place s is = absurd (cc (is))
store-by p false true at place s is = subst (λ (x : Spot). IsPlace (home x)) (ap (spot-of at) is) place
store-by p false false at place s is = subst (λ (x : Spot). IsPlace (home x)) (ap (spot-of at) is) place

-- so is that of a store
store-place : (p : PlainState) → IsHopConstant p.place → (op : Op) (address : ℕ) (s : Placed) → store_of p op address ≡ Some s → IsPlace (home s.at)
store-place p fits Sto address s is =
    store-by p (address == 0o775) (address == 0o776 || address == 0o777) (data_spot p.banks p.place address) (data-place p.banks p.place address fits.dsec) s is
store-place p fits _ address s is = absurd (cc (is))

module _ (at : Spot) (nowhere : IsPlace (home at) → ⊥) where
  -- no place is that of the address
  no-place : (place : Spot) → IsPlace place → is_same (home at) place ≡ false
  no-place place is = by_same (is_same (home at) place) refl
    where
      by_same : (b : Bool) → is_same (home at) place ≡ b → is_same (home at) place ≡ false
      by_same false e = e
      by_same true e = absurd (nowhere (subst IsPlace (sym (same-spot (home at) place e)) is))

  kept : (b : Bool) (changed cell : ℕ) → cond (b && false) changed cell ≡ cell
  kept true changed cell = refl
  kept false changed cell = refl

  undamaged_by : (step twin : ℕ) (e : Event) (cell : ℕ) → IsEvent e → damaged_by step twin (home at) e cell ≡ cell
  undamaged_by step twin (Damage w place t mask) cell ok =
      ap (λ (b : Bool). cond (t == step && w == twin && b) (bit_xor cell mask) cell) (no-place place ok.1) ∙ kept (t == step && w == twin) (bit_xor cell mask) cell
  undamaged_by step twin _ cell ok = refl

  undamaged : (step twin : ℕ) (script : List Event) (cell : ℕ) → All IsEvent script → damaged step twin (home at) script cell ≡ cell
  undamaged step twin [] cell ok = refl
  undamaged step twin (e ∷ es) cell ok =
      ap (damaged step twin (home at) es) (undamaged_by step twin e cell (All-head IsEvent e es ok)) ∙ undamaged step twin es cell (All-tail IsEvent e es ok)

  -- nor is that of a store
  store-elsewhere : (p : PlainState) → IsHopConstant p.place → (s : Placed) → store p ≡ Some s → is_same at s.at ≡ false
  store-elsewhere p fits s is = by_same (is_same at s.at) refl
    where
      stored : IsPlace (home s.at)
      stored = store-place p fits (fetched_instr p).op (fetched_instr p).address s (access-is p.stop p.hold _ s is)

      by_same : (b : Bool) → is_same at s.at ≡ b → is_same at s.at ≡ false
      by_same false e = e
      by_same true e = absurd (nowhere (subst (λ (x : Spot). IsPlace (home x)) (sym (same-spot at s.at e)) stored))

  step-elsewhere : (k : ℕ) (p : PlainState) → IsHopConstant p.place → (s : Placed) → store_in_phase k p ≡ Some s → is_same at s.at ≡ false
  step-elsewhere zero p fits s is = absurd (cc (is))
  step-elsewhere (suc zero) p fits s is = absurd (cc (is))
  step-elsewhere (suc (suc k)) p fits s is = store-elsewhere p fits s is

  -- ---- the cells

  -- a cell that is the code of the word is mended to it, and not overwritten
  mended-is : (b : Bool) (word cell : ℕ) → cell ≡ word → cond b word cell ≡ word
  mended-is true word cell e = refl
  mended-is false word cell e = e

  not-overwritten : (o : Trial) (step twin : ℕ) (s : Option Placed) (cell : ℕ) → ((made : Placed) → s ≡ Some made → is_same at made.at ≡ false)
      → overwritten o step twin at s cell ≡ cell
  not-overwritten o step twin None cell elsewhere = refl
  not-overwritten o step twin (Some s) cell elsewhere = ap (λ (b : Bool). cond (b && holds o.opening.banks twin at && not (is_dead o.script step twin (home at).pair)) (code_of s.word) cell) (elsewhere s refl)

  module _ (o : Trial) (events : All IsEvent o.script) (twin n : ℕ) (fits : IsHopConstant (plain_in o n).place) where
    cell-stays : (cell : ℕ) → cell ≡ code_of (word_at (plain_in o n).memory at) → cell_after o n twin at cell ≡ code_of (word_at (plain_in o n).memory at)
    cell-stays cell is =
        not-overwritten o n twin (store_at o n) (mended o n twin at (damaged n twin (home at) o.script cell)) (λ s. step-elsewhere (n % 3) (plain_in o n) fits s)
        ∙ mended-is (is_mended o n twin at (damaged n twin (home at) o.script cell)) (code_of (word_at (plain_in o n).memory at)) (damaged n twin (home at) o.script cell)
        (undamaged n twin o.script cell events ∙ is)

  module _ (ports : PortLaw) (p : Opening) (script : List Event) (events : All IsEvent script) (twin : ℕ) (held : holds p.banks twin at ≡ true) where
    pub cell-elsewhere : (n : ℕ) → ((k : ℕ) → k < n → IsHopConstant (plain_in (trial_under p []) k).place)
        → cell_before (trial_under p script) twin at n ≡ code_of (word_at (plain_in (trial_under p []) n).memory at)
    cell-elsewhere zero fits = refl
    cell-elsewhere (suc n) fits =
        let before = cell-elsewhere n (λ k less. fits k (omega (arith, less))) in
        let here = fits n (omega arith) in
        let cell = cell_before (trial_under p script) twin at n in
        cell-stays (trial_under p script) events twin n here cell before
        ∙ sym (cell-stays (trial_under p []) (All-nil IsEvent) twin n here cell before) ∙ cell-next ports p twin at held n cell before
