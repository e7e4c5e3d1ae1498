-- A run touches no word but at addresses, and no cell but at places: all others are what they were at the start.
use Rattle.std.proofs.Common.{◌≡◌, ℕ, zero, suc, ◌+◌, ◌-◌, ◌*◌, ◌/◌, ◌%◌, ◌<◌, ◌≤◌, Bool, true, false, cond, List, [], ◌∷◌, slice_index, bit_xor, ◌⊎◌, inl, inr, refl, sym, ◌∙◌, subst, arith, Result, Ok, Err}
use Rattle.std.specs.Prelude.{All, ◌==◌}
use Rattle.std.specs.declared.option.Option.{Option}
use Rattle.std.specs.declared.option.Option.TheVariants.{None, Some}
use Rattle.std.proofs.lemmas.Bool.{cases_lt}
use Rattle.std.proofs.lemmas.List.Elements.{All-head, All-tail}
use Rattle.lvdc_word.specs.Cell.{code_of}
use Rattle.lvdc_map.specs.Address.{Spot, IsAddress, is_same}
use Rattle.lvdc_map.specs.Banks.{is_simplex, bank_of, home, holds, IsPlace}
use Rattle.lvdc_map.specs.Hop.{HopConstant}
use Rattle.lvdc_map.specs.Memory.{Memory, word_at, stored}
use Rattle.lvdc_map.specs.Place.{data_spot, data_sector, place_of}
use Rattle.lvdc_map.specs.declared.place.Place.TheVariants as places
use Rattle.lvdc_map.proofs.Addresses.{same-spot}
use Rattle.lvdc_isa.specs.Instr.{takes_operand}
use Rattle.lvdc_isa.specs.declared.instr.Instr.{Instr}
use Rattle.lvdc_twin.specs.declared.both_bad.BothBad.{BothBad}
use Rattle.lvdc_twin.specs.declared.read_out.ReadOut.{ReadOut}
use Rattle.lvdc_modules.specs.Request.{request_of, spot_of, destination_in, port_in}
use Rattle.lvdc_modules.specs.Seen.{phase, hold, instruction, here}
use Rattle.lvdc_modules.specs.Wish.{operand_wish, instruction_wish, request_wish, wish_in, wish}
use Rattle.lvdc_modules.specs.declared.bus.Bus.{Bus}
use Rattle.lvdc_modules.specs.declared.request.Destination.{Destination}
use Rattle.lvdc_modules.specs.declared.request.Request.TheVariants as requests
use Rattle.lvdc_modules.specs.declared.seen.Phase.{Phase}
use Rattle.lvdc_modules.specs.declared.seen.Phase.TheVariants.{A, B, C}
use Rattle.lvdc_modules.specs.declared.wanted.Wanted.{Wanted}
use Rattle.lvdc_modules.specs.declared.wanted.Wanted.TheVariants as wanted
use Rattle.lvdc_fault.specs.Events.{IsEvent}
use Rattle.lvdc_fault.specs.declared.event.Event.{Event}
use Rattle.lvdc_fault.specs.declared.event.Event.TheVariants.{Damage}
use Rattle.lvdc_fault.specs.declared.verdict.Verdict.{Verdict}
use Rattle.lvdc_fault.specs.declared.verdict.Verdict.TheVariants.{Admissible, Logic, Memory as Unread}
use Rattle.lvdc_model.specs.declared.outcome.Outcome.{Outcome}
use Rattle.lvdc_model.specs.Trial.{Trial}
use Rattle.lvdc_model.specs.CellsBefore.{is_dead_at}
use Rattle.lvdc_model.specs.Twins.{Twins, with_place, with_cell, with_word, with_held, with_selected, rewritten, after_read, after_store, read_answer}
use Rattle.lvdc_model.specs.Voted.{Voted, voted_bus, voted_start}
use Rattle.lvdc_model.specs.Exchanges.{damages_by, damages, begin_step, reading, exchanges, wished, voted_step}
use Rattle.lvdc_model.specs.Judging.{judged}
use Rattle.lvdc_model.specs.Runs.{through_by, through, judged_by, guarded_by, guarded}

-- ---- what is wished for is at addresses

bank-small : (banks number : ℕ) → number < 8 → bank_of banks number < 8
bank-small banks number small = by_simplex (is_simplex banks (number / 2))
  where
    by_simplex : (b : Bool) → cond b (number / 2 + 4 * (number % 2)) (number / 2) < 8
    by_simplex true = omega (arith, small)
    by_simplex false = omega (arith, small)

-- where an exchange with memory has an address, it is one
abbrev AtAddress : Wanted → Type 0
AtAddress (wanted.Fetch at) = IsAddress at
AtAddress (wanted.Operand at) = IsAddress at
AtAddress (wanted.Store at word) = IsAddress at
AtAddress _ = Unit {0}

spot-address : (banks : ℕ) (t : Destination) → t.dmod < 8 → t.sector < 16 → t.loc < 256 → IsAddress (spot_of banks t)
spot-address banks t dmod sector loc = record { pair = bank-small banks t.dmod dmod; sector = sector; loc = loc }

in-address : (banks w : ℕ) → IsAddress (spot_of banks (destination_in w))
in-address banks w = spot-address banks (destination_in w) (omega arith) (omega arith) (omega arith)

request-address : (b : Bus) (banks w : ℕ) → AtAddress (request_wish (request_of w) b banks)
request-address b banks w = by_first (w % 8 == 1) (w % 8 == 2) (w % 8 == 3) (w % 8 == 4)
  where
    by_first : (one two three four : Bool) → AtAddress (request_wish
        (cond one (requests.StoreA (destination_in w)) (cond two (requests.StoreSaver (destination_in w))
        (cond three (requests.PortWrite (port_in w)) (cond four (requests.PortRead (port_in w)) requests.Nothing)))) b banks)
    by_first true two three four = in-address banks w
    by_first false true three four = in-address banks w
    by_first false false true four = tt
    by_first false false false true = tt
    by_first false false false false = tt

data-address : (banks : ℕ) (h : HopConstant) (address : ℕ) → h.dmod < 8 → h.dsec < 16 → IsAddress (data_spot banks h address)
data-address banks h address dmod dsec = record { pair = bank-small banks h.dmod dmod; sector = sector; loc = omega arith }
  where
    by_a9 : (b : Bool) → cond b 15 h.dsec < 16
    by_a9 true = omega arith
    by_a9 false = dsec

    sector : data_sector h address < 16
    sector = by_a9 _

operand-address : (pq saver : Bool) (at : Spot) → IsAddress at → AtAddress (operand_wish (cond pq places.Pq (cond saver (places.Saver at) (places.Memory at))))
operand-address true saver at h = tt
operand-address false true at h = h
operand-address false false at h = h

instruction-address : (i : Instr) (b : Bus) (banks : ℕ) → AtAddress (instruction_wish i b banks)
instruction-address i b banks = by_operand (takes_operand i.op)
  where
    by_operand : (takes : Bool) → AtAddress (cond takes (operand_wish (place_of banks (here b) i.address)) wanted.Nothing)
    by_operand true = operand-address _ _ _ (data-address banks (here b) i.address (omega arith) (omega arith))
    by_operand false = tt

wish-address_in : (p : Phase) (b : Bus) (banks : ℕ) → AtAddress (wish_in p b banks)
wish-address_in A b banks = by_hold (hold b == 0)
  where
    by_hold : (free : Bool) → AtAddress (cond free (wanted.Fetch (record { pair = bank_of banks (here b).imod; sector = (here b).isec; loc = (here b).loc })) wanted.Nothing)
    by_hold true = record { pair = bank-small banks (here b).imod (omega arith); sector = omega arith; loc = omega arith }
    by_hold false = tt
wish-address_in B b banks = by_hold (hold b == 0)
  where
    by_hold : (free : Bool) → AtAddress (cond free (instruction_wish (instruction b) b banks) wanted.Nothing)
    by_hold true = instruction-address (instruction b) b banks
    by_hold false = tt
wish-address_in C b banks = request-address b banks b.exchange.request

wish-address : (b : Bus) (banks : ℕ) → AtAddress (wish b banks)
wish-address b banks = wish-address_in (phase b) b banks

-- ---- what is stored elsewhere

-- what is stored at one spot leaves the others
elsewhere : (P : Spot → Type 0) (m : Memory) (at other : Spot) (w : ℕ) → P at → (P other → ⊥) → word_at (stored m at w) other ≡ word_at m other
elsewhere P m at other w here not = by_same (is_same other at) refl
  where
    by_same : (b : Bool) → is_same other at ≡ b → cond b w (m other) ≡ m other
    by_same true e = absurd (not (subst P (sym (same-spot other at e)) here))
    by_same false e = refl

-- the cells that are at no place are those of other twins
abbrev SameOutside : Twins → Twins → Type 0
SameOutside t u = (twin : ℕ) (place : Spot) → (IsPlace place → ⊥) → word_at (t.cells twin) place ≡ word_at (u.cells twin) place

put-outside : (t : Twins) (twin : ℕ) (at : Spot) (cell : ℕ) → IsPlace at → SameOutside (with_place t twin at cell) t
put-outside t twin at cell here w place not = by_twin (w == twin)
  where
    by_twin : (b : Bool) → word_at (cond b (stored (t.cells w) at cell) (t.cells w)) place ≡ word_at (t.cells w) place
    by_twin true = elsewhere IsPlace (t.cells w) at place cell here not
    by_twin false = refl

home-place : (at : Spot) → IsAddress at → IsPlace (home at)
home-place at h = record { pair = omega arith; sector = h.sector; loc = h.loc }

word-outside : (o : Trial) (step : ℕ) (t : Twins) (twin : ℕ) (at : Spot) (w : ℕ) → IsAddress at → SameOutside (with_word o step t twin at w) t
word-outside o step t twin at w h = by_dead (is_dead_at o step twin at)
  where
    by_dead : (dead : Bool) → SameOutside (cond dead t (with_cell t twin at (code_of w))) t
    by_dead true = λ v place not. refl
    by_dead false = put-outside t twin (home at) (code_of w) (home-place at h)

held-outside : (o : Trial) (step twin : ℕ) (at : Spot) (w : ℕ) (t : Twins) → IsAddress at → SameOutside (with_held o step twin at w t) t
held-outside o step twin at w t h = by_held (holds o.opening.banks twin at)
  where
    by_held : (held : Bool) → SameOutside (cond held (with_word o step t twin at w) t) t
    by_held true = word-outside o step t twin at w h
    by_held false = λ v place not. refl

store-outside : (o : Trial) (step : ℕ) (at : Spot) (w : ℕ) (t : Twins) → IsAddress at → SameOutside (after_store o step at w t) t
store-outside o step at w t h = λ twin place not.
    held-outside o step 1 at w (with_held o step 0 at w t) h twin place not ∙ held-outside o step 0 at w t h twin place not

repair-outside : (r : Option ℕ) (o : Trial) (step : ℕ) (t : Twins) (at : Spot) (w : ℕ) → IsAddress at → SameOutside (rewritten r o step t at w) t
repair-outside None o step t at w h = λ twin place not. refl
repair-outside (Some twin) o step t at w h = word-outside o step t twin at w h

read-outside : (o : Trial) (step : ℕ) (t : Twins) (at : Spot) (r : ReadOut) → IsAddress at → SameOutside (after_read o step t at r) t
read-outside o step t at r h = by_switch r.switched
  where
    u : Twins
    u = rewritten r.repaired o step t at r.word

    by_switch : (b : Bool) → SameOutside (cond b (with_selected u (at.pair % 4) (1 - slice_index u.selected (at.pair % 4))) u) t
    by_switch true = repair-outside r.repaired o step t at r.word h
    by_switch false = repair-outside r.repaired o step t at r.word h

damage-outside : (step : ℕ) (e : Event) (t : Twins) → IsEvent e → SameOutside (damages_by step e t) t
damage-outside step (Damage twin at d mask) t ok = by_step (d == step)
  where
    by_step : (b : Bool) → SameOutside (cond b (with_place t twin at (bit_xor (word_at (t.cells twin) at) mask)) t) t
    by_step true = put-outside t twin at _ ok.1
    by_step false = λ v place not. refl
damage-outside step _ t ok = λ v place not. refl

damages-outside : (step : ℕ) (script : List Event) (t : Twins) → All IsEvent script → SameOutside (damages step script t) t
damages-outside step [] t ok = λ v place not. refl
damages-outside step (e ∷ es) t ok = λ twin place not.
    damages-outside step es (damages_by step e t) (All-tail IsEvent e es ok) twin place not
    ∙ damage-outside step e t (All-head IsEvent e es ok) twin place not

-- ---- the steps

-- outside of addresses and places a state is another one
pub record IsOutside (v u : Voted) : Type 0 where
  pub words : (at : Spot) → (IsAddress at → ⊥) → word_at v.intended at ≡ word_at u.intended at
  pub cells : SameOutside v.twins u.twins

-- two states that are one outside, one after the other
onward : (v u first : Voted) → IsOutside v u → IsOutside u first → IsOutside v first
onward v u first a b = record {
  words = λ at not. a.words at not ∙ b.words at not;
  cells = λ twin place not. a.cells twin place not ∙ b.cells twin place not;
}

reading-outside : (o : Trial) (v : Voted) (r : Result ReadOut BothBad) (at : Spot) → IsAddress at → IsOutside (reading r o v at) v
reading-outside o v (Err bad) at h = record { words = λ x not. refl; cells = λ twin place not. refl }
reading-outside o v (Ok r) at h = record { words = λ x not. refl; cells = read-outside o v.steps v.twins at r h }

made-outside : (o : Trial) (v : Voted) (w : Wanted) → AtAddress w → IsOutside (exchanges o v w) v
made-outside o v wanted.Nothing h = record { words = λ x not. refl; cells = λ twin place not. refl }
made-outside o v (wanted.Fetch at) h = reading-outside o v (read_answer o v.steps v.twins at) at h
made-outside o v (wanted.Operand at) h = reading-outside o v (read_answer o v.steps v.twins at) at h
made-outside o v (wanted.Store at word) h =
    record { words = λ x not. elsewhere IsAddress v.intended at x word h not; cells = store-outside o v.steps at word v.twins h }
made-outside o v (wanted.PortRead port) h = record { words = λ x not. refl; cells = λ twin place not. refl }
made-outside o v (wanted.PortWrite port word) h = record { words = λ x not. refl; cells = λ twin place not. refl }

module _ (o : Trial) (ok : All IsEvent o.script) where
  step-outside : (v : Voted) → IsOutside (voted_step o (begin_step o v)) v
  step-outside v =
      onward (voted_step o (begin_step o v)) (begin_step o v) v
      (made-outside o (begin_step o v) (wished o (begin_step o v)) (wish-address (voted_bus (begin_step o v) 0 0) o.opening.banks))
      (record { words = λ at not. refl; cells = damages-outside v.steps o.script v.twins ok })

  through-next : (v : Voted) (end : Option Outcome) → IsOutside (through_by end o v) v
  through-next v (Some e) = record { words = λ at not. refl; cells = λ twin place not. refl }
  through-next v None = step-outside v

  judged-next : (v : Voted) (verdict : Verdict) → IsOutside (judged_by verdict o (begin_step o v)) v
  judged-next v Admissible = step-outside v
  judged-next v (Logic step m) = record { words = λ at not. refl; cells = damages-outside v.steps o.script v.twins ok }
  judged-next v (Unread step at) = record { words = λ at not. refl; cells = damages-outside v.steps o.script v.twins ok }

  guarded-next : (v : Voted) (end : Option Outcome) → IsOutside (guarded_by end o v) v
  guarded-next v (Some e) = record { words = λ at not. refl; cells = λ twin place not. refl }
  guarded-next v None = judged-next v (judged o v.steps)

  -- ---- the runs

  pub through-outside : (n : ℕ) → IsOutside (through o n) (voted_start o)
  through-outside zero = record { words = λ at not. refl; cells = λ twin place not. refl }
  through-outside (suc n) = onward (through o (suc n)) (through o n) (voted_start o) (through-next (through o n) (through o n).end) (through-outside n)

  pub guarded-outside : (n : ℕ) → IsOutside (guarded o n) (voted_start o)
  guarded-outside zero = record { words = λ at not. refl; cells = λ twin place not. refl }
  guarded-outside (suc n) = onward (guarded o (suc n)) (guarded o n) (voted_start o) (guarded-next (guarded o n) (guarded o n).end) (guarded-outside n)

-- ---- each spot is an address or is none

pub is-address : (at : Spot) → IsAddress at ⊎ (IsAddress at → ⊥)
is-address at = by_pair (cases_lt at.pair 8)
  where
    by_loc : at.pair < 8 → at.sector < 16 → (at.loc < 256) ⊎ (256 ≤ at.loc) → IsAddress at ⊎ (IsAddress at → ⊥)
    by_loc p s (inl l) = inl (record { pair = p; sector = s; loc = l })
    by_loc p s (inr more) = inr (λ h. let l = h.loc in omega (arith, l, more))

    by_sector : at.pair < 8 → (at.sector < 16) ⊎ (16 ≤ at.sector) → IsAddress at ⊎ (IsAddress at → ⊥)
    by_sector p (inl s) = by_loc p s (cases_lt at.loc 256)
    by_sector p (inr more) = inr (λ h. let s = h.sector in omega (arith, s, more))

    by_pair : (at.pair < 8) ⊎ (8 ≤ at.pair) → IsAddress at ⊎ (IsAddress at → ⊥)
    by_pair (inl p) = by_sector p (cases_lt at.sector 16)
    by_pair (inr more) = inr (λ h. let p = h.pair in omega (arith, p, more))

pub is-place : (at : Spot) → IsPlace at ⊎ (IsPlace at → ⊥)
is-place at = by_pair (cases_lt at.pair 4)
  where
    by_loc : at.pair < 4 → at.sector < 16 → (at.loc < 256) ⊎ (256 ≤ at.loc) → IsPlace at ⊎ (IsPlace at → ⊥)
    by_loc p s (inl l) = inl (record { pair = p; sector = s; loc = l })
    by_loc p s (inr more) = inr (λ h. let l = h.loc in omega (arith, l, more))

    by_sector : at.pair < 4 → (at.sector < 16) ⊎ (16 ≤ at.sector) → IsPlace at ⊎ (IsPlace at → ⊥)
    by_sector p (inl s) = by_loc p s (cases_lt at.loc 256)
    by_sector p (inr more) = inr (λ h. let s = h.sector in omega (arith, s, more))

    by_pair : (at.pair < 4) ⊎ (4 ≤ at.pair) → IsPlace at ⊎ (IsPlace at → ⊥)
    by_pair (inl p) = by_sector p (cases_lt at.sector 16)
    by_pair (inr more) = inr (λ h. let p = h.pair in omega (arith, p, more))
