-- A program that reads or stores each word often enough repairs damage that is as far apart.
use Rattle.std.proofs.Common.{◌≡◌, ℕ, ◌+◌, ◌*◌, ◌<◌, ◌≤◌, Bool, true, false, not, cond, List, [], ◌∷◌, ◌⊎◌, inl, inr, refl, arith}
use Rattle.std.specs.Prelude.{nat_le, nat_lt}
use Rattle.std.specs.List.{list_any, list_all}
use Rattle.std.proofs.lemmas.Bool.{leb-true, ltb-true, or_cases, or_left, or_right, and_from, and_parts}
use Rattle.lvdc_map.specs.Address.{Spot, is_same}
use Rattle.lvdc_fault.specs.Script.{first_of}
use Rattle.lvdc_fault.specs.declared.event.Event.{Event}
use Rattle.lvdc_fault.specs.declared.event.Event.TheVariants.{Damage}
use Rattle.lvdc_withstands.specs.Form.{lines_in}
use Rattle.lvdc_model.specs.Trial.{Trial}
use Rattle.lvdc_withstands.specs.Touches.{touches_from, touches_between}
use Rattle.lvdc_withstands.specs.Repairs.{is_limited, are_apart, each_two, repairs}
use Rattle.lvdc_withstands.specs.Scrubs.{damages_it, are_steps_apart, Scrubs}
use Rattle.lvdc_withstands.proofs.Lined.{same-self}
use Rattle.lvdc_withstands.proofs.Recovered.{touches-more}

-- the lines of the run begin in it
begin : (count : ℕ) (script : List Event) → list_all (λ e. nat_lt (first_of e) (3 * count)) (lines_in count script) ≡ true
begin count [] = refl
begin count (e ∷ es) = by_run (begin count es) (nat_lt (first_of e) (3 * count)) refl
  where
    by_run : list_all (λ e. nat_lt (first_of e) (3 * count)) (lines_in count es) ≡ true → (b : Bool) → nat_lt (first_of e) (3 * count) ≡ b
        → list_all (λ e. nat_lt (first_of e) (3 * count)) (cond b (e ∷ lines_in count es) (lines_in count es)) ≡ true
    by_run more true is = and_from (nat_lt (first_of e) (3 * count)) _ is more
    by_run more false is = more

all_both : (p q r : Event → Bool) → ((e : Event) → p e ≡ true → q e ≡ true → r e ≡ true) → (lines : List Event) → list_all p lines ≡ true → list_all q lines ≡ true → list_all r lines ≡ true
all_both p q r implied [] h k = refl
all_both p q r implied (e ∷ es) h k =
    let one = and_parts (p e) (list_all p es) h in
    let other = and_parts (q e) (list_all q es) k in
    and_from (r e) (list_all r es) (implied e one.0 other.0) (all_both p q r implied es one.1 other.1)

module _ (o : Trial) (count every : ℕ) where
  -- the word of a place is read or stored in some step of each so many in a row
  abbrev Visits : Spot → Type 0
  Visits at = (first : ℕ) → first + every ≤ 3 * count → touches_from o at first (first + every) ≡ true

  visited : (at : Spot) (one other : ℕ) → Visits at → nat_le (one + every) other ≡ true → nat_lt other (3 * count) ≡ true → touches_from o at one other ≡ true
  visited at one other visits far in_run =
      let le : one + every ≤ other = leb-true (one + every) other far in
      let below : other < 3 * count = ltb-true other (3 * count) in_run in
      touches-more o at one (one + every) other le (visits one (omega arith))

  pair_apart : (e f : Event) → ((at : Spot) → damages_it at e ≡ true → Visits at) → nat_lt (first_of e) (3 * count) ≡ true → nat_lt (first_of f) (3 * count) ≡ true
      → are_apart (are_steps_apart every) e f ≡ true → are_apart (touches_between o) e f ≡ true
  pair_apart (Damage w at t mask) (Damage v place u turned) visits early late h = by_case (or_cases (not (is_same at place)) (are_steps_apart every at t u) h)
    where
      by_order : (nat_le (t + every) u ≡ true) ⊎ (nat_le (u + every) t ≡ true) → touches_between o at t u ≡ true
      by_order (inl far) = or_left (touches_from o at t u) (touches_from o at u t) (visited at t u (visits at (same-self at)) far late)
      by_order (inr far) = or_right (touches_from o at t u) (touches_from o at u t) (visited at u t (visits at (same-self at)) far early)

      by_case : (not (is_same at place) ≡ true) ⊎ (are_steps_apart every at t u ≡ true) → are_apart (touches_between o) (Damage w at t mask) (Damage v place u turned) ≡ true
      by_case (inl elsewhere) = or_left (not (is_same at place)) (touches_between o at t u) elsewhere
      by_case (inr far) = or_right (not (is_same at place)) (touches_between o at t u) (by_order (or_cases (nat_le (t + every) u) (nat_le (u + every) t) far))
  pair_apart (Damage w at t mask) _ visits early late h = h
  pair_apart _ f visits early late h = h

  all_apart : (lines : List Event) → ((at : Spot) → list_any (damages_it at) lines ≡ true → Visits at) → list_all (λ e. nat_lt (first_of e) (3 * count)) lines ≡ true
      → each_two (are_apart (are_steps_apart every)) lines ≡ true → each_two (are_apart (touches_between o)) lines ≡ true
  all_apart [] visits begins h = refl
  all_apart (e ∷ es) visits begins h =
      let parts = and_parts (list_all (are_apart (are_steps_apart every) e) es) (each_two (are_apart (are_steps_apart every)) es) h in
      let in_run = and_parts (nat_lt (first_of e) (3 * count)) (list_all (λ e. nat_lt (first_of e) (3 * count)) es) begins in
      and_from (list_all (are_apart (touches_between o) e) es) (each_two (are_apart (touches_between o)) es)
      (all_both (λ f. nat_lt (first_of f) (3 * count)) (are_apart (are_steps_apart every) e) (are_apart (touches_between o) e)
      (λ f late far. pair_apart e f (λ at k. visits at (or_left (damages_it at e) (list_any (damages_it at) es) k)) in_run.0 late far) es in_run.1 parts.0)
      (all_apart es (λ at k. visits at (or_right (damages_it at e) (list_any (damages_it at) es) k)) in_run.1 parts.1)

pub scrubs-repair : (o : Trial) (count every : ℕ) → Scrubs o count every → repairs o count ≡ true
scrubs-repair o count every s =
    and_from (is_limited o.script o.opening.banks count) (each_two (are_apart (touches_between o)) (lines_in count o.script)) s.limited
    (all_apart o count every (lines_in count o.script) s.visits (begin count o.script) s.spaced)
