-- A twin that dies by lines that last to the end stays dead.
use Rattle.std.proofs.Common.{◌≡◌, ℕ, zero, suc, ◌+◌, ◌-◌, ◌*◌, ◌<◌, ◌≤◌, Bool, true, false, not, ◌&&◌, ◌||◌, cond, ◌==◌, List, [], ◌∷◌, ◌⊎◌, inl, inr, refl, sym, arith}
use Rattle.std.specs.Prelude.{nat_lt, nat_le}
use Rattle.std.specs.List.{list_any, list_all}
use Rattle.std.proofs.lemmas.Bool.{true≢false, leb-true, le-leb, or_cases, or_left, or_right, and_from, and_parts}
use Rattle.lvdc_fault.specs.Script.{is_within, first_of}
use Rattle.lvdc_fault.specs.Damage.{kills, is_dead}
use Rattle.lvdc_fault.specs.declared.event.Event.{Event}
use Rattle.lvdc_fault.specs.declared.event.Event.TheVariants.{Dead}
use Rattle.lvdc_withstands.specs.Form.{lines_in, is_lasting}
use Rattle.lvdc_withstands.specs.Repairs.{stays_dead}
use Rattle.lvdc_withstands.proofs.Deaths.{kills-begins}

-- a line that passes one test passes another, where all lines of the run pass a third
pub any_again : (count : ℕ) (p q r : Event → Bool) → ((e : Event) → p e ≡ true → nat_lt (first_of e) (3 * count) ≡ true) → ((e : Event) → p e ≡ true → r e ≡ true → q e ≡ true)
    → (script : List Event) → list_all r (lines_in count script) ≡ true → list_any p script ≡ true → list_any q script ≡ true
any_again count p q r begins implied [] all h = h
any_again count p q r begins implied (e ∷ es) all h =
    by_head (any_again count p q r begins implied es) (or_cases (p e) (list_any p es) h)
  where
    rest : List Event
    rest = lines_in count es

    head : (b : Bool) → b ≡ true → list_all r (cond b (e ∷ rest) rest) ≡ true → r e ≡ true
    head true is k = (and_parts (r e) (list_all r rest) k).0
    head false is k = absurd (true≢false (sym is))

    tail : (b : Bool) → list_all r (cond b (e ∷ rest) rest) ≡ true → list_all r rest ≡ true
    tail true k = (and_parts (r e) (list_all r rest) k).1
    tail false k = k

    by_head : (list_all r rest ≡ true → list_any p es ≡ true → list_any q es ≡ true) → (p e ≡ true) ⊎ (list_any p es ≡ true) → (q e || list_any q es) ≡ true
    by_head more (inl here) = or_left (q e) (list_any q es) (implied e here (head (nat_lt (first_of e) (3 * count)) (begins e here) all))
    by_head more (inr there) = or_right (q e) (list_any q es) (more (tail (nat_lt (first_of e) (3 * count)) all) there)

kills_stays : (count twin pair earlier later : ℕ) → earlier ≤ later → later < 3 * count → (e : Event) → kills earlier twin pair e ≡ true → is_lasting count e ≡ true → kills later twin pair e ≡ true
kills_stays count twin pair earlier later le below (Dead w p first last) h lasts =
    let parts = and_parts (w == twin && p == pair) (is_within first last earlier) h in
    let begun : first ≤ earlier = leb-true first earlier (and_parts (nat_le first earlier) (nat_le earlier last) parts.1).0 in
    let long : 3 * count ≤ last + 1 = leb-true (3 * count) (last + 1) lasts in
    and_from (w == twin && p == pair) (is_within first last later) parts.0
    (and_from (nat_le first later) (nat_le later last) (le-leb first later (omega arith)) (le-leb later last (omega arith)))
kills_stays count twin pair earlier later le below _ h lasts = h

-- a dead twin stays dead
dead-stays : (count twin pair earlier later : ℕ) (script : List Event) → list_all (is_lasting count) (lines_in count script) ≡ true → earlier ≤ later → later < 3 * count
    → is_dead script earlier twin pair ≡ true → is_dead script later twin pair ≡ true
dead-stays count twin pair earlier later script lasting le below h =
    any_again count (kills earlier twin pair) (kills later twin pair) (is_lasting count) (kills-begins count earlier twin pair (omega arith))
    (kills_stays count twin pair earlier later le below) script lasting h

-- so it lasts to the end of the run
pub lasts : (count twin pair : ℕ) (script : List Event) → list_all (is_lasting count) (lines_in count script) ≡ true → (n : ℕ) → n ≤ 3 * count - 1
    → stays_dead script twin pair n ≡ true
lasts count twin pair script lasting zero le = refl
lasts count twin pair script lasting (suc n) le =
    and_from (stays_dead script twin pair n) (not (is_dead script n twin pair) || is_dead script (suc n) twin pair) (lasts count twin pair script lasting n (omega arith))
    (by_dead (is_dead script n twin pair) refl)
  where
    by_dead : (b : Bool) → is_dead script n twin pair ≡ b → (not b || is_dead script (suc n) twin pair) ≡ true
    by_dead true dead = dead-stays count twin pair n (suc n) script lasting (omega arith) (omega arith) dead
    by_dead false alive = refl
