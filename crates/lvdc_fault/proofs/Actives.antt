-- What the active events of a script do is what the whole script does.
use Rattle.std.proofs.Common.{◌≡◌, ℕ, ◌==◌, bit_or, bit_xor, Bool, true, false, ◌&&◌, ◌||◌, cond, List, [], ◌∷◌, refl, sym, ap, ◌∙◌, true≢false}
use Rattle.std.specs.List.{list_any}
use Rattle.lvdc_word.specs.Cell.{with_stuck}
use Rattle.lvdc_map.specs.Address.{Spot, is_same}
use Rattle.lvdc_twin.specs.declared.stuck.Stuck.{Stuck}
use Rattle.lvdc_fault.specs.declared.event.Event.{Event}
use Rattle.lvdc_fault.specs.declared.event.Event.TheVariants.{Flip, Force, Lag, Deaf, Damage, Stick, Dead}
use Rattle.lvdc_fault.specs.Script.{is_within, makes_wrong, is_active, active_events}
use Rattle.lvdc_fault.specs.Damage.{damaged_by, damaged, stuck_by, stuck_after, kills}

-- ---- an event that isn't active does nothing

last_fails : (a b c : Bool) → c ≡ false → ((a && b) && c) ≡ false
last_fails true true c h = h
last_fails true false c h = refl
last_fails false b c h = refl

first_fails : (a b c : Bool) → a ≡ false → ((a && b) && c) ≡ false
first_fails false b c h = refl
first_fails true b c h = absurd (true≢false h)

pub idle_makes_none_wrong : (step m c : ℕ) (e : Event) → is_active step e ≡ false → makes_wrong step m c e ≡ false
idle_makes_none_wrong step m c (Flip number copy first last index mask) h = last_fails (number == m) (copy == c) (is_within first last step) h
idle_makes_none_wrong step m c (Force number copy first last index mask value) h = last_fails (number == m) (copy == c) (is_within first last step) h
idle_makes_none_wrong step m c (Lag number copy first last) h = last_fails (number == m) (copy == c) (is_within first last step) h
idle_makes_none_wrong step m c (Deaf number copy first last) h = last_fails (number == m) (copy == c) (is_within first last step) h
idle_makes_none_wrong step m c _ h = refl

pub idle_kills : (step twin pair : ℕ) (e : Event) → is_active step e ≡ false → kills step twin pair e ≡ false
idle_kills step twin pair (Dead w p first last) h = last_fails (w == twin) (p == pair) (is_within first last step) h
idle_kills step twin pair _ h = refl

pub idle_damages : (step twin : ℕ) (place : Spot) (e : Event) (cell : ℕ) → is_active step e ≡ false → damaged_by step twin place e cell ≡ cell
idle_damages step twin place (Damage w at t mask) cell h = ap (λ b. cond b (bit_xor cell mask) cell) (first_fails (t == step) (w == twin) (is_same place at) h)
idle_damages step twin place _ cell h = refl

pub idle_sticks : (step twin : ℕ) (place : Spot) (e : Event) (s : Stuck) → is_active step e ≡ false → stuck_by step twin place e s ≡ s
idle_sticks step twin place (Stick w at first last mask value) s h =
    ap (λ b. cond b (record { mask = bit_or s.mask mask; value = with_stuck s.value mask value }) s) (last_fails (w == twin) (is_same place at) (is_within first last step) h)
idle_sticks step twin place _ s h = refl

-- ---- what all do is what the active ones do

any_step : (p : Event → Bool) (b : Bool) (e : Event) (es fs : List Event) → (b ≡ false → p e ≡ false) → list_any p fs ≡ list_any p es → list_any p (cond b (e ∷ fs) fs) ≡ list_any p (e ∷ es)
any_step p true e es fs idle rest = ap (λ r. p e || r) rest
any_step p false e es fs idle rest = rest ∙ ap (λ r. r || list_any p es) (sym (idle refl))

pub any_active : (p : Event → Bool) (step : ℕ) → ((e : Event) → is_active step e ≡ false → p e ≡ false) → (es : List Event) → list_any p (active_events es step) ≡ list_any p es
any_active p step idle [] = refl
any_active p step idle (e ∷ es) = any_step p (is_active step e) e es (active_events es step) (idle e) (any_active p step idle es)

damaged_step : (step twin : ℕ) (place : Spot) (b : Bool) (e : Event) (es fs : List Event) (cell : ℕ) → (b ≡ false → damaged_by step twin place e cell ≡ cell)
    → ((cell : ℕ) → damaged step twin place fs cell ≡ damaged step twin place es cell) → damaged step twin place (cond b (e ∷ fs) fs) cell ≡ damaged step twin place (e ∷ es) cell
damaged_step step twin place true e es fs cell idle rest = rest (damaged_by step twin place e cell)
damaged_step step twin place false e es fs cell idle rest = rest cell ∙ ap (damaged step twin place es) (sym (idle refl))

pub damaged_active : (step twin : ℕ) (place : Spot) (es : List Event) (cell : ℕ) → damaged step twin place (active_events es step) cell ≡ damaged step twin place es cell
damaged_active step twin place [] cell = refl
damaged_active step twin place (e ∷ es) cell =
    damaged_step step twin place (is_active step e) e es (active_events es step) cell (idle_damages step twin place e cell) (damaged_active step twin place es)

stuck_step : (step twin : ℕ) (place : Spot) (b : Bool) (e : Event) (es fs : List Event) (s : Stuck) → (b ≡ false → stuck_by step twin place e s ≡ s)
    → ((s : Stuck) → stuck_after step twin place fs s ≡ stuck_after step twin place es s) → stuck_after step twin place (cond b (e ∷ fs) fs) s ≡ stuck_after step twin place (e ∷ es) s
stuck_step step twin place true e es fs s idle rest = rest (stuck_by step twin place e s)
stuck_step step twin place false e es fs s idle rest = rest s ∙ ap (stuck_after step twin place es) (sym (idle refl))

pub stuck_active : (step twin : ℕ) (place : Spot) (es : List Event) (s : Stuck) → stuck_after step twin place (active_events es step) s ≡ stuck_after step twin place es s
stuck_active step twin place [] s = refl
stuck_active step twin place (e ∷ es) s =
    stuck_step step twin place (is_active step e) e es (active_events es step) s (idle_sticks step twin place e s) (stuck_active step twin place es)
