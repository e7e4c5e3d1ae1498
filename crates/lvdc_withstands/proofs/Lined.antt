-- What the lines of a script do to one place, where any two of them are apart.
use Rattle.std.proofs.Common.{◌≡◌, ℕ, ◌*◌, ◌/◌, ◌%◌, ◌^◌, ◌<◌, ◌≤◌, Bool, true, false, not, ◌&&◌, ◌||◌, cond, ◌==◌, bit_xor, List, [], ◌∷◌, ◌⊎◌, inl, inr, refl, sym, ap, ◌∙◌, subst, arith}
use Rattle.std.specs.Prelude.{nat_lt, nat_le}
use Rattle.std.specs.List.{list_any, list_all}
use Rattle.std.proofs.lemmas.Bool.{true≢false, eqb-true, eq-eqb, ne_eqb, ltb-false, lt-leb, or_cases, or_left, or_right, or_from, and_from, and_parts, and_left, not-true, false_from_ne_true}
use Rattle.lvdc_map.specs.Address.{Spot, is_same}
use Rattle.lvdc_map.proofs.Addresses.{same-spot}
use Rattle.lvdc_twin.specs.declared.stuck.Stuck.{Stuck}
use Rattle.lvdc_fault.specs.Script.{is_within, first_of}
use Rattle.lvdc_fault.specs.Damage.{damaged, damaged_by, stuck_beside, stuck_by, stuck_after}
use Rattle.lvdc_fault.specs.declared.event.Event.{Event}
use Rattle.lvdc_fault.specs.declared.event.Event.TheVariants.{Damage, Stick}
use Rattle.lvdc_withstands.specs.Form.{lines_in, is_odd, is_single, is_seen, names_twin}
use Rattle.lvdc_withstands.specs.Repairs.{are_apart, each_two}

-- ---- any two lines

found : {C : Type 0} (all some : Event → Bool) → ((e : Event) → all e ≡ true → some e ≡ true → C) → (lines : List Event) → list_all all lines ≡ true → list_any some lines ≡ true → C
found {C = C} all some implied [] h k = absurd (true≢false (sym k))
found {C = C} all some implied (e ∷ es) h k =
    by_head (found all some implied es parts.1) (or_cases (some e) (list_any some es) k)
  where
    parts : (all e ≡ true) × (list_all all es ≡ true)
    parts = and_parts (all e) (list_all all es) h

    by_head : (list_any some es ≡ true → C) → (some e ≡ true) ⊎ (list_any some es ≡ true) → C
    by_head more (inl here) = implied e parts.0 here
    by_head more (inr there) = more there

-- of lines of which any two pass a test one passes this and one that: they are one line, or two that pass the test
pub any-two : {C : Type 0} (test : Event → Event → Bool) (p q : Event → Bool) → ((e : Event) → p e ≡ true → q e ≡ true → C)
    → ((e f : Event) → p e ≡ true → q f ≡ true → (test e f ≡ true) ⊎ (test f e ≡ true) → C)
    → (lines : List Event) → each_two test lines ≡ true → list_any p lines ≡ true → list_any q lines ≡ true → C
any-two {C = C} test p q one two [] all h k = absurd (true≢false (sym h))
any-two {C = C} test p q one two (e ∷ es) all h k =
    by_heads (any-two test p q one two es parts.1) (or_cases (p e) (list_any p es) h) (or_cases (q e) (list_any q es) k)
  where
    parts : (list_all (test e) es ≡ true) × (each_two test es ≡ true)
    parts = and_parts (list_all (test e) es) (each_two test es) all

    by_heads : (list_any p es ≡ true → list_any q es ≡ true → C) → (p e ≡ true) ⊎ (list_any p es ≡ true) → (q e ≡ true) ⊎ (list_any q es ≡ true) → C
    by_heads more (inl a) (inl b) = one e a b
    by_heads more (inl a) (inr b) = found (test e) q (λ f pass is. two e f a is (inl pass)) es parts.0 b
    by_heads more (inr a) (inl b) = found (test e) p (λ f pass is. two f e is b (inr pass)) es parts.0 a
    by_heads more (inr a) (inr b) = more a b

pub none-pass : (q r : Event → Bool) → ((e : Event) → r e ≡ true → q e ≡ false) → (lines : List Event) → list_all r lines ≡ true → list_any q lines ≡ false
none-pass q r implied [] all = refl
none-pass q r implied (e ∷ es) all =
    let parts = and_parts (r e) (list_all r es) all in
    or_from (q e) (list_any q es) (implied e parts.0) (none-pass q r implied es parts.1)

pub some-pass : (p q : Event → Bool) → ((e : Event) → p e ≡ true → q e ≡ true) → (lines : List Event) → list_any p lines ≡ true → list_any q lines ≡ true
some-pass p q implied [] h = h
some-pass p q implied (e ∷ es) h = by_head (some-pass p q implied es) (or_cases (p e) (list_any p es) h)
  where
    by_head : (list_any p es ≡ true → list_any q es ≡ true) → (p e ≡ true) ⊎ (list_any p es ≡ true) → (q e || list_any q es) ≡ true
    by_head more (inl here) = or_left (q e) (list_any q es) (implied e here)
    by_head more (inr there) = or_right (q e) (list_any q es) (more there)

-- ---- one line at a place

-- does a line damage the cell of a twin at a place in a step?
abbrev pub hits : Spot → ℕ → ℕ → Event → Bool
hits place twin step (Damage w at t mask) = t == step && w == twin && is_same place at
hits place twin step _ = false

-- does it make bits stick there, at whatever steps?
abbrev pub sticks : Spot → ℕ → Event → Bool
sticks place twin (Stick w at first last mask value) = w == twin && is_same place at
sticks place twin _ = false

pub hits-names : (place : Spot) (twin step : ℕ) (e : Event) → hits place twin step e ≡ true → names_twin place.pair twin e ≡ true
hits-names place twin step (Damage w at t mask) h =
    let parts = and_parts (t == step && w == twin) (is_same place at) h in
    let pair : at.pair ≡ place.pair = ap (λ (s : Spot). s.pair) (sym (same-spot place at parts.1)) in
    and_from (at.pair == place.pair) (w == twin) (eq-eqb at.pair place.pair pair) (and_parts (t == step) (w == twin) parts.0).1
hits-names place twin step _ h = absurd (true≢false (sym h))

pub sticks-names : (place : Spot) (twin : ℕ) (e : Event) → sticks place twin e ≡ true → names_twin place.pair twin e ≡ true
sticks-names place twin (Stick w at first last mask value) h =
    let parts = and_parts (w == twin) (is_same place at) h in
    let pair : at.pair ≡ place.pair = ap (λ (s : Spot). s.pair) (sym (same-spot place at parts.1)) in
    and_from (at.pair == place.pair) (w == twin) (eq-eqb at.pair place.pair pair) parts.0
sticks-names place twin _ h = absurd (true≢false (sym h))

pub same-self : (at : Spot) → is_same at at ≡ true
same-self at =
    and_from (at.pair == at.pair && at.sector == at.sector) (at.loc == at.loc)
    (and_from (at.pair == at.pair) (at.sector == at.sector) (eq-eqb at.pair at.pair refl) (eq-eqb at.sector at.sector refl)) (eq-eqb at.loc at.loc refl)

-- two spots that are one
meet : (place one other : Spot) → is_same place one ≡ true → is_same place other ≡ true → is_same one other ≡ true
meet place one other h k = subst (λ (s : Spot). is_same s other ≡ true) (same-spot place one h) k

not_meet : (place one other : Spot) → is_same place one ≡ true → is_same place other ≡ true → not (is_same one other) ≡ true → ⊥
not_meet place one other h k apart = true≢false (sym (meet place one other h k) ∙ not-true (is_same one other) apart)

module _ (apart : Spot → ℕ → ℕ → Bool) where
  -- two lines that damage a place are apart
  pub two-hits : (place : Spot) (one other t u : ℕ) (e f : Event) → hits place one t e ≡ true → hits place other u f ≡ true → are_apart apart e f ≡ true → apart place t u ≡ true
  two-hits place one other t u (Damage w at s mask) (Damage v spot r turned) h k pass =
      by_case (or_cases (not (is_same at spot)) (apart at s r) pass)
    where
      here : (s == t && w == one ≡ true) × (is_same place at ≡ true)
      here = and_parts (s == t && w == one) (is_same place at) h

      there : (r == u && v == other ≡ true) × (is_same place spot ≡ true)
      there = and_parts (r == u && v == other) (is_same place spot) k

      moved : apart at s r ≡ true → apart place t u ≡ true
      moved pass = (λ i. apart (same-spot place at here.1 i) (sym (eqb-true s t (and_parts (s == t) (w == one) here.0).0) i) (sym (eqb-true r u (and_parts (r == u) (v == other) there.0).0) i)) ∙ pass

      by_case : (not (is_same at spot) ≡ true) ⊎ (apart at s r ≡ true) → apart place t u ≡ true
      by_case (inl other_place) = absurd (not_meet place at spot here.1 there.1 other_place)
      by_case (inr between) = moved between
  two-hits place one other t u (Damage w at s mask) _ h k pass = absurd (true≢false (sym k))
  two-hits place one other t u _ f h k pass = absurd (true≢false (sym h))

  -- a line that makes bits stick at a place is alone there
  stick_then_hit : (place : Spot) (one other u : ℕ) (e f : Event) → sticks place one e ≡ true → hits place other u f ≡ true → are_apart apart e f ≡ true → ⊥
  stick_then_hit place one other u (Stick w at first last mask value) (Damage v spot r turned) h k pass =
      not_meet place at spot (and_parts (w == one) (is_same place at) h).1 (and_parts (r == u && v == other) (is_same place spot) k).1 pass
  stick_then_hit place one other u (Stick w at first last mask value) _ h k pass = absurd (true≢false (sym k))
  stick_then_hit place one other u _ f h k pass = absurd (true≢false (sym h))

  hit_then_stick : (place : Spot) (one other u : ℕ) (e f : Event) → hits place one u e ≡ true → sticks place other f ≡ true → are_apart apart e f ≡ true → ⊥
  hit_then_stick place one other u (Damage w at r mask) (Stick v spot first last turned value) h k pass =
      not_meet place at spot (and_parts (r == u && w == one) (is_same place at) h).1 (and_parts (v == other) (is_same place spot) k).1 pass
  hit_then_stick place one other u (Damage w at r mask) _ h k pass = absurd (true≢false (sym k))
  hit_then_stick place one other u _ f h k pass = absurd (true≢false (sym h))

  two_sticks : (place : Spot) (one other : ℕ) (e f : Event) → sticks place one e ≡ true → sticks place other f ≡ true → are_apart apart e f ≡ true → ⊥
  two_sticks place one other (Stick w at first last mask value) (Stick v spot begin end turned stuck) h k pass =
      not_meet place at spot (and_parts (w == one) (is_same place at) h).1 (and_parts (v == other) (is_same place spot) k).1 pass
  two_sticks place one other (Stick w at first last mask value) _ h k pass = absurd (true≢false (sym k))
  two_sticks place one other _ f h k pass = absurd (true≢false (sym h))

  no_line_both : (place : Spot) (one other u : ℕ) (e : Event) → sticks place one e ≡ true → hits place other u e ≡ true → ⊥
  no_line_both place one other u (Damage w at r mask) h k = true≢false (sym h)
  no_line_both place one other u _ h k = true≢false (sym k)

  one_twin_sticks : (place : Spot) (e : Event) → sticks place 0 e ≡ true → sticks place 1 e ≡ true → ⊥
  one_twin_sticks place (Stick w at first last mask value) h k =
      let p : w ≡ 0 = eqb-true w 0 (and_parts (w == 0) (is_same place at) h).0 in
      let q : w ≡ 1 = eqb-true w 1 (and_parts (w == 1) (is_same place at) k).0 in
      omega arith
  one_twin_sticks place _ h k = true≢false (sym h)

  pub not-stuck-and-hit : (place : Spot) (one other u : ℕ) (lines : List Event) → each_two (are_apart apart) lines ≡ true
      → list_any (sticks place one) lines ≡ true → list_any (hits place other u) lines ≡ true → ⊥
  not-stuck-and-hit place one other u lines all h k =
      any-two (are_apart apart) (sticks place one) (hits place other u) (no_line_both place one other u)
      (λ e f a b pass. by_order e f a b pass) lines all h k
    where
      by_order : (e f : Event) → sticks place one e ≡ true → hits place other u f ≡ true → (are_apart apart e f ≡ true) ⊎ (are_apart apart f e ≡ true) → ⊥
      by_order e f a b (inl pass) = stick_then_hit place one other u e f a b pass
      by_order e f a b (inr pass) = hit_then_stick place other one u f e b a pass

  pub not-both-stuck : (place : Spot) (lines : List Event) → each_two (are_apart apart) lines ≡ true
      → list_any (sticks place 0) lines ≡ true → list_any (sticks place 1) lines ≡ true → ⊥
  not-both-stuck place lines all h k =
      any-two (are_apart apart) (sticks place 0) (sticks place 1) (one_twin_sticks place) (λ e f a b pass. by_order e f a b pass) lines all h k
    where
      by_order : (e f : Event) → sticks place 0 e ≡ true → sticks place 1 f ≡ true → (are_apart apart e f ≡ true) ⊎ (are_apart apart f e ≡ true) → ⊥
      by_order e f a b (inl pass) = two_sticks place 0 1 e f a b pass
      by_order e f a b (inr pass) = two_sticks place 1 0 f e b a pass

  -- ---- what a line does that doesn't hit, or doesn't stick

  missed : (place : Spot) (twin step : ℕ) (e : Event) → hits place twin step e ≡ false → (cell : ℕ) → damaged_by step twin place e cell ≡ cell
  missed place twin step (Damage w at t mask) h cell = ap (λ (b : Bool). cond b (bit_xor cell mask) cell) h
  missed place twin step _ h cell = refl

  loose : (place : Spot) (twin step : ℕ) (e : Event) → sticks place twin e ≡ false → (s : Stuck) → stuck_by step twin place e s ≡ s
  loose place twin step (Stick w at first last mask value) h s =
      ap (λ (b : Bool). cond (b && is_within first last step) (stuck_beside s mask value) s) h
  loose place twin step _ h s = refl

  -- a line that begins after a step does nothing in it
  late_hit : (place : Spot) (twin step steps : ℕ) (e : Event) → step < steps → nat_lt (first_of e) steps ≡ false → hits place twin step e ≡ false
  late_hit place twin step steps (Damage w at t mask) below h =
      let after : steps ≤ t = ltb-false t steps h in
      and_left (t == step && w == twin) (is_same place at) (and_left (t == step) (w == twin) (ne_eqb t step (λ e. omega arith)))
  late_hit place twin step steps _ below h = refl

  late_bits : (place : Spot) (twin step steps : ℕ) (e : Event) → step < steps → nat_lt (first_of e) steps ≡ false → (s : Stuck) → stuck_by step twin place e s ≡ s
  late_bits place twin step steps (Stick w at first last mask value) below h s =
      let after : steps ≤ first = ltb-false first steps h in
      ap (λ (b : Bool). cond b (stuck_beside s mask value) s)
      (last_fails (w == twin && is_same place at) (is_within first last step) (and_left (nat_le first step) (nat_le step last) (lt-leb first step (omega arith))))
    where
      last_fails : (a b : Bool) → b ≡ false → (a && b) ≡ false
      last_fails true b k = k
      last_fails false b k = refl
  late_bits place twin step steps _ below h s = refl

  -- ---- the damage of a step

  record Strikes (place : Spot) (twin step : ℕ) (e : Event) : Type 0 where
    mask : ℕ
    odd : (is_odd (mask / 2 ^ 14) || is_odd (mask % 2 ^ 14)) ≡ true
    is : (cell : ℕ) → damaged_by step twin place e cell ≡ bit_xor cell mask

  strikes : (place : Spot) (twin step : ℕ) (e : Event) → hits place twin step e ≡ true → is_seen e ≡ true → Strikes place twin step e
  strikes place twin step (Damage w at t mask) h seen = record { mask = mask; odd = seen; is = λ cell. ap (λ (b : Bool). cond b (bit_xor cell mask) cell) h }
  strikes place twin step _ h seen = absurd (true≢false (sym h))

  -- in a step a script leaves the cell of a twin at a place, or one line turns over an odd number of bits in some half of it
  pub data Damages (place : Spot) (twin step : ℕ) (lines script : List Event) : Type 0 where
    Spared : list_any (hits place twin step) lines ≡ false → ((cell : ℕ) → damaged step twin place script cell ≡ cell) → Damages place twin step lines script
    Struck : (mask : ℕ) → list_any (hits place twin step) lines ≡ true → (is_odd (mask / 2 ^ 14) || is_odd (mask % 2 ^ 14)) ≡ true
        → ((cell : ℕ) → damaged step twin place script cell ≡ bit_xor cell mask) → Damages place twin step lines script

  -- no place is damaged twice in a step
  module _ (never : (at : Spot) (t : ℕ) → apart at t t ≡ false) where
    lone_hit : (place : Spot) (twin step : ℕ) (e f : Event) → hits place twin step e ≡ true → are_apart apart e f ≡ true → hits place twin step f ≡ false
    lone_hit place twin step e f h pass =
        false_from_ne_true (hits place twin step f) (λ k. true≢false (sym (two-hits place twin twin step step e f h k pass) ∙ never place step))

    pub damage-of : (count : ℕ) (place : Spot) (twin step : ℕ) → step < 3 * count → (script : List Event) → list_all is_seen (lines_in count script) ≡ true
        → each_two (are_apart apart) (lines_in count script) ≡ true → Damages place twin step (lines_in count script) script
    damage-of count place twin step below [] seen all = Spared refl (λ cell. refl)
    damage-of count place twin step below (e ∷ es) seen all = by_run (damage-of count place twin step below es) (nat_lt (first_of e) (3 * count)) refl seen all
      where
        rest : List Event
        rest = lines_in count es

        More : Type 0
        More = list_all is_seen rest ≡ true → each_two (are_apart apart) rest ≡ true → Damages place twin step rest es

        passed : (lines : List Event) → hits place twin step e ≡ false → list_any (hits place twin step) lines ≡ list_any (hits place twin step) rest
            → Damages place twin step rest es → Damages place twin step lines (e ∷ es)
        passed lines miss same (Spared none is) = Spared (same ∙ none) (λ cell. ap (damaged step twin place es) (missed place twin step e miss cell) ∙ is cell)
        passed lines miss same (Struck mask some odd is) =
            Struck mask (same ∙ some) odd (λ cell. ap (damaged step twin place es) (missed place twin step e miss cell) ∙ is cell)

        first : hits place twin step e ≡ true → Strikes place twin step e → list_any (hits place twin step) rest ≡ false → Damages place twin step rest es
            → Damages place twin step (e ∷ rest) (e ∷ es)
        first hit s none (Spared _ is) =
            Struck s.mask (or_left (hits place twin step e) (list_any (hits place twin step) rest) hit) s.odd (λ cell. is (damaged_by step twin place e cell) ∙ s.is cell)
        first hit s none (Struck mask some odd is) = absurd (true≢false (sym some ∙ none))

        by_hit : (b : Bool) → hits place twin step e ≡ b → is_seen e ≡ true → list_all (are_apart apart e) rest ≡ true → Damages place twin step rest es
            → Damages place twin step (e ∷ rest) (e ∷ es)
        by_hit true hit see apart_rest more =
            first hit (strikes place twin step e hit see)
            (none-pass (hits place twin step) (are_apart apart e) (λ f pass. lone_hit place twin step e f hit pass) rest apart_rest) more
        by_hit false miss see apart_rest more = passed (e ∷ rest) miss (ap (λ (b : Bool). b || list_any (hits place twin step) rest) miss) more

        by_run : More → (b : Bool) → nat_lt (first_of e) (3 * count) ≡ b → list_all is_seen (cond b (e ∷ rest) rest) ≡ true
            → each_two (are_apart apart) (cond b (e ∷ rest) rest) ≡ true → Damages place twin step (cond b (e ∷ rest) rest) (e ∷ es)
        by_run more false is seen all = passed rest (late_hit place twin step (3 * count) e below is) refl (more seen all)
        by_run more true is seen all =
            let see = and_parts (is_seen e) (list_all is_seen rest) seen in
            let two = and_parts (list_all (are_apart apart e) rest) (each_two (are_apart apart) rest) all in
            by_hit (hits place twin step e) refl see.0 two.0 (more see.1 two.1)

  -- ---- what is stuck in a step

  record Holds (place : Spot) (twin step : ℕ) (e : Event) : Type 0 where
    mask : ℕ
    value : ℕ
    single : (is_single (mask / 2 ^ 14) && is_single (mask % 2 ^ 14)) ≡ true
    is : (s : Stuck) → (stuck_by step twin place e s ≡ s) ⊎ (stuck_by step twin place e s ≡ stuck_beside s mask value)

  holds_bits : (place : Spot) (twin step : ℕ) (e : Event) → sticks place twin e ≡ true → is_seen e ≡ true → Holds place twin step e
  holds_bits place twin step (Stick w at first last mask value) h seen =
      record { mask = mask; value = value; single = seen; is = λ s. by_time s (is_within first last step) refl }
    where
      by_time : (s : Stuck) (b : Bool) → is_within first last step ≡ b
          → (cond (w == twin && is_same place at && b) (stuck_beside s mask value) s ≡ s) ⊎ (cond (w == twin && is_same place at && b) (stuck_beside s mask value) s ≡ stuck_beside s mask value)
      by_time s true is = inr (ap (λ (b : Bool). cond (b && true) (stuck_beside s mask value) s) h)
      by_time s false is = inl (ap (λ (b : Bool). cond (b && false) (stuck_beside s mask value) s) h)
  holds_bits place twin step _ h seen = absurd (true≢false (sym h))

  -- in a step no bit of the cell of a twin at a place is stuck, or one line makes one stick at most in each half
  pub data Bits (place : Spot) (twin step : ℕ) (lines script : List Event) : Type 0 where
    Free : list_any (sticks place twin) lines ≡ false → ((s : Stuck) → stuck_after step twin place script s ≡ s) → Bits place twin step lines script
    Held : (mask value : ℕ) → list_any (sticks place twin) lines ≡ true → (is_single (mask / 2 ^ 14) && is_single (mask % 2 ^ 14)) ≡ true
        → ((s : Stuck) → (stuck_after step twin place script s ≡ s) ⊎ (stuck_after step twin place script s ≡ stuck_beside s mask value)) → Bits place twin step lines script

  lone_stick : (place : Spot) (twin : ℕ) (e f : Event) → sticks place twin e ≡ true → are_apart apart e f ≡ true → sticks place twin f ≡ false
  lone_stick place twin e f h pass = false_from_ne_true (sticks place twin f) (λ k. two_sticks place twin twin e f h k pass)

  pub bits-of : (count : ℕ) (place : Spot) (twin step : ℕ) → step < 3 * count → (script : List Event) → list_all is_seen (lines_in count script) ≡ true
      → each_two (are_apart apart) (lines_in count script) ≡ true → Bits place twin step (lines_in count script) script
  bits-of count place twin step below [] seen all = Free refl (λ s. refl)
  bits-of count place twin step below (e ∷ es) seen all = by_run (bits-of count place twin step below es) (nat_lt (first_of e) (3 * count)) refl seen all
    where
      rest : List Event
      rest = lines_in count es

      More : Type 0
      More = list_all is_seen rest ≡ true → each_two (are_apart apart) rest ≡ true → Bits place twin step rest es

      passed : (lines : List Event) → ((s : Stuck) → stuck_by step twin place e s ≡ s) → list_any (sticks place twin) lines ≡ list_any (sticks place twin) rest
          → Bits place twin step rest es → Bits place twin step lines (e ∷ es)
      passed lines idle same (Free none is) = Free (same ∙ none) (λ s. ap (stuck_after step twin place es) (idle s) ∙ is s)
      passed lines idle same (Held mask value some single is) =
          Held mask value (same ∙ some) single
          (λ s. subst (λ (t : Stuck). (stuck_after step twin place es t ≡ s) ⊎ (stuck_after step twin place es t ≡ stuck_beside s mask value)) (sym (idle s)) (is s))

      first : sticks place twin e ≡ true → Holds place twin step e → list_any (sticks place twin) rest ≡ false → Bits place twin step rest es
          → Bits place twin step (e ∷ rest) (e ∷ es)
      first stick h none (Held mask value some single is) = absurd (true≢false (sym some ∙ none))
      first stick h none (Free _ is) =
          Held h.mask h.value (or_left (sticks place twin e) (list_any (sticks place twin) rest) stick) h.single (λ s. by_time s (h.is s))
        where
          by_time : (s : Stuck) → (stuck_by step twin place e s ≡ s) ⊎ (stuck_by step twin place e s ≡ stuck_beside s h.mask h.value)
              → (stuck_after step twin place es (stuck_by step twin place e s) ≡ s) ⊎ (stuck_after step twin place es (stuck_by step twin place e s) ≡ stuck_beside s h.mask h.value)
          by_time s (inl same) = inl (is (stuck_by step twin place e s) ∙ same)
          by_time s (inr beside) = inr (is (stuck_by step twin place e s) ∙ beside)

      by_stick : (b : Bool) → sticks place twin e ≡ b → is_seen e ≡ true → list_all (are_apart apart e) rest ≡ true → Bits place twin step rest es
          → Bits place twin step (e ∷ rest) (e ∷ es)
      by_stick true stick see apart_rest more =
          first stick (holds_bits place twin step e stick see)
          (none-pass (sticks place twin) (are_apart apart e) (λ f pass. lone_stick place twin e f stick pass) rest apart_rest) more
      by_stick false miss see apart_rest more = passed (e ∷ rest) (loose place twin step e miss) (ap (λ (b : Bool). b || list_any (sticks place twin) rest) miss) more

      by_run : More → (b : Bool) → nat_lt (first_of e) (3 * count) ≡ b → list_all is_seen (cond b (e ∷ rest) rest) ≡ true
          → each_two (are_apart apart) (cond b (e ∷ rest) rest) ≡ true → Bits place twin step (cond b (e ∷ rest) rest) (e ∷ es)
      by_run more false is seen all = passed rest (late_bits place twin step (3 * count) e below is) refl (more seen all)
      by_run more true is seen all =
          let see = and_parts (is_seen e) (list_all is_seen rest) seen in
          let two = and_parts (list_all (are_apart apart e) rest) (each_two (are_apart apart) rest) all in
          by_stick (sticks place twin e) refl see.0 two.0 (more see.1 two.1)
