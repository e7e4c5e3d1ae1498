-- Under damage alone a twin shows a bad cell just where a read meets its damage.
use Rattle.std.proofs.Common.{◌≡◌, ℕ, zero, suc, ◌*◌, ◌%◌, ◌^◌, ◌<◌, ◌≤◌, Bool, true, false, not, ◌&&◌, ◌||◌, cond, ◌==◌, bit_xor, List, [], ◌∷◌, ◌⊎◌, inl, inr, refl, sym, ap, ◌∙◌, subst, arith}
use Rattle.std.specs.Prelude.{nat_le, nat_lt}
use Rattle.std.specs.List.{list_any, list_all}
use Rattle.std.proofs.lemmas.Bool.{true≢false, eqb-true, eq-eqb, lt-ltb, leb-true, le-leb, cases_eq, or_cases, or_left, or_right, and_from, and_parts, not-true, not_from_false, false_from_ne_true}
use Rattle.lvdc_word.specs.Cell.{code_of, is_good}
use Rattle.lvdc_word.proofs.Parity.{good-code}
use Rattle.lvdc_map.specs.Address.{Spot, is_same}
use Rattle.lvdc_map.specs.Banks.{is_simplex, home, holds, HasBank}
use Rattle.lvdc_map.specs.Memory.{word_at}
use Rattle.lvdc_twin.specs.Store.{nothing}
use Rattle.lvdc_fault.specs.Script.{first_of}
use Rattle.lvdc_fault.specs.Damage.{is_dead}
use Rattle.lvdc_fault.specs.declared.event.Event.{Event}
use Rattle.lvdc_fault.specs.declared.event.Event.TheVariants.{Damage, Stick, Dead}
use Rattle.lvdc_model.specs.Trial.{Trial, plain_in, read_at, store_at}
use Rattle.lvdc_model.specs.CellsBefore.{reads_it, cell_before, damaged_at, mended, shown_at, shown_with}
use Rattle.lvdc_model.proofs.Stuck.{nothing-stuck}
use Rattle.lvdc_withstands.specs.Form.{lines_in, kills_in}
use Rattle.lvdc_withstands.specs.Touches.{stores_it, touches, touches_from, touches_between}
use Rattle.lvdc_withstands.specs.Findings.{is_damage_alone, meets}
use Rattle.lvdc_withstands.proofs.Seen.{damage-seen}
use Rattle.lvdc_withstands.proofs.Lined.{none-pass, hits, sticks, Damages, Spared, Struck, damage-of, Bits, Free, Held, bits-of}
use Rattle.lvdc_withstands.proofs.Deaths.{dead-dies}
use Rattle.lvdc_withstands.proofs.Cells.{word_after, Stored, stored}
use Rattle.lvdc_withstands.proofs.Recovered.{touches-none, never-between, RepairsAt, Hit, not-simplex, named, Pending, not-two, damaged-sound, before-sound}

-- ---- some line of a script

-- some line passes a test; where it begins in the run, it is a line of the run
pub record Picked (count : ℕ) (p : Event → Bool) (script : List Event) : Type 0 where
  pub line : Event
  pub passes : p line ≡ true
  pub in_run : (q : Event → Bool) → nat_lt (first_of line) (3 * count) ≡ true → q line ≡ true → list_any q (lines_in count script) ≡ true

pub pick : (count : ℕ) (p : Event → Bool) (script : List Event) → list_any p script ≡ true → Picked count p script
pick count p [] h = absurd (true≢false (sym h))
pick count p (e ∷ es) h = by_head (pick count p es) (or_cases (p e) (list_any p es) h)
  where
    rest : List Event
    rest = lines_in count es

    later : (q : Event → Bool) (b : Bool) → list_any q rest ≡ true → list_any q (cond b (e ∷ rest) rest) ≡ true
    later q true k = or_right (q e) (list_any q rest) k
    later q false k = k

    by_head : (list_any p es ≡ true → Picked count p es) → (p e ≡ true) ⊎ (list_any p es ≡ true) → Picked count p (e ∷ es)
    by_head more (inl here) = record { line = e; passes = here; in_run = λ q begins k. rw begins (or_left (q e) (list_any q rest) k) }
    by_head more (inr there) =
        let it = more there in
        record { line = it.line; passes = it.passes; in_run = λ q begins k. later q (nat_lt (first_of e) (3 * count)) (it.in_run q begins k) }

-- a line of the run is a line of the script
pub of-script : (count : ℕ) (p q : Event → Bool) → ((e : Event) → p e ≡ true → q e ≡ true) → (script : List Event) → list_any p (lines_in count script) ≡ true → list_any q script ≡ true
of-script count p q implied [] h = h
of-script count p q implied (e ∷ es) h = by_run (of-script count p q implied es) (nat_lt (first_of e) (3 * count)) h
  where
    rest : List Event
    rest = lines_in count es

    by_head : (list_any p rest ≡ true → list_any q es ≡ true) → (p e ≡ true) ⊎ (list_any p rest ≡ true) → (q e || list_any q es) ≡ true
    by_head more (inl here) = or_left (q e) (list_any q es) (implied e here)
    by_head more (inr there) = or_right (q e) (list_any q es) (more there)

    by_run : (list_any p rest ≡ true → list_any q es ≡ true) → (b : Bool) → list_any p (cond b (e ∷ rest) rest) ≡ true → (q e || list_any q es) ≡ true
    by_run more true h = by_head more (or_cases (p e) (list_any p rest) h)
    by_run more false h = or_right (q e) (list_any q es) (more h)

-- ---- damage alone

kills_none : (pair : ℕ) (e : Event) → is_damage_alone e ≡ true → kills_in pair e ≡ false
kills_none pair (Dead w p first last) h = absurd (true≢false (sym h))
kills_none pair _ h = refl

sticks_none : (place : Spot) (twin : ℕ) (e : Event) → is_damage_alone e ≡ true → sticks place twin e ≡ false
sticks_none place twin (Stick w at first last mask value) h = absurd (true≢false (sym h))
sticks_none place twin _ h = refl

-- where a word was read or stored in no step from one on and before a later one, it was in none before the last of them, nor in that
touches-split : (o : Trial) (at : Spot) (from step : ℕ) → from ≤ step → touches_from o at from (suc step) ≡ false → (touches_from o at from step ≡ false) × (touches o step at ≡ false)
touches-split o at from step le h = (
  false_from_ne_true (touches_from o at from step) (λ k. true≢false (sym (or_left (touches_from o at from step) (nat_le from step && touches o step at) k) ∙ h)),
  false_from_ne_true (touches o step at)
      (λ k. true≢false (sym (or_right (touches_from o at from step) (nat_le from step && touches o step at) (and_from (nat_le from step) (touches o step at) (le-leb from step le) k)) ∙ h)),
)

neither : (a b : Bool) → (a || b) ≡ false → (a ≡ false) × (b ≡ false)
neither false b h = (refl, h)
neither true b h = absurd (true≢false h)

module _ (o : Trial) (count : ℕ) (at : Spot) (bank : HasBank o.opening.banks at) (m : RepairsAt o count at)
    (both : (twin : ℕ) → is_simplex o.opening.banks (at.pair % 4) ≡ false → holds o.opening.banks twin at ≡ true)
    (small : (n : ℕ) → word_at (plain_in o n).memory at < 2 ^ 26)
    (next : (n : ℕ) → word_at (plain_in o (suc n)).memory at ≡ word_after (store_at o n) at (word_at (plain_in o n).memory at))
    (alone : list_all is_damage_alone (lines_in count o.script) ≡ true) where
  abbrev pair : ℕ
  pair = at.pair % 4

  abbrev place : Spot
  place = home at

  abbrev lines : List Event
  lines = lines_in count o.script

  abbrev word : ℕ → ℕ
  word n = word_at (plain_in o n).memory at

  abbrev Waits : ℕ → ℕ → ℕ → Type 0
  Waits before until twin = Pending o count at bank m both small next before until twin

  live : (n twin : ℕ) → n < 3 * count → is_dead o.script n twin pair ≡ false
  live n twin below =
      false_from_ne_true (is_dead o.script n twin pair)
      (λ dead. true≢false (sym (dead-dies count n twin pair o.script below dead) ∙ none-pass (kills_in pair) is_damage_alone (kills_none pair) lines alone))

  -- a twin shows the cell that it stores
  shows_cell : (n twin cell : ℕ) → n < 3 * count → shown_with o n twin at cell ≡ cell
  shows_cell n twin cell below = by_bits (bits-of (touches_between o) count place twin n below o.script m.seen m.apart)
    where
      by_bits : Bits (touches_between o) place twin n lines o.script → shown_with o n twin at cell ≡ cell
      by_bits (Free none is) = rw (live n twin below, is nothing) (nothing-stuck cell)
      by_bits (Held mask value some single is) =
          absurd (true≢false (sym some ∙ none-pass (sticks place twin) is_damage_alone (sticks_none place twin) lines alone))

  sound : (n twin : ℕ) → n < 3 * count → is_simplex o.opening.banks pair ≡ false
      → (cell_before o twin at n ≡ code_of (word n)) ⊎ (Waits n n twin × (is_good (cell_before o twin at n) ≡ false))
  sound n twin below duplex =
      before-sound o count at bank m both small next n twin (omega arith) (both twin duplex) (λ k lt. live k twin (omega arith))

  -- after the damage of a step a cell whose damage waits for a read or a store is bad, where it was so before
  damaged_exact : (n twin : ℕ) → n < 3 * count → is_simplex o.opening.banks pair ≡ false → (Waits n n twin → is_good (cell_before o twin at n) ≡ false)
      → Waits (suc n) n twin → is_good (damaged_at o n twin at (cell_before o twin at n)) ≡ false
  damaged_exact n twin below duplex exact p =
      by_damage (damage-of (touches_between o) (never-between o) count place twin n below o.script m.seen m.apart) (sound n twin below duplex)
    where
      cell : ℕ
      cell = cell_before o twin at n

      early : (q : Waits n n twin) → Waits (suc n) n twin
      early q = record { step = q.step; early = (let before = q.early in omega arith); hit = q.hit; still = q.still }

      now : Hit o count at bank m both small next twin n → Waits (suc n) n twin
      now h = record { step = n; early = omega arith; hit = h; still = touches-none o at n n (omega arith) }

      by_damage : Damages (touches_between o) place twin n lines o.script → (cell ≡ code_of (word n)) ⊎ (Waits n n twin × (is_good cell ≡ false))
          → is_good (damaged_at o n twin at cell) ≡ false
      by_damage (Struck mask some odd is) (inl e) =
          ap is_good (is cell ∙ ap (λ (c : ℕ). bit_xor c mask) e) ∙ damage-seen (code_of (word n)) mask (good-code (word n) (small n)) odd
      by_damage (Struck mask some odd is) (inr (q, bad)) =
          absurd (let before = q.early in not-two o count at bank m both small next (suc n) n twin twin (omega arith) (early q) (now some) (λ e _. omega arith))
      by_damage (Spared none is) _ = ap is_good (is cell) ∙ exact (by_step (cases_eq p.step n))
        where
          by_step : (p.step ≡ n) ⊎ (p.step ≡ n → ⊥) → Waits n n twin
          by_step (inl same) = absurd (true≢false (sym (subst (λ (t : ℕ). Hit o count at bank m both small next twin t) same p.hit) ∙ none))
          by_step (inr other) = record { step = p.step; early = (let before = p.early in omega arith); hit = p.hit; still = p.still }

  -- so before each step
  exact : (n twin : ℕ) → n ≤ 3 * count → is_simplex o.opening.banks pair ≡ false → Waits n n twin → is_good (cell_before o twin at n) ≡ false
  exact zero twin le duplex p = absurd (let before = p.early in omega arith)
  exact (suc n) twin le duplex p = left (damaged_exact n twin (omega arith) duplex (exact n twin (omega arith) duplex))
    where
      cell : ℕ
      cell = damaged_at o n twin at (cell_before o twin at n)

      split : (touches_from o at p.step n ≡ false) × (touches o n at ≡ false)
      split = touches-split o at p.step n (let before = p.early in omega arith) p.still

      idle : (reads_it (read_at o n) at ≡ false) × (stores_it (store_at o n) at ≡ false)
      idle = neither (reads_it (read_at o n) at) (stores_it (store_at o n) at) split.1

      s : Stored o n twin (word n) (mended o n twin at cell) at (store_at o n)
      s = stored o n twin (word n) (mended o n twin at cell) at (store_at o n) (both twin duplex) (live n twin (omega arith))

      unread : (b r x y : Bool) (c d : ℕ) → r ≡ false → cond (((r && b) && x) && y) c d ≡ d
      unread b false x y c d h = refl
      unread b true x y c d h = absurd (true≢false h)

      left : (Waits (suc n) n twin → is_good cell ≡ false) → is_good (cell_before o twin at (suc n)) ≡ false
      left bad =
          ap is_good (s.cell idle.1 ∙ unread _ (reads_it (read_at o n) at) _ _ (code_of (word n)) cell idle.0)
          ∙ bad (record { step = p.step; early = p.early; hit = p.hit; still = split.0 })

  -- ---- the damage that a read meets

  meets_waits : (n twin : ℕ) → n < 3 * count → is_simplex o.opening.banks pair ≡ false → list_any (meets o n at twin) o.script ≡ true → Waits (suc n) n twin
  meets_waits n twin below duplex h = by_line it.line it.passes it.in_run
    where
      it : Picked count (meets o n at twin) o.script
      it = pick count (meets o n at twin) o.script h

      by_line : (e : Event) → meets o n at twin e ≡ true → ((q : Event → Bool) → nat_lt (first_of e) (3 * count) ≡ true → q e ≡ true → list_any q lines ≡ true) → Waits (suc n) n twin
      by_line (Damage w spot t mask) met in_run =
          let three = and_parts (w == twin && is_same place spot && nat_le t n) (not (touches_from o at t n)) met in
          let two = and_parts (w == twin && is_same place spot) (nat_le t n) three.0 in
          let one = and_parts (w == twin) (is_same place spot) two.0 in
          let le : t ≤ n = leb-true t n two.1 in
          record {
            step = t;
            early = omega arith;
            hit = in_run (hits place twin t) (lt-ltb t (3 * count) (omega arith)) (and_from (t == t && w == twin) (is_same place spot) (and_from (t == t) (w == twin) (eq-eqb t t refl) one.0) one.1);
            still = not-true (touches_from o at t n) three.1;
          }
      by_line _ met in_run = absurd (true≢false (sym met))

  waits_meets : (n twin : ℕ) → is_simplex o.opening.banks pair ≡ false → Waits (suc n) n twin → list_any (meets o n at twin) o.script ≡ true
  waits_meets n twin duplex p = of-script count (hits place twin p.step) (meets o n at twin) by_line o.script p.hit
    where
      by_line : (e : Event) → hits place twin p.step e ≡ true → meets o n at twin e ≡ true
      by_line (Damage w spot t mask) hit =
          let two = and_parts (t == p.step && w == twin) (is_same place spot) hit in
          let one = and_parts (t == p.step) (w == twin) two.0 in
          let same : t ≡ p.step = eqb-true t p.step one.0 in
          and_from _ _ (and_from _ _ (and_from _ _ one.1 two.1) (le-leb t n (let before = p.early in omega arith)))
          (not_from_false (touches_from o at t n) (ap (λ (s : ℕ). touches_from o at s n) same ∙ p.still))
      by_line _ hit = absurd (true≢false (sym hit))

  -- a twin shows a bad cell just where the read meets its damage
  pub met-bad : (n twin : ℕ) → n < 3 * count → is_simplex o.opening.banks pair ≡ false → list_any (meets o n at twin) o.script ≡ not (is_good (shown_at o twin at n))
  met-bad n twin below duplex = by_met (list_any (meets o n at twin) o.script) refl
    where
      cell : ℕ
      cell = damaged_at o n twin at (cell_before o twin at n)

      good_is : (b : Bool) → is_good cell ≡ b → not (is_good (shown_at o twin at n)) ≡ not b
      good_is b h = ap (λ (c : ℕ). not (is_good c)) (shows_cell n twin cell below) ∙ ap not h

      -- what isn't met waits for no read
      unmet : list_any (meets o n at twin) o.script ≡ false → is_good cell ≡ true
      unmet none = by_sound (damaged-sound o count at bank m both small next n twin below (sound n twin below duplex))
        where
          by_sound : (cell ≡ code_of (word n)) ⊎ (Waits (suc n) n twin × (is_good cell ≡ false)) → is_good cell ≡ true
          by_sound (inl e) = ap is_good e ∙ good-code (word n) (small n)
          by_sound (inr (p, bad)) = absurd (true≢false (sym (waits_meets n twin duplex p) ∙ none))

      by_met : (b : Bool) → list_any (meets o n at twin) o.script ≡ b → b ≡ not (is_good (shown_at o twin at n))
      by_met true some = sym (good_is false (damaged_exact n twin below duplex (exact n twin (omega arith) duplex) (meets_waits n twin below duplex some)))
      by_met false none = sym (good_is true (unmet none))

  -- in a simplex pair there is no damage to be met
  pub met-simplex : (n twin : ℕ) → n < 3 * count → is_simplex o.opening.banks pair ≡ true → list_any (meets o n at twin) o.script ≡ false
  met-simplex n twin below simplex = false_from_ne_true (list_any (meets o n at twin) o.script) clash
    where
      by_line : (e : Event) → meets o n at twin e ≡ true → ((q : Event → Bool) → nat_lt (first_of e) (3 * count) ≡ true → q e ≡ true → list_any q lines ≡ true) → ⊥
      by_line (Damage w spot t mask) met in_run =
          let three = and_parts (w == twin && is_same place spot && nat_le t n) (not (touches_from o at t n)) met in
          let two = and_parts (w == twin && is_same place spot) (nat_le t n) three.0 in
          let one = and_parts (w == twin) (is_same place spot) two.0 in
          let le : t ≤ n = leb-true t n two.1 in
          let hit : list_any (hits place twin t) lines ≡ true =
          in_run (hits place twin t) (lt-ltb t (3 * count) (omega arith)) (and_from (t == t && w == twin) (is_same place spot) (and_from (t == t) (w == twin) (eq-eqb t t refl) one.0) one.1) in
          true≢false (sym simplex ∙ not-simplex o count at bank m both small next twin (named o count at bank m both small next twin t hit))
      by_line _ met in_run = true≢false (sym met)

      clash : list_any (meets o n at twin) o.script ≡ true → ⊥
      clash h = let it = pick count (meets o n at twin) o.script h in by_line it.line it.passes it.in_run
