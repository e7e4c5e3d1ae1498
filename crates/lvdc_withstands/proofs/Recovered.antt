-- Where a program repairs the damage of a script each word can be recovered, in each step of the run and after it: a twin that is alive
-- stores and shows the plain run's word, or a bad cell that was damaged and not read or stored since, and one of the two shows the word.
use Rattle.std.proofs.Common.{◌≡◌, ℕ, zero, suc, ◌-◌, ◌*◌, ◌/◌, ◌%◌, ◌^◌, ◌<◌, ◌≤◌, Bool, true, false, ◌&&◌, cond, ◌==◌, bit_xor, List, ◌⊎◌, inl, inr, refl, sym, ap, ◌∙◌, subst, arith}
use Rattle.std.specs.Prelude.{nat_le, nat_lt}
use Rattle.std.specs.List.{list_any, list_all}
use Rattle.std.proofs.lemmas.Bool.{true≢false, eqb-true, eq-eqb, ltb-true, ltb-false, leb-true, leb-false, or_cases, or_from, or_left, or_right, and_from, and_parts, and_left, and_right, not_from_false, false_from_ne_true}
use Rattle.lvdc_word.specs.Cell.{code_of, is_good, with_stuck}
use Rattle.lvdc_word.proofs.Parity.{good-code}
use Rattle.lvdc_map.specs.Address.{Spot}
use Rattle.lvdc_map.specs.Banks.{is_simplex, home, holds, HasBank}
use Rattle.lvdc_map.specs.Memory.{word_at}
use Rattle.lvdc_twin.specs.Store.{nothing, survives}
use Rattle.lvdc_fault.specs.Damage.{is_dead, stuck}
use Rattle.lvdc_fault.specs.Recoverable.{is_recovered, recovers_by}
use Rattle.lvdc_fault.specs.declared.event.Event.{Event}
use Rattle.lvdc_fault.specs.declared.event.Event.TheVariants.{Damage}
use Rattle.lvdc_model.specs.Trial.{Trial, plain_in, read_at, store_at}
use Rattle.lvdc_model.specs.CellsBefore.{reads_it, cell_before, damaged_at, is_mended, mended, shown_with}
use Rattle.lvdc_model.specs.Judging.{is_recoverable, is_recoverable_after}
use Rattle.lvdc_model.proofs.Stuck.{nothing-stuck}
use Rattle.lvdc_withstands.specs.Form.{lines_in, is_duplex, is_seen, names_twin, is_one_sound}
use Rattle.lvdc_withstands.specs.Touches.{stores_it, touches, touches_from, touches_between}
use Rattle.lvdc_withstands.specs.Repairs.{are_apart, each_two}
use Rattle.lvdc_withstands.proofs.Seen.{damage-seen}
use Rattle.lvdc_withstands.proofs.Lined.{any-two, some-pass, hits, sticks, hits-names, sticks-names, two-hits, not-stuck-and-hit, not-both-stuck, Damages, Spared, Struck, damage-of, Bits, Free, Held, bits-of}
use Rattle.lvdc_withstands.proofs.Deaths.{dead-dies, dead-named, simplex-unnamed, both-live}
use Rattle.lvdc_withstands.proofs.Cells.{word_after, Stored, stored, beside-shown, survives-first, survives-second}

-- ---- steps in which a word is read or stored

-- in no step from one on and before an earlier one
pub touches-none : (o : Trial) (at : Spot) (from until : ℕ) → until ≤ from → touches_from o at from until ≡ false
touches-none o at from zero le = refl
touches-none o at from (suc step) le =
    or_from (touches_from o at from step) (nat_le from step && touches o step at) (touches-none o at from step (omega arith))
    (and_left (nat_le from step) (touches o step at) (false_from_ne_true (nat_le from step) (λ h. let k : from ≤ step = leb-true from step h in omega arith)))

-- nor before a later one where in those between it isn't
pub touches-next : (o : Trial) (at : Spot) (from step : ℕ) → touches_from o at from step ≡ false → touches o step at ≡ false → touches_from o at from (suc step) ≡ false
touches-next o at from step h k =
    or_from (touches_from o at from step) (nat_le from step && touches o step at) h (and_right (nat_le from step) (touches o step at) k)

-- up to a later step there are more
pub touches-more : (o : Trial) (at : Spot) (from until later : ℕ) → until ≤ later → touches_from o at from until ≡ true → touches_from o at from later ≡ true
touches-more o at from until zero le h = subst (λ (n : ℕ). touches_from o at from n ≡ true) (let none : until ≡ 0 = omega arith in none) h
touches-more o at from until (suc later) le h =
    by_case (touches-more o at from until later) (nat_le until later) refl
  where
    by_case : (until ≤ later → touches_from o at from until ≡ true → touches_from o at from later ≡ true) → (b : Bool) → nat_le until later ≡ b
        → touches_from o at from (suc later) ≡ true
    by_case more true is = or_left (touches_from o at from later) (nat_le from later && touches o later at) (more (leb-true until later is) h)
    by_case more false is =
        let above : later < until = leb-false until later is in
        subst (λ (n : ℕ). touches_from o at from n ≡ true) (let same : until ≡ suc later = omega arith in same) h

pub never-between : (o : Trial) (at : Spot) (t : ℕ) → touches_between o at t t ≡ false
never-between o at t =
    let none : touches_from o at t t ≡ false = touches-none o at t t (omega arith) in
    or_from (touches_from o at t t) (touches_from o at t t) none none

-- what is asked of the lines on memory, for one address
pub record RepairsAt (o : Trial) (count : ℕ) (at : Spot) : Type 0 where
  pub duplex : list_all (is_duplex o.opening.banks) (lines_in count o.script) ≡ true
  pub seen : list_all is_seen (lines_in count o.script) ≡ true
  pub lasting : (twin earlier later : ℕ) → twin < 2 → earlier ≤ later → later < 3 * count → is_dead o.script earlier twin (at.pair % 4) ≡ true → is_dead o.script later twin (at.pair % 4) ≡ true
  pub sound : is_one_sound (lines_in count o.script) (at.pair % 4) ≡ true
  pub apart : each_two (are_apart (touches_between o)) (lines_in count o.script) ≡ true

module _ (o : Trial) (count : ℕ) (at : Spot) (bank : HasBank o.opening.banks at) (m : RepairsAt o count at)
    (both : (twin : ℕ) → is_simplex o.opening.banks (at.pair % 4) ≡ false → holds o.opening.banks twin at ≡ true)
    (small : (n : ℕ) → word_at (plain_in o n).memory at < 2 ^ 26)
    (next : (n : ℕ) → word_at (plain_in o (suc n)).memory at ≡ word_after (store_at o n) at (word_at (plain_in o n).memory at)) where
  abbrev pair : ℕ
  pair = at.pair % 4

  abbrev place : Spot
  place = home at

  abbrev lines : List Event
  lines = lines_in count o.script

  abbrev word : ℕ → ℕ
  word n = word_at (plain_in o n).memory at

  -- is a twin alive in a step?
  abbrev Alive : ℕ → ℕ → Type 0
  Alive n twin = is_dead o.script n twin pair ≡ false

  -- a twin that is alive was so before
  alive_before : (n k twin : ℕ) → twin < 2 → k ≤ n → n < 3 * count → Alive n twin → Alive k twin
  alive_before n k twin two le below alive =
      false_from_ne_true (is_dead o.script k twin pair) (λ dead. true≢false (sym (m.lasting twin k n two le below dead) ∙ alive))

  -- ---- lines at the place

  -- a line of the run damages the cell of a twin in a step
  abbrev pub Hit : ℕ → ℕ → Type 0
  Hit twin t = list_any (hits place twin t) lines ≡ true

  pub named : (twin t : ℕ) → Hit twin t → list_any (names_twin pair twin) lines ≡ true
  named twin t h = some-pass (hits place twin t) (names_twin pair twin) (hits-names place twin t) lines h

  pub not-simplex : (twin : ℕ) → list_any (names_twin pair twin) lines ≡ true → is_simplex o.opening.banks pair ≡ false
  not-simplex twin h =
      false_from_ne_true (is_simplex o.opening.banks pair)
      (λ simplex. true≢false (sym h ∙ simplex-unnamed o.opening.banks pair twin lines (omega arith) simplex m.duplex))

  -- the place of an address in a duplex pair is the address
  pub flat : is_simplex o.opening.banks pair ≡ false → place ≡ at
  flat duplex = by_case (or_cases (nat_lt at.pair 4) (is_simplex o.opening.banks (at.pair - 4)) bank.there)
    where
      by_case : (nat_lt at.pair 4 ≡ true) ⊎ (is_simplex o.opening.banks (at.pair - 4) ≡ true) → place ≡ at
      by_case (inl low) =
          let below : at.pair < 4 = ltb-true at.pair 4 low in
          let same : at.pair % 4 ≡ at.pair = omega arith in
          λ i. record at { pair = same i }
      by_case (inr simplex) = by_size (nat_lt at.pair 4) refl
        where
          by_size : (b : Bool) → nat_lt at.pair 4 ≡ b → place ≡ at
          by_size true low =
              let below : at.pair < 4 = ltb-true at.pair 4 low in
              let same : at.pair % 4 ≡ at.pair = omega arith in
              λ i. record at { pair = same i }
          by_size false high =
              let above : 4 ≤ at.pair = ltb-false at.pair 4 high in
              let few : at.pair < 8 = bank.small in
              let same : at.pair - 4 ≡ at.pair % 4 = omega arith in
              absurd (true≢false (sym (ap (is_simplex o.opening.banks) (sym same) ∙ simplex) ∙ duplex))

  -- between two damages of the place the plain run reads or stores the word
  between : (one other t u : ℕ) → (t ≡ u → one ≡ other → ⊥) → Hit one t → Hit other u → touches_between o at t u ≡ true
  between one other t u differ h k =
      subst (λ (s : Spot). touches_between o s t u ≡ true) (flat (not-simplex one (named one t h)))
      (any-two (are_apart (touches_between o)) (hits place one t) (hits place other u) (λ e a b. absurd (one_line e a b)) by_order lines m.apart h k)
    where
      one_line : (e : Event) → hits place one t e ≡ true → hits place other u e ≡ true → ⊥
      one_line (Damage w spot s mask) a b =
          let here = and_parts (s == t) (w == one) (and_parts (s == t && w == one) _ a).0 in
          let there = and_parts (s == u) (w == other) (and_parts (s == u && w == other) _ b).0 in
          differ (sym (eqb-true s t here.0) ∙ eqb-true s u there.0) (sym (eqb-true w one here.1) ∙ eqb-true w other there.1)
      one_line _ a b = true≢false (sym a)

      turned : touches_between o place u t ≡ true → touches_between o place t u ≡ true
      turned h = by_case (or_cases (touches_from o place u t) (touches_from o place t u) h)
        where
          by_case : (touches_from o place u t ≡ true) ⊎ (touches_from o place t u ≡ true) → touches_between o place t u ≡ true
          by_case (inl x) = or_right (touches_from o place t u) (touches_from o place u t) x
          by_case (inr x) = or_left (touches_from o place t u) (touches_from o place u t) x

      by_order : (e f : Event) → hits place one t e ≡ true → hits place other u f ≡ true
          → (are_apart (touches_between o) e f ≡ true) ⊎ (are_apart (touches_between o) f e ≡ true) → touches_between o place t u ≡ true
      by_order e f a b (inl pass) = two-hits (touches_between o) place one other t u e f a b pass
      by_order e f a b (inr pass) = turned (two-hits (touches_between o) place other one u t f e b a pass)

  -- ---- one twin

  -- before a step a twin was damaged, and up to another one the word was neither read nor stored since
  pub record Pending (before until twin : ℕ) : Type 0 where
    pub step : ℕ
    pub early : step < before
    pub hit : Hit twin step
    pub still : touches_from o at step until ≡ false

  -- it stores this code, or a bad cell where it was damaged so
  abbrev pub Sound : ℕ → ℕ → ℕ → ℕ → ℕ → Type 0
  Sound before until twin code cell = (cell ≡ code) ⊎ (Pending before until twin × (is_good cell ≡ false))

  -- two damages aren't both pending
  pub not-two : (before until one other : ℕ) → before ≤ suc until → (x : Pending before until one) (y : Pending before until other) → (x.step ≡ y.step → one ≡ other → ⊥) → ⊥
  not-two before until one other le x y differ =
      by_case (or_cases (touches_from o at x.step y.step) (touches_from o at y.step x.step) (between one other x.step y.step differ x.hit y.hit))
    where
      by_case : (touches_from o at x.step y.step ≡ true) ⊎ (touches_from o at y.step x.step ≡ true) → ⊥
      by_case (inl h) = let early = y.early in true≢false (sym (touches-more o at x.step y.step until (omega arith) h) ∙ x.still)
      by_case (inr h) = let early = x.early in true≢false (sym (touches-more o at y.step x.step until (omega arith) h) ∙ y.still)

  -- after the damage of a step
  pub damaged-sound : (n twin : ℕ) → n < 3 * count → Sound n n twin (code_of (word n)) (cell_before o twin at n)
      → Sound (suc n) n twin (code_of (word n)) (damaged_at o n twin at (cell_before o twin at n))
  damaged-sound n twin below sound = by_damage (damage-of (touches_between o) (never-between o) count place twin n below o.script m.seen m.apart) sound
    where
      cell : ℕ
      cell = cell_before o twin at n

      After : ℕ → Type 0
      After c = Sound (suc n) n twin (code_of (word n)) c

      later : (p : Pending n n twin) → Pending (suc n) n twin
      later p = record { step = p.step; early = (let early = p.early in omega arith); hit = p.hit; still = p.still }

      now : Hit twin n → Pending (suc n) n twin
      now h = record { step = n; early = omega arith; hit = h; still = touches-none o at n n (omega arith) }

      by_damage : Damages (touches_between o) place twin n lines o.script → Sound n n twin (code_of (word n)) cell → After (damaged_at o n twin at cell)
      by_damage (Spared none is) (inl e) = inl (is cell ∙ e)
      by_damage (Spared none is) (inr (p, bad)) = inr (later p, ap is_good (is cell) ∙ bad)
      by_damage (Struck mask some odd is) (inl e) =
          inr (now some, ap is_good (is cell ∙ ap (λ (c : ℕ). bit_xor c mask) e) ∙ damage-seen (code_of (word n)) mask (good-code (word n) (small n)) odd)
      by_damage (Struck mask some odd is) (inr (p, bad)) =
          absurd (let early = p.early in not-two (suc n) n twin twin (omega arith) (later p) (now some) (λ e _. omega arith))

  -- what a twin shows of a bad cell that was damaged and isn't stuck
  shown_bad : (n k until twin cell : ℕ) → n < 3 * count → Alive n twin → Pending k until twin → is_good cell ≡ false → is_good (shown_with o n twin at cell) ≡ false
  shown_bad n k until twin cell below alive p bad = by_bits (bits-of (touches_between o) count place twin n below o.script m.seen m.apart)
    where
      by_bits : Bits (touches_between o) place twin n lines o.script → is_good (shown_with o n twin at cell) ≡ false
      by_bits (Free none is) = rw (alive, is nothing) (ap is_good (nothing-stuck cell) ∙ bad)
      by_bits (Held mask value some single is) = absurd (not-stuck-and-hit (touches_between o) place twin twin p.step lines m.apart some p.hit)

  -- after the read of a step: where the word is read, the cell is mended
  record Mended (n twin cell : ℕ) : Type 0 where
    sound : Sound (suc n) n twin (code_of (word n)) (mended o n twin at cell)
    read : reads_it (read_at o n) at ≡ true → mended o n twin at cell ≡ code_of (word n)

  mend : (n twin cell : ℕ) → n < 3 * count → Alive n twin → Sound (suc n) n twin (code_of (word n)) cell → Mended n twin cell
  mend n twin cell below alive (inl e) = record { sound = inl same; read = λ h. same }
    where
      by_mended : (b : Bool) → cond b (code_of (word n)) cell ≡ code_of (word n)
      by_mended true = refl
      by_mended false = e

      same : mended o n twin at cell ≡ code_of (word n)
      same = by_mended (is_mended o n twin at cell)
  mend n twin cell below alive (inr (p, bad)) = record { sound = by_mended (is_mended o n twin at cell); read = λ h. ap (λ (b : Bool). cond b (code_of (word n)) cell) (needs h) }
    where
      by_mended : (b : Bool) → Sound (suc n) n twin (code_of (word n)) (cond b (code_of (word n)) cell)
      by_mended true = inl refl
      by_mended false = inr (p, bad)

      needs : reads_it (read_at o n) at ≡ true → is_mended o n twin at cell ≡ true
      needs h =
          and_from _ _ (and_from _ _ (and_from _ _ h (not_from_false (is_simplex o.opening.banks pair) (not-simplex twin (named twin p.step p.hit))))
          (not_from_false (is_dead o.script n twin pair) alive)) (not_from_false (is_good (shown_with o n twin at cell)) (shown_bad n (suc n) n twin cell below alive p bad))

  next_sound : (n twin : ℕ) → n < 3 * count → holds o.opening.banks twin at ≡ true → Alive n twin → Sound n n twin (code_of (word n)) (cell_before o twin at n)
      → Sound (suc n) (suc n) twin (code_of (word (suc n))) (cell_before o twin at (suc n))
  next_sound n twin below held alive sound =
      subst (λ (w : ℕ). Sound (suc n) (suc n) twin (code_of w) (cell_before o twin at (suc n))) (sym (next n))
      (by_store (stores_it (store_at o n) at) refl (reads_it (read_at o n) at) refl made.sound)
    where
      cell : ℕ
      cell = damaged_at o n twin at (cell_before o twin at n)

      made : Mended n twin cell
      made = mend n twin cell below alive (damaged-sound n twin below sound)

      left : ℕ
      left = mended o n twin at cell

      s : Stored o n twin (word n) left at (store_at o n)
      s = stored o n twin (word n) left at (store_at o n) held alive

      by_store : (b : Bool) → stores_it (store_at o n) at ≡ b → (r : Bool) → reads_it (read_at o n) at ≡ r → Sound (suc n) n twin (code_of (word n)) left
          → Sound (suc n) (suc n) twin (code_of (word_after (store_at o n) at (word n))) (cell_before o twin at (suc n))
      by_store true stores r reads kept = inl (s.to_it stores)
      by_store false stores true reads kept = inl (s.cell stores ∙ made.read reads ∙ ap code_of (sym (s.word stores)))
      by_store false stores false reads (inl e) = inl (s.cell stores ∙ e ∙ ap code_of (sym (s.word stores)))
      by_store false stores false reads (inr (p, bad)) =
          inr (
            record {
              step = p.step;
              early = p.early;
              hit = p.hit;
              still = touches-next o at p.step n p.still (or_from (reads_it (read_at o n) at) (stores_it (store_at o n) at) reads stores);
            },
            ap is_good (s.cell stores) ∙ bad,
          )

  -- before each step
  pub before-sound : (n twin : ℕ) → n ≤ 3 * count → holds o.opening.banks twin at ≡ true → ((k : ℕ) → k < n → Alive k twin)
      → Sound n n twin (code_of (word n)) (cell_before o twin at n)
  before-sound zero twin le held alive = inl refl
  before-sound (suc n) twin le held alive =
      next_sound n twin (omega arith) held (alive n (omega arith)) (before-sound n twin (omega arith) held (λ k lt. alive k (omega arith)))

  -- ---- what a twin shows, once its cell is sound

  -- its cell was damaged and neither read nor stored since, or bits of it stick
  abbrev Fault : ℕ → ℕ → ℕ → Type 0
  Fault before until twin = Pending before until twin ⊎ (list_any (sticks place twin) lines ≡ true)

  -- it shows the code; or a bad cell, since it is dead or since its cell is at fault
  data Out (n before until twin code shown : ℕ) : Type 0 where
    Right : shown ≡ code → Out n before until twin code shown
    Gone : is_dead o.script n twin pair ≡ true → is_good shown ≡ false → Out n before until twin code shown
    Hurt : Fault before until twin → is_good shown ≡ false → Out n before until twin code shown

  shown_alive : (n before until twin code cell : ℕ) → n < 3 * count → is_good code ≡ true → Alive n twin → Sound before until twin code cell
      → Out n before until twin code (shown_with o n twin at cell)
  shown_alive n before until twin code cell below good alive (inr (p, bad)) = Hurt (inl p) (shown_bad n before until twin cell below alive p bad)
  shown_alive n before until twin code cell below good alive (inl e) = by_bits (bits-of (touches_between o) count place twin n below o.script m.seen m.apart)
    where
      by_bits : Bits (touches_between o) place twin n lines o.script → Out n before until twin code (shown_with o n twin at cell)
      by_bits (Free none is) = Right (rw (alive, is nothing) (nothing-stuck cell ∙ e))
      by_bits (Held mask value some single is) =
          by_case (beside-shown cell mask value (stuck o.script n twin place) (ap is_good e ∙ good) single (is nothing))
        where
          by_case : (with_stuck cell (stuck o.script n twin place).mask (stuck o.script n twin place).value ≡ cell)
              ⊎ (is_good (with_stuck cell (stuck o.script n twin place).mask (stuck o.script n twin place).value) ≡ false)
              → Out n before until twin code (shown_with o n twin at cell)
          by_case (inl same) = Right (rw alive (same ∙ e))
          by_case (inr bad) = Hurt (inr some) (rw alive bad)

  -- each twin that holds the address and is alive stores this code, or a bad cell where it was damaged
  abbrev AreSound : ℕ → ℕ → ℕ → ℕ → (ℕ → ℕ) → Type 0
  AreSound n before until code cells = (twin : ℕ) → twin < 2 → holds o.opening.banks twin at ≡ true → Alive n twin → Sound before until twin code (cells twin)

  shown_out : (n before until twin code : ℕ) (cells : ℕ → ℕ) → n < 3 * count → is_good code ≡ true → twin < 2 → holds o.opening.banks twin at ≡ true → AreSound n before until code cells
      → Out n before until twin code (shown_with o n twin at (cells twin))
  shown_out n before until twin code cells below good two held sound = by_dead (is_dead o.script n twin pair) refl
    where
      by_dead : (b : Bool) → is_dead o.script n twin pair ≡ b → Out n before until twin code (shown_with o n twin at (cells twin))
      by_dead true dead = Gone dead (rw dead refl)
      by_dead false alive = shown_alive n before until twin code (cells twin) below good alive (sound twin two held alive)

  -- ---- what both show

  -- what a twin shows is the code or bad
  right_or_bad : (n before until twin code shown : ℕ) → Out n before until twin code shown → (shown ≡ code) ⊎ (is_good shown ≡ false)
  right_or_bad n before until twin code shown (Right e) = inl e
  right_or_bad n before until twin code shown (Gone dead bad) = inr bad
  right_or_bad n before until twin code shown (Hurt fault bad) = inr bad

  fault_named : (before until twin : ℕ) → Fault before until twin → list_any (names_twin pair twin) lines ≡ true
  fault_named before until twin (inl p) = named twin p.step p.hit
  fault_named before until twin (inr some) = some-pass (sticks place twin) (names_twin pair twin) (sticks-names place twin) lines some

  dead_named : (n twin : ℕ) → n < 3 * count → is_dead o.script n twin pair ≡ true → list_any (names_twin pair twin) lines ≡ true
  dead_named n twin below dead = dead-named count n twin pair o.script below dead

  -- where a twin is dead, not both are named
  not_both : (n twin : ℕ) → n < 3 * count → is_dead o.script n twin pair ≡ true → list_any (names_twin pair 0) lines ≡ true → list_any (names_twin pair 1) lines ≡ true → ⊥
  not_both n twin below dead zeroth first =
      true≢false (sym (dead-dies count n twin pair o.script below dead) ∙ both-live pair lines m.sound zeroth first)

  -- the cells of both twins aren't at fault
  one_fault : (before until : ℕ) → before ≤ suc until → Fault before until 0 → Fault before until 1 → ⊥
  one_fault before until le (inl x) (inl y) = not-two before until 0 1 le x y (λ _ e. omega arith)
  one_fault before until le (inl x) (inr s) = not-stuck-and-hit (touches_between o) place 1 0 x.step lines m.apart s x.hit
  one_fault before until le (inr s) (inl x) = not-stuck-and-hit (touches_between o) place 0 1 x.step lines m.apart s x.hit
  one_fault before until le (inr s) (inr r) = not-both-stuck (touches_between o) place lines m.apart s r

  survive : (n before until code zeroth first : ℕ) → n < 3 * count → before ≤ suc until → Out n before until 0 code zeroth → Out n before until 1 code first → survives code zeroth first ≡ true
  survive n before until code none one below le (Right e) out = survives-first code none one e (right_or_bad n before until 1 code one out)
  survive n before until code none one below le (Gone d b) (Right e) = survives-second code none one (inr b) e
  survive n before until code none one below le (Hurt h b) (Right e) = survives-second code none one (inr b) e
  survive n before until code none one below le (Gone d b) (Gone k c) = absurd (not_both n 0 below d (dead_named n 0 below d) (dead_named n 1 below k))
  survive n before until code none one below le (Gone d b) (Hurt k c) = absurd (not_both n 0 below d (dead_named n 0 below d) (fault_named before until 1 k))
  survive n before until code none one below le (Hurt h b) (Gone k c) = absurd (not_both n 1 below k (fault_named before until 0 h) (dead_named n 1 below k))
  survive n before until code none one below le (Hurt h b) (Hurt k c) = absurd (one_fault before until le h k)

  -- of a simplex pair the twin that holds the address shows the code
  unhurt : (n before until twin code shown : ℕ) → n < 3 * count → is_simplex o.opening.banks pair ≡ true → Out n before until twin code shown → shown ≡ code
  unhurt n before until twin code shown below simplex (Right e) = e
  unhurt n before until twin code shown below simplex (Gone dead bad) =
      absurd (true≢false (sym simplex ∙ not-simplex twin (dead_named n twin below dead)))
  unhurt n before until twin code shown below simplex (Hurt fault bad) =
      absurd (true≢false (sym simplex ∙ not-simplex twin (fault_named before until twin fault)))

  recovered : (n before until w : ℕ) (cells : ℕ → ℕ) → n < 3 * count → before ≤ suc until → w < 2 ^ 26 → AreSound n before until (code_of w) cells
      → is_recovered o.opening.banks at w (λ twin. shown_with o n twin at (cells twin)) ≡ true
  recovered n before until w cells below le fits sound = by_simplex (is_simplex o.opening.banks pair) refl
    where
      by_simplex : (b : Bool) → is_simplex o.opening.banks pair ≡ b → recovers_by b at.pair (code_of w) (λ twin. shown_with o n twin at (cells twin)) ≡ true
      by_simplex true simplex =
          let few : at.pair < 8 = bank.small in
          let twin = at.pair / 4 in
          let held : holds o.opening.banks twin at ≡ true = rw simplex (eq-eqb twin twin refl) in
          eq-eqb (shown_with o n twin at (cells twin)) (code_of w)
          (unhurt n before until twin (code_of w) (shown_with o n twin at (cells twin)) below simplex
          (shown_out n before until twin (code_of w) cells below (good-code w fits) (omega arith) held sound))
      by_simplex false duplex =
          survive n before until (code_of w) (shown_with o n 0 at (cells 0)) (shown_with o n 1 at (cells 1)) below le
          (shown_out n before until 0 (code_of w) cells below (good-code w fits) (omega arith) (both 0 duplex) sound)
          (shown_out n before until 1 (code_of w) cells below (good-code w fits) (omega arith) (both 1 duplex) sound)

  -- ---- in a step, and after it

  pub in-step : (n : ℕ) → n < 3 * count → is_recoverable o n at ≡ true
  in-step n below =
      recovered n (suc n) n (word n) (λ twin. damaged_at o n twin at (cell_before o twin at n)) below (omega arith) (small n)
      (λ twin two held alive. damaged-sound n twin below (before-sound n twin (omega arith) held (λ k lt. alive_before n k twin two (omega arith) below alive)))

  pub after-step : (n : ℕ) → n < 3 * count → is_recoverable_after o (suc n) at ≡ true
  after-step n below =
      recovered n (suc n) (suc n) (word (suc n)) (λ twin. cell_before o twin at (suc n)) below (omega arith) (small (suc n))
      (λ twin two held alive. before-sound (suc n) twin (omega arith) held (λ k lt. alive_before n k twin two (omega arith) below alive))
