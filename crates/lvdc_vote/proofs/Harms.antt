-- What many hurts of one copy come to is what they make of it one after another.
use Rattle.std.proofs.Common.{◌≡◌, ℕ, zero, suc, ◌+◌, ◌-◌, ◌≤◌, ◌<◌, Bool, true, false, ◌||◌, ◌==◌, if◌then◌else◌, List, [], ◌∷◌, length, replicate, take, refl, sym, ◌∙◌, ap, arith, min}
use Rattle.std.specs.Prelude.{All, slice_index_or, slice_set}
use Rattle.std.specs.Int.{bit_at}
use Rattle.std.proofs.lemmas.List.{length-set}
use Rattle.std.proofs.lemmas.Nat.Bits.{bit_at-lt, bit_at-zero, same_from_bits}
use Rattle.lvdc_vote.specs.Bits.{flipped, forced}
use Rattle.lvdc_vote.specs.Harms.{patched, patched_all, patched_at, no_patch, patch_and_flip, patch_and_force, no_harm, harm_and, harm_after, harm_of, harmed}
use Rattle.lvdc_vote.specs.Latches.{flipped_at, forced_at, hurt_by, hurt_by_all, latched_by, lags, is_lag, FitsLatches}
use Rattle.lvdc_vote.specs.declared.harm.Harm.{Harm}
use Rattle.lvdc_vote.specs.declared.harm.Patch.{Patch}
use Rattle.lvdc_vote.specs.declared.hurt.Hurt.{Hurt}
use Rattle.lvdc_vote.specs.declared.hurt.Hurt.TheVariants.{Lag, Flip, Force}
use Rattle.lvdc_vote.proofs.BitLaws.{bit_at-flipped, bit_at-forced}

-- ---- one word

-- a bit that is set where the mask says so, and else turned over where the value says so
abbrev patched_bit : ℕ → ℕ → ℕ → ℕ
patched_bit mask value x = if mask == 1 then value else (if value == 1 then 1 - x else x)

-- each bit of a patched word is that
bit_at-patched : (p : Patch) (w i : ℕ) → bit_at (patched p w) i ≡ patched_bit (bit_at p.mask i) (bit_at p.value i) (bit_at w i)
unfolding patched
bit_at-patched p w i = rw (bit_at-forced (flipped w p.value) p.mask p.value i, bit_at-flipped w p.value i) refl

-- a word under no patch stays
stays_bit : (x : ℕ) → patched_bit 0 0 x ≡ x
stays_bit x = refl

pub patched_none : (w : ℕ) → patched no_patch w ≡ w
patched_none w = same_from_bits _ _ (λ i. bit_at-patched no_patch w i ∙ rw (bit_at-zero i) (stays_bit (bit_at w i)))

-- a patched bit that is turned over
flip_bit : (mask value x m : ℕ) → value < 2 → x < 2
    → (if m == 1 then 1 - patched_bit mask value x else patched_bit mask value x) ≡ patched_bit mask (if m == 1 then 1 - value else value) x
flip_bit mask value x m hv hx = by_cases (m == 1) (mask == 1) value x hv hx where
  by_cases : (b c : Bool) (value x : ℕ) → value < 2 → x < 2
      → (if b then 1 - (if c then value else (if value == 1 then 1 - x else x)) else (if c then value else (if value == 1 then 1 - x else x)))
      ≡ (if c then (if b then 1 - value else value) else (if (if b then 1 - value else value) == 1 then 1 - x else x))
  by_cases false c value x hv hx = refl
  by_cases true true value x hv hx = refl
  by_cases true false zero x hv hx = refl
  by_cases true false (suc zero) zero hv hx = refl
  by_cases true false (suc zero) (suc zero) hv hx = refl
  by_cases true false (suc zero) (suc (suc x)) hv hx = absurd (omega (arith, hx))
  by_cases true false (suc (suc value)) x hv hx = absurd (omega (arith, hv))

-- a patch and bits turned over
pub patched_flip : (p : Patch) (w mask : ℕ) → flipped (patched p w) mask ≡ patched (patch_and_flip p mask) w
patched_flip p w mask = same_from_bits _ _ each where
  each : (i : ℕ) → bit_at (flipped (patched p w) mask) i ≡ bit_at (patched (patch_and_flip p mask) w) i
  each i =
      rw (bit_at-flipped (patched p w) mask i, bit_at-patched p w i, bit_at-patched (patch_and_flip p mask) w i, bit_at-flipped p.value mask i)
      (flip_bit (bit_at p.mask i) (bit_at p.value i) (bit_at w i) (bit_at mask i) (bit_at-lt p.value i) (bit_at-lt w i))

-- a patched bit that is set
force_bit : (mask value x m a : ℕ) → (if m == 1 then a else patched_bit mask value x) ≡ patched_bit (if m == 1 then m else mask) (if m == 1 then a else value) x
force_bit mask value x m a = by_cases (m == 1) refl where
  by_cases : (b : Bool) → (m == 1) ≡ b → (if b then a else patched_bit mask value x) ≡ patched_bit (if b then m else mask) (if b then a else value) x
  by_cases true h = rw h refl
  by_cases false h = refl

-- a patch and bits set
pub patched_force : (p : Patch) (w mask value : ℕ) → forced (patched p w) mask value ≡ patched (patch_and_force p mask value) w
patched_force p w mask value = same_from_bits _ _ each where
  each : (i : ℕ) → bit_at (forced (patched p w) mask value) i ≡ bit_at (patched (patch_and_force p mask value) w) i
  each i =
      rw (bit_at-forced (patched p w) mask value i, bit_at-patched p w i, bit_at-patched (patch_and_force p mask value) w i, bit_at-forced p.mask mask mask i, bit_at-forced p.value mask value i)
      (force_bit (bit_at p.mask i) (bit_at p.value i) (bit_at w i) (bit_at mask i) (bit_at value i))

-- ---- one word of a list

-- under no patch a list stays
pub patched_at_none : (ws : List ℕ) (i : ℕ) → patched_at ws i no_patch ≡ ws
patched_at_none [] i = refl
patched_at_none (w ∷ ws) zero = rw (patched_none w) refl
patched_at_none (w ∷ ws) (suc i) = ap (λ (rest : List ℕ). w ∷ rest) (patched_at_none ws i)

-- bits turned over and then set are a patch
pub patched_at_is : (ws : List ℕ) (i : ℕ) (p : Patch) → i < length ws → forced_at (flipped_at ws i p.value) i p.mask p.value ≡ patched_at ws i p
unfolding patched
patched_at_is [] i p h = absurd (omega (arith, h))
patched_at_is (w ∷ ws) zero p h = refl
patched_at_is (w ∷ ws) (suc i) p h = ap (λ (rest : List ℕ). w ∷ rest) (patched_at_is ws i p (omega (arith, h)))

-- ---- all words

-- words under no patches stay
pub patched_all_none : (n : ℕ) (ws : List ℕ) → patched_all (replicate n no_patch) ws ≡ ws
patched_all_none zero ws = refl
patched_all_none (suc n) [] = refl
patched_all_none (suc n) (w ∷ ws) = rw (patched_none w, patched_all_none n ws) refl

-- after so many patches comes the next
next_patched : (ps : List Patch) (ws : List ℕ) (i : ℕ) → i < length ws → i < length ps
    → patched_at (patched_all (take i ps) ws) i (slice_index_or ps i no_patch) ≡ patched_all (take (suc i) ps) ws
next_patched [] ws i hw hp = absurd (omega (arith, hp))
next_patched (p ∷ ps) [] i hw hp = absurd (omega (arith, hw))
next_patched (p ∷ ps) (w ∷ ws) zero hw hp = refl
next_patched (p ∷ ps) (w ∷ ws) (suc i) hw hp = ap (λ (rest : List ℕ). patched p w ∷ rest) (next_patched ps ws i (omega (arith, hw)) (omega (arith, hp)))

pub patched_next : (ps : List Patch) (ws : List ℕ) (i : ℕ) → i < length ws → i < length ps
    → patched_at (patched_all (take i ps) ws) i (slice_index_or ps i no_patch) ≡ patched_all (take (i + 1) ps) ws
patched_next ps ws i hw hp =
    let more : suc i ≡ i + 1 = omega arith in
    next_patched ps ws i hw hp ∙ ap (λ n. patched_all (take n ps) ws) more

-- where the words or the patches are at their end, that is all
pub patched_enough : (ps : List Patch) (ws : List ℕ) (n : ℕ) → min (length ws) (length ps) ≤ n → patched_all (take n ps) ws ≡ patched_all ps ws
patched_enough [] ws zero h = refl
patched_enough [] ws (suc n) h = refl
patched_enough (p ∷ ps) [] zero h = refl
patched_enough (p ∷ ps) (w ∷ ws) zero h = absurd (omega (arith, h))
patched_enough (p ∷ ps) [] (suc n) h = refl
patched_enough (p ∷ ps) (w ∷ ws) (suc n) h = ap (λ (rest : List ℕ). patched p w ∷ rest) (patched_enough ps ws n (omega (arith, h)))

-- patched words, in one of which bits are turned over
flipped_patched : (ps : List Patch) (ws : List ℕ) (i mask : ℕ) → i < length ws → i < length ps
    → flipped_at (patched_all ps ws) i mask ≡ patched_all (slice_set ps i (patch_and_flip (slice_index_or ps i no_patch) mask)) ws
flipped_patched [] ws i mask hw hp = absurd (omega (arith, hp))
flipped_patched (p ∷ ps) [] i mask hw hp = absurd (omega (arith, hw))
flipped_patched (p ∷ ps) (w ∷ ws) zero mask hw hp = rw (patched_flip p w mask) refl
flipped_patched (p ∷ ps) (w ∷ ws) (suc i) mask hw hp =
    ap (λ (rest : List ℕ). patched p w ∷ rest) (flipped_patched ps ws i mask (omega (arith, hw)) (omega (arith, hp)))

-- patched words, in one of which bits are set
forced_patched : (ps : List Patch) (ws : List ℕ) (i mask value : ℕ) → i < length ws → i < length ps
    → forced_at (patched_all ps ws) i mask value ≡ patched_all (slice_set ps i (patch_and_force (slice_index_or ps i no_patch) mask value)) ws
forced_patched [] ws i mask value hw hp = absurd (omega (arith, hp))
forced_patched (p ∷ ps) [] i mask value hw hp = absurd (omega (arith, hw))
forced_patched (p ∷ ps) (w ∷ ws) zero mask value hw hp = rw (patched_force p w mask value) refl
forced_patched (p ∷ ps) (w ∷ ws) (suc i) mask value hw hp =
    ap (λ (rest : List ℕ). patched p w ∷ rest) (forced_patched ps ws i mask value (omega (arith, hw)) (omega (arith, hp)))

-- ---- all hurts

-- patched words after one hurt more
hurt_patched : (h : Harm) (ws : List ℕ) (hurt : Hurt) → length ws ≤ length h.patches → FitsLatches (length ws) hurt
    → hurt_by (patched_all h.patches ws) hurt ≡ patched_all (harm_and h hurt).patches ws
hurt_patched h ws Lag few fits = refl
hurt_patched h ws (Flip index mask) few fits = flipped_patched h.patches ws index mask fits (omega (arith, few, fits))
hurt_patched h ws (Force index mask value) few fits = forced_patched h.patches ws index mask value fits (omega (arith, few, fits))

-- a hurt makes no patch more
patches_stay : (h : Harm) (hurt : Hurt) → length (harm_and h hurt).patches ≡ length h.patches
patches_stay h Lag = refl
patches_stay h (Flip index mask) = length-set h.patches index _
patches_stay h (Force index mask value) = length-set h.patches index _

-- patched words after all hurts
hurts_patched : (h : Harm) (ws : List ℕ) (hurts : List Hurt) → length ws ≤ length h.patches → All (FitsLatches (length ws)) hurts
    → hurt_by_all (patched_all h.patches ws) hurts ≡ patched_all (harm_after h hurts).patches ws
hurts_patched h ws [] few fits = refl
hurts_patched h ws (hurt ∷ hurts) few fits =
    ap (λ (now : List ℕ). hurt_by_all now hurts) (hurt_patched h ws hurt few (fits 0 hurt (omega arith)))
    ∙ hurts_patched (harm_and h hurt) ws hurts (omega (arith, few, patches_stay h hurt)) (λ k d below. fits (suc k) d (omega (arith, below)))

-- a copy lags where one of the hurts is a lag
one_lags : (h : Harm) (hurt : Hurt) → (harm_and h hurt).lags ≡ (h.lags || is_lag hurt)
one_lags h Lag = by_cases h.lags where
  by_cases : (b : Bool) → true ≡ (b || true)
  by_cases true = refl
  by_cases false = refl
one_lags h (Flip index mask) = no_more h.lags where
  no_more : (b : Bool) → b ≡ (b || false)
  no_more true = refl
  no_more false = refl
one_lags h (Force index mask value) = no_more h.lags where
  no_more : (b : Bool) → b ≡ (b || false)
  no_more true = refl
  no_more false = refl

any_lags : (h : Harm) (hurts : List Hurt) → (harm_after h hurts).lags ≡ (h.lags || lags hurts)
any_lags h [] = no_more h.lags where
  no_more : (b : Bool) → b ≡ (b || false)
  no_more true = refl
  no_more false = refl
any_lags h (hurt ∷ hurts) = any_lags (harm_and h hurt) hurts ∙ ap (λ (b : Bool). b || lags hurts) (one_lags h hurt) ∙ assoc h.lags (is_lag hurt) (lags hurts) where
  assoc : (a b c : Bool) → ((a || b) || c) ≡ (a || (b || c))
  assoc true b c = refl
  assoc false b c = refl

-- so a copy latches the same
pub harmed_is : (hurts : List Hurt) (old next : List ℕ) → length old ≤ 5 → length next ≡ length old → All (FitsLatches (length old)) hurts
    → harmed old next (harm_of hurts) ≡ latched_by old next hurts
harmed_is hurts old next few same fits = rw (any_lags no_harm hurts) (by_lag (lags hurts)) where
  begun_with : (ws : List ℕ) → length ws ≡ length old → patched_all (harm_of hurts).patches ws ≡ hurt_by_all ws hurts
  begun_with ws long =
      sym (hurts_patched no_harm ws hurts (omega (arith, few, long)) (rw long fits)) ∙ ap (λ (now : List ℕ). hurt_by_all now hurts) (patched_all_none 5 ws)

  by_lag : (b : Bool) → patched_all (harm_of hurts).patches (if b then old else next) ≡ hurt_by_all (if b then old else next) hurts
  by_lag true = begun_with old refl
  by_lag false = begun_with next same

-- patches make no word more
pub patched_size : (ps : List Patch) (ws : List ℕ) → length (patched_all ps ws) ≡ length ws
patched_size [] ws = refl
patched_size (p ∷ ps) [] = refl
patched_size (p ∷ ps) (w ∷ ws) = ap suc (patched_size ps ws)

-- so what a copy latches is as long as what it had and what follows
pub harmed_size : (old next : List ℕ) (h : Harm) (n : ℕ) → length old ≡ n → length next ≡ n → length (harmed old next h) ≡ n
harmed_size old next h n lo ln = by h.lags where
  by : (b : Bool) → length (patched_all h.patches (if b then old else next)) ≡ n
  by true = patched_size h.patches old ∙ lo
  by false = patched_size h.patches next ∙ ln
