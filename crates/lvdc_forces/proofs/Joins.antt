-- What two parts of a script do, one after the other, is what the whole does.
use Rattle.std.proofs.Common.{◌≡◌, ℕ, zero, suc, ◌+◌, ◌-◌, ◌<◌, ◌≤◌, Bool, true, false, ◌||◌, ◌==◌, if◌then◌else◌, List, [], ◌∷◌, ◌++◌, length, replicate, refl, sym, ◌∙◌, ap, arith, append-nil, append_assoc, length-set, take, drop, get_or, Some, length-drop, get_or-drop}
use Rattle.std.specs.Prelude.{slice_get, slice_index_or, slice_set}
use Rattle.std.specs.Int.{bit_at}
use Rattle.std.proofs.Math.Bool.{or-false}
use Rattle.std.proofs.lemmas.List.Folds.{list_any-append}
use Rattle.std.proofs.lemmas.Nat.Bits.{bit_at-lt, bit_at-zero, same_from_bits}
use Rattle.std.proofs.lemmas.List.{take_more}
use Rattle.std.proofs.lemmas.Option.{slice_get_within, get_or_from_slice_get}
use Rattle.lvdc_vote.specs.Bits.{flipped, forced}
use Rattle.lvdc_vote.specs.Harms.{no_patch, no_harm, patch_and_flip, patch_and_force, harm_and, harm_after, harm_of}
use Rattle.lvdc_vote.specs.declared.harm.Harm.{Harm}
use Rattle.lvdc_vote.specs.declared.harm.Patch.{Patch}
use Rattle.lvdc_vote.specs.declared.hurt.Hurt.{Hurt}
use Rattle.lvdc_vote.specs.declared.hurt.Hurt.TheVariants.{Lag, Flip, Force}
use Rattle.lvdc_vote.proofs.BitLaws.{bit_at-flipped, bit_at-forced}
use Rattle.lvdc_fault.specs.Script.{makes_wrong, is_wrong, deafens, is_deaf}
use Rattle.lvdc_fault.specs.declared.event.Event.{Event}
use Rattle.lvdc_fault.specs.declared.event.Event.TheVariants as ev
use Rattle.lvdc_fault.specs.Hurts.{hurts_by, hurts_on}
use Rattle.lvdc_forces.specs.Shares.{harm_in, share_with, share_on, share_next, patch_join, patches_join, share_join}
use Rattle.lvdc_forces.specs.declared.shares.Share.{Share}

-- hurts one list after another
harm_append : (h : Harm) (xs ys : List Hurt) → harm_after h (xs ++ ys) ≡ harm_after (harm_after h xs) ys
harm_append h [] ys = refl
harm_append h (x ∷ xs) ys = harm_append (harm_and h x) xs ys

-- ---- one patch after another

-- a bit that is turned over once more
flip_later : (a b k q : ℕ) → a < 2 → b < 2
    → (if q == 1 then (if k == 1 then 1 - b else b) else (if (if k == 1 then 1 - b else b) == 1 then 1 - a else a))
    ≡ (if k == 1 then 1 - (if q == 1 then b else (if b == 1 then 1 - a else a)) else (if q == 1 then b else (if b == 1 then 1 - a else a)))
flip_later a b k q ha hb = by_cases (k == 1) (q == 1) a b ha hb where
  by_cases : (x y : Bool) (a b : ℕ) → a < 2 → b < 2
      → (if y then (if x then 1 - b else b) else (if (if x then 1 - b else b) == 1 then 1 - a else a))
      ≡ (if x then 1 - (if y then b else (if b == 1 then 1 - a else a)) else (if y then b else (if b == 1 then 1 - a else a)))
  by_cases false y a b ha hb = refl
  by_cases true true a b ha hb = refl
  by_cases true false zero zero ha hb = refl
  by_cases true false zero (suc zero) ha hb = refl
  by_cases true false (suc zero) zero ha hb = refl
  by_cases true false (suc zero) (suc zero) ha hb = refl
  by_cases true false (suc (suc a)) b ha hb = absurd (omega (arith, ha))
  by_cases true false zero (suc (suc b)) ha hb = absurd (omega (arith, hb))
  by_cases true false (suc zero) (suc (suc b)) ha hb = absurd (omega (arith, hb))

-- a patch, and one that turns bits over later
join_flip : (mask : ℕ) (p q : Patch) → patch_join p (patch_and_flip q mask) ≡ patch_and_flip (patch_join p q) mask
join_flip mask p q = ap (λ (v : ℕ). record { mask = forced p.mask q.mask q.mask; value = v }) (same_from_bits _ _ each) where
  each : (i : ℕ) → bit_at (forced (flipped p.value (flipped q.value mask)) q.mask (flipped q.value mask)) i
      ≡ bit_at (flipped (forced (flipped p.value q.value) q.mask q.value) mask) i
  each i =
      rw (
        bit_at-forced (flipped p.value (flipped q.value mask)) q.mask (flipped q.value mask) i,
        bit_at-flipped p.value (flipped q.value mask) i,
        bit_at-flipped q.value mask i,
        bit_at-flipped (forced (flipped p.value q.value) q.mask q.value) mask i,
        bit_at-forced (flipped p.value q.value) q.mask q.value i,
        bit_at-flipped p.value q.value i,
      ) (flip_later (bit_at p.value i) (bit_at q.value i) (bit_at mask i) (bit_at q.mask i) (bit_at-lt p.value i) (bit_at-lt q.value i))

-- a bit that is set later
set_later : (m q k : ℕ) → (if (if k == 1 then k else q) == 1 then (if k == 1 then k else q) else m) ≡ (if k == 1 then k else (if q == 1 then q else m))
set_later m q k = by_cases (k == 1) refl where
  by_cases : (b : Bool) → (k == 1) ≡ b → (if (if b then k else q) == 1 then (if b then k else q) else m) ≡ (if b then k else (if q == 1 then q else m))
  by_cases true h = rw h refl
  by_cases false h = refl

value_later : (a b q k v : ℕ)
    → (if (if k == 1 then k else q) == 1 then (if k == 1 then v else b) else (if (if k == 1 then v else b) == 1 then 1 - a else a))
    ≡ (if k == 1 then v else (if q == 1 then b else (if b == 1 then 1 - a else a)))
value_later a b q k v = by_cases (k == 1) refl where
  by_cases : (x : Bool) → (k == 1) ≡ x
      → (if (if x then k else q) == 1 then (if x then v else b) else (if (if x then v else b) == 1 then 1 - a else a))
      ≡ (if x then v else (if q == 1 then b else (if b == 1 then 1 - a else a)))
  by_cases true h = rw h refl
  by_cases false h = refl

-- a patch, and one that sets bits later
join_force : (mask value : ℕ) (p q : Patch) → patch_join p (patch_and_force q mask value) ≡ patch_and_force (patch_join p q) mask value
join_force mask value p q = λ j. record { mask = same_from_bits _ _ masks j; value = same_from_bits _ _ values j } where
  masks : (i : ℕ) → bit_at (forced p.mask (forced q.mask mask mask) (forced q.mask mask mask)) i ≡ bit_at (forced (forced p.mask q.mask q.mask) mask mask) i
  masks i =
      rw (
        bit_at-forced p.mask (forced q.mask mask mask) (forced q.mask mask mask) i,
        bit_at-forced q.mask mask mask i,
        bit_at-forced (forced p.mask q.mask q.mask) mask mask i,
        bit_at-forced p.mask q.mask q.mask i,
      ) (set_later (bit_at p.mask i) (bit_at q.mask i) (bit_at mask i))

  values : (i : ℕ) → bit_at (forced (flipped p.value (forced q.value mask value)) (forced q.mask mask mask) (forced q.value mask value)) i
      ≡ bit_at (forced (forced (flipped p.value q.value) q.mask q.value) mask value) i
  values i =
      rw (
        bit_at-forced (flipped p.value (forced q.value mask value)) (forced q.mask mask mask) (forced q.value mask value) i,
        bit_at-flipped p.value (forced q.value mask value) i,
        bit_at-forced q.value mask value i,
        bit_at-forced q.mask mask mask i,
        bit_at-forced (forced (flipped p.value q.value) q.mask q.value) mask value i,
        bit_at-forced (flipped p.value q.value) q.mask q.value i,
        bit_at-flipped p.value q.value i,
      ) (value_later (bit_at p.value i) (bit_at q.value i) (bit_at q.mask i) (bit_at mask i) (bit_at value i))

-- a patch, and none after it
join_none : (p : Patch) → patch_join p no_patch ≡ p
join_none p = λ j. record { mask = same_from_bits _ _ masks j; value = same_from_bits _ _ values j } where
  masks : (i : ℕ) → bit_at (forced p.mask 0 0) i ≡ bit_at p.mask i
  masks i = rw (bit_at-forced p.mask 0 0 i, bit_at-zero i) refl

  values : (i : ℕ) → bit_at (forced (flipped p.value 0) 0 0) i ≡ bit_at p.value i
  values i = rw (bit_at-forced (flipped p.value 0) 0 0 i, bit_at-flipped p.value 0 i, bit_at-zero i) refl

-- ---- all patches

pub joined_none : (ps : List Patch) (n : ℕ) → patches_join ps (replicate n no_patch) ≡ ps
joined_none [] n = refl
joined_none (p ∷ ps) zero = refl
joined_none (p ∷ ps) (suc n) = λ j. join_none p j ∷ joined_none ps n j

-- one of the later ones is changed
join_set : (f : Patch → Patch) → ((p q : Patch) → patch_join p (f q) ≡ f (patch_join p q)) → (ps qs : List Patch) (i : ℕ) → length ps ≡ length qs
    → patches_join ps (slice_set qs i (f (slice_index_or qs i no_patch))) ≡ slice_set (patches_join ps qs) i (f (slice_index_or (patches_join ps qs) i no_patch))
join_set f same [] [] i h = refl
join_set f same [] (q ∷ qs) i h = absurd (omega (arith, h))
join_set f same (p ∷ ps) [] i h = absurd (omega (arith, h))
join_set f same (p ∷ ps) (q ∷ qs) zero h = ap (λ (now : Patch). now ∷ patches_join ps qs) (same p q)
join_set f same (p ∷ ps) (q ∷ qs) (suc i) h = ap (λ (rest : List Patch). patch_join p q ∷ rest) (join_set f same ps qs i (omega (arith, h)))

-- ---- all hurts

abbrev harm_join : Harm → Harm → Harm
harm_join a b = record { lags = a.lags || b.lags; patches = patches_join a.patches b.patches }

all_the_more : (b : Bool) → (b || true) ≡ true
all_the_more true = refl
all_the_more false = refl

assoc : (a b c : Bool) → ((a || b) || c) ≡ (a || (b || c))
assoc true b c = refl
assoc false b c = refl

-- one hurt more comes after all
join_hurt : (a b : Harm) (hurt : Hurt) → length a.patches ≡ length b.patches → harm_join a (harm_and b hurt) ≡ harm_and (harm_join a b) hurt
join_hurt a b Lag h = ap (λ (l : Bool). record { lags = l; patches = patches_join a.patches b.patches }) (all_the_more a.lags)
join_hurt a b (Flip index mask) h =
    ap (λ (ps : List Patch). record { lags = a.lags || b.lags; patches = ps }) (join_set (λ (q : Patch). patch_and_flip q mask) (join_flip mask) a.patches b.patches index h)
join_hurt a b (Force index mask value) h =
    ap (λ (ps : List Patch). record { lags = a.lags || b.lags; patches = ps })
    (join_set (λ (q : Patch). patch_and_force q mask value) (join_force mask value) a.patches b.patches index h)

-- a hurt makes no patch more
pub patches_stay : (h : Harm) (hurt : Hurt) → length (harm_and h hurt).patches ≡ length h.patches
patches_stay h Lag = refl
patches_stay h (Flip index mask) = length-set h.patches index _
patches_stay h (Force index mask value) = length-set h.patches index _

pub patches_stay_all : (h : Harm) (hurts : List Hurt) → length (harm_after h hurts).patches ≡ length h.patches
patches_stay_all h [] = refl
patches_stay_all h (hurt ∷ hurts) = patches_stay_all (harm_and h hurt) hurts ∙ patches_stay h hurt

join_hurts : (a b : Harm) (hurts : List Hurt) → length a.patches ≡ length b.patches → harm_join a (harm_after b hurts) ≡ harm_after (harm_join a b) hurts
join_hurts a b [] h = refl
join_hurts a b (hurt ∷ hurts) h =
    join_hurts a (harm_and b hurt) hurts (h ∙ sym (patches_stay b hurt)) ∙ ap (λ (now : Harm). harm_after now hurts) (join_hurt a b hurt h)

join_no_harm : (a : Harm) → harm_join a no_harm ≡ a
join_no_harm a = λ j. record { lags = or-false a.lags j; patches = joined_none a.patches 5 j }

-- what two lists of hurts come to
pub join_harms : (xs ys : List Hurt) → harm_join (harm_of xs) (harm_of ys) ≡ harm_of (xs ++ ys)
join_harms xs ys =
    join_hurts (harm_of xs) no_harm ys (patches_stay_all no_harm xs)
    ∙ ap (λ (now : Harm). harm_after now ys) (join_no_harm (harm_of xs)) ∙ sym (harm_append no_harm xs ys)

-- ---- all events

pub hurts_append : (step m c : ℕ) (xs ys : List Event) → hurts_on step m c (xs ++ ys) ≡ hurts_on step m c xs ++ hurts_on step m c ys
hurts_append step m c [] ys = refl
hurts_append step m c (x ∷ xs) ys =
    ap (λ (rest : List Hurt). hurts_by step m c x ++ rest) (hurts_append step m c xs ys) ∙ sym (append_assoc (hurts_by step m c x) (hurts_on step m c xs) (hurts_on step m c ys))

-- what two parts do is what the whole does
pub join_shares : (xs ys : List Event) (step m c : ℕ) → share_join (share_on xs step m c) (share_on ys step m c) ≡ share_on (xs ++ ys) step m c
join_shares xs ys step m c = λ j. share_with (named j) (deaf j) (harm j) where
  named : (is_wrong xs step m c || is_wrong ys step m c) ≡ is_wrong (xs ++ ys) step m c
  named = sym (list_any-append (makes_wrong step m c) xs ys)

  deaf : (is_deaf xs step m c || is_deaf ys step m c) ≡ is_deaf (xs ++ ys) step m c
  deaf = sym (list_any-append (deafens step m c) xs ys)

  harm : harm_join (harm_of (hurts_on step m c xs)) (harm_of (hurts_on step m c ys)) ≡ harm_of (hurts_on step m c (xs ++ ys))
  harm = join_harms (hurts_on step m c xs) (hurts_on step m c ys) ∙ ap harm_of (sym (hurts_append step m c xs ys))

-- and one event more
pub share_push : (es : List Event) (e : Event) (step m c : ℕ) → share_on (es ++ e ∷ []) step m c ≡ share_next step m c (share_on es step m c) e
share_push es e step m c = λ j. share_with (named j) (deaf j) (harm j) where
  named : is_wrong (es ++ e ∷ []) step m c ≡ (is_wrong es step m c || makes_wrong step m c e)
  named = list_any-append (makes_wrong step m c) es (e ∷ []) ∙ ap (λ (b : Bool). is_wrong es step m c || b) (or-false (makes_wrong step m c e))

  deaf : is_deaf (es ++ e ∷ []) step m c ≡ (is_deaf es step m c || deafens step m c e)
  deaf = list_any-append (deafens step m c) es (e ∷ []) ∙ ap (λ (b : Bool). is_deaf es step m c || b) (or-false (deafens step m c e))

  harm : harm_of (hurts_on step m c (es ++ e ∷ [])) ≡ harm_after (harm_of (hurts_on step m c es)) (hurts_by step m c e)
  harm =
      ap harm_of (hurts_append step m c es (e ∷ []) ∙ ap (λ (rest : List Hurt). hurts_on step m c es ++ rest) (append-nil (hurts_by step m c e)))
      ∙ harm_append no_harm (hurts_on step m c es) (hurts_by step m c e)

-- ---- one event more, as the code goes

-- an event that doesn't act on the copy
pub idle : (step m c : ℕ) (e : Event) → makes_wrong step m c e ≡ false → (deafens step m c e ≡ false) × (hurts_by step m c e ≡ [])
idle step m c (ev.Flip number copy first last index mask) h = (refl, rw h refl)
idle step m c (ev.Force number copy first last index mask value) h = (refl, rw h refl)
idle step m c (ev.Lag number copy first last) h = (refl, rw h refl)
idle step m c (ev.Deaf number copy first last) h = (h, refl)
idle step m c _ h = (refl, refl)

pub idle_next : (step m c : ℕ) (s : Share) (e : Event) → makes_wrong step m c e ≡ false → share_next step m c s e ≡ s
idle_next step m c s e h =
    let does = idle step m c e h in
    λ j.
    share_with ((ap (λ (b : Bool). s.named || b) h ∙ or-false s.named) j) ((ap (λ (b : Bool). s.deaf || b) does.0 ∙ or-false s.deaf) j)
    (harm_after (harm_in s) (does.1 j))

-- the events from a position on, and one more
pub share_more : (script : List Event) (from position step m c : ℕ) (e : Event) → from ≤ position → slice_get script position ≡ Some e
    → share_on (take (position + 1 - from) (drop from script)) step m c ≡ share_next step m c (share_on (take (position - from) (drop from script)) step m c) e
share_more script from position step m c e low here =
    let within = slice_get_within script position e here in
    let k : ℕ = position - from in
    let more : position + 1 - from ≡ k + 1 = omega (arith, low) in
    let at : from + k ≡ position = omega (arith, low) in
    let is : get_or (drop from script) k e ≡ e = get_or-drop from script k e ∙ ap (λ (n : ℕ). get_or script n e) at ∙ get_or_from_slice_get script position e e here in
    ap (λ (n : ℕ). share_on (take n (drop from script)) step m c) more
    ∙ ap (λ (es : List Event). share_on es step m c)
    (take_more (drop from script) k e (omega (arith, length-drop from script, within, low)) ∙ ap (λ (x : Event). take k (drop from script) ++ x ∷ []) is)
    ∙ share_push (take k (drop from script)) e step m c

-- ---- five patches

pub five : (ps : List Patch) (a b c d e : Patch) → length ps ≡ 5 → get_or ps 0 a ∷ get_or ps 1 b ∷ get_or ps 2 c ∷ get_or ps 3 d ∷ get_or ps 4 e ∷ [] ≡ ps
five [] a b c d e h = absurd (omega (arith, h))
five (p ∷ []) a b c d e h = absurd (omega (arith, h))
five (p ∷ q ∷ []) a b c d e h = absurd (omega (arith, h))
five (p ∷ q ∷ r ∷ []) a b c d e h = absurd (omega (arith, h))
five (p ∷ q ∷ r ∷ s ∷ []) a b c d e h = absurd (omega (arith, h))
five (p ∷ q ∷ r ∷ s ∷ t ∷ []) a b c d e h = refl
five (p ∷ q ∷ r ∷ s ∷ t ∷ u ∷ ps) a b c d e h = absurd (omega (arith, h))

-- the first patches of a list, and none of the others
abbrev pub filled : List Patch → ℕ → List Patch
filled [] i = []
filled (p ∷ ps) zero = no_patch ∷ filled ps zero
filled (p ∷ ps) (suc i) = p ∷ filled ps i

pub filled_none : (ps : List Patch) → replicate (length ps) no_patch ≡ filled ps 0
filled_none [] = refl
filled_none (p ∷ ps) = ap (λ (rest : List Patch). no_patch ∷ rest) (filled_none ps)

pub filled_all : (ps : List Patch) (i : ℕ) → length ps ≤ i → filled ps i ≡ ps
filled_all [] i h = refl
filled_all (p ∷ ps) zero h = absurd (omega (arith, h))
filled_all (p ∷ ps) (suc i) h = ap (λ (rest : List Patch). p ∷ rest) (filled_all ps i (omega (arith, h)))

own_bit : (m : ℕ) → m < 2 → (if m == 1 then m else 0) ≡ m
own_bit zero h = refl
own_bit (suc zero) h = refl
own_bit (suc (suc m)) h = absurd (omega (arith, h))

own_value : (m v : ℕ) → v < 2 → (if m == 1 then v else (if v == 1 then 1 - 0 else 0)) ≡ v
own_value m v h = by_cases (m == 1) v h where
  by_cases : (b : Bool) (v : ℕ) → v < 2 → (if b then v else (if v == 1 then 1 - 0 else 0)) ≡ v
  by_cases true v h = refl
  by_cases false zero h = refl
  by_cases false (suc zero) h = refl
  by_cases false (suc (suc v)) h = absurd (omega (arith, h))

-- a patch after none
none_join : (p : Patch) → patch_join no_patch p ≡ p
none_join p = λ j. record { mask = same_from_bits _ _ masks j; value = same_from_bits _ _ values j } where
  masks : (i : ℕ) → bit_at (forced 0 p.mask p.mask) i ≡ bit_at p.mask i
  masks i = rw (bit_at-forced 0 p.mask p.mask i, bit_at-zero i) (own_bit (bit_at p.mask i) (bit_at-lt p.mask i))

  values : (i : ℕ) → bit_at (forced (flipped 0 p.value) p.mask p.value) i ≡ bit_at p.value i
  values i =
      rw (bit_at-forced (flipped 0 p.value) p.mask p.value i, bit_at-flipped 0 p.value i, bit_at-zero i)
      (own_value (bit_at p.mask i) (bit_at p.value i) (bit_at-lt p.value i))

-- where bits are turned over and set as a patch says
abbrev pub flip_there : List Patch → ℕ → Patch → List Patch
flip_there qs i p = slice_set qs i (patch_and_flip (slice_index_or qs i no_patch) p.value)

abbrev pub force_there : List Patch → ℕ → Patch → List Patch
force_there qs i p = slice_set qs i (patch_and_force (slice_index_or qs i no_patch) p.mask p.value)

filled_suc : (ps : List Patch) (i : ℕ) (r : Patch) → i < length ps → force_there (flip_there (filled ps i) i (get_or ps i r)) i (get_or ps i r) ≡ filled ps (suc i)
filled_suc [] i r h = absurd (omega (arith, h))
filled_suc (q ∷ ps) zero r h = λ j. none_join q j ∷ filled ps zero
filled_suc (q ∷ ps) (suc i) r h = ap (λ (rest : List Patch). q ∷ rest) (filled_suc ps i r (omega (arith, h)))

pub filled_next : (ps : List Patch) (i : ℕ) (r : Patch) → i < length ps → force_there (flip_there (filled ps i) i (get_or ps i r)) i (get_or ps i r) ≡ filled ps (i + 1)
filled_next ps i r h =
    let more : suc i ≡ i + 1 = omega arith in
    filled_suc ps i r h ∙ ap (filled ps) more
