-- What is told of a part of the events on memory is what its events do.
use Rattle.std.proofs.Common.{◌≡◌, ◌≢◌, ℕ, zero, suc, ◌+◌, ◌<◌, ◌≤◌, ◌==◌, Bool, true, false, cond, not, ◌&&◌, ◌||◌, List, [], ◌∷◌, ◌++◌, length, take, All, Option, None, Some, refl, sym, ap, ◌∙◌, arith, get_or}
use Rattle.std.specs.List.{list_any}
use Rattle.std.specs.Prelude.{IfSome, IsSomeAnd}
use Rattle.std.proofs.lemmas.Bool.{eqb-true, ne_eqb, and_parts, false≢true}
use Rattle.std.proofs.lemmas.List.{take_more}
use Rattle.std.proofs.lemmas.List.Elements.{All-head, All-tail, All-weaker}
use Rattle.std.proofs.lemmas.Option.{slice_get-get_or, get_or_from_slice_get}
use Rattle.lvdc_map.specs.Address.{Spot, is_same}
use Rattle.lvdc_twin.specs.Store.{nothing}
use Rattle.lvdc_twin.specs.declared.stuck.Stuck.{Stuck}
use Rattle.lvdc_fault.specs.Damage.{stuck_beside, stuck_by, stuck_after, kills, is_dead}
use Rattle.lvdc_fault.specs.Script.{is_within, is_active}
use Rattle.lvdc_fault.specs.declared.event.Event.{Event}
use Rattle.lvdc_fault.specs.declared.event.Event.TheVariants.{Damage, Stick, Dead}
use Rattle.lvdc_memory.specs.News.{is_new, new_events}
use Rattle.lvdc_memory.specs.Order.{number_of_event, number_of_pair, number_of_place}
use Rattle.lvdc_memory.specs.Parts.{stuck_first, is_first_dead, IsRight, StaysUntil}
use Rattle.lvdc_memory.specs.declared.parts.Part.{Part}

-- ---- the same at two steps

module _ (s t : ℕ) where
  -- damage isn't done at the later one, and any other event is active at both or at none
  abbrev Same : Event → Type 0
  Same (Damage twin at damaged mask) = damaged ≢ t
  Same e = is_active t e ≡ is_active s e

  by_same : (twin : ℕ) (place : Spot) (e : Event) (bits : Stuck) → Same e → stuck_by t twin place e bits ≡ stuck_by s twin place e bits
  by_same twin place (Stick w at first last mask value) bits h =
      ap (λ (b : Bool). cond ((w == twin && is_same place at) && b) (stuck_beside bits mask value) bits) h
  by_same twin place _ bits h = refl

  after_same : (twin : ℕ) (place : Spot) (es : List Event) (bits : Stuck) → All Same es → stuck_after t twin place es bits ≡ stuck_after s twin place es bits
  after_same twin place [] bits h = refl
  after_same twin place (e ∷ es) bits h =
      ap (stuck_after t twin place es) (by_same twin place e bits (All-head Same e es h)) ∙ after_same twin place es (stuck_by s twin place e bits) (All-tail Same e es h)

  kills_same : (twin pair : ℕ) (e : Event) → Same e → kills t twin pair e ≡ kills s twin pair e
  kills_same twin pair (Dead w p first last) h = ap (λ (b : Bool). (w == twin && p == pair) && b) h
  kills_same twin pair _ h = refl

  dead_same : (twin pair : ℕ) (es : List Event) → All Same es → is_dead es t twin pair ≡ is_dead es s twin pair
  dead_same twin pair [] h = refl
  dead_same twin pair (e ∷ es) h = λ j. kills_same twin pair e (All-head Same e es h) j || dead_same twin pair es (All-tail Same e es h) j

  first_stuck_same : (es : List Event) → All Same es → stuck_first es t ≡ stuck_first es s
  first_stuck_same [] h = refl
  first_stuck_same (Stick twin at first last mask value ∷ es) h = after_same twin at (Stick twin at first last mask value ∷ es) nothing h
  first_stuck_same (_ ∷ es) h = refl

  first_dead_same : (es : List Event) → All Same es → is_first_dead es t ≡ is_first_dead es s
  first_dead_same [] h = refl
  first_dead_same (Dead twin pair first last ∷ es) h = dead_same twin pair (Dead twin pair first last ∷ es) h
  first_dead_same (_ ∷ es) h = refl

  -- no event that stays as it is changes what is in force
  unchanged : (was now : Bool) → now ≡ was → cond was (not now) now ≡ false
  unchanged true now h = ap not h
  unchanged false now h = h

  not_new : (e : Event) → Same e → is_new (Some s) t e ≡ false
  not_new (Damage twin at damaged mask) h = ne_eqb damaged t h
  not_new e h = unchanged (is_active s e) (is_active t e) h

  pub none_new : (es : List Event) → All Same es → new_events (Some s) t es ≡ []
  none_new [] h = refl
  none_new (e ∷ es) h =
      ap (λ (b : Bool). cond b (e ∷ new_events (Some s) t es) (new_events (Some s) t es)) (not_new e (All-head Same e es h))
      ∙ none_new es (All-tail Same e es h)

-- what changes nothing up to a step changes nothing up to an earlier one
pub stays_less : (step until sooner : ℕ) (e : Event) → sooner ≤ until → StaysUntil step until e → StaysUntil step sooner e
stays_less step until sooner (Damage twin at damaged mask) less stays = λ t up down. stays t up (omega (arith, less, down))
stays_less step until sooner e less stays = λ t up down. stays t up (omega (arith, less, down))

-- nor from a later one on
stays_later : (s t until : ℕ) (e : Event) → s < t → t < until → StaysUntil s until e → StaysUntil t until e
stays_later s t until (Damage twin at damaged mask) low high stays = λ u up down. stays u (omega (arith, low, up)) down
stays_later s t until e low high stays = λ u up down. stays u (omega (arith, low, up)) down ∙ sym (stays t (omega (arith, low)) high)

-- what changes nothing up to a step is the same at each step before it
same_at : (s t until : ℕ) (e : Event) → s < t → t < until → StaysUntil s until e → Same s t e
same_at s t until (Damage twin at damaged mask) low high stays = stays t low high
same_at s t until e low high stays = stays t (omega (arith, low)) high

same_then : (s t until : ℕ) (es : List Event) → s < t → t < until → All (StaysUntil s until) es → All (Same s t) es
same_then s t until es low high = All-weaker (StaysUntil s until) (Same s t) (λ e stays. same_at s t until e low high stays) es

-- what is told of a part is right while its events change nothing
pub right_later : (es : List Event) (s t : ℕ) (p : Part) → IsRight es s p → s < t → t < p.until → IsRight es t p
right_later es s t p h low high = record {
  stays = All-weaker (StaysUntil s p.until) (StaysUntil t p.until) (λ e stays. stays_later s t p.until e low high stays) es h.stays;
  stuck = h.stuck ∙ sym (first_stuck_same s t es (same_then s t p.until es low high h.stays));
  dead = h.dead ∙ sym (first_dead_same s t es (same_then s t p.until es low high h.stays));
}

-- and none of them changes what is in force
pub none_new_later : (es : List Event) (s t : ℕ) (p : Part) → IsRight es s p → s < t → t < p.until → new_events (Some s) t es ≡ []
none_new_later es s t p h low high = none_new s t es (same_then s t p.until es low high h.stays)

-- the same, where there may be no last step
pub right_still : (es : List Event) (last : Option ℕ) (step : ℕ) (p : Part) → IsSomeAnd last (λ at. at < step) → step < p.until
    → IfSome last (λ at. IsRight es at p) → IsRight es step p
right_still es None step p later high h = absurd later
right_still es (Some at) step p later high h = right_later es at step p h later high

pub none_new_still : (es : List Event) (last : Option ℕ) (step : ℕ) (p : Part) → IsSomeAnd last (λ at. at < step) → step < p.until
    → IfSome last (λ at. IsRight es at p) → new_events last step es ≡ []
none_new_still es None step p later high h = absurd later
none_new_still es (Some at) step p later high h = none_new_later es at step p h later high

-- ---- numbers

-- places that are the same are equal
pub same_spot : (a b : Spot) → is_same a b ≡ true → a ≡ b
same_spot a b h =
    let outer = and_parts (a.pair == b.pair && a.sector == b.sector) (a.loc == b.loc) h in
    let inner = and_parts (a.pair == b.pair) (a.sector == b.sector) outer.0 in
    λ j. record { pair = eqb-true a.pair b.pair inner.0 j; sector = eqb-true a.sector b.sector inner.1 j; loc = eqb-true a.loc b.loc outer.1 j }

-- an event of another number sticks no bits here
stick_elsewhere : {X : Type 0} (w twin : ℕ) (at place : Spot) (within : Bool) (x y : X) → number_of_place w at ≢ number_of_place twin place
    → cond ((w == twin && is_same place at) && within) x y ≡ y
stick_elsewhere w twin at place within x y other = by (w == twin && is_same place at) refl where
  by : (b : Bool) → (w == twin && is_same place at) ≡ b → cond ((w == twin && is_same place at) && within) x y ≡ y
  by true e =
      let both = and_parts (w == twin) (is_same place at) e in
      absurd (other (λ j. number_of_place (eqb-true w twin both.0 j) (sym (same_spot place at both.1) j)))
  by false e = ap (λ (b : Bool). cond (b && within) x y) e

-- an event of another number than a place of a twin
abbrev pub IsElsewhere : ℕ → Spot → Event → Type 0
IsElsewhere twin place e = number_of_event e ≢ number_of_place twin place

sticks_none : (step twin : ℕ) (place : Spot) (e : Event) (s : Stuck) → IsElsewhere twin place e → stuck_by step twin place e s ≡ s
sticks_none step twin place (Stick w at first last mask value) s other =
    stick_elsewhere w twin at place (is_within first last step) (stuck_beside s mask value) s other
sticks_none step twin place _ s other = refl

pub none_stuck : (step twin : ℕ) (place : Spot) (es : List Event) (s : Stuck) → All (IsElsewhere twin place) es → stuck_after step twin place es s ≡ s
none_stuck step twin place [] s h = refl
none_stuck step twin place (e ∷ es) s h =
    ap (stuck_after step twin place es) (sticks_none step twin place e s (All-head (IsElsewhere twin place) e es h))
    ∙ none_stuck step twin place es s (All-tail (IsElsewhere twin place) e es h)

-- an event of another number than a twin of a pair
abbrev pub IsOther : ℕ → ℕ → Event → Type 0
IsOther twin pair e = number_of_event e ≢ number_of_pair twin pair

-- kills no twin here
dead_elsewhere : (w p twin pair : ℕ) (within : Bool) → number_of_pair w p ≢ number_of_pair twin pair → ((w == twin && p == pair) && within) ≡ false
dead_elsewhere w p twin pair within other = by (w == twin && p == pair) refl where
  by : (b : Bool) → (w == twin && p == pair) ≡ b → ((w == twin && p == pair) && within) ≡ false
  by true e =
      let both = and_parts (w == twin) (p == pair) e in
      absurd (other (λ j. number_of_pair (eqb-true w twin both.0 j) (eqb-true p pair both.1 j)))
  by false e = ap (λ (b : Bool). b && within) e

kills_none : (step twin pair : ℕ) (e : Event) → IsOther twin pair e → kills step twin pair e ≡ false
kills_none step twin pair (Dead w p first last) other = dead_elsewhere w p twin pair (is_within first last step) other
kills_none step twin pair _ other = refl

pub none_dead : (step twin pair : ℕ) (es : List Event) → All (IsOther twin pair) es → is_dead es step twin pair ≡ false
none_dead step twin pair [] h = refl
none_dead step twin pair (e ∷ es) h =
    λ j. kills_none step twin pair e (All-head (IsOther twin pair) e es h) j || none_dead step twin pair es (All-tail (IsOther twin pair) e es h) j

-- ---- lists

-- what holds of all items, and of one more that is added
pub push_next : {X : Type 0} (P : ℕ → X → Type 0) (xs : List X) (x d : X) → ((k : ℕ) → k < length xs → P k (get_or xs k d)) → P (length xs) x
    → (k : ℕ) → k < length xs + 1 → P k (get_or (xs ++ x ∷ []) k d)
push_next P [] x d before here zero below = here
push_next P [] x d before here (suc k) below = absurd (omega (arith, below))
push_next P (y ∷ ys) x d before here zero below = before 0 (omega arith)
push_next P (y ∷ ys) x d before here (suc k) below =
    push_next (λ n. P (suc n)) ys x d (λ n h. before (suc n) (omega (arith, h))) here k (omega (arith, below))

-- the items up to one more
pub take_next : {X : Type 0} (xs : List X) (i : ℕ) (x : X) → i < length xs → x ≡ get_or xs i x → take (i + 1) xs ≡ take i xs ++ x ∷ []
take_next xs i x within is = take_more xs i x within ∙ ap (λ y. take i xs ++ y ∷ []) (sym is)

-- where one of the first items passes, one of all does
pub any_take : {X : Type 0} (p : X → Bool) (n : ℕ) (xs : List X) → list_any p (take n xs) ≡ true → list_any p xs ≡ true
any_take p zero xs h = absurd (false≢true h)
any_take p (suc n) [] h = h
any_take p (suc n) (x ∷ xs) h = by (p x) (any_take p n xs) h where
  by : (b : Bool) → (list_any p (take n xs) ≡ true → list_any p xs ≡ true) → (b || list_any p (take n xs)) ≡ true → (b || list_any p xs) ≡ true
  by true rest e = refl
  by false rest e = rest e

-- an item by its index, as it is read
pub item_at : {X : Type 0} (xs : List X) (i : ℕ) (x d : X) → i < length xs → x ≡ get_or xs i x → get_or xs i d ≡ x
item_at xs i x d within is = get_or_from_slice_get xs i (get_or xs i x) d (slice_get-get_or xs i x within) ∙ sym is
