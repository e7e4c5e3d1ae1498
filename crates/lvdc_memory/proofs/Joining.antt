-- What two lists of events stick at a place, one after the other, is what both stick.
use Rattle.std.proofs.Common.{◌≡◌, ℕ, zero, suc, ◌+◌, ◌*◌, ◌<◌, Bool, true, false, cond, ◌&&◌, ◌||◌, max, List, [], ◌∷◌, ◌++◌, take, refl, sym, ◌∙◌, ap, bit_or, arith}
use Rattle.std.specs.Prelude.{if◌then◌else◌, ◌==◌}
use Rattle.std.specs.Int.{bit_at}
use Rattle.std.proofs.Math.Bool.{or-true}
use Rattle.std.proofs.Math.Seq.{take-add}
use Rattle.std.proofs.lemmas.List.Folds.{list_any-append}
use Rattle.std.proofs.lemmas.Nat.Bits.{bit_at-lt, bit_at-zero, bit_at_or, same_from_bits}
use Rattle.lvdc_word.specs.Cell.{with_stuck}
use Rattle.lvdc_word.proofs.Bits.{stuck_bits}
use Rattle.lvdc_map.specs.Address.{Spot, is_same}
use Rattle.lvdc_twin.specs.Store.{nothing}
use Rattle.lvdc_twin.specs.declared.stuck.Stuck.{Stuck}
use Rattle.lvdc_fault.specs.Damage.{stuck_beside, stuck_by, stuck_after, kills, is_dead}
use Rattle.lvdc_fault.specs.Script.{is_within}
use Rattle.lvdc_fault.specs.declared.event.Event.{Event}
use Rattle.lvdc_fault.specs.declared.event.Event.TheVariants.{Stick}
use Rattle.lvdc_memory.specs.Parts.{events_of}
use Rattle.lvdc_memory.proofs.PartLaws.{any_take}

-- ---- bits stuck beside others

-- each bit under the mask is the value's, and any other one stays
bit_at-stuck : (w mask value i : ℕ) → bit_at (with_stuck w mask value) i ≡ if bit_at mask i == 1 then bit_at value i else bit_at w i
unfolding with_stuck
bit_at-stuck w mask value i = stuck_bits w mask value i

-- a bit that is stuck later
or_later : (a b q k v : ℕ) → q < 2 → k < 2 → (if max q k == 1 then (if k == 1 then v else b) else a) ≡ (if k == 1 then v else (if q == 1 then b else a))
or_later a b zero zero v hq hk = refl
or_later a b zero (suc zero) v hq hk = refl
or_later a b (suc zero) zero v hq hk = refl
or_later a b (suc zero) (suc zero) v hq hk = refl
or_later a b (suc (suc q)) k v hq hk = absurd (omega (arith, hq))
or_later a b zero (suc (suc k)) v hq hk = absurd (omega (arith, hk))
or_later a b (suc zero) (suc (suc k)) v hq hk = absurd (omega (arith, hk))

max_assoc : (a b c : ℕ) → max a (max b c) ≡ max (max a b) c
max_assoc a b c = omega arith

-- what is stuck beside what was stuck before
abbrev pub stuck_join : Stuck → Stuck → Stuck
stuck_join a b = stuck_beside a b.mask b.value

join_beside : (a b : Stuck) (mask value : ℕ) → stuck_join a (stuck_beside b mask value) ≡ stuck_beside (stuck_join a b) mask value
join_beside a b mask value = λ j. record { mask = same_from_bits _ _ masks j; value = same_from_bits _ _ values j } where
  masks : (i : ℕ) → bit_at (bit_or a.mask (bit_or b.mask mask)) i ≡ bit_at (bit_or (bit_or a.mask b.mask) mask) i
  masks i =
      rw (bit_at_or a.mask (bit_or b.mask mask) i, bit_at_or b.mask mask i, bit_at_or (bit_or a.mask b.mask) mask i, bit_at_or a.mask b.mask i)
      (max_assoc (bit_at a.mask i) (bit_at b.mask i) (bit_at mask i))

  values : (i : ℕ) → bit_at (with_stuck a.value (bit_or b.mask mask) (with_stuck b.value mask value)) i
      ≡ bit_at (with_stuck (with_stuck a.value b.mask b.value) mask value) i
  values i =
      rw (
        bit_at-stuck a.value (bit_or b.mask mask) (with_stuck b.value mask value) i,
        bit_at_or b.mask mask i,
        bit_at-stuck b.value mask value i,
        bit_at-stuck (with_stuck a.value b.mask b.value) mask value i,
        bit_at-stuck a.value b.mask b.value i,
      ) (or_later (bit_at a.value i) (bit_at b.value i) (bit_at b.mask i) (bit_at mask i) (bit_at value i) (bit_at-lt b.mask i) (bit_at-lt mask i))

none_more : (a : ℕ) → max a 0 ≡ a
none_more a = omega arith

join_nothing : (a : Stuck) → stuck_join a nothing ≡ a
join_nothing a = λ j. record { mask = same_from_bits _ _ masks j; value = same_from_bits _ _ values j } where
  masks : (i : ℕ) → bit_at (bit_or a.mask 0) i ≡ bit_at a.mask i
  masks i = rw (bit_at_or a.mask 0 i, bit_at-zero i) (none_more (bit_at a.mask i))

  values : (i : ℕ) → bit_at (with_stuck a.value 0 0) i ≡ bit_at a.value i
  values i = rw (bit_at-stuck a.value 0 0 i, bit_at-zero i) refl

-- ---- events after others

-- the events of the first parts, and those of one more
pub parts_append : (events : List Event) (k : ℕ) → take (256 * k) events ++ events_of events k ≡ take (256 * (k + 1)) events
parts_append events k =
    let more : 256 * k + 256 ≡ 256 * (k + 1) = omega arith in
    sym (take-add (256 * k) 256 events) ∙ ap (λ (n : ℕ). take n events) more

join_where : (c : Bool) (a b : Stuck) (mask value : ℕ)
    → stuck_join a (cond c (stuck_beside b mask value) b) ≡ cond c (stuck_beside (stuck_join a b) mask value) (stuck_join a b)
join_where true a b mask value = join_beside a b mask value
join_where false a b mask value = refl

module _ (step twin : ℕ) (place : Spot) where
  join_by : (e : Event) (a b : Stuck) → stuck_join a (stuck_by step twin place e b) ≡ stuck_by step twin place e (stuck_join a b)
  join_by (Stick w at first last mask value) a b = join_where (w == twin && is_same place at && is_within first last step) a b mask value
  join_by _ a b = refl

  join_after : (es : List Event) (a b : Stuck) → stuck_join a (stuck_after step twin place es b) ≡ stuck_after step twin place es (stuck_join a b)
  join_after [] a b = refl
  join_after (e ∷ es) a b = join_after es a (stuck_by step twin place e b) ∙ ap (stuck_after step twin place es) (join_by e a b)

  -- what events stick beside what was stuck before is what they add to it
  pub joined : (es : List Event) (a : Stuck) → stuck_join a (stuck_after step twin place es nothing) ≡ stuck_after step twin place es a
  joined es a = join_after es a nothing ∙ ap (stuck_after step twin place es) (join_nothing a)

  after_append : (xs ys : List Event) (s : Stuck) → stuck_after step twin place (xs ++ ys) s ≡ stuck_after step twin place ys (stuck_after step twin place xs s)
  after_append [] ys s = refl
  after_append (x ∷ xs) ys s = after_append xs ys (stuck_by step twin place x s)

  -- one event more
  pub after_push : (es : List Event) (e : Event) (s : Stuck) → stuck_after step twin place (es ++ e ∷ []) s ≡ stuck_by step twin place e (stuck_after step twin place es s)
  after_push es e s = after_append es (e ∷ []) s

  -- what one part more sticks
  pub stuck_next : (events : List Event) (k : ℕ)
      → stuck_join (stuck_after step twin place (take (256 * k) events) nothing) (stuck_after step twin place (events_of events k) nothing)
      ≡ stuck_after step twin place (take (256 * (k + 1)) events) nothing
  stuck_next events k =
      joined (events_of events k) (stuck_after step twin place (take (256 * k) events) nothing)
      ∙ sym (after_append (take (256 * k) events) (events_of events k) nothing)
      ∙ ap (λ (es : List Event). stuck_after step twin place es nothing) (parts_append events k)

-- what one part more kills
pub dead_next : (step twin pair : ℕ) (events : List Event) (k : ℕ)
    → is_dead (take (256 * (k + 1)) events) step twin pair ≡ (is_dead (take (256 * k) events) step twin pair || is_dead (events_of events k) step twin pair)
dead_next step twin pair events k =
    ap (λ (es : List Event). is_dead es step twin pair) (sym (parts_append events k))
    ∙ list_any-append (kills step twin pair) (take (256 * k) events) (events_of events k)

-- and a part that kills
pub part_kills : (step twin pair : ℕ) (events : List Event) (k : ℕ) → is_dead (events_of events k) step twin pair ≡ true → is_dead events step twin pair ≡ true
part_kills step twin pair events k h =
    any_take (kills step twin pair) (256 * (k + 1)) events
    (dead_next step twin pair events k ∙ ap (λ (b : Bool). is_dead (take (256 * k) events) step twin pair || b) h ∙ or-true (is_dead (take (256 * k) events) step twin pair))
