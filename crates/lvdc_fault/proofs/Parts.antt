-- A public lemma file: a list of events in parts of 256.
use Rattle.std.proofs.Common.{◌≡◌, ℕ, ◌+◌, ◌-◌, Bool, true, false, List, length, take, drop, min, refl, sym, ap, ◌∙◌, arith, ltb, length-drop}
use Rattle.std.proofs.lemmas.Bool.{ltb-true, ltb-false}
use Rattle.std.proofs.lemmas.List.{take_all}
use Rattle.lvdc_fault.specs.declared.event.Event.{Event}

-- the events from a position up to another, 256 of them or as many as are left
pub part_events : (events : List Event) (from to left : ℕ) → left ≡ length events - from → to ≡ from + min left 256
    → take (to - from) (drop from events) ≡ take 256 (drop from events)
part_events events from to left is ends = by (ltb left 256) refl where
  long : length (drop from events) ≡ left
  long = length-drop from events ∙ sym is

  by : (b : Bool) → ltb left 256 ≡ b → take (to - from) (drop from events) ≡ take 256 (drop from events)
  by true less =
      let few = ltb-true left 256 less in
      take_all (to - from) (drop from events) (omega (arith, few, ends, long)) ∙ sym (take_all 256 (drop from events) (omega (arith, few, long)))
  by false more =
      let many = ltb-false left 256 more in
      let n : to - from ≡ 256 = omega (arith, many, ends) in
      ap (λ (n : ℕ). take n (drop from events)) n
