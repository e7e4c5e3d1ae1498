-- The 21 copies of a saved state, said one after the other.
use Rattle.std.proofs.Common.{◌≡◌, ℕ, zero, suc, ◌+◌, ◌-◌, ◌<◌, ◌≤◌, true, ◌==◌, List, [], ◌∷◌, ◌++◌, take, drop, length, get_or, refl, sym, ap, subst, ◌∙◌, arith}
use Rattle.std.specs.Prelude.{nat_lt, nat_le, slice_index}
use Rattle.std.specs.List.{range_with_len}
use Rattle.std.proofs.Math.Seq.{take-add}
use Rattle.std.proofs.lemmas.Bool.{lt-ltb, le-leb, eq-eqb}
use Rattle.std.proofs.lemmas.List.{get_or_at, length-take, length-drop, length_push, take_more}
use Rattle.std.proofs.lemmas.List.FromFn.{get_or-range_with_len, length-range_with_len}
use Rattle.lvdc_vote.specs.Numbers.{latches_of}
use Rattle.lvdc_port.specs.Device.{Device}
use Rattle.lvdc_snapshot.specs.declared.snapshot.Snapshot.{Snapshot}
use Rattle.lvdc_snapshot.specs.Snapshot.{IsWhole}
use Rattle.lvdc_save.specs.declared.entry.Entry.TheVariants as says
use Rattle.lvdc_save.specs.declared.saved.Saved.{Saved}
use Rattle.lvdc_save.specs.declared.section.Section.TheVariants as section
use Rattle.lvdc_save.specs.Saved.{module_at, copy_at, latches_before, copy_state}
use Rattle.lvdc_save.specs.Reading.{Progress, is_at_rest, is_next_copy, adds}
use Rattle.lvdc_save_read.specs.Accepted.{GoesWith}
use Rattle.lvdc_save_read.proofs.Splits.{fewer}
use Rattle.lvdc_save_read.proofs.Following.{both_are, MayFollow}
use Rattle.lvdc_save_read.proofs.Resting.{first_rest}
use Rattle.lvdc_save_read.proofs.Sections.{so_far, Said}

-- ---- the index of a copy

-- an item of a list of indices is how many stand before it
index_of : (done rest : List ℕ) (x n : ℕ) → done ++ x ∷ rest ≡ range_with_len 0 n → (x ≡ length done) × (length done < n)
index_of done rest x n e =
    let few = fewer done rest x (range_with_len 0 n) e in
    let within : length done < n = omega (arith, few, length-range_with_len 0 n) in
    let at : get_or (range_with_len 0 n) (length done) 0 ≡ x =
    ap (λ (xs : List ℕ). get_or xs (length done) 0) (sym e) ∙ get_or_at done x rest 0 (length done) refl in
    let is = get_or-range_with_len 0 n (length done) 0 within in
    (omega (arith, at, is), within)

-- ---- the latches of the first copies

before_rises : (n more : ℕ) → latches_before n ≤ latches_before (more + n)
before_rises n zero = let e : zero + n ≡ n = omega arith in subst (λ m. latches_before n ≤ latches_before m) (sym e) (omega arith)
before_rises n (suc more) =
    let e : suc more + n ≡ suc (more + n) = omega arith in
    let less = before_rises n more in
    subst (λ m. latches_before n ≤ latches_before m) (sym e) (omega (arith, less))

-- the latches of a copy are among all 45
copy_within : (n : ℕ) → n < 21 → latches_before n + latches_of (module_at n) ≤ 45
copy_within n within =
    let all : 20 - n + suc n ≡ 21 = omega (arith, within) in
    subst (λ m. latches_before (suc n) ≤ latches_before m) all (before_rises (suc n) (20 - n))

copy_sized : (latches : List ℕ) (from n : ℕ) → from + n ≤ length latches → length (take n (drop from latches)) ≡ n
copy_sized latches from n within = omega (arith, length-take n (drop from latches), length-drop from latches)

-- the copy whose turn it is
copy_agrees : (r : Progress) (s : Snapshot) (n : ℕ) → IsWhole s → n < 21 → r.steps ≡ s.steps → r.latches ≡ take (latches_before n) s.latches
    → r.differed ≡ take n s.differed → is_at_rest s.latches ≡ true → is_next_copy r (copy_state s n) ≡ true
copy_agrees r s n whole within steps latches differed rest =
    let c = copy_state s n in
    let length_is : length r.differed ≡ n = ap length differed ∙ omega (arith, length-take n s.differed, whole.counts) in
    let turn : nat_lt (length r.differed) 21 ≡ true = lt-ltb (length r.differed) 21 (omega (arith, length_is, within)) in
    let number : (module_at n == module_at (length r.differed)) ≡ true =
    eq-eqb (module_at n) (module_at (length r.differed)) (ap module_at (sym length_is)) in
    let copy : (copy_at n == copy_at (length r.differed)) ≡ true =
    eq-eqb (copy_at n) (copy_at (length r.differed)) (ap copy_at (sym length_is)) in
    let sized : (length c.latches == latches_of (module_at n)) ≡ true =
    eq-eqb (length c.latches) (latches_of (module_at n))
    (copy_sized s.latches (latches_before n) (latches_of (module_at n)) (omega (arith, copy_within n within, whole.latches))) in
    let low : nat_le c.count r.steps ≡ true =
    le-leb c.count r.steps (omega (arith, steps, whole.most n 0 (omega (arith, within, whole.counts)))) in
    let all : r.latches ++ c.latches ≡ take (latches_before (suc n)) s.latches =
    ap (λ (before : List ℕ). before ++ c.latches) latches ∙ sym (take-add (latches_before n) (latches_of (module_at n)) s.latches) in
    let rests : is_at_rest (r.latches ++ c.latches) ≡ true = ap is_at_rest all ∙ first_rest s.latches (latches_before (suc n)) rest in
    both_are (_) (_) (both_are (_) (_) (both_are (_) (_) (both_are (_) (_) (both_are (_) (_) turn number) copy) sized) low) rests

-- the votes of a whole snapshot
whole_rests : (s : Snapshot) → IsWhole s → is_at_rest s.latches ≡ true
whole_rests s whole = both_are (_) (_) (eq-eqb _ 0 whole.phase) (eq-eqb _ 0 whole.stop)

-- ---- said one after the other

-- the first copies
abbrev pub first_copies : Saved → ℕ → Saved
first_copies s n = so_far s (take (latches_before n) s.snapshot.latches) (take n s.snapshot.differed) [] [] [] [] [] [] [] [] []

first_more : (s : Saved) (n : ℕ) → n < 21 → length s.snapshot.differed ≡ 21
    → so_far s (take (latches_before n) s.snapshot.latches ++ (copy_state s.snapshot n).latches)
    (take n s.snapshot.differed ++ (copy_state s.snapshot n).count ∷ []) [] [] [] [] [] [] [] [] [] ≡ first_copies s (suc n)
first_more s n within counts =
    let latches : take (latches_before n) s.snapshot.latches ++ (copy_state s.snapshot n).latches
    ≡ take (latches_before (suc n)) s.snapshot.latches =
    sym (take-add (latches_before n) (latches_of (module_at n)) s.snapshot.latches) in
    let count = slice_index s.snapshot.differed n in
    let next : n + 1 ≡ suc n = omega arith in
    let differed : take n s.snapshot.differed ++ count ∷ [] ≡ take (suc n) s.snapshot.differed =
    sym (subst (λ m. take m s.snapshot.differed ≡ take n s.snapshot.differed ++ count ∷ []) next
    (take_more s.snapshot.differed n 0 (omega (arith, within, counts)))) in
    ap (λ (ls : List ℕ). so_far s ls (take n s.snapshot.differed ++ count ∷ []) [] [] [] [] [] [] [] [] []) latches
    ∙ ap (λ (ds : List ℕ). so_far s (take (latches_before (suc n)) s.snapshot.latches) ds [] [] [] [] [] [] [] [] []) differed

-- what was said with the copy of an index
abbrev and_copy : Saved → Progress → ℕ → Progress
and_copy s r n = adds 0 r (says.Copy (copy_state s.snapshot n))

copy_kept : (s : Saved) (r : Progress) (n : ℕ) → n < 21 → length s.snapshot.differed ≡ 21 → Said (first_copies s n) r
    → Said (first_copies s (suc n)) (and_copy s r n)
copy_kept s r n within counts said = record {
  is =
      ap (λ (t : Saved). record t {
        snapshot = record t.snapshot {
          latches = t.snapshot.latches ++ (copy_state s.snapshot n).latches;
          differed = t.snapshot.differed ++ (copy_state s.snapshot n).count ∷ [];
        };
      }) said.is ∙ first_more s n within counts;
  marked = said.marked;
}

pub copies_follow : (devices : List Device) (s : Saved) → GoesWith devices s
    → MayFollow devices (λ index. says.Copy (copy_state s.snapshot index)) section.Copies 3 (λ indices. Said (first_copies s (length indices)))
    (range_with_len 0 21)
copies_follow devices s g = record {
  place = λ x. refl;
  from = omega arith;
  to = refl;
  rise = λ i j d less within. omega arith;
  agree = λ done rest x r e k.
      let index = index_of done rest x 21 e in
      subst (λ n. is_next_copy r (copy_state s.snapshot n) ≡ true) (sym index.0)
      (copy_agrees r s.snapshot (length done) g.whole index.1 (ap (λ (t : Saved). t.snapshot.steps) k.is)
      (ap (λ (t : Saved). t.snapshot.latches) k.is) (ap (λ (t : Saved). t.snapshot.differed) k.is) (whole_rests s.snapshot g.whole));
  there = λ done rest x number r e k. refl;
  keep = λ done rest x number r e k.
      let index = index_of done rest x 21 e in
      let one : suc (length done) ≡ length (done ++ x ∷ []) = omega (arith, length_push done x) in
      let kept = copy_kept s r (length done) index.1 g.whole.counts k in
      let same = subst (λ n. Said (first_copies s (suc (length done))) (and_copy s r n)) (sym index.0) kept in
      let more = subst (λ n. Said (first_copies s n) (and_copy s r x)) one same in
      record { is = more.is; marked = more.marked };
}
