-- The blocks of a program share no slot.
use Rattle.std.proofs.Common.{◌≡◌, ℕ, ◌+◌, Bool, true, false, List, [], ◌∷◌, ◌++◌, length, Option, None, Some, Result, Ok, Err, refl, sym, ap, ◌∙◌, subst, arith, inl, inr}
use Rattle.std.specs.Prelude.{nat_lt, IfSome, if◌then◌else◌}
use Rattle.std.specs.Option.{option_map}
use Rattle.std.proofs.lemmas.Bool.{true≢false, or_cases, cases_Bool}
use Rattle.std.proofs.lemmas.List.{append_assoc, append-nil, length_push}
use Rattle.lvdc_place.specs.Slot.{Slot, is_slot, slot_at, number_of, sector_start}
use Rattle.lvdc_place.specs.Slots.{Slots, never_free, with_saver, with_slots, are_free, block_slots, least, least_place, is_free_at}
use Rattle.lvdc_place.specs.Placement.{Places, taken_after, taken_after_all, places_floating, places_with, places_with_all, after_fixed, places_of}
use Rattle.lvdc_place.specs.Apart.{is_in, are_distinct}
use Rattle.lvdc_place.specs.declared.block.Block.{Block}
use Rattle.lvdc_place.specs.declared.block.Kind.{Kind}
use Rattle.lvdc_place.specs.declared.block.Kind.TheVariants.{Code, Words}
use Rattle.lvdc_place.specs.declared.fault.PlaceFault.{PlaceFault}
use Rattle.lvdc_place.specs.declared.fault.PlaceFault.TheVariants.{NoRoom, Overlap}
use Rattle.lvdc_place.proofs.Least.{Finds, least-finds}
use Rattle.lvdc_place.proofs.Runs.{with_slots-keeps}
use Rattle.lvdc_place.proofs.Distinct.{is_in-append, in-left, in-right, distinct-append, distinct-between, in-taken, in-free, block-distinct}

-- ---- fixed blocks

-- the slots of a fixed block
abbrev of_fixed : Block → Option Slot → List Slot
of_fixed block None = []
of_fixed block (Some place) = block_slots block.site.kind block.size place

-- and those of all of them
abbrev pub fixed_slots : List Block → List Slot
fixed_slots [] = []
fixed_slots (block ∷ blocks) = of_fixed block block.site.at ++ fixed_slots blocks

-- slots that were free before, and are taken now, each once
pub record AreTakenAnew (before now : Slots) (slots : List Slot) : Type 0 where
  pub distinct : are_distinct slots ≡ true
  pub free : (slot : Slot) → is_in slot slots ≡ true → before slot ≡ false
  pub taken : (slot : Slot) → is_in slot slots ≡ true → now slot ≡ true
  pub keeps : (slot : Slot) → before slot ≡ true → now slot ≡ true

-- where the blocks aren't refused
abbrev pub FixedApart : Slots → Result Slots PlaceFault → List Slot → Type 0
FixedApart before (Ok now) slots = AreTakenAnew before now slots
FixedApart before (Err fault) slots = Unit {0}

-- a block more, before the others
anew_more : (before : Slots) (block later : List Slot) (found : Result Slots PlaceFault) → are_free before block ≡ true → are_distinct block ≡ true →
    FixedApart (with_slots before block) found later → FixedApart before found (block ++ later)
anew_more before block later (Err fault) free distinct h = tt
anew_more before block later (Ok now) free distinct h = record {
  distinct = distinct-append block later distinct h.distinct (record { none = λ slot a b. true≢false (sym (in-taken before block slot a) ∙ h.free slot b) });
  free = λ slot a. elim (or_cases (is_in slot block) (is_in slot later) (sym (is_in-append slot block later) ∙ a)) [
    | inl here ↦ in-free before block slot free here
    | inr there ↦ was_free slot (h.free slot there)
  ];
  taken = λ slot a. elim (or_cases (is_in slot block) (is_in slot later) (sym (is_in-append slot block later) ∙ a)) [
    | inl here ↦ h.keeps slot (in-taken before block slot here)
    | inr there ↦ h.taken slot there
  ];
  keeps = λ slot a. h.keeps slot (with_slots-keeps before block slot a);
}
  where
    was_free : (slot : Slot) → with_slots before block slot ≡ false → before slot ≡ false
    was_free slot h = elim (cases_Bool (before slot)) [
      | inl t ↦ absurd (true≢false (sym (with_slots-keeps before block slot t) ∙ h))
      | inr f ↦ f
    ]

fixed_apart : (before : Slots) (blocks : List Block) → FixedApart before (taken_after_all (Ok before) blocks) (fixed_slots blocks)
fixed_apart before [] = record { distinct = refl; free = λ slot a. absurd (true≢false (sym a)); taken = λ slot a. absurd (true≢false (sym a)); keeps = λ slot a. a }
fixed_apart before (block ∷ blocks) = by_site block.site.at (fixed_apart before blocks)
    (λ place. fixed_apart (with_slots before (block_slots block.site.kind block.size place)) blocks)
  where
    by_test : (place : Slot) (past free : Bool) → are_free before (block_slots block.site.kind block.size place) ≡ free →
        FixedApart (with_slots before (block_slots block.site.kind block.size place)) (taken_after_all (Ok (with_slots before (block_slots block.site.kind block.size place))) blocks) (fixed_slots blocks) →
        FixedApart before (taken_after_all (if past then Err (NoRoom block.line)
        else (if free then Ok (with_slots before (block_slots block.site.kind block.size place)) else Err (Overlap block.line))) blocks)
        (block_slots block.site.kind block.size place ++ fixed_slots blocks)
    by_test place true free is later = tt
    by_test place false false is later = tt
    by_test place false true is later =
        anew_more before (block_slots block.site.kind block.size place) (fixed_slots blocks) (taken_after_all (Ok (with_slots before (block_slots block.site.kind block.size place))) blocks)
        is (block-distinct block.site.kind block.size place) later

    by_site : (at : Option Slot) → FixedApart before (taken_after_all (Ok before) blocks) (fixed_slots blocks) →
        ((place : Slot) → FixedApart (with_slots before (block_slots block.site.kind block.size place)) (taken_after_all (Ok (with_slots before (block_slots block.site.kind block.size place))) blocks) (fixed_slots blocks)) →
        FixedApart before (taken_after_all (taken_after before block at) blocks) (of_fixed block at ++ fixed_slots blocks)
    by_site None here there = here
    by_site (Some place) here there =
        by_test place (nat_lt 256 (place.loc + block.size)) (are_free before (block_slots block.site.kind block.size place)) refl (there place)

-- ---- all blocks

-- the slots of blocks at their places
abbrev pub all_slots : List Block → List Slot → List Slot
all_slots [] places = []
all_slots (block ∷ blocks) [] = []
all_slots (block ∷ blocks) (place ∷ places) = block_slots block.site.kind block.size place ++ all_slots blocks places

all_slots-push : (blocks : List Block) (places : List Slot) (block : Block) (place : Slot) → length blocks ≡ length places →
    all_slots (blocks ++ block ∷ []) (places ++ place ∷ []) ≡ all_slots blocks places ++ block_slots block.site.kind block.size place
all_slots-push [] [] block place same = append-nil (block_slots block.site.kind block.size place)
all_slots-push [] (p ∷ ps) block place same = absurd (omega arith)
all_slots-push (b ∷ bs) [] block place same = absurd (omega arith)
all_slots-push (b ∷ bs) (p ∷ ps) block place same =
    ap (λ (later : List Slot). block_slots b.site.kind b.size p ++ later) (all_slots-push bs ps block place (omega arith))
    ∙ sym (append_assoc (block_slots b.site.kind b.size p) (all_slots bs ps) (block_slots block.site.kind block.size place))

-- slots of the memory that are taken, each once, as is what is no slot of it
pub record AreTakenOnce (taken : Slots) (slots : List Slot) : Type 0 where
  pub distinct : are_distinct slots ≡ true
  pub taken_all : (slot : Slot) → is_in slot slots ≡ true → taken slot ≡ true
  pub inside : (slot : Slot) → is_in slot slots ≡ true → is_slot slot ≡ true
  pub closed : (slot : Slot) → is_slot slot ≡ false → taken slot ≡ true

-- what is free is a slot of the memory
free_inside : (taken : Slots) → ((slot : Slot) → is_slot slot ≡ false → taken slot ≡ true) → (slot : Slot) → taken slot ≡ false → is_slot slot ≡ true
free_inside taken closed slot free = elim (cases_Bool (is_slot slot)) [
  | inl t ↦ t
  | inr f ↦ absurd (true≢false (sym (closed slot f) ∙ free))
]

closed_first : (slot : Slot) → is_slot slot ≡ false → never_free slot ≡ true
closed_first slot h = rw h refl

-- where the blocks aren't refused: each has a place
abbrev pub BlocksApart : List Block → Result Places PlaceFault → Type 0
BlocksApart blocks (Ok stands) = AreTakenOnce stands.taken (all_slots blocks stands.places) × (length blocks ≡ length stands.places)
BlocksApart blocks (Err fault) = Unit {0}

-- where a block finds a place it is free
pub place_free : (taken : Slots) (kind : Kind) (size : ℕ) (place : Slot) → least_place taken kind size ≡ Some place → are_free taken (block_slots kind size place) ≡ true
place_free taken Code size place is = by_found (least (is_free_at taken Code size) 0 32768) (least-finds (is_free_at taken Code size) 0 32768) is
  where
    by_found : (found : Option ℕ) → Finds (is_free_at taken Code size) 0 32768 found → option_map slot_at found ≡ Some place → are_free taken (block_slots Code size place) ≡ true
    by_found None finds is = absurd (cc)
    by_found (Some n) finds is = let same : slot_at n ≡ place = cc in subst (λ (slot : Slot). are_free taken (block_slots Code size slot) ≡ true) same finds.passes
place_free taken (Words home) size place is =
    by_found (least (is_free_at taken (Words home) size) (number_of (sector_start home.pair home.sector)) 256) (least-finds (is_free_at taken (Words home) size) (number_of (sector_start home.pair home.sector)) 256) is
  where
    by_found : (found : Option ℕ) → Finds (is_free_at taken (Words home) size) (number_of (sector_start home.pair home.sector)) (number_of (sector_start home.pair home.sector) + 256) found →
        option_map slot_at found ≡ Some place → are_free taken (block_slots (Words home) size place) ≡ true
    by_found None finds is = absurd (cc)
    by_found (Some n) finds is = let same : slot_at n ≡ place = cc in subst (λ (slot : Slot). are_free taken (block_slots (Words home) size slot) ≡ true) same finds.passes

pub words_free : (taken : Slots) (home : Slot) (size : ℕ) → IfSome (least_place taken (Words home) size) (λ (place : Slot). are_free taken (block_slots (Words home) size place) ≡ true)
words_free taken home size = by_found (least_place taken (Words home) size) refl
  where
    by_found : (found : Option Slot) → least_place taken (Words home) size ≡ found → IfSome found (λ (place : Slot). are_free taken (block_slots (Words home) size place) ≡ true)
    by_found None is = _
    by_found (Some place) is = place_free taken (Words home) size place is

stand_apart : (past blocks : List Block) (so_far : Places) → length past ≡ length so_far.places → AreTakenOnce so_far.taken (all_slots past so_far.places ++ fixed_slots blocks) →
    BlocksApart (past ++ blocks) (places_with_all (Ok so_far) blocks)
stand_apart past [] so_far same once =
    rw (append-nil past) (subst (λ (slots : List Slot). AreTakenOnce so_far.taken slots) (append-nil (all_slots past so_far.places)) once, same)
stand_apart past (block ∷ blocks) so_far same once = by_site block.site.at once (stand_apart (past ++ block ∷ []) blocks)
  where
    count : (place : Slot) → length (past ++ block ∷ []) ≡ length (so_far.places ++ place ∷ [])
    count place = length_push past block ∙ ap (λ n. n + 1) same ∙ sym (length_push so_far.places place)

    moved : (place : Slot) → all_slots (past ++ block ∷ []) (so_far.places ++ place ∷ []) ++ fixed_slots blocks
        ≡ (all_slots past so_far.places ++ block_slots block.site.kind block.size place) ++ fixed_slots blocks
    moved place = ap (λ (slots : List Slot). slots ++ fixed_slots blocks) (all_slots-push past so_far.places block place same)

    by_found : (found : Option Slot) → least_place so_far.taken block.site.kind block.size ≡ found → AreTakenOnce so_far.taken (all_slots past so_far.places ++ fixed_slots blocks) →
        ((next : Places) → length (past ++ block ∷ []) ≡ length next.places → AreTakenOnce next.taken (all_slots (past ++ block ∷ []) next.places ++ fixed_slots blocks) →
        BlocksApart ((past ++ block ∷ []) ++ blocks) (places_with_all (Ok next) blocks)) →
        BlocksApart ((past ++ block ∷ []) ++ blocks) (places_with_all (places_floating so_far block found) blocks)
    by_found None is once later = tt
    by_found (Some place) is once later =
        let P : List Slot = all_slots past so_far.places in
        let S : List Slot = block_slots block.site.kind block.size place in
        let F : List Slot = fixed_slots blocks in
        let free : are_free so_far.taken (block_slots block.site.kind block.size place) ≡ true = place_free so_far.taken block.site.kind block.size place is in
        later (record { places = so_far.places ++ place ∷ []; taken = with_slots so_far.taken (block_slots block.site.kind block.size place) }) (count place)
        (subst (λ (slots : List Slot). AreTakenOnce (with_slots so_far.taken (block_slots block.site.kind block.size place)) slots) (sym (moved place)) (record {
          distinct = distinct-between P S F once.distinct (block-distinct block.site.kind block.size place)
              (record { none = λ slot a b. true≢false (sym (once.taken_all slot b) ∙ in-free so_far.taken S slot free a) });
          taken_all = λ slot a. elim (or_cases (is_in slot (P ++ S)) (is_in slot F) (sym (is_in-append slot (P ++ S) F) ∙ a)) [
            | inl front ↦ elim (or_cases (is_in slot P) (is_in slot S) (sym (is_in-append slot P S) ∙ front)) [
              | inl old ↦ with_slots-keeps so_far.taken S slot (once.taken_all slot (in-left slot P F old))
              | inr new ↦ in-taken so_far.taken S slot new
            ]
            | inr fixed ↦ with_slots-keeps so_far.taken S slot (once.taken_all slot (in-right slot P F fixed))
          ];
          inside = λ slot a. elim (or_cases (is_in slot (P ++ S)) (is_in slot F) (sym (is_in-append slot (P ++ S) F) ∙ a)) [
            | inl front ↦ elim (or_cases (is_in slot P) (is_in slot S) (sym (is_in-append slot P S) ∙ front)) [
              | inl old ↦ once.inside slot (in-left slot P F old)
              | inr new ↦ free_inside so_far.taken once.closed slot (in-free so_far.taken S slot free new)
            ]
            | inr fixed ↦ once.inside slot (in-right slot P F fixed)
          ];
          closed = λ slot a. with_slots-keeps so_far.taken S slot (once.closed slot a);
        }))

    by_stand : (at : Option Slot) → AreTakenOnce so_far.taken (all_slots past so_far.places ++ (of_fixed block at ++ fixed_slots blocks)) →
        ((next : Places) → length (past ++ block ∷ []) ≡ length next.places → AreTakenOnce next.taken (all_slots (past ++ block ∷ []) next.places ++ fixed_slots blocks) →
        BlocksApart ((past ++ block ∷ []) ++ blocks) (places_with_all (Ok next) blocks)) →
        BlocksApart ((past ++ block ∷ []) ++ blocks) (places_with_all (places_with so_far block at) blocks)
    by_stand None once later = by_found (least_place so_far.taken block.site.kind block.size) refl once later
    by_stand (Some place) once later =
        later (record so_far { places = so_far.places ++ place ∷ [] }) (count place)
        (subst (λ (slots : List Slot). AreTakenOnce so_far.taken slots)
        (sym (append_assoc (all_slots past so_far.places) (block_slots block.site.kind block.size place) (fixed_slots blocks)) ∙ sym (moved place)) once)

    by_site : (at : Option Slot) → AreTakenOnce so_far.taken (all_slots past so_far.places ++ (of_fixed block at ++ fixed_slots blocks)) →
        ((next : Places) → length (past ++ block ∷ []) ≡ length next.places → AreTakenOnce next.taken (all_slots (past ++ block ∷ []) next.places ++ fixed_slots blocks) →
        BlocksApart ((past ++ block ∷ []) ++ blocks) (places_with_all (Ok next) blocks)) →
        BlocksApart (past ++ block ∷ blocks) (places_with_all (places_with so_far block at) blocks)
    by_site at once later =
        subst (λ (all : List Block). BlocksApart all (places_with_all (places_with so_far block at) blocks)) (append_assoc past (block ∷ []) blocks) (by_stand at once later)

-- the blocks of a program that is placed share no slot
pub places_apart : (blocks : List Block) → BlocksApart blocks (places_of blocks)
places_apart blocks = by_fixed (taken_after_all (Ok never_free) blocks) (fixed_apart never_free blocks)
  where
    by_fixed : (fixed : Result Slots PlaceFault) → FixedApart never_free fixed (fixed_slots blocks) → BlocksApart blocks (after_fixed blocks fixed)
    by_fixed (Err fault) h = tt
    by_fixed (Ok now) h = stand_apart [] blocks (record { places = []; taken = with_saver now }) refl
        (record {
          distinct = h.distinct;
          taken_all = λ slot a. rw (h.taken slot a) refl;
          inside = λ slot a. free_inside never_free closed_first slot (h.free slot a);
          closed = λ slot a. rw (h.keeps slot (closed_first slot a)) refl;
        })
