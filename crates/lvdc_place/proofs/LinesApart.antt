-- The lines of a program share no slot: together they take those of its blocks.
use Rattle.std.proofs.Common.{◌≡◌, ℕ, zero, suc, ◌+◌, List, [], ◌∷◌, ◌++◌, length, Option, Ok, refl, sym, ap, ◌∙◌, subst, arith}
use Rattle.std.proofs.lemmas.List.{append_assoc}
use Rattle.lvdc_source.specs.Items.{AreItems, IsBody, IsProgram, block_after}
use Rattle.lvdc_source.specs.declared.block.Block.{Block as Stands}
use Rattle.lvdc_source.specs.declared.block.Block.TheVariants as stands
use Rattle.lvdc_source.specs.declared.item.Body.{Body}
use Rattle.lvdc_source.specs.declared.item.Body.TheVariants as says
use Rattle.lvdc_source.specs.declared.item.Item.{Item}
use Rattle.lvdc_place.specs.Slot.{Slot, slot_after, with_syllable, sector_start}
use Rattle.lvdc_place.specs.Slots.{Slots, block_slots, slots_at}
use Rattle.lvdc_place.specs.Blocks.{size_ahead, blocks_of}
use Rattle.lvdc_place.specs.Placement.{spots_from, places_of}
use Rattle.lvdc_place.specs.Apart.{is_in, are_distinct, program_slots, StandApart}
use Rattle.lvdc_place.specs.declared.spot.Spot.{Spot}
use Rattle.lvdc_place.specs.declared.block.Kind.{Kind}
use Rattle.lvdc_place.specs.declared.block.Kind.TheVariants.{Code, Words}
use Rattle.lvdc_place.proofs.Runs.{slot_after-zero, slot_after-slot_after}
use Rattle.lvdc_place.proofs.BlocksApart.{all_slots, BlocksApart, places_apart}
use Rattle.lvdc_place.proofs.Programs.{nothing_first}

-- ---- the slots of words, whatever the sector in which they would float and the syllable of the first slot

words-any : (home other : Slot) (size : ℕ) (first : Slot) (syl : ℕ) → block_slots (Words home) size (with_syllable first syl) ≡ block_slots (Words other) size first
words-any home other zero first syl = refl
words-any home other (suc size) first syl =
    ap (λ (later : List Slot). with_syllable first 0 ∷ with_syllable first 1 ∷ later) (words-any home other size (slot_after first 1) syl)

-- a block in two parts
block-add : (kind : Kind) (a b : ℕ) (first : Slot) → block_slots kind (a + b) first ≡ block_slots kind a first ++ block_slots kind b (slot_after first a)
block-add kind zero b first =
    let none : zero + b ≡ b = omega arith in
    ap (λ n. block_slots kind n first) none ∙ ap (block_slots kind b) (sym (slot_after-zero first))
block-add kind (suc a) b first =
    let more : suc a + b ≡ suc (a + b) = omega arith in
    ap (λ n. block_slots kind n first) more
    ∙ ap (λ (later : List Slot). slots_at kind first ++ later) (block-add kind a b (slot_after first 1))
    ∙ ap (λ (slot : Slot). slots_at kind first ++ (block_slots kind a (slot_after first 1) ++ block_slots kind b slot)) (slot_after-slot_after first 1 a (suc a) (omega arith))
    ∙ sym (append_assoc (slots_at kind first) (block_slots kind a (slot_after first 1)) (block_slots kind b (slot_after first (suc a))))

-- ---- lines

-- the kind of the slots of a line in this block
kind_in : Stands → Kind
kind_in stands.Nowhere = Code
kind_in stands.Code = Code
kind_in stands.Words = Words (sector_start 0 0)

-- a line takes the first slots of those that are left
take_line : (kind : Kind) (count rest : ℕ) (slot : Slot) (head later after : List Slot) → head ≡ block_slots kind count slot → later ≡ block_slots kind rest (slot_after slot count) ++ after →
    head ++ later ≡ block_slots kind (count + rest) slot ++ after
take_line kind count rest slot head later after is comes =
    ap (λ (x : List Slot). x ++ later) is
    ∙ ap (λ (y : List Slot). block_slots kind count slot ++ y) comes
    ∙ sym (append_assoc (block_slots kind count slot) (block_slots kind rest (slot_after slot count)) after)
    ∙ ap (λ (z : List Slot). z ++ after) (sym (block-add kind count rest slot))

-- what is shown of the lines after one
abbrev Later : List Item → Type 0
Later items = (block : Stands) (slot : Slot) (places : List Slot) → AreItems block items → length (blocks_of items) ≡ length places →
    program_slots items (spots_from slot places items) ≡ block_slots (kind_in block) (size_ahead items) slot ++ all_slots (blocks_of items) places

words_take : (block : Stands) (count : ℕ) (slot : Slot) → block ≡ stands.Words → block_slots (Words (with_syllable slot 0)) count (with_syllable slot 0) ≡ block_slots (kind_in block) count slot
unfolding kind_in
words_take block count slot is =
    words-any (with_syllable slot 0) (sector_start 0 0) count slot 0 ∙ ap (λ (b : Stands). block_slots (kind_in b) count slot) (sym is)

line_takes : (block : Stands) (item : Item) (body : Body) (items : List Item) (slot : Slot) (places : List Slot) → IsBody block item.label body → AreItems (block_after block body) items →
    length (blocks_of (record item { body = body } ∷ items)) ≡ length places → Later items →
    program_slots (record item { body = body } ∷ items) (spots_from slot places (record item { body = body } ∷ items))
    ≡ block_slots (kind_in block) (size_ahead (record item { body = body } ∷ items)) slot ++ all_slots (blocks_of (record item { body = body } ∷ items)) places
unfolding kind_in
line_takes block item says.Code items slot [] h are same later = absurd (omega arith)
line_takes block item says.Code items slot (p ∷ ps) h are same later = later stands.Code p ps are (omega arith)
line_takes block item (says.Org at syl) items slot [] h are same later = absurd (omega arith)
line_takes block item (says.Org at syl) items slot (p ∷ ps) h are same later = later stands.Code p ps are (omega arith)
line_takes block item (says.Words pair sector loc) items slot [] h are same later = absurd (omega arith)
line_takes block item (says.Words pair sector loc) items slot (p ∷ ps) h are same later =
    later stands.Words p ps are (omega arith)
    ∙ ap (λ (own : List Slot). own ++ all_slots (blocks_of items) ps) (words-any (sector_start 0 0) (sector_start pair sector) (size_ahead items) p p.syl)
line_takes block item (says.Sector pair sector) items slot places h are same later =
    take_line (kind_in block) 0 (size_ahead items) slot [] (program_slots items (spots_from (slot_after slot 0) places items)) (all_slots (blocks_of items) places) refl (later block (slot_after slot 0) places are same)
line_takes block item (says.Room count) items slot places h are same later =
    take_line (kind_in block) count (size_ahead items) slot (block_slots (Words (with_syllable slot 0)) count (with_syllable slot 0))
    (program_slots items (spots_from (slot_after slot count) places items)) (all_slots (blocks_of items) places)
    (words_take block count slot h.0) (later block (slot_after slot count) places are same)
line_takes block item (says.Constant constant) items slot places h are same later =
    take_line (kind_in block) 1 (size_ahead items) slot (block_slots (Words (with_syllable slot 0)) 1 (with_syllable slot 0))
    (program_slots items (spots_from (slot_after slot 1) places items)) (all_slots (blocks_of items) places)
    (words_take block 1 slot h) (later block (slot_after slot 1) places are same)
line_takes block item (says.Instruction op operand) items slot places h are same later =
    take_line (kind_in block) 1 (size_ahead items) slot (slot ∷ [])
    (program_slots items (spots_from (slot_after slot 1) places items)) (all_slots (blocks_of items) places)
    (ap (λ (b : Stands). block_slots (kind_in b) 1 slot) (sym h.0)) (later block (slot_after slot 1) places are same)

-- the lines of a block take its slots, one after another, and then come those of the later blocks
lines_take : (block : Stands) (items : List Item) (slot : Slot) (places : List Slot) → AreItems block items → length (blocks_of items) ≡ length places →
    program_slots items (spots_from slot places items) ≡ block_slots (kind_in block) (size_ahead items) slot ++ all_slots (blocks_of items) places
unfolding AreItems
lines_take block [] slot places are same = refl
lines_take block (item ∷ items) slot places are same =
    line_takes block item item.body items slot places are.0 are.1 same (λ b s ps a f. lines_take b items s ps a f)

-- no two lines share a slot, and each slot of a line is taken
pub lines_apart : (items : List Item) (places : List Slot) (spots : List (Option Spot)) (taken : Slots) → IsProgram items →
    places_of (blocks_of items) ≡ Ok (record { places = places; taken = taken }) → spots ≡ spots_from (sector_start 0 0) places items → StandApart items spots taken
unfolding kind_in
lines_apart items places spots taken program stand are =
    let apart : BlocksApart (blocks_of items) (Ok (record { places = places; taken = taken })) = subst (BlocksApart (blocks_of items)) stand (places_apart (blocks_of items)) in
    let once = apart.0 in
    let same : program_slots items spots ≡ all_slots (blocks_of items) places =
    ap (program_slots items) are
    ∙ lines_take stands.Nowhere items (sector_start 0 0) places program apart.1
    ∙ ap (λ n. block_slots Code n (sector_start 0 0) ++ all_slots (blocks_of items) places) (nothing_first items program) in
    record {
      distinct = ap are_distinct same ∙ once.distinct;
      taken_all = λ slot h. once.taken_all slot (ap (is_in slot) (sym same) ∙ h);
      inside = λ slot h. once.inside slot (ap (is_in slot) (sym same) ∙ h);
      closed = once.closed;
    }
