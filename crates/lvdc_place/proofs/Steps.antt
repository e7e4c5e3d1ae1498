-- Lines whose blocks are found and that get their places one by one.
use Rattle.std.proofs.Common.{◌≡◌, ℕ, ◌+◌, ◌<◌, ◌≤◌, min, true, false, List, [], ◌∷◌, ◌++◌, length, get_or, drop, map, refl, sym, ap, ◌∙◌, append_assoc, arith}
use Rattle.std.specs.Prelude.{slice_index_or, is_some, Option, Some, None}
use Rattle.std.specs.List.{cons_option}
use Rattle.std.specs.Option.{option_map}
use Rattle.std.proofs.lemmas.List.{append-nil, drop_all}
use Rattle.lvdc_source.specs.declared.item.Body.{Body}
use Rattle.lvdc_source.specs.declared.item.Body.TheVariants as says
use Rattle.lvdc_source.specs.declared.item.Item.{Item}
use Rattle.lvdc_place.specs.Slot.{Slot, slot_after}
use Rattle.lvdc_place.specs.Blocks.{site_of, begins_block, size_of, size_ahead, blocks_of}
use Rattle.lvdc_place.specs.Fitting.{IsInRange, AllFit, capped_block}
use Rattle.lvdc_place.specs.Placement.{takes_place, spot_in, next_slot, later_places, spots_from}
use Rattle.lvdc_place.specs.declared.block.Block.{Block}
use Rattle.lvdc_place.specs.declared.block.Site.{Site}
use Rattle.lvdc_place.specs.declared.spot.Spot.{Spot}
use Rattle.lvdc_place.proofs.Sizes.{drop-at}

-- ---- blocks

-- a line that begins none
pub blocks-none : (out : List Block) (items : List Item) (i : ℕ) (item : Item) (all : List Block) → i < length items → item ≡ get_or items i item
    → site_of item.body ≡ None → out ++ map capped_block (blocks_of (drop i items)) ≡ all → out ++ map capped_block (blocks_of (drop (i + 1) items)) ≡ all
blocks-none out items i item all h is none old =
    let rest = drop (i + 1) items in
    ap (λ (s : Option Site). out ++ map capped_block (cons_option (option_map (λ site. record { line = item.line; site = site; size = size_ahead rest }) s) (blocks_of rest))) (sym none)
    ∙ ap (λ (is : List Item). out ++ map capped_block (blocks_of is)) (sym (drop-at items i item h is))
    ∙ old

-- a line that begins one
pub blocks-some : (out next : List Block) (items : List Item) (i : ℕ) (item : Item) (site : Site) (size : ℕ) (all : List Block) → i < length items
    → item ≡ get_or items i item → site_of item.body ≡ Some site → size ≡ min (size_ahead (drop (i + 1) items)) 257
    → next ≡ out ++ record { line = item.line; site = site; size = size } ∷ []
    → out ++ map capped_block (blocks_of (drop i items)) ≡ all → next ++ map capped_block (blocks_of (drop (i + 1) items)) ≡ all
blocks-some out next items i item site size all h is some sized pushed old =
    let rest = drop (i + 1) items in
    let later = map capped_block (blocks_of rest) in
    ap (λ (front : List Block). front ++ later) pushed
    ∙ append_assoc out (record { line = item.line; site = site; size = size } ∷ []) later
    ∙ ap (λ (n : ℕ). out ++ record { line = item.line; site = site; size = n } ∷ later) sized
    ∙ ap (λ (s : Option Site). out ++ map capped_block (cons_option (option_map (λ site. record { line = item.line; site = site; size = size_ahead rest }) s) (blocks_of rest))) (sym some)
    ∙ ap (λ (is : List Item). out ++ map capped_block (blocks_of is)) (sym (drop-at items i item h is))
    ∙ old

-- after the last line
pub blocks-done : (out : List Block) (items : List Item) (i : ℕ) (all : List Block) → length items ≤ i → out ++ map capped_block (blocks_of (drop i items)) ≡ all → out ≡ all
blocks-done out items i all past old =
    sym (append-nil out) ∙ ap (λ (is : List Item). out ++ map capped_block (blocks_of is)) (sym (drop_all i items past)) ∙ old

-- ---- fitting

-- the block that a line begins has a place, and ends within its sector
site-fits : (site : Option Site) (line : ℕ) (rest : List Item) (places : List Slot) (slot : Slot) → is_some site ≡ true
    → AllFit (cons_option (option_map (λ site. record { line = line; site = site; size = size_ahead rest }) site) (blocks_of rest)) places
    → ((slice_index_or places 0 slot).loc + size_ahead rest ≤ 256) × (AllFit (blocks_of rest) (drop 1 places) × (0 < length places))
site-fits None line rest places slot some fit = absurd (cc some)
site-fits (Some site) line rest [] slot some fit = absurd fit
site-fits (Some site) line rest (p ∷ ps) slot some fit = (fit.0, (fit.1, omega arith))

no-site-fits : (site : Option Site) (line : ℕ) (rest : List Item) (places : List Slot) → is_some site ≡ false
    → AllFit (cons_option (option_map (λ site. record { line = line; site = site; size = size_ahead rest }) site) (blocks_of rest)) places
    → AllFit (blocks_of rest) places
no-site-fits None line rest places none fit = fit
no-site-fits (Some site) line rest places none fit = absurd (cc none)

pub block-fits : (items : List Item) (i : ℕ) (item : Item) (places : List Slot) (slot : Slot) → i < length items → item ≡ get_or items i item
    → begins_block item.body ≡ true → AllFit (blocks_of (drop i items)) places
    → ((slice_index_or places 0 slot).loc + size_ahead (drop (i + 1) items) ≤ 256) × (AllFit (blocks_of (drop (i + 1) items)) (drop 1 places) × (0 < length places))
block-fits items i item places slot h is begins fit =
    site-fits (site_of item.body) item.line (drop (i + 1) items) places slot begins (rw (drop-at items i item h is) at fit)

pub line-fits : (items : List Item) (i : ℕ) (item : Item) (places : List Slot) → i < length items → item ≡ get_or items i item
    → begins_block item.body ≡ false → AllFit (blocks_of (drop i items)) places → AllFit (blocks_of (drop (i + 1) items)) places
line-fits items i item places h is begins fit =
    no-site-fits (site_of item.body) item.line (drop (i + 1) items) places begins (rw (drop-at items i item h is) at fit)

-- a line that takes a place begins no block, and takes a location
pub takes-some : (body : Body) → IsInRange body → takes_place body ≡ true → (begins_block body ≡ false) × (1 ≤ size_of body)
takes-some says.Code h takes = absurd (cc takes)
takes-some (says.Org at syl) h takes = absurd (cc takes)
takes-some (says.Words pair sector loc) h takes = absurd (cc takes)
takes-some (says.Sector pair sector) h takes = absurd (cc takes)
takes-some (says.Room count) h takes = (refl, h.0)
takes-some (says.Constant constant) h takes = (refl, omega arith)
takes-some (says.Instruction op operand) h takes = (refl, omega arith)

-- ---- spots

-- one more line
spots-more : (out next : List (Option Spot)) (slot : Slot) (places : List Slot) (items : List Item) (i : ℕ) (item : Item) (all : List (Option Spot))
    → i < length items → item ≡ get_or items i item → next ≡ out ++ spot_in item.body slot ∷ []
    → out ++ spots_from slot places (drop i items) ≡ all
    → next ++ spots_from (next_slot item.body slot places) (later_places item.body places) (drop (i + 1) items) ≡ all
spots-more out next slot places items i item all h is pushed old =
    let later = spots_from (next_slot item.body slot places) (later_places item.body places) (drop (i + 1) items) in
    ap (λ (front : List (Option Spot)). front ++ later) pushed
    ∙ append_assoc out (spot_in item.body slot ∷ []) later
    ∙ ap (λ (is : List Item). out ++ spots_from slot places is) (sym (drop-at items i item h is))
    ∙ old

-- no location further
pub slot-same : (slot : Slot) → slot_after slot 0 ≡ slot
slot-same slot = let same : slot.loc + 0 ≡ slot.loc = omega arith in λ i. record slot { loc = same i }

slot-further : (slot : Slot) (m n : ℕ) → slot_after slot (m + n) ≡ slot_after (slot_after slot m) n
slot-further slot m n = let same : slot.loc + (m + n) ≡ slot.loc + m + n = omega arith in λ i. record slot { loc = same i }

-- the place of the next block
pub first-left : (places : List Slot) (begun : ℕ) (slot place : Slot) → begun < length places → place ≡ get_or places begun place
    → slice_index_or (drop begun places) 0 slot ≡ place
first-left places begun slot place h is = ap (λ (ps : List Slot). slice_index_or ps 0 slot) (drop-at places begun place h is)

-- the places after it
pub one-fewer : (places : List Slot) (begun : ℕ) (place : Slot) → begun < length places → place ≡ get_or places begun place
    → drop 1 (drop begun places) ≡ drop (begun + 1) places
one-fewer places begun place h is = ap (λ (ps : List Slot). drop 1 ps) (drop-at places begun place h is)

-- a line that begins a block
pub spots-block : (out next : List (Option Spot)) (slot place : Slot) (places : List Slot) (begun : ℕ) (items : List Item) (i : ℕ) (item : Item) (all : List (Option Spot))
    → i < length items → item ≡ get_or items i item → begun < length places → place ≡ get_or places begun place → begins_block item.body ≡ true
    → next ≡ out ++ spot_in item.body slot ∷ [] → out ++ spots_from slot (drop begun places) (drop i items) ≡ all
    → next ++ spots_from (slot_after place 0) (drop (begun + 1) places) (drop (i + 1) items) ≡ all
spots-block out next slot place places begun items i item all h is within there begins pushed old =
    let more = spots-more out next slot (drop begun places) items i item all h is pushed old in
    let left = rw begins at more in
    ap (λ (s : Slot). next ++ spots_from s (drop (begun + 1) places) (drop (i + 1) items)) (slot-same place ∙ sym (first-left places begun slot place within there))
    ∙ ap (λ (ps : List Slot). next ++ spots_from (slice_index_or (drop begun places) 0 slot) ps (drop (i + 1) items)) (sym (one-fewer places begun place within there))
    ∙ left

-- another line
pub spots-line : (out next : List (Option Spot)) (first : Slot) (offset size : ℕ) (places : List Slot) (items : List Item) (i : ℕ) (item : Item) (all : List (Option Spot))
    → i < length items → item ≡ get_or items i item → begins_block item.body ≡ false → size ≡ size_of item.body
    → next ≡ out ++ spot_in item.body (slot_after first offset) ∷ [] → out ++ spots_from (slot_after first offset) places (drop i items) ≡ all
    → next ++ spots_from (slot_after first (offset + size)) places (drop (i + 1) items) ≡ all
spots-line out next first offset size places items i item all h is begins sized pushed old =
    let more = spots-more out next (slot_after first offset) places items i item all h is pushed old in
    let left = rw begins at more in
    ap (λ (s : Slot). next ++ spots_from s places (drop (i + 1) items))
    (ap (λ (n : ℕ). slot_after first (offset + n)) sized ∙ slot-further first offset (size_of item.body))
    ∙ left

-- after the last line
pub spots-done : (out : List (Option Spot)) (slot : Slot) (places : List Slot) (items : List Item) (i : ℕ) (all : List (Option Spot)) → length items ≤ i
    → out ++ spots_from slot places (drop i items) ≡ all → out ≡ all
spots-done out slot places items i all past old =
    sym (append-nil out) ∙ ap (λ (is : List Item). out ++ spots_from slot places is) (sym (drop_all i items past)) ∙ old
