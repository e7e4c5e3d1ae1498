-- What a placement says of the lines of its program, and what a pooled word finds.
use Rattle.std.proofs.Common.{◌≡◌, ◌<◌, List, [], ◌∷◌, ℕ, true, Option, None, Some, Result, Ok, Err, refl, subst}
use Rattle.std.specs.Prelude.{IfSome}
use Rattle.std.specs.Option.{option_map}
use Rattle.lvdc_map.specs.Address.{Spot as Place}
use Rattle.lvdc_source.specs.Items.{IsProgram}
use Rattle.lvdc_source.specs.declared.item.Body.{Body}
use Rattle.lvdc_source.specs.declared.item.Body.TheVariants as says
use Rattle.lvdc_source.specs.declared.item.Item.{Item}
use Rattle.lvdc_place.specs.Slot.{Slot, sector_start, slot_of, address_of}
use Rattle.lvdc_place.specs.Slots.{Slots, are_free, least_place, pool_place}
use Rattle.lvdc_place.specs.Blocks.{blocks_of}
use Rattle.lvdc_place.specs.Placement.{Places, Placement, places_of, spot_in, next_slot, later_places, spots_from, with_spots, placement}
use Rattle.lvdc_place.specs.Apart.{StandApart, StandsAs, StandAs}
use Rattle.lvdc_place.specs.declared.block.Kind.TheVariants.{Words}
use Rattle.lvdc_place.specs.declared.fault.PlaceFault.{PlaceFault}
use Rattle.lvdc_place.proofs.BlocksApart.{place_free}
use Rattle.lvdc_place.proofs.LinesApart.{lines_apart}
use Rattle.lvdc_place.proofs.Starts.{in-sector}

-- ---- lines

pub placed-apart : (items : List Item) (placed : Placement) → IsProgram items → placement items ≡ Ok placed → StandApart items placed.spots placed.taken
unfolding placement
placed-apart items placed program is = by_places (places_of (blocks_of items)) refl is
  where
    by_places : (found : Result Places PlaceFault) → places_of (blocks_of items) ≡ found → with_spots items found ≡ Ok placed → StandApart items placed.spots placed.taken
    by_places (Err fault) are is = absurd (cc)
    by_places (Ok stands) are is =
        let same : ◌≡◌ {A = Placement} (record { spots = spots_from (sector_start 0 0) stands.places items; taken = stands.taken }) placed = cc in
        subst (λ (p : Placement). StandApart items p.spots p.taken) same
        (lines_apart items stands.places (spots_from (sector_start 0 0) stands.places items) stands.taken program are refl)

stands-as : (body : Body) (slot : Slot) → StandsAs body (spot_in body slot)
stands-as says.Code slot = (refl, refl)
stands-as (says.Org at syl) slot = (refl, refl)
stands-as (says.Words pair sector loc) slot = (refl, refl)
stands-as (says.Sector pair sector) slot = (refl, refl)
stands-as (says.Room count) slot = refl
stands-as (says.Constant constant) slot = refl
stands-as (says.Instruction op operand) slot = refl

stand-as : (slot : Slot) (places : List Slot) (items : List Item) → StandAs items (spots_from slot places items)
stand-as slot places [] = tt
stand-as slot places (item ∷ items) = (stands-as item.body slot, stand-as (next_slot item.body slot places) (later_places item.body places) items)

pub placed-as : (items : List Item) (placed : Placement) → placement items ≡ Ok placed → StandAs items placed.spots
unfolding placement
placed-as items placed is = by_places (places_of (blocks_of items)) is
  where
    by_places : (found : Result Places PlaceFault) → with_spots items found ≡ Ok placed → StandAs items placed.spots
    by_places (Err fault) is = absurd (cc)
    by_places (Ok stands) is =
        let same : ◌≡◌ {A = Placement} (record { spots = spots_from (sector_start 0 0) stands.places items; taken = stands.taken }) placed = cc in
        subst (λ (p : Placement). StandAs items p.spots) same (stand-as (sector_start 0 0) stands.places items)

-- ---- pooled words

pub pool-free : (taken : Slots) (pair sector : ℕ) (at : Place) → pool_place taken pair sector ≡ Some at → are_free taken (slot_of at 0 ∷ slot_of at 1 ∷ []) ≡ true
pool-free taken pair sector at is = by_found (least_place taken (Words (sector_start pair sector)) 1) refl is
  where
    by_found : (found : Option Slot) → least_place taken (Words (sector_start pair sector)) 1 ≡ found → option_map address_of found ≡ Some at →
        are_free taken (slot_of at 0 ∷ slot_of at 1 ∷ []) ≡ true
    by_found None are is = absurd (cc)
    by_found (Some place) are is =
        let same : address_of place ≡ at = cc in
        subst (λ (a : Place). are_free taken (slot_of a 0 ∷ slot_of a 1 ∷ []) ≡ true) same (place_free taken (Words (sector_start pair sector)) 1 place are)

pub pool-sector : (taken : Slots) (pair sector : ℕ) (at : Place) → sector < 16 → pool_place taken pair sector ≡ Some at → (at.pair ≡ pair) × (at.sector ≡ sector)
pool-sector taken pair sector at small is = by_found (least_place taken (Words (sector_start pair sector)) 1) (in-sector taken (sector_start pair sector) 1 small) is
  where
    by_found : (found : Option Slot) → IfSome found (λ (place : Slot). (place.pair ≡ pair) × (place.sector ≡ sector)) → option_map address_of found ≡ Some at → (at.pair ≡ pair) × (at.sector ≡ sector)
    by_found None there is = absurd (cc)
    by_found (Some place) there is =
        let same : address_of place ≡ at = cc in
        subst (λ (a : Place). (a.pair ≡ pair) × (a.sector ≡ sector)) same there
