-- Addresses that are the same.
use Rattle.std.proofs.Common.{◌≡◌, true}
use Rattle.std.specs.Prelude.{◌==◌, ◌&&◌}
use Rattle.std.proofs.lemmas.Bool.{eqb-true, and_parts}
use Rattle.lvdc_map.specs.Address.{Spot, is_same}

-- they are equal
pub same-spot : (a b : Spot) → is_same a b ≡ true → a ≡ b
same-spot a b h =
    let one = and_parts (a.pair == b.pair && a.sector == b.sector) (a.loc == b.loc) h in
    let two = and_parts (a.pair == b.pair) (a.sector == b.sector) one.0 in
    let p : a.pair ≡ b.pair = eqb-true a.pair b.pair two.0 in
    let q : a.sector ≡ b.sector = eqb-true a.sector b.sector two.1 in
    let r : a.loc ≡ b.loc = eqb-true a.loc b.loc one.1 in
    λ i. record { pair = p i; sector = q i; loc = r i }
