-- Which data place the lines of a source assume: the pair and the sector of the USE in force.
use Rattle.lvdc_source.specs.Items.{IsSector}
use Rattle.lvdc_source.specs.declared.item.Body.{Body}
use Rattle.lvdc_source.specs.declared.item.Body.TheVariants.{Sector}
use Rattle.lvdc_asm.specs.DataPlace.{DataPlace}

-- from the line after an item on
abbrev pub data_after : DataPlace → Body → DataPlace
data_after assumed (Sector pair sector) = record { pair = pair; sector = sector }
data_after assumed _ = assumed

-- a USE names a pair and a sector that are there
abbrev pub SetsData : Body → Type 0
SetsData (Sector pair sector) = IsSector pair sector
SetsData _ = Unit {0}
