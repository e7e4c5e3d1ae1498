-- The lines of an assembled source, and the slots that they fill.
use Rattle.std.specs.Prelude.{◌≡◌, ℕ, ◌==◌, ◌&&◌, Bool, false, List, [], ◌∷◌, take, slice_get, IfSome, Some, unwrap_or}
use Rattle.lvdc_map.specs.Address.{Spot, is_same}
use Rattle.lvdc_source.specs.declared.item.Body.{Body}
use Rattle.lvdc_source.specs.declared.item.Body.TheVariants.{Sector, Constant, Instruction}
use Rattle.lvdc_source.specs.declared.item.Item.{Item}
use Rattle.lvdc_place.specs.declared.spot.Spot.{Spot as Place}
use Rattle.lvdc_asm.specs.Assembly.{Assembled}
use Rattle.lvdc_asm.specs.DataPlace.{DataPlace}
use Rattle.lvdc_asm.specs.Target.{Target}

-- the data place after a line: USE sets it
abbrev pub set_by : DataPlace → Body → DataPlace
set_by assumed (Sector pair sector) = record { pair = pair; sector = sector }
set_by assumed body = assumed

-- the data place that is assumed after these lines, where this one is assumed before them: that of the last USE
abbrev pub assumed_after : DataPlace → List Item → DataPlace
assumed_after assumed [] = assumed
assumed_after assumed (item ∷ items) = assumed_after (set_by assumed item.body) items

-- the line of this number, counted from 0, is this item; it stands here, and this data place is assumed there: before the first USE
-- sector 01 of pair 0
pub record IsLine (assembled : Assembled) (number : ℕ) (item : Item) (here : Place) (assumed : DataPlace) : Type 0 where
  pub says : slice_get assembled.items number ≡ Some item
  pub stands : slice_get assembled.plan.spots number ≡ Some (Some here)
  pub uses : assumed_after (record { pair = 0; sector = 1 }) (take number assembled.items) ≡ assumed

-- whether a line that stands here fills a slot: an instruction that of its syllable, a constant both of its word
abbrev pub fills : Body → Place → Spot → ℕ → Bool
fills (Instruction op operand) here at syl = is_same here.at at && unwrap_or here.syl 0 == syl
fills (Constant constant) here at syl = is_same here.at at
fills body here at syl = false

-- nothing is assembled into a slot: no line fills it, and no pooled word stands at its address
pub record IsBare (assembled : Assembled) (at : Spot) (syl : ℕ) : Type 0 where
  pub lines : (number : ℕ) (item : Item) (here : Place) → slice_get assembled.items number ≡ Some item → slice_get assembled.plan.spots number ≡ Some (Some here)
      → fills item.body here at syl ≡ false
  pub pool : (index : ℕ) → IfSome (slice_get assembled.pool index) (λ pooled. is_same pooled.1 at ≡ false)

-- a name is that of a line that stands at the place for which the name stands, with the data place that is assumed there
pub record IsDefined (assembled : Assembled) (name : List ℕ) (target : Target) : Type 0 where
  pub number : ℕ
  pub item : Item
  pub here : Place
  pub line : IsLine assembled number item here target.assumed
  pub label : item.label ≡ name
  pub at : target.at ≡ here.at
  pub syl : target.syl ≡ here.syl
