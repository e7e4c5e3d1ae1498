-- The HOP constants of lines of code.
use Rattle.std.specs.Prelude.{ℕ, ◌*◌, true, List, slice_index_or, Option, None, Some}
use Rattle.std.specs.Option.{option_and_then}
use Rattle.lvdc_map.specs.Address.{Spot}
use Rattle.lvdc_map.specs.Hop.{HopConstant}
use Rattle.lvdc_place.specs.Placement.{LayoutView}
use Rattle.lvdc_place.specs.declared.spot.Spot.{Spot as Place}
use Rattle.lvdc_asm.specs.DataPlace.{DataPlace}
use Rattle.lvdc_asm.specs.Names.{definition_of}
use Rattle.lvdc_asm.specs.declared.names.Definition.{Definition}
use Rattle.lvdc_asm.specs.Target.{Target}

-- what the lines of a source refer to: the names that it defines, and where each item stands
pub record Plan : Type 0 where
  pub names : List (List ℕ × Definition)
  pub spots : List (Option Place)

-- the names, with the places that a layout keeps
abbrev pub plan_at : List (List ℕ × Definition) → LayoutView → Plan
plan_at names layout = record { names = names; spots = layout.spots }

-- where a definition's item stands, and the USE in force there
abbrev pub target_at : DataPlace → Option Place → Option Target
target_at assumed None = None
target_at assumed (Some spot) = Some (record { at = spot.at; syl = spot.syl; assumed = assumed })

-- where the line of a definition stands
abbrev pub target_by : List (Option Place) → Option Definition → Option Target
target_by spots None = None
target_by spots (Some definition) = target_at definition.assumed (slice_index_or spots definition.item None)

-- where the line that defines a name stands, with the USE in force there; none where no line defines it
abbrev pub target_of : Plan → List ℕ → Option Target
target_of plan name = target_by plan.spots (definition_of plan.names name)

-- the constant of a place of code: the even module of its pair, its sector, syllable and location; as data place the
-- even module of the USE's pair, and its sector; both DUP bits
abbrev pub hop_at : Spot → ℕ → DataPlace → HopConstant
hop_at at syl assumed =
    record {
      imod = at.pair * 2;
      isec = at.sector;
      syl = syl;
      loc = at.loc;
      dmod = assumed.pair * 2;
      dsec = assumed.sector;
      dupin = true;
      dupdn = true;
    }

-- the constant of a line, where it is one of code
abbrev pub hop_by : Spot → DataPlace → Option ℕ → Option HopConstant
hop_by at assumed None = None
hop_by at assumed (Some syl) = Some (hop_at at syl assumed)

-- the HOP constant of what a name means, where that is a line of code
abbrev pub hop_to : Target → Option HopConstant
hop_to target = hop_by target.at target.assumed target.syl

-- the HOP constant of a name, where it is that of a line of code
abbrev pub start_of : Plan → List ℕ → Option HopConstant
start_of plan name = option_and_then hop_to (target_of plan name)
