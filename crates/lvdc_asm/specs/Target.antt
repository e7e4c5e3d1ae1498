-- What a name stands for.
use Rattle.std.specs.Prelude.{ℕ, ◌<◌, Option}
use Rattle.std.specs.Option.{ForSome}
use Rattle.lvdc_map.specs.Address.{Spot}
use Rattle.lvdc_asm.specs.DataPlace.{DataPlace}

-- where the line stands that defines a name, with the syllable of code, and the data place that is assumed there
pub record Target : Type 0 where
  pub at : Spot
  pub syl : Option ℕ
  pub assumed : DataPlace

-- a syllable, where there is one, is 0 or 1
abbrev pub IsHalf : Option ℕ → Type 0
IsHalf syl = ForSome syl (λ (half : ℕ). half < 2)
