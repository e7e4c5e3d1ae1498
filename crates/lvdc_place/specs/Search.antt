-- How far the memory was looked through.
use Rattle.std.specs.Prelude.{◌≡◌, ℕ, ◌<◌, ◌≤◌, Bool, false, List, length, slice_index}
use Rattle.lvdc_place.specs.Slots.{set_of, is_free_at}
use Rattle.lvdc_place.specs.declared.block.Kind.TheVariants.{Code}

-- for each size, no block of code of that size is free at a number below its start
pub record StartsAt (bits : List Bool) (starts : List ℕ) : Type 0 where
  pub size : length starts ≡ 257
  pub passed : (size number : ℕ) → size ≤ 256 → number < slice_index starts size → is_free_at (set_of bits) Code size number ≡ false
