-- When a program reads or stores each word often enough for a script.
use Rattle.std.specs.Prelude.{◌≡◌, ℕ, ◌+◌, ◌*◌, ◌≤◌, Bool, true, false, ◌||◌, nat_le}
use Rattle.std.specs.List.{list_any}
use Rattle.lvdc_map.specs.Address.{Spot, is_same}
use Rattle.lvdc_fault.specs.declared.event.Event.{Event}
use Rattle.lvdc_fault.specs.declared.event.Event.TheVariants.{Damage}
use Rattle.lvdc_withstands.specs.Form.{lines_in}
use Rattle.lvdc_model.specs.Trial.{Trial}
use Rattle.lvdc_withstands.specs.Touches.{touches_from}
use Rattle.lvdc_withstands.specs.Repairs.{is_limited, are_apart, each_two}

-- does a line damage this place, in whichever twin?
abbrev pub damages_it : Spot → Event → Bool
damages_it at (Damage w place t mask) = is_same at place
damages_it at _ = false

-- are two steps at least so many apart? The place counts for the law of repair alone
abbrev pub are_steps_apart : ℕ → Spot → ℕ → ℕ → Bool
are_steps_apart every at one other = nat_le (one + every) other || nat_le (other + every) one

-- what it is that a program reads or stores each word often enough for a script
pub record Scrubs (o : Trial) (count every : ℕ) : Type 0 where
  -- the word of each place that is damaged is read or stored in some step of each so many in a row
  pub visits : (at : Spot) → list_any (damages_it at) (lines_in count o.script) ≡ true → (first : ℕ) → first + every ≤ 3 * count → touches_from o at first (first + every) ≡ true
  -- any two damages of a place, in whichever twins, are at least so many steps apart
  pub spaced : each_two (are_apart (are_steps_apart every)) (lines_in count o.script) ≡ true
  -- a place where bits stick is named by no other line, and the faults are limited
  pub limited : is_limited o.script o.opening.banks count ≡ true
