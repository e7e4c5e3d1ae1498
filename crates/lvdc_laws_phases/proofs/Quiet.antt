-- Where no instruction is executed most latches are kept.
use Rattle.std.proofs.Common.{◌≡◌, refl, sym, subst}
use Rattle.lvdc_modules.specs.declared.bus.Bus.{Bus}
use Rattle.lvdc_modules.specs.declared.seen.Doing.{Doing}
use Rattle.lvdc_modules.specs.declared.seen.Doing.TheVariants.{Fetching, Taking, Executing, Waiting}
use Rattle.lvdc_modules.specs.Seen.{doing, here, instruction}
use Rattle.lvdc_modules.specs.Locator.{locator_by}
use Rattle.lvdc_modules.specs.Selector.{selector_by}
use Rattle.lvdc_modules.specs.Accumulator.{a_by}
use Rattle.lvdc_modules.specs.Multiplier.{pq_by, working_by, unit_pq, unit_working}
use Rattle.lvdc_modules.specs.Exchange.{stop_by}

-- no instruction is executed
abbrev pub IsQuiet : Doing → Type 0
IsQuiet Executing = ⊥
IsQuiet _ = Unit {0}

-- the rows but for the decoder's, OPERAND's and REQUEST's
pub record Keeps (d : Doing) (b : Bus) : Type 0 where
  pub locator : locator_by d b (here b) (instruction b) ≡ b.locator
  pub selector : selector_by d b (here b) (instruction b) ≡ b.selector
  pub a : a_by d b (instruction b) ≡ b.accumulator.a
  pub pq : pq_by d b (instruction b) ≡ unit_pq b
  pub working : working_by d b (instruction b) ≡ unit_working b
  pub stop : stop_by d b (instruction b) ≡ b.exchange.stop

-- what is done changes no register of the plain machine, unless an instruction is executed
keeps_by : (d : Doing) (b : Bus) → IsQuiet d → Keeps d b
keeps_by Executing b q = absurd q
keeps_by Fetching b q = record { locator = refl; selector = refl; a = refl; pq = refl; working = refl; stop = refl }
keeps_by Taking b q = record { locator = refl; selector = refl; a = refl; pq = refl; working = refl; stop = refl }
keeps_by Waiting b q = record { locator = refl; selector = refl; a = refl; pq = refl; working = refl; stop = refl }

pub keeps : (d : Doing) (b : Bus) → doing b ≡ d → IsQuiet d → Keeps (doing b) b
keeps d b e q = subst (λ (x : Doing). Keeps x b) (sym e) (keeps_by d b q)
