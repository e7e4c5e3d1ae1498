-- What stays over several calls.
use Rattle.std.proofs.Common.{◌≡◌, ℕ, ◌+◌, ◌≤◌, ap, ◌∙◌, arith}
use Rattle.std.specs.declared.option.Option.{Option}
use Rattle.std.specs.declared.option.Option.TheVariants.{None, Some}
use Rattle.lvdc_model.specs.declared.outcome.Outcome.{Outcome}
use Rattle.lvdc_model.specs.declared.outcome.Outcome.TheVariants.{Done, Stopped, Inadmissible, Device}
use Rattle.lvdc_machine.specs.Steps.{Keeps, MadeAs}
use Rattle.lvdc_machine.specs.View.{View}

-- what two calls keep, both keep
pub keeps-then : {a b c : View} → Keeps a b → Keeps b c → Keeps a c
keeps-then h g = record {
  banks = g.banks ∙ h.banks;
  script = g.script ∙ h.script;
  unplugs = g.unplugs ∙ h.unplugs;
  limit = g.limit ∙ h.limit;
  mode = g.mode ∙ h.mode;
  pace = g.pace ∙ h.pace;
}

-- where only memory and what is in force have changed
pub keeps-begun : (old mid : View) → mid ≡ record old { memory = mid.memory; on_memory = mid.on_memory } → Keeps old mid
keeps-begun old mid same = record {
  banks = ap (λ (m : View). m.banks) same;
  script = ap (λ (m : View). m.script) same;
  unplugs = ap (λ (m : View). m.unplugs) same;
  limit = ap (λ (m : View). m.limit) same;
  mode = ap (λ (m : View). m.mode) same;
  pace = ap (λ (m : View). m.pace) same;
}

-- where only an end has come
pub keeps-ended : (old mid : View) (end : Option Outcome) → mid ≡ record old { end = end } → Keeps old mid
keeps-ended old mid end same = record {
  banks = ap (λ (m : View). m.banks) same;
  script = ap (λ (m : View). m.script) same;
  unplugs = ap (λ (m : View). m.unplugs) same;
  limit = ap (λ (m : View). m.limit) same;
  mode = ap (λ (m : View). m.mode) same;
  pace = ap (λ (m : View). m.pace) same;
}

-- no step is unmade
pub made-least : (end : Option Outcome) (before after : ℕ) → MadeAs end before after → before ≤ after
made-least None before after made = omega (arith, made)
made-least (Some (Stopped step stop)) before after made = made.0
made-least (Some Done) before after made = absurd made
made-least (Some (Inadmissible w)) before after made = absurd made
made-least (Some (Device step port)) before after made = absurd made

-- and one is made at most
pub made-most : (end : Option Outcome) (before after : ℕ) → MadeAs end before after → after ≤ before + 1
made-most None before after made = omega (arith, made)
made-most (Some (Stopped step stop)) before after made = made.1
made-most (Some Done) before after made = absurd made
made-most (Some (Inadmissible w)) before after made = absurd made
made-most (Some (Device step port)) before after made = absurd made
