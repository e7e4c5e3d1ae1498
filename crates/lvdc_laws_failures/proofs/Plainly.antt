-- What is told of a masked run is told of the guarded one.
use Rattle.std.proofs.Common.{◌≡◌, ℕ, ◌*◌, Bool, List, subst, sym, ap, ◌∙◌}
use Rattle.std.specs.declared.option.Option.{Option}
use Rattle.lvdc_map.specs.Address.{Spot}
use Rattle.lvdc_map.specs.Memory as memory
use Rattle.lvdc_fault.specs.Recoverable.{is_recovered}
use Rattle.lvdc_laws_phases.specs.States.{ShowsRegisters}
use Rattle.lvdc_model.specs.Trial.{Trial, plain_at}
use Rattle.lvdc_model.specs.Twins.{Twins}
use Rattle.lvdc_model.specs.declared.outcome.Outcome.{Outcome}
use Rattle.lvdc_model.specs.Known.{last_begun, shows_since, is_known}
use Rattle.lvdc_model.specs.Runs.{guarded}
use Rattle.lvdc_laws_voted.specs.Ends.{ShowsTimes}
use Rattle.lvdc_laws_failures.specs.Split.{Adversary}
use Rattle.lvdc_laws_failures.specs.Steps.{voted_after}
use Rattle.lvdc_laws_failures.specs.Laws.{IsMasked}

-- after whole times it shows the plain run
pub times-plain : (o : Trial) (a : Adversary) (times : ℕ) → IsMasked o a (3 * times) → ShowsTimes o times (guarded o (3 * times)) → ShowsTimes o times (voted_after o a (3 * times))
times-plain o a times m s =
    record {
      registers = subst (λ (states : List (List ℕ)). ShowsRegisters states (plain_at o times)) (sym m.votes) s.registers;
      intended = m.same.intended ∙ s.intended;
      log = m.same.log ∙ s.log;
      devices = m.same.devices ∙ s.devices;
    }

-- which words are known, by what is outside of the copies
abbrev known_by : Trial → Spot → Option Outcome → ℕ → Twins → memory.Memory → Bool
known_by o at end steps twins intended = is_recovered o.opening.banks at (memory.word_at intended at) (λ twin. shows_since (last_begun end steps) o twins twin at)

-- so the same words are known
pub known-same : (o : Trial) (a : Adversary) (n : ℕ) (at : Spot) → IsMasked o a n → is_known o (voted_after o a n) at ≡ is_known o (guarded o n) at
known-same o a n at m =
    let v = voted_after o a n in
    let g = guarded o n in
    ap (λ (end : Option Outcome). known_by o at end v.steps v.twins v.intended) m.same.end
    ∙ ap (λ (steps : ℕ). known_by o at g.end steps v.twins v.intended) m.same.steps
    ∙ ap (λ (twins : Twins). known_by o at g.end g.steps twins v.intended) m.same.twins
    ∙ ap (known_by o at g.end g.steps g.twins) m.same.intended
