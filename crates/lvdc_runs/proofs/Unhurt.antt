-- A machine that goes through every fault, under a script without events.
use Rattle.std.proofs.Common.{◌≡◌, ℕ, ◌-◌, ◌*◌, sym, ap, ◌∙◌, subst}
use Rattle.std.specs.declared.option.Option.{Option}
use Rattle.std.specs.declared.option.Option.TheVariants.{None, Some}
use Rattle.lvdc_plain.specs.declared.records.Stop.{Stop}
use Rattle.lvdc_model.specs.declared.outcome.Outcome.{Outcome}
use Rattle.lvdc_model.specs.declared.outcome.Outcome.TheVariants.{Done, Stopped, Inadmissible, Device}
use Rattle.lvdc_model.specs.Runs.{guarded, through}
use Rattle.lvdc_model.specs.Trial.{Trial, plain_at}
use Rattle.lvdc_model.specs.Voted.{Voted}
use Rattle.lvdc_laws_voted.specs.Ends.{ShowsTimes, stop_end}
use Rattle.lvdc_machine.specs.Stands.{EndsAs, state_by}
use Rattle.lvdc_machine.specs.declared.mode.Mode.{Mode}
use Rattle.lvdc_machine.specs.declared.mode.Mode.TheVariants.{Through}
use Rattle.lvdc_laws_runs.specs.Guarded.{IsUnhurt, UnhurtBy}

-- the end of a stop is no verdict
no-verdict : (E : Outcome) (stop : Option Stop) (times : ℕ) → stop_end stop times ≡ Some E → ((step : ℕ) (why : Stop) → E ≡ Stopped step why → ⊥) → ⊥
no-verdict E None times is other = absurd (cc (is))
no-verdict E (Some why) times is other = other (3 * times - 1) why (sym (cc (is)))

module _ (o : Trial) (times : ℕ) (same : through o (3 * times) ≡ guarded o (3 * times)) (shows : ShowsTimes o times (guarded o (3 * times)))
    (ends : (guarded o (3 * times)).end ≡ stop_end (plain_at o times).stop (plain_at o times).times) where
  plain : IsUnhurt o times (through o (3 * times))
  plain = record { shows = subst (ShowsTimes o times) (sym same) shows; end = ap (λ (v : Voted). v.end) same ∙ ends }

  by_end : (end : Option Outcome) (steps : ℕ) → end ≡ (state_by end Through o (3 * times)).end → EndsAs end o (3 * times) Through steps
      → UnhurtBy end o times (state_by end Through o (3 * times))
  by_end None steps is kind = plain
  by_end (Some Done) steps is kind = absurd kind
  by_end (Some (Stopped step stop)) steps is kind = plain
  by_end (Some (Inadmissible verdict)) steps is kind =
      let there = sym ends ∙ sym (ap (λ (v : Voted). v.end) same) ∙ sym is in
      absurd (no-verdict (Inadmissible verdict) (plain_at o times).stop (plain_at o times).times there (λ step why other. absurd (cc other)))
  by_end (Some (Device step port)) steps is kind = tt

-- what is true of it by its end
pub unhurt : (o : Trial) (times : ℕ) (end : Option Outcome) (mode : Mode) → mode ≡ Through → through o (3 * times) ≡ guarded o (3 * times)
    → ShowsTimes o times (guarded o (3 * times)) → (guarded o (3 * times)).end ≡ stop_end (plain_at o times).stop (plain_at o times).times
    → (steps : ℕ) → end ≡ (state_by end mode o (3 * times)).end → EndsAs end o (3 * times) mode steps → UnhurtBy end o times (state_by end mode o (3 * times))
unhurt o times end mode is same shows ends steps shown kind =
    subst (λ (k : Mode). UnhurtBy end o times (state_by end k o (3 * times))) (sym is)
    (by_end o times same shows ends end steps (subst (λ (k : Mode). end ≡ (state_by end k o (3 * times)).end) is shown) (subst (λ (k : Mode). EndsAs end o (3 * times) k steps) is kind))
