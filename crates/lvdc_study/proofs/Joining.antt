-- Where a run that judges has rejoined the plain run, and nothing was said so far, nothing is said any more.
use Rattle.std.proofs.Common.{◌≡◌, ℕ, zero, suc, ◌+◌, ◌-◌, ◌*◌, ◌<◌, ◌≤◌, List, [], ◌⊎◌, inl, inr, refl, sym, ap, ◌∙◌, add-zero, add-suc, arith}
use Rattle.std.specs.Prelude.{All}
use Rattle.std.specs.declared.option.Option.{Option}
use Rattle.std.specs.declared.option.Option.TheVariants.{None, Some}
use Rattle.std.proofs.lemmas.Bool.{cases_lt}
use Rattle.std.proofs.lemmas.List.Elements.{All-nil}
use Rattle.lvdc_map.specs.Address.{Spot}
use Rattle.lvdc_map.specs.Banks.{home, IsPlace}
use Rattle.lvdc_map.specs.Memory.{word_at}
use Rattle.lvdc_map.specs.Hop.{IsHopConstant}
use Rattle.lvdc_word.specs.Cell.{code_of}
use Rattle.lvdc_plain.specs.Run.{Opening, IsOpening}
use Rattle.lvdc_fault.specs.declared.event.Event.{Event}
use Rattle.lvdc_laws_voted.specs.Laws.{PortLaw}
use Rattle.lvdc_model.specs.CellsBefore.{cell_before}
use Rattle.lvdc_model.specs.declared.outcome.Outcome.{Outcome}
use Rattle.lvdc_runs.specs.Scripts.{trial_under}
use Rattle.lvdc_study.proofs.Elsewhere.{cell-elsewhere}
use Rattle.lvdc_fault.specs.Events.{IsEvent}
use Rattle.lvdc_fault.specs.declared.verdict.Verdict.TheVariants.{Admissible}
use Rattle.lvdc_laws_phases.specs.Standing.{Standing}
use Rattle.lvdc_laws_runs.specs.Joined.{SparesMemory, AllSpareMemory, StoresWords, HasJoined, StaysJoined}
use Rattle.lvdc_laws_runs.specs.Rejoined.{HasRejoined}
use Rattle.lvdc_laws_voted.specs.Ends.{Comes, Good, Bad}
use Rattle.lvdc_laws_voted.specs.Relation.{IsOnCourse, Goes, Halts}
use Rattle.lvdc_model.specs.Judging.{first_bad, first_bad_below}
use Rattle.lvdc_model.specs.Runs.{through, guarded_by, guarded}
use Rattle.lvdc_model.specs.Trial.{Trial, plain_in}
use Rattle.lvdc_model.specs.Voted.{Voted}
use Rattle.lvdc_study.proofs.Beside.{none-first}

-- as long as it has not ended it is on course
on-course : (o : Trial) (n : ℕ) → Comes Standing o n → (guarded o n).end ≡ None → IsOnCourse Standing o n (guarded o n)
on-course o n (Good good (Goes steps kept)) none = kept
on-course o n (Good good (Halts steps halted)) none = let ended = halted.ended in absurd (cc (ended, none))
on-course o n (Bad m less first same ends) none =
    let bad = ap (λ (v : Voted). v.end) same ∙ ap (λ (v : Voted). v.end) ends.ends in absurd (cc (bad, none))

-- a spot is a place or none
is-place : (at : Spot) → IsPlace at ⊎ (IsPlace at → ⊥)
is-place at = by_pair (cases_lt at.pair 4)
  where
    by_loc : at.pair < 4 → at.sector < 16 → (at.loc < 256) ⊎ (256 ≤ at.loc) → IsPlace at ⊎ (IsPlace at → ⊥)
    by_loc pair sector (inl loc) = inl (record { pair = pair; sector = sector; loc = loc })
    by_loc pair sector (inr not) = inr (λ is. let loc = is.loc in omega (arith, not, loc))

    by_sector : at.pair < 4 → (at.sector < 16) ⊎ (16 ≤ at.sector) → IsPlace at ⊎ (IsPlace at → ⊥)
    by_sector pair (inl sector) = by_loc pair sector (cases_lt at.loc 256)
    by_sector pair (inr not) = inr (λ is. let sector = is.sector in omega (arith, not, sector))

    by_pair : (at.pair < 4) ⊎ (4 ≤ at.pair) → IsPlace at ⊎ (IsPlace at → ⊥)
    by_pair (inl pair) = by_sector pair (cases_lt at.sector 16)
    by_pair (inr not) = inr (λ is. let pair = is.pair in omega (arith, not, pair))

-- a run that has not ended had not ended before
going-early : (o : Trial) (n more : ℕ) → (guarded o (n + more)).end ≡ None → (guarded o n).end ≡ None
going-early o n zero going = ap (λ (k : ℕ). (guarded o k).end) (sym (add-zero n)) ∙ going
going-early o n (suc more) going =
    going-early o n more (by_end (guarded o (n + more)).end refl (ap (λ (k : ℕ). (guarded o k).end) (sym (add-suc n more)) ∙ going))
  where
    by_end : (end : Option Outcome) → (guarded o (n + more)).end ≡ end → (guarded_by end o (guarded o (n + more))).end ≡ None → (guarded o (n + more)).end ≡ None
    by_end None is later = is
    by_end (Some e) is later = later

module _ (comes : (o : Trial) → IsOpening o.opening → (n : ℕ) → Comes Standing o n)
    (goes : (o : Trial) (n : ℕ) → IsOpening o.opening → first_bad_below o n ≡ Admissible → through o n ≡ guarded o n)
    (ports : PortLaw)
    (spared : (o : Trial) → AllSpareMemory o.script → (step : ℕ) → StoresWords o step)
    (stays : (o : Trial) (step : ℕ) → IsOpening o.opening → HasJoined o step → (later : ℕ) → step ≤ later → StaysJoined o step later)
    (p : Opening) (script : List Event) (opens : IsOpening p) (events : All IsEvent script) (times : ℕ) (joined : HasRejoined (trial_under p script) times) where
  abbrev n : ℕ
  n = 3 * times

  abbrev o : Trial
  o = trial_under p script

  abbrev free : Trial
  free = trial_under p []

  -- the plain run has gone by addresses so far
  fits : (k : ℕ) → k < n → IsHopConstant (plain_in free k).place
  fits k less =
      let all : k + (n - k) ≡ n = omega (arith, less) in
      let going = going-early free k (n - k) (ap (λ (j : ℕ). (guarded free j).end) all ∙ joined.running) in
      (on-course free k (comes free opens k) going).stands.plain.place

  module _ (going : (guarded o n).end ≡ None) where
    good : first_bad_below o n ≡ Admissible
    good = none-first o n (comes o opens n) going

    stores : StoresWords o n
    stores twin two at held = by_kind (is-place (home at))
      where
        mine : IsOnCourse Standing o n (guarded o n)
        mine = on-course o n (comes o opens n) going

        its : IsOnCourse Standing free n (guarded free n)
        its = on-course free n (comes free opens n) joined.running

        by_kind : IsPlace (home at) ⊎ (IsPlace (home at) → ⊥) → cell_before o twin at n ≡ code_of (word_at (plain_in o n).memory at)
        by_kind (inl is) =
            sym (mine.matches.stores.cells twin two at held) ∙ ap (λ (v : Voted). word_at (v.twins.cells twin) (home at)) (sym (goes o n opens good))
            ∙ joined.cells twin two (home at) is ∙ its.matches.stores.cells twin two at held ∙ spared free (All-nil SparesMemory) n twin two at held
        by_kind (inr not) = cell-elsewhere at not ports p script events twin held n fits

    pub stays-admissible : (count : ℕ) → times ≤ count → first_bad o count ≡ Admissible
    stays-admissible count within =
        (stays o n opens (record { admissible = good; over = joined.over; stores = stores }) (3 * count) (omega (arith, within))).admissible
