-- The rest of a run that went through every fault and has rejoined the plain run is the plain run.
use Rattle.std.proofs.Common.{◌≡◌, ℕ, zero, suc, ◌*◌, ◌%◌, ◌^◌, ◌<◌, ◌≤◌, true, List, [], ◌∷◌, ◌++◌, slice_index, ◌⊎◌, inl, inr, refl, sym, ap, ◌∙◌, subst, arith, Result, Ok, Err}
use Rattle.std.specs.Prelude.{All}
use Rattle.std.specs.declared.option.Option.{Option}
use Rattle.std.specs.declared.option.Option.TheVariants.{None, Some}
use Rattle.std.proofs.lemmas.List.{append-nil}
use Rattle.std.proofs.lemmas.List.Elements.{All-nil}
use Rattle.lvdc_map.specs.Address.{Spot, IsAddress}
use Rattle.lvdc_map.specs.Banks.{home, holds, IsPlace}
use Rattle.lvdc_map.specs.Memory.{word_at}
use Rattle.lvdc_port.specs.Devices.{HoldWords}
use Rattle.lvdc_twin.specs.declared.both_bad.BothBad.{BothBad}
use Rattle.lvdc_twin.specs.declared.read_out.ReadOut.{ReadOut}
use Rattle.lvdc_vote.specs.Copies.{Copies}
use Rattle.lvdc_modules.specs.declared.wanted.Wanted.{Wanted}
use Rattle.lvdc_modules.specs.declared.wanted.Wanted.TheVariants as wanted
use Rattle.lvdc_fault.specs.Events.{IsEvent}
use Rattle.lvdc_fault.specs.Script.{active_events}
use Rattle.lvdc_fault.specs.declared.verdict.Verdict.TheVariants.{Admissible}
use Rattle.lvdc_laws_phases.specs.Standing.{Standing}
use Rattle.lvdc_model.specs.declared.outcome.Outcome.{Outcome}
use Rattle.lvdc_model.specs.Trial.{Trial, plain_at, plain_in, read_at}
use Rattle.lvdc_model.specs.CellsBefore.{cell_before, is_dead_at}
use Rattle.lvdc_model.specs.Twins.{Twins, with_held, cell_at, read_answer}
use Rattle.lvdc_model.specs.Voted.{Voted}
use Rattle.lvdc_model.specs.Exchanges.{begin_step, reading, exchanges, wished, voted_step}
use Rattle.lvdc_model.specs.Judging.{judged, first_bad_below}
use Rattle.lvdc_model.specs.Runs.{through_by, through, guarded}
use Rattle.lvdc_laws_voted.specs.Copies.{Agree, wrong_before}
use Rattle.lvdc_laws_voted.specs.Ends.{Opens, IsBegun, ShowsTimes, stop_end}
use Rattle.lvdc_laws_voted.specs.Laws.{StepLaws}
use Rattle.lvdc_laws_voted.specs.Relation.{devices_in, IsOnCourse, Halted, Follows, Goes, Halts}
use Rattle.lvdc_laws_voted.proofs.Cells.{damages-selected, held-selected}
use Rattle.lvdc_laws_voted.proofs.Copies.{TwoVote}
use Rattle.lvdc_laws_voted.proofs.Join.{bank-read, one-step}
use Rattle.lvdc_laws_voted.proofs.Places.{DuplexLaw}
use Rattle.lvdc_laws_voted.proofs.Recovered.{read-selected}
use Rattle.lvdc_laws_voted.proofs.Run.{begun-at, follows, kept-here}
use Rattle.lvdc_laws_voted.proofs.Steps.{HasBanks, admissible}
use Rattle.lvdc_laws_runs.specs.Early.{fault_free}
use Rattle.lvdc_laws_runs.specs.Joined.{SparesMemory, StoresWords}
use Rattle.lvdc_laws_runs.specs.Rejoined.{HasRejoined, StaysRejoined}
use Rattle.lvdc_laws_runs.proofs.Idle.{none-after}
use Rattle.lvdc_laws_runs.proofs.Steps.{begin-same, step-same}
use Rattle.lvdc_laws_runs.proofs.Counted.{AreSeven, made-seven, step-still}
use Rattle.lvdc_laws_runs.proofs.Spared.{spared-words}
use Rattle.lvdc_laws_runs.proofs.Staying.{from-on, judged-admissible, repairs-none}
use Rattle.lvdc_laws_runs.proofs.Outside.{through-outside, guarded-outside, is-address, is-place}
use Rattle.lvdc_laws_runs.proofs.Replaying.{all-steps, devices-alike}

-- ---- what was repaired before doesn't matter to a step

-- a state in which nothing was repaired
abbrev bare : Voted → Voted
bare v = record v { repairs = [] }

read-apart : (o : Trial) (v : Voted) (r : Result ReadOut BothBad) (at : Spot)
    → reading r o v at ≡ record (reading r o (bare v) at) { repairs = v.repairs ++ (reading r o (bare v) at).repairs }
read-apart o v (Err bad) at = λ i. record (reading (Err bad) o v at) { repairs = sym (append-nil v.repairs) i }
read-apart o v (Ok r) at = refl

made-apart : (o : Trial) (v : Voted) (w : Wanted) → exchanges o v w ≡ record (exchanges o (bare v) w) { repairs = v.repairs ++ (exchanges o (bare v) w).repairs }
made-apart o v wanted.Nothing = λ i. record (exchanges o v wanted.Nothing) { repairs = sym (append-nil v.repairs) i }
made-apart o v (wanted.Fetch at) = read-apart o v (read_answer o v.steps v.twins at) at
made-apart o v (wanted.Operand at) = read-apart o v (read_answer o v.steps v.twins at) at
made-apart o v (wanted.Store at word) = λ i. record (exchanges o v (wanted.Store at word)) { repairs = sym (append-nil v.repairs) i }
made-apart o v (wanted.PortRead port) = λ i. record (exchanges o v (wanted.PortRead port)) { repairs = sym (append-nil v.repairs) i }
made-apart o v (wanted.PortWrite port word) = λ i. record (exchanges o v (wanted.PortWrite port word)) { repairs = sym (append-nil v.repairs) i }

-- a step of a state is that of the bare one, with what was repaired before
step-apart : (o : Trial) (v : Voted) → voted_step o v ≡ record (voted_step o (bare v)) { repairs = v.repairs ++ (voted_step o (bare v)).repairs }
step-apart o v = made-apart o v (wished o v)

-- ---- what holds of each run through every fault

-- the copies of seven modules and their counts
next-seven : (o : Trial) (v : Voted) → AreSeven v.copies v.counts → (end : Option Outcome) → AreSeven (through_by end o v).copies (through_by end o v).counts
next-seven o v seven (Some e) = seven
next-seven o v seven None = made-seven o (begin_step o v) seven (wished o (begin_step o v))

through-seven : (o : Trial) (n : ℕ) → AreSeven (through o n).copies (through o n).counts
through-seven o zero = record { copies_are = refl; counts_are = refl; threes = (refl, (refl, (refl, (refl, (refl, (refl, (refl, tt))))))) }
through-seven o (suc n) = next-seven o (through o n) (through-seven o n) (through o n).end

-- selections are of twins
abbrev AreTwins : Twins → Type 0
AreTwins t = (pair : ℕ) → slice_index t.selected pair < 2

read-twins : (o : Trial) (v : Voted) → AreTwins v.twins → (r : Result ReadOut BothBad) (at : Spot) → AreTwins (reading r o v at).twins
read-twins o v h (Err bad) at = h
read-twins o v h (Ok r) at = read-selected o v.steps v.twins at r h

made-twins : (o : Trial) (v : Voted) → AreTwins v.twins → (w : Wanted) → AreTwins (exchanges o v w).twins
made-twins o v h wanted.Nothing = h
made-twins o v h (wanted.Fetch at) = read-twins o v h (read_answer o v.steps v.twins at) at
made-twins o v h (wanted.Operand at) = read-twins o v h (read_answer o v.steps v.twins at) at
made-twins o v h (wanted.Store at word) = λ pair.
    let first = with_held o v.steps 0 at word v.twins in
    subst (λ (s : List ℕ). slice_index s pair < 2)
    (sym
    (held-selected (holds o.opening.banks 1 at) (is_dead_at o v.steps 1 at) first 1 at _
    ∙ held-selected (holds o.opening.banks 0 at) (is_dead_at o v.steps 0 at) v.twins 0 at _))
    (h pair)
made-twins o v h (wanted.PortRead port) = h
made-twins o v h (wanted.PortWrite port word) = h

next-twins : (o : Trial) (v : Voted) → AreTwins v.twins → (end : Option Outcome) → AreTwins (through_by end o v).twins
next-twins o v h (Some e) = h
next-twins o v h None =
    made-twins o (begin_step o v)
    (λ pair. subst (λ (s : List ℕ). slice_index s pair < 2) (sym (damages-selected v.steps o.script v.twins)) (h pair))
    (wished o (begin_step o v))

few-zeros : (pair : ℕ) → slice_index (0 ∷ 0 ∷ 0 ∷ 0 ∷ []) pair < 2
few-zeros zero = omega arith
few-zeros (suc zero) = omega arith
few-zeros (suc (suc zero)) = omega arith
few-zeros (suc (suc (suc zero))) = omega arith
few-zeros (suc (suc (suc (suc pair)))) = omega arith

through-twins : (o : Trial) (n : ℕ) → AreTwins (through o n).twins
through-twins o zero = few-zeros
through-twins o (suc n) = next-twins o (through o n) (through-twins o n) (through o n).end

-- ---- a run that has rejoined the plain run

module _ (law : StepLaws Standing) (two : TwoVote) (duplex : DuplexLaw) (o : Trial) where
  abbrev free : Trial
  free = fault_free o

  free-words : (n : ℕ) → StoresWords free n
  free-words n = spared-words law.ports free (All-nil SparesMemory) n

  module _ (opens : Opens Standing free) (good : (n : ℕ) → first_bad_below free n ≡ Admissible) (first : ℕ) where
    -- so far it has followed the plain run, but for what it had counted and repaired
    record SoFar (n : ℕ) : Type 0 where
      follows_it : Follows Standing free n (bare (through o n))
      counts : (through o n).counts ≡ (through o first).counts
      repairs : (through o n).repairs ≡ (through o first).repairs

    module _ (n : ℕ) (idle : active_events o.script n ≡ []) (far : SoFar n) where
      abbrev v : Voted
      v = through o n

      abbrev u : Voted
      u = begin_step free v

      goes : v.steps ≡ n → IsOnCourse Standing free n (bare v) → SoFar (suc n)
      goes steps kept = record {
        follows_it =
            subst (λ (x : Voted). Follows Standing free (suc n) x) (sym (ap bare next ∙ bare_next))
            (subst (λ m. Follows Standing free (suc m) (voted_step free (bare u))) steps
            (one-step Standing free (bare v) law kept_here (admissible free v.steps here)));
        counts = ap (λ (x : Voted). x.counts) next ∙ step-still free u (through-seven o n) two refl ∙ far.counts;
        repairs =
            ap (λ (x : Voted). x.repairs) next
            ∙ ap (λ (x : Voted). x.repairs) (step-apart free u)
            ∙ ap (λ (l : List _). v.repairs ++ l) nothing
            ∙ append-nil v.repairs ∙ far.repairs;
      }
        where
          kept_here : IsOnCourse Standing free v.steps (bare v)
          kept_here = kept-here Standing free n (bare v) steps kept

          none_here : active_events o.script v.steps ≡ []
          none_here = ap (active_events o.script) steps ∙ idle

          bank_here : HasBanks o.opening.banks (read_at free v.steps)
          bank_here = bank-read Standing free (bare v) law kept_here

          here : judged free v.steps ≡ Admissible
          here = judged-admissible law two duplex free v.steps refl (free-words v.steps) bank_here

          next : through o (suc n) ≡ voted_step free u
          next =
              ap (λ (end : Option Outcome). through_by end o v) kept.going
              ∙ step-same o (begin_step o v) none_here
              ∙ ap (voted_step free) (begin-same o v none_here)

          begun : IsBegun free v.steps (bare u)
          begun = begun-at Standing free v.steps (bare v) law refl kept_here

          small : (at : Spot) → word_at (plain_in free v.steps).memory at < 2 ^ 26
          small = (law.phases.words (v.steps % 3) kept_here.states (plain_in free v.steps) kept_here.stands).words

          nothing : (voted_step free (bare u)).repairs ≡ []
          nothing = repairs-none law two duplex free (bare u) refl (free-words v.steps) begun small bank_here

          bare_next : bare (voted_step free u) ≡ voted_step free (bare u)
          bare_next = ap bare (step-apart free u) ∙ λ i. record (voted_step free (bare u)) { repairs = sym nothing i }

      halts : v.steps ≤ n → Halted free v.steps (bare v) → SoFar (suc n)
      halts le halted = record {
        follows_it = subst (λ (x : Voted). Follows Standing free (suc n) (bare x)) (sym same) (Halts (omega (arith, le)) halted);
        counts = ap (λ (x : Voted). x.counts) same ∙ far.counts;
        repairs = ap (λ (x : Voted). x.repairs) same ∙ far.repairs;
      }
        where
          same : through o (suc n) ≡ v
          same = ap (λ (end : Option Outcome). through_by end o v) halted.ended

      goes-on : Follows Standing free n (bare v) → SoFar (suc n)
      goes-on (Goes steps kept) = goes steps kept
      goes-on (Halts le halted) = halts le halted

  module _ (opens : Opens Standing free) (good : (n : ℕ) → first_bad_below free n ≡ Admissible) (times : ℕ) (events : All IsEvent o.script)
      (joined : HasRejoined o times) where
    abbrev first : ℕ
    first = 3 * times

    abbrev mine : Voted
    mine = through o first

    abbrev its : Voted
    its = guarded free first

    -- the intended words are the same everywhere, not only at addresses
    intended : mine.intended ≡ its.intended
    intended = λ i. λ at. by_kind at (is-address at) i
      where
        by_kind : (at : Spot) → IsAddress at ⊎ (IsAddress at → ⊥) → word_at mine.intended at ≡ word_at its.intended at
        by_kind at (inl is) = joined.intended at is
        by_kind at (inr not) =
            (through-outside o events first).words at not ∙ sym ((guarded-outside free (All-nil IsEvent) first).words at not)

    -- so are the cells
    same-cells : (twin : ℕ) → twin < 2 → (place : Spot) → word_at (mine.twins.cells twin) place ≡ word_at (its.twins.cells twin) place
    same-cells twin small place = by_kind (is-place place)
      where
        by_kind : IsPlace place ⊎ (IsPlace place → ⊥) → word_at (mine.twins.cells twin) place ≡ word_at (its.twins.cells twin) place
        by_kind (inl is) = joined.cells twin small place is
        by_kind (inr not) =
            (through-outside o events first).cells twin place not ∙ sym ((guarded-outside free (All-nil IsEvent) first).cells twin place not)

    module _ (kept : IsOnCourse Standing free first its) where
      devices : mine.devices ≡ devices_in free first
      devices = devices-alike o free refl first joined.going joined.running joined.log ∙ kept.matches.devices

      cells : (twin : ℕ) → twin < 2 → (at : Spot) → holds o.opening.banks twin at ≡ true → cell_at mine.twins twin at ≡ cell_before free twin at first
      cells twin small at held = same-cells twin small (home at) ∙ kept.matches.stores.cells twin small at held

      on-course : IsOnCourse Standing free first (bare mine)
      on-course = record {
        going = joined.going;
        running = kept.running;
        states = kept.states;
        stands = kept.stands;
        shows = record {
          agree = subst (λ (c : List Copies). Agree (wrong_before [] first) 1 c kept.states) (sym joined.copies) kept.shows.agree;
          registers = kept.shows.registers;
        };
        matches = record {
          stores = record { cells = cells; selected = through-twins o first };
          intended = intended ∙ kept.matches.intended;
          log = joined.log ∙ kept.matches.log;
          devices = devices;
          few = omega arith;
        };
        words = subst HoldWords (kept.matches.devices ∙ sym devices) kept.words;
      }

    begins : Follows Standing free first its → Follows Standing free first (bare mine)
    begins (Goes steps kept) = Goes (all-steps o first joined.going) (on-course kept)
    begins (Halts le halted) = absurd (let both : Some _ ≡ None = sym halted.ended ∙ joined.running in cc (both))

    so-far : (n : ℕ) → first ≤ n → SoFar opens good first n
    so-far =
        from-on (SoFar opens good first) first
        (record { follows_it = begins (follows Standing free law opens first (good first)); counts = refl; repairs = refl })
        (λ n later far. goes-on opens good first n (none-after first n later o.script joined.over) far far.follows_it)

    pub stays-rejoined : ((v : Voted) (later : ℕ) → Follows Standing free (3 * later) v → ShowsTimes free later v)
        → ((v : Voted) (later : ℕ) → Follows Standing free (3 * later) v → v.end ≡ stop_end (plain_at free later).stop (plain_at free later).times)
        → ((v : Voted) (later : ℕ) → Follows Standing free (3 * later) v → v.steps ≡ 3 * (plain_at free later).times)
        → (later : ℕ) → times ≤ later → StaysRejoined o times later
    stays-rejoined shows end steps later le =
        let far = so-far (3 * later) (omega (arith, le)) in
        let v = bare (through o (3 * later)) in
        let shown = shows v later far.follows_it in
        record {
          shows = record { registers = shown.registers; intended = shown.intended; log = shown.log; devices = shown.devices };
          end = end v later far.follows_it;
          steps = steps v later far.follows_it;
          counts = far.counts;
          repairs = far.repairs;
        }
