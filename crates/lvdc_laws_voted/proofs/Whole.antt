-- Whole runs of the guarded machine, for an opening of words.
use Rattle.std.proofs.Common.{◌≡◌, ℕ, zero, suc, ◌-◌, ◌*◌, ◌/◌, ◌%◌, ◌<◌, ◌^◌, Bool, true, false, cond, List, [], ◌∷◌, subst, refl, sym, ap, ◌∙◌, arith}
use Rattle.std.specs.Prelude.{All}
use Rattle.std.specs.declared.option.Option.{Option}
use Rattle.std.specs.declared.option.Option.TheVariants.{None, Some}
use Rattle.std.proofs.lemmas.List.Elements.{All-head, All-tail}
use Rattle.lvdc_map.specs.Address.{Spot, is_same}
use Rattle.lvdc_map.specs.Hop.{HopConstant, IsHopConstant}
use Rattle.lvdc_map.specs.Memory as memory
use Rattle.lvdc_map.specs.declared.placed.Placed.{Placed}
use Rattle.lvdc_modules.specs.Rows.{start_latches}
use Rattle.lvdc_plain.specs.Plain.{PlainState, World, started}
use Rattle.lvdc_plain.specs.Run.{run, IsOpening}
use Rattle.lvdc_plain.specs.declared.records.Stop.{Stop}
use Rattle.lvdc_fault.specs.declared.verdict.Verdict.{Verdict}
use Rattle.lvdc_fault.specs.declared.verdict.Verdict.TheVariants as verdicts
use Rattle.lvdc_laws_phases.specs.States.{ShowsRegisters}
use Rattle.lvdc_model.specs.declared.outcome.Outcome.{Outcome}
use Rattle.lvdc_model.specs.declared.outcome.Outcome.TheVariants as outcomes
use Rattle.lvdc_model.specs.Trial.{Trial, plain_at}
use Rattle.lvdc_model.specs.Voted.{Voted, votes}
use Rattle.lvdc_model.specs.Judging.{judged, first_bad, first_bad_below}
use Rattle.lvdc_model.specs.Exchanges.{begin_step}
use Rattle.lvdc_model.specs.Runs.{judged_by, guarded_by, guarded, own_verdict, alone_by, alone}
use Rattle.lvdc_laws_voted.specs.Copies.{wrong_before}
use Rattle.lvdc_laws_voted.specs.Laws.{StepLaws}
use Rattle.lvdc_laws_voted.specs.Relation.{devices_by, Matches, ShowsPlain, Follows, Goes, Halts}
use Rattle.lvdc_laws_voted.specs.Ends.{Opens, ShowsTimes, stop_end, IsBegun, Comes, Good, Bad}
use Rattle.lvdc_laws_voted.proofs.PlainRuns.{times-count, stays-world}
use Rattle.lvdc_laws_voted.proofs.Run.{found-judged, begun-at, kept-here, follows, comes, ends-inadmissible}

-- ---- an opening of words

-- an image of words makes a memory of words
loaded-words : (image : List Placed) (m : memory.Memory) → All (λ placed. placed.word < 2 ^ 26) image → ((at : Spot) → memory.word_at m at < 2 ^ 26)
    → (at : Spot) → memory.word_at (memory.loaded image m) at < 2 ^ 26
loaded-words [] m fit h at = h at
loaded-words (p ∷ ps) m fit h at =
    loaded-words ps (memory.stored m p.at p.word) (All-tail (λ (placed : Placed). placed.word < 2 ^ 26) p ps fit) (λ other. by_place other (is_same other p.at)) at
  where
    by_place : (other : Spot) (b : Bool) → cond b p.word (m other) < 2 ^ 26
    by_place other true = All-head (λ (placed : Placed). placed.word < 2 ^ 26) p ps fit
    by_place other false = h other

-- at the start the seven modules stand for the plain machine
abbrev pub StartLaw : (ℕ → List (List ℕ) → PlainState → Type 0) → Type 0
StartLaw Stands =
    (start : HopConstant) (banks : ℕ) (words : memory.Memory) → IsHopConstant start → ((at : Spot) → memory.word_at words at < 2 ^ 26)
    → Stands 0 (start_latches start) (started banks start words)

-- a run opens where the relation of phases begins
pub opens : {Stands : ℕ → List (List ℕ) → PlainState → Type 0} → StartLaw Stands → (o : Trial) → IsOpening o.opening → Opens Stands o
opens law o ok =
    record {
      stands = law o.opening.start o.opening.banks (memory.memory_of o.opening.image) ok.start
          (loaded-words o.opening.image (memory.filled_with 0) ok.image (λ at. omega arith));
      words = ok.devices;
    }

-- ---- the state after whole times

-- after whole times the guarded machine shows the plain one
matches-times : {Stands : ℕ → List (List ℕ) → PlainState → Type 0} → StepLaws Stands → (o : Trial) (n k : ℕ) (v : Voted) → n % 3 ≡ 0 → n / 3 ≡ k → Matches o n v
    → (states : List (List ℕ)) → ShowsPlain o n v states → ShowsTimes o k v
matches-times law o n k v whole time m states shows =
    record {
      registers =
          subst (λ (s : List (List ℕ)). ShowsRegisters s (plain_at o k)) (sym (law.votes (wrong_before o.script n) 1 v.copies states shows.agree))
          (subst (λ (i : ℕ). ShowsRegisters states (plain_at o i)) time shows.registers);
      intended = m.intended ∙ ap (λ (i : ℕ). (plain_at o i).memory) time;
      log = m.log ∙ ap (λ (i : ℕ). (plain_at o i).log) time;
      devices = m.devices ∙ ap (λ (i : ℕ). devices_by i o n) whole ∙ ap (λ (i : ℕ). (run o.opening i).devices) time;
    }

pub times-by : {Stands : ℕ → List (List ℕ) → PlainState → Type 0} → StepLaws Stands → (o : Trial) (k : ℕ) (v : Voted) → Follows Stands o (3 * k) v → ShowsTimes o k v
times-by law o k v (Goes e s) = matches-times law o (3 * k) k v (omega arith) (omega arith) s.matches s.states s.shows
times-by law o k v (Halts le d) =
    let early = matches-times law o v.steps (v.steps / 3) v d.whole refl d.matches d.states d.shows in
    let same : run o.opening k ≡ run o.opening (v.steps / 3) = stays-world law.stopped o.opening (v.steps / 3) d.why d.stopped k (omega arith) in
    record {
      registers = subst (λ (w : World). ShowsRegisters (votes v) w.plain) (sym same) early.registers;
      intended = early.intended ∙ sym (ap (λ (w : World). w.plain.memory) same);
      log = early.log ∙ sym (ap (λ (w : World). w.plain.log) same);
      devices = early.devices ∙ sym (ap (λ (w : World). w.devices) same);
    }

-- so while no step is bad
pub guarded-times : (Stands : ℕ → List (List ℕ) → PlainState → Type 0) → StepLaws Stands → (o : Trial) → Opens Stands o
    → (k : ℕ) → first_bad o k ≡ verdicts.Admissible → ShowsTimes o k (guarded o (3 * k))
guarded-times Stands law o opens k h = times-by law o k (guarded o (3 * k)) (follows Stands o law opens (3 * k) h)

-- ---- the end after whole times

-- its end is the plain machine's stop
pub ends-by : {Stands : ℕ → List (List ℕ) → PlainState → Type 0} → StepLaws Stands → (o : Trial) (k : ℕ) (v : Voted) → Follows Stands o (3 * k) v
    → (v.end ≡ stop_end (plain_at o k).stop (plain_at o k).times) × (v.steps ≡ 3 * (plain_at o k).times)
ends-by law o k v (Goes e s) =
    let time : 3 * k / 3 ≡ k = omega arith in
    let going : (plain_at o k).stop ≡ None = sym (ap (λ (i : ℕ). (plain_at o i).stop) time) ∙ s.running in
    let count : (plain_at o k).times ≡ k = times-count law.ports o.opening k going in
    (s.going ∙ sym (ap (λ (stop : Option Stop). stop_end stop (plain_at o k).times) going), e ∙ sym (ap (λ (t : ℕ). 3 * t) count))
ends-by law o k v (Halts le d) =
    let same : run o.opening k ≡ run o.opening (v.steps / 3) = stays-world law.stopped o.opening (v.steps / 3) d.why d.stopped k (omega arith) in
    let stop : (plain_at o k).stop ≡ Some d.why = ap (λ (w : World). w.plain.stop) same ∙ d.stopped in
    let count : (plain_at o k).times ≡ v.steps / 3 = ap (λ (w : World). w.plain.times) same ∙ d.times in
    let whole : v.steps % 3 ≡ 0 = d.whole in
    let next : v.steps ≡ suc d.last = d.is_last in
    let last : d.last ≡ 3 * (plain_at o k).times - 1 = omega arith in (
      d.ended ∙ ap (λ (n : ℕ). Some (outcomes.Stopped n d.why)) last ∙ sym (ap (λ (s : Option Stop). stop_end s (plain_at o k).times) stop),
      omega arith,
    )

pub guarded-ends : (Stands : ℕ → List (List ℕ) → PlainState → Type 0) → StepLaws Stands → (o : Trial) → Opens Stands o
    → (k : ℕ) → first_bad o k ≡ verdicts.Admissible
    → ((guarded o (3 * k)).end ≡ stop_end (plain_at o k).stop (plain_at o k).times) × ((guarded o (3 * k)).steps ≡ 3 * (plain_at o k).times)
guarded-ends Stands law o opens k h = ends-by law o k (guarded o (3 * k)) (follows Stands o law opens (3 * k) h)

-- ---- the verdict

-- a bad step is the end of the run
verdict-by : {Stands : ℕ → List (List ℕ) → PlainState → Type 0} (o : Trial) (n : ℕ) → Comes Stands o n → (first_bad_below o n ≡ verdicts.Admissible → ⊥)
    → (guarded o n).end ≡ Some (outcomes.Inadmissible (first_bad_below o n))
verdict-by o n (Good h f) bad = absurd (bad h)
verdict-by o n (Bad m lt same stuck e) bad =
    ap (λ (v : Voted). v.end) stuck ∙ ends-inadmissible o m e ∙ ap (λ (b : Verdict). Some (outcomes.Inadmissible b)) (sym same)

pub guarded-verdict : (Stands : ℕ → List (List ℕ) → PlainState → Type 0) → StepLaws Stands → (o : Trial) → Opens Stands o
    → (k : ℕ) → (first_bad o k ≡ verdicts.Admissible → ⊥) → (guarded o (3 * k)).end ≡ Some (outcomes.Inadmissible (first_bad o k))
guarded-verdict Stands law o opens k bad = verdict-by o (3 * k) (comes Stands o law opens (3 * k)) bad

-- the end is a verdict only there
verdict-only : {Stands : ℕ → List (List ℕ) → PlainState → Type 0} (o : Trial) (n : ℕ) (b : Verdict) → Comes Stands o n → (guarded o n).end ≡ Some (outcomes.Inadmissible b)
    → (b ≡ first_bad_below o n) × (first_bad_below o n ≡ verdicts.Admissible → ⊥)
verdict-only o n b (Good h (Goes e k)) is = absurd (let both : None ≡ Some (outcomes.Inadmissible b) = sym k.going ∙ is in cc)
verdict-only o n b (Good h (Halts le d)) is = absurd (let both : Some (outcomes.Stopped d.last d.why) ≡ Some (outcomes.Inadmissible b) = sym d.ended ∙ is in cc)
verdict-only o n b (Bad m lt same stuck e) is =
    let both : Some (outcomes.Inadmissible b) ≡ Some (outcomes.Inadmissible (first_bad_below o (suc m))) = sym is ∙ ap (λ (v : Voted). v.end) stuck ∙ ends-inadmissible o m e in
    let one : b ≡ first_bad_below o (suc m) = cc in
    (one ∙ sym same, λ h. e.bad (sym same ∙ h))

pub guarded-verdict_only : (Stands : ℕ → List (List ℕ) → PlainState → Type 0) → StepLaws Stands → (o : Trial) → Opens Stands o
    → (n : ℕ) (b : Verdict) → (guarded o n).end ≡ Some (outcomes.Inadmissible b) → (b ≡ first_bad_below o n) × (first_bad_below o n ≡ verdicts.Admissible → ⊥)
guarded-verdict_only Stands law o opens n b is = verdict-only o n b (comes Stands o law opens n) is

-- ---- the run that judges by itself

-- the machine that judges alone makes the guarded step: after an end, and before it where it finds the verdict
alone-ended : (end : Option Outcome) (o : Trial) (v : Voted) (e : Outcome) → end ≡ Some e → alone_by end o v ≡ guarded_by end o v
alone-ended None o v e h = absurd (cc)
alone-ended (Some r) o v e h = refl

alone-goes : (end : Option Outcome) (o : Trial) (v : Voted) → end ≡ None → own_verdict o (begin_step o v) ≡ judged o v.steps → alone_by end o v ≡ guarded_by end o v
alone-goes None o v h e = ap (λ (b : Verdict). judged_by b o (begin_step o v)) e
alone-goes (Some r) o v h e = absurd (cc)

-- so at each step of a run
alone-step : (Stands : ℕ → List (List ℕ) → PlainState → Type 0) → StepLaws Stands → (o : Trial) (n : ℕ) → Comes Stands o n
    → alone_by (guarded o n).end o (guarded o n) ≡ guarded o (suc n)
alone-step Stands law o n (Good h (Goes e k)) =
    alone-goes (guarded o n).end o (guarded o n) k.going (found-judged Stands o (guarded o n) law (kept-here Stands o n (guarded o n) e k))
alone-step Stands law o n (Good h (Halts le d)) = alone-ended (guarded o n).end o (guarded o n) _ d.ended
alone-step Stands law o n (Bad m lt same stuck e) =
    alone-ended (guarded o n).end o (guarded o n) _ (ap (λ (v : Voted). v.end) stuck ∙ ends-inadmissible o m e)

pub alone-guarded : (Stands : ℕ → List (List ℕ) → PlainState → Type 0) → StepLaws Stands → (o : Trial) → Opens Stands o → (n : ℕ) → alone o n ≡ guarded o n
alone-guarded Stands law o opens zero = refl
alone-guarded Stands law o opens (suc n) =
    ap (λ (v : Voted). alone_by v.end o v) (alone-guarded Stands law o opens n) ∙ alone-step Stands law o n (comes Stands o law opens n)

-- ---- a step that is begun

-- a step that is begun stands as the plain run is
begun-by : (Stands : ℕ → List (List ℕ) → PlainState → Type 0) → StepLaws Stands → (o : Trial) (n : ℕ) (v : Voted) → v.end ≡ None → Follows Stands o n v → IsBegun o n (begin_step o v)
begun-by Stands law o n v going (Goes e k) = begun-at Stands o n v law e (kept-here Stands o n v e k)
begun-by Stands law o n v going (Halts le d) = absurd (let both : Some (outcomes.Stopped d.last d.why) ≡ None = sym d.ended ∙ going in cc)

pub guarded-begun : (Stands : ℕ → List (List ℕ) → PlainState → Type 0) → StepLaws Stands → (o : Trial) → Opens Stands o → (n : ℕ)
    → first_bad_below o n ≡ verdicts.Admissible → (guarded o n).end ≡ None → IsBegun o n (begin_step o (guarded o n))
guarded-begun Stands law o opens n h going = begun-by Stands law o n (guarded o n) going (follows Stands o law opens n h)
