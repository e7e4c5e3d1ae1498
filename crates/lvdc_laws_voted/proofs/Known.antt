-- What the machine tells of its words is so by definition.
use Rattle.std.proofs.Common.{◌≡◌, ℕ, zero, suc, ◌/◌, ◌<◌, true, List, refl, sym, ap, ◌∙◌, arith}
use Rattle.std.specs.declared.option.Option.{Option}
use Rattle.std.specs.declared.option.Option.TheVariants.{Some}
use Rattle.lvdc_word.specs.Cell.{code_of}
use Rattle.lvdc_map.specs.Address.{Spot}
use Rattle.lvdc_map.specs.Banks.{holds, HasBank}
use Rattle.lvdc_map.specs.Memory as memory
use Rattle.lvdc_plain.specs.Plain.{PlainState, World}
use Rattle.lvdc_plain.specs.View.{ByInstruction}
use Rattle.lvdc_plain.specs.declared.records.Stop.{Stop}
use Rattle.lvdc_plain.specs.declared.records.Stop.TheVariants as stops
use Rattle.lvdc_fault.specs.Recoverable.{is_recovered}
use Rattle.lvdc_fault.specs.declared.verdict.Verdict.TheVariants as verdicts
use Rattle.lvdc_model.specs.declared.outcome.Outcome.{Outcome}
use Rattle.lvdc_model.specs.declared.outcome.Outcome.TheVariants as outcomes
use Rattle.lvdc_model.specs.Trial.{Trial, plain_in}
use Rattle.lvdc_model.specs.CellsBefore.{cell_before, damaged_at, shown_with}
use Rattle.lvdc_model.specs.Twins.{Twins, cell_at, shows}
use Rattle.lvdc_model.specs.Voted.{Voted}
use Rattle.lvdc_model.specs.Judging.{first_bad_below, is_recoverable, is_recoverable_after}
use Rattle.lvdc_model.specs.Exchanges.{begin_step, with_end}
use Rattle.lvdc_model.specs.Runs.{guarded}
use Rattle.lvdc_model.specs.Known.{last_made, last_begun, shows_since, is_known}
use Rattle.lvdc_laws_voted.specs.Laws.{HoldersLaw, StepLaws}
use Rattle.lvdc_laws_voted.specs.Relation.{Matches, Follows, Goes, Halts}
use Rattle.lvdc_laws_voted.specs.Ends.{Opens, IsBegun, EndsAt}
use Rattle.lvdc_laws_voted.proofs.PlainRuns.{stays-world}
use Rattle.lvdc_laws_voted.proofs.Recovered.{recovered-code}
use Rattle.lvdc_laws_voted.proofs.Run.{follows}

-- ---- by cells and words

-- what twins with these cells show in a step, with the intended word
same-shown : HoldersLaw → (o : Trial) (step : ℕ) (t : Twins) (words m : memory.Memory) (at : Spot) (cell : ℕ → ℕ) → HasBank o.opening.banks at → words ≡ m
    → ((twin : ℕ) → twin < 2 → holds o.opening.banks twin at ≡ true → cell_at t twin at ≡ cell twin)
    → is_recovered o.opening.banks at (memory.word_at words at) (λ twin. shows o step t twin at)
    ≡ is_recovered o.opening.banks at (memory.word_at m at) (λ twin. shown_with o step twin at (cell twin))
same-shown law o step t words m at cell bank e h =
    ap (λ (w : memory.Memory). is_recovered o.opening.banks at (memory.word_at w at) (λ twin. shows o step t twin at)) e
    ∙ law o.opening.banks at (memory.word_at m at) (λ twin. shows o step t twin at) (λ twin. shown_with o step twin at (cell twin)) bank
    (λ twin two held. ap (shown_with o step twin at) (h twin two held))

-- before a step, with what was in force in the last one
shown-after : HoldersLaw → (o : Trial) (last : ℕ) (v : Voted) (at : Spot) → HasBank o.opening.banks at → Matches o (suc last) v
    → is_recovered o.opening.banks at (memory.word_at v.intended at) (λ twin. shows o last v.twins twin at) ≡ is_recoverable_after o (suc last) at
shown-after law o last v at bank m =
    same-shown law o last v.twins v.intended (plain_in o (suc last)).memory at (λ twin. cell_before o twin at (suc last)) bank m.intended
    (λ twin two held. m.stores.cells twin two at held)

-- in a step that is begun
shown-begun : HoldersLaw → (o : Trial) (n : ℕ) (v : Voted) (at : Spot) → HasBank o.opening.banks at → IsBegun o n v
    → is_recovered o.opening.banks at (memory.word_at v.intended at) (λ twin. shows o n v.twins twin at) ≡ is_recoverable o n at
shown-begun law o n v at bank b =
    same-shown law o n v.twins v.intended (plain_in o n).memory at (λ twin. damaged_at o n twin at (cell_before o twin at n)) bank b.intended
    (λ twin two held. b.cells.cells twin two at held)

-- ---- by the end that has come

-- at the start every word can be told
shown-start : HoldersLaw → (o : Trial) (v : Voted) (at : Spot) → HasBank o.opening.banks at → Matches o 0 v
    → is_recovered o.opening.banks at (memory.word_at v.intended at) (λ twin. cell_at v.twins twin at) ≡ true
shown-start law o v at bank m =
    let w = memory.word_at (memory.memory_of o.opening.image) at in
    ap (λ (words : memory.Memory). is_recovered o.opening.banks at (memory.word_at words at) (λ twin. cell_at v.twins twin at)) m.intended
    ∙ law o.opening.banks at w (λ twin. cell_at v.twins twin at) (λ twin. code_of w) bank (λ twin two held. m.stores.cells twin two at held)
    ∙ recovered-code o.opening.banks at w

-- after whole steps
known-made : HoldersLaw → (o : Trial) (n : ℕ) (v : Voted) (at : Spot) → HasBank o.opening.banks at → v.steps ≡ n → last_begun v.end v.steps ≡ last_made n → Matches o n v
    → is_known o v at ≡ is_recoverable_after o n at
known-made law o zero v at bank e last m = rw last (shown-start law o v at bank m)
known-made law o (suc n) v at bank e last m = rw last (shown-after law o n v at bank m)

begun-end : (end : Option Outcome) (s : Stop) (last n : ℕ) → end ≡ Some (outcomes.Stopped last s) → ByInstruction (Some s) → last_begun end n ≡ last_made n
begun-end end stops.Shift last n e h = rw e refl
begun-end end stops.Exm last n e h = rw e refl
begun-end end (stops.Memory at) last n e h = absurd h

known-follows : {Stands : ℕ → List (List ℕ) → PlainState → Type 0} → HoldersLaw → (o : Trial) (n : ℕ) (v : Voted) (at : Spot) → HasBank o.opening.banks at → Follows Stands o n v
    → is_known o v at ≡ is_recoverable_after o v.steps at
known-follows law o n v at bank (Goes e k) =
    known-made law o n v at bank e (ap (λ (end : Option Outcome). last_begun end v.steps) k.going ∙ ap last_made e) k.matches ∙ sym (ap (λ (m : ℕ). is_recoverable_after o m at) e)
known-follows law o n v at bank (Halts le d) = known-made law o v.steps v at bank refl (begun-end v.end d.why d.last v.steps d.ended d.cause) d.matches

pub guarded-known : (Stands : ℕ → List (List ℕ) → PlainState → Type 0) → StepLaws Stands → (o : Trial) → Opens Stands o → (n : ℕ) → first_bad_below o n ≡ verdicts.Admissible
    → (at : Spot) → HasBank o.opening.banks at → is_known o (guarded o n) at ≡ is_recoverable_after o (guarded o n).steps at
guarded-known Stands law o opens n h at bank = known-follows law.holders o n (guarded o n) at bank (follows Stands o law opens n h)

-- at an end that came where a step was begun
pub known-begun : HoldersLaw → (o : Trial) (n : ℕ) (v : Voted) (e : Outcome) (at : Spot) → HasBank o.opening.banks at → IsBegun o n v → last_begun (Some e) n ≡ Some n
    → is_known o (with_end v e) at ≡ is_recoverable o n at
known-begun law o n v e at bank b last =
    ap (λ (m : ℕ). is_recovered o.opening.banks at (memory.word_at v.intended at) (λ twin. shows_since (last_begun (Some e) m) o v.twins twin at)) b.steps
    ∙ rw last (shown-begun law o n v at bank b)

pub known-bad : HoldersLaw → (o : Trial) (n : ℕ) (at : Spot) → HasBank o.opening.banks at → EndsAt o n → is_known o (guarded o (suc n)) at ≡ is_recoverable o n at
known-bad law o n at bank e =
    ap (λ (v : Voted). is_known o v at) e.ends
    ∙ known-begun law o n (begin_step o (guarded o n)) (outcomes.Inadmissible (first_bad_below o (suc n))) at bank e.begun refl

-- ---- the intended words

-- a machine that follows the plain one intends its words
intended-follows : {Stands : ℕ → List (List ℕ) → PlainState → Type 0} → StepLaws Stands → (o : Trial) (n : ℕ) (v : Voted) → Follows Stands o n v → v.intended ≡ (plain_in o n).memory
intended-follows law o n v (Goes e k) = k.matches.intended
intended-follows law o n v (Halts le d) =
    d.matches.intended ∙ sym (ap (λ (w : World). w.plain.memory) (stays-world law.stopped o.opening (v.steps / 3) d.why d.stopped (n / 3) (omega arith)))

-- so does the guarded machine while no step is bad
pub guarded-intended : (Stands : ℕ → List (List ℕ) → PlainState → Type 0) → StepLaws Stands → (o : Trial) → Opens Stands o → (n : ℕ) → first_bad_below o n ≡ verdicts.Admissible
    → (guarded o n).intended ≡ (plain_in o n).memory
guarded-intended Stands law o opens n h = intended-follows law o n (guarded o n) (follows Stands o law opens n h)

-- and once a bad step ended it
pub bad-intended : (o : Trial) (n : ℕ) → EndsAt o n → (guarded o (suc n)).intended ≡ (plain_in o n).memory
bad-intended o n e = ap (λ (v : Voted). v.intended) e.ends ∙ e.begun.intended
