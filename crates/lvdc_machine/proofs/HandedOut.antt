-- What a step hands out is what it makes.
use Rattle.std.proofs.Common.{◌≡◌, ℕ, false, List, refl, sym, ap, ◌∙◌}
use Rattle.std.proofs.lemmas.Bool.{true≢false}
use Rattle.std.specs.Prelude.{◌≢◌, Result, Ok, Err, IfSome, IsSome}
use Rattle.std.specs.declared.option.Option.{Option}
use Rattle.std.specs.declared.option.Option.TheVariants.{None, Some}
use Rattle.lvdc_map.specs.Address.{Spot}
use Rattle.lvdc_port.specs.Device as device
use Rattle.lvdc_twin.specs.declared.both_bad.BothBad.{BothBad}
use Rattle.lvdc_twin.specs.declared.read_out.ReadOut.{ReadOut}
use Rattle.lvdc_modules.specs.declared.wanted.Wanted.{Wanted}
use Rattle.lvdc_modules.specs.declared.wanted.Wanted.TheVariants.{Nothing, Fetch, Operand, Store, PortRead, PortWrite}
use Rattle.lvdc_model.specs.Runs.{read_of_wish}
use Rattle.lvdc_fault.specs.declared.verdict.Verdict.{Verdict}
use Rattle.lvdc_fault.specs.declared.verdict.Verdict.TheVariants.{Admissible, Logic, Memory}
use Rattle.lvdc_model.specs.declared.outcome.Outcome.{Outcome}
use Rattle.lvdc_model.specs.declared.outcome.Outcome.TheVariants.{Done, Stopped, Inadmissible, Device}
use Rattle.lvdc_model.specs.declared.repair.Repair.{Repair}
use Rattle.lvdc_model.specs.Exchanges.{begin_step, wished}
use Rattle.lvdc_model.specs.Trial.{Trial}
use Rattle.lvdc_model.specs.Voted.{Voted}
use Rattle.lvdc_machine.specs.Made.{read_made, exchange_made, made_if, made_unless, made_next, told_by}
use Rattle.lvdc_machine.specs.Resumed.{state_from}
use Rattle.lvdc_machine.specs.Steps.{repair_noted, run_from, verdict_of, IsSoundAt, MadeAs}
use Rattle.lvdc_machine.specs.declared.made.Made.{Made}
use Rattle.lvdc_machine.specs.declared.mode.Mode.{Mode}
use Rattle.lvdc_machine.specs.View.{View}
use Rattle.lvdc_machine.proofs.Resuming.{IsPrepared}

-- ---- a read

-- one that found a word
pub read-told : {answer right : Result ReadOut BothBad} {step real : ℕ} {repair : Option Repair} → (wanted : Wanted) (at : Spot) (r : ReadOut)
    → answer ≡ right → answer ≡ Ok r → step ≡ real → repair ≡ repair_noted r.repaired step at r.switched
    → Some (record { wanted = wanted; word = r.word; repair = repair }) ≡ read_made right real at wanted
read-told wanted at r is found same noted = rw (noted, same, sym is ∙ found) refl

-- one that found none
pub lost-told : {answer right : Result ReadOut BothBad} → (wanted : Wanted) (at : Spot) (bad : BothBad) (real : ℕ)
    → answer ≡ right → answer ≡ Err bad → None ≡ read_made right real at wanted
lost-told wanted at bad real is lost = rw (sym is ∙ lost) refl

-- one that takes a sound word
pub sound-told : (o : Trial) (v : Voted) (wanted : Wanted) (word : ℕ) → IfSome (read_of_wish wanted) (IsSoundAt o v word) → IsSome (read_of_wish wanted)
    → Some (record { wanted = wanted; word = word; repair = None }) ≡ exchange_made o v wanted
sound-told o v Nothing word sound read = absurd (true≢false (sym read))
sound-told o v (Fetch at) word sound read = read-told (Fetch at) at (record { word = word; repaired = None; switched = false }) refl sound.answer refl refl
sound-told o v (Operand at) word sound read = read-told (Operand at) at (record { word = word; repaired = None; switched = false }) refl sound.answer refl refl
sound-told o v (Store at other) word sound read = absurd (true≢false (sym read))
sound-told o v (PortRead port) word sound read = absurd (true≢false (sym read))
sound-told o v (PortWrite port other) word sound read = absurd (true≢false (sym read))

-- ---- a step

-- after an end nothing is made, and it is kept
ended-by : (end : Option Outcome) (mode : Mode) (o : Trial) (v : Voted) (e : Outcome) → end ≡ Some e → made_unless end mode o v ≡ None
ended-by end mode o v e is = rw is refl

nothing-told : (end : Option Outcome) → told_by end None ≡ None
nothing-told None = refl
nothing-told (Some Done) = refl
nothing-told (Some (Stopped step stop)) = refl
nothing-told (Some (Inadmissible w)) = refl
nothing-told (Some (Device step port)) = refl

-- nothing is told of a step after an end
pub told-ended : (o : Trial) (mode : Mode) (end now : Option Outcome) (v : Voted) (e : Outcome) → end ≡ Some e → end ≡ v.end
    → None ≡ told_by now (made_next mode o v)
told-ended o mode end now v e is same = sym (ap (told_by now) (ended-by v.end mode o v e (sym same ∙ is)) ∙ nothing-told now)

-- where no end has come, the next step makes what nothing is said against
goes-on : (end : Option Outcome) (mode : Mode) (o : Trial) (v : Voted) → end ≡ None
    → made_unless end mode o v ≡ made_if (verdict_of mode o (begin_step o v)) o (begin_step o v)
goes-on end mode o v none = rw none refl

-- nothing is made of a step that isn't admissible
refused : (w : Verdict) (o : Trial) (v : Voted) → w ≢ Admissible → made_if w o v ≡ None
refused Admissible o v bad = absurd (bad refl)
refused (Logic step m) o v bad = refl
refused (Memory step at) o v bad = refl

-- the state of a machine that runs is that of its run
pub running-state : (o : Trial) (mode : Mode) (r : Voted) (t : ℕ) (end : Option Outcome) → end ≡ None → state_from end mode o r t ≡ run_from mode o r t
running-state o mode r t end none = rw none refl

-- a step that is refused
pub told-judged : (o : Trial) (r : Voted) (t : ℕ) (m : View) (ds : List device.Device) (now : Option Outcome) (w : Verdict) → IsPrepared o r t m ds
    → w ≡ verdict_of m.mode o (begin_step o (run_from m.mode o r t)) → w ≢ Admissible
    → None ≡ told_by now (made_next m.mode o (run_from m.mode o r t))
told-judged o r t m ds now w h is bad =
    let v = run_from m.mode o r t in
    sym (ap (told_by now) (goes-on v.end m.mode o v h.going ∙ ap (λ x. made_if x o (begin_step o v)) (sym is) ∙ refused w o (begin_step o v) bad)
    ∙ nothing-told now)

-- by the end that an exchange leaves, which no failed device is
made-told : (end : Option Outcome) (before after : ℕ) (made : Option Made) → MadeAs end before after → told_by end made ≡ made
made-told None before after made is = refl
made-told (Some Done) before after made is = absurd is
made-told (Some (Stopped step stop)) before after made is = refl
made-told (Some (Inadmissible w)) before after made is = absurd is
made-told (Some (Device step port)) before after made is = absurd is

-- a step that is made
pub told-made : (o : Trial) (r : Voted) (t : ℕ) (m new : View) (ds : List device.Device) (w : Verdict) (x : Wanted) (made : Option Made)
    → IsPrepared o r t m ds → w ≡ verdict_of m.mode o (begin_step o (run_from m.mode o r t)) → w ≡ Admissible
    → x ≡ wished o (begin_step o (run_from m.mode o r t)) → made ≡ exchange_made o (begin_step o (run_from m.mode o r t)) x
    → MadeAs new.end m.steps new.steps → made ≡ told_by new.end (made_next m.mode o (run_from m.mode o r t))
told-made o r t m new ds w x made h is good wish-is made-is ends =
    let v = run_from m.mode o r t in
    let p = begin_step o v in
    let next : made_next m.mode o v ≡ made =
    goes-on v.end m.mode o v h.going ∙ ap (λ y. made_if y o p) (sym is ∙ good) ∙ ap (λ y. exchange_made o p y) (sym wish-is) ∙ sym made-is in
    sym (ap (told_by new.end) next ∙ made-told new.end m.steps new.steps made ends)

-- a step in which a device failed
pub told-failed : (end : Option Outcome) (step port : ℕ) (made : Option Made) → end ≡ Some (Device step port) → None ≡ told_by end made
told-failed end step port made is = rw is refl
