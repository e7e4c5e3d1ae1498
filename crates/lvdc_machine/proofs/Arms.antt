-- What a read and a store make of the state.
use Rattle.std.proofs.Common.{◌≡◌, ℕ, Bool, false, List, ◌++◌, refl, sym, ap, ◌∙◌, subst, append-nil}
use Rattle.std.proofs.lemmas.Bool.{true≢false}
use Rattle.std.specs.Prelude.{Result, Ok, Err, IfSome, IsSome}
use Rattle.std.specs.declared.option.Option.{Option}
use Rattle.std.specs.declared.option.Option.TheVariants.{None, Some}
use Rattle.lvdc_map.specs.Address.{Spot}
use Rattle.lvdc_port.specs.Device as device
use Rattle.lvdc_twin.specs.declared.both_bad.BothBad.{BothBad}
use Rattle.lvdc_twin.specs.declared.read_out.ReadOut.{ReadOut}
use Rattle.lvdc_plain.specs.declared.records.Stop.TheVariants as stops
use Rattle.lvdc_modules.specs.declared.wanted.Wanted.{Wanted}
use Rattle.lvdc_modules.specs.declared.wanted.Wanted.TheVariants.{Nothing, Fetch, Operand, Store, PortRead, PortWrite}
use Rattle.lvdc_model.specs.Exchanges.{latches, reading, exchanges, with_end, repair_by}
use Rattle.lvdc_model.specs.Runs.{read_of_wish}
use Rattle.lvdc_model.specs.Trial.{Trial}
use Rattle.lvdc_model.specs.Twins.{read_answer, after_read}
use Rattle.lvdc_model.specs.Voted.{Voted}
use Rattle.lvdc_model.specs.declared.outcome.Outcome.TheVariants.{Stopped}
use Rattle.lvdc_model.specs.declared.repair.Repair.{Repair}
use Rattle.lvdc_machine.specs.Shows.{Shows}
use Rattle.lvdc_machine.specs.Steps.{noted, noting, repair_noted, IsSoundAt}
use Rattle.lvdc_machine.specs.View.{View}

-- the optional repair of a machine is the list of one or none of the definition
repairs-noted : (repairs : List Repair) (twin : Option ℕ) (step : ℕ) (at : Spot) (switched : Bool)
    → noted repairs (repair_noted twin step at switched) ≡ repairs ++ repair_by twin step at switched
repairs-noted repairs None step at switched = sym (append-nil repairs)
repairs-noted repairs (Some twin) step at switched = refl

-- a read that found a word
pub shows-read : {o : Trial} {m : View} {ds : List device.Device} (v : Voted) (at : Spot) (answer : Result ReadOut BothBad) (r : ReadOut)
    (step : ℕ) (repair : Option Repair) → answer ≡ read_answer o v.steps v.twins at → answer ≡ Ok r → step ≡ v.steps
    → repair ≡ repair_noted r.repaired step at r.switched
    → Shows o m ds (latches o (noting (record v { twins = after_read o v.steps v.twins at r })
    (record { memory = r.word; port = 0; line = None; repair = repair })) r.word 0)
    → Shows o m ds (reading (read_answer o v.steps v.twins at) o v at)
shows-read {o = o} {m = m} {ds = ds} v at answer r step repair is found same noting-it h =
    let noted-it : noted v.repairs repair ≡ v.repairs ++ repair_by r.repaired v.steps at r.switched =
    ap (λ x. noted v.repairs x) noting-it ∙ ap (λ s. noted v.repairs (repair_noted r.repaired s at r.switched)) same
    ∙ repairs-noted v.repairs r.repaired v.steps at r.switched in
    subst (λ (a : Result ReadOut BothBad). Shows o m ds (reading a o v at)) (sym found ∙ is)
    (subst (λ (rs : List Repair). Shows o m ds (latches o (record v { twins = after_read o v.steps v.twins at r; repairs = rs }) r.word 0)) noted-it h)

-- a read that found none
pub shows-lost : {o : Trial} {m : View} {ds : List device.Device} (v : Voted) (at : Spot) (answer : Result ReadOut BothBad) (bad : BothBad)
    → answer ≡ read_answer o v.steps v.twins at → answer ≡ Err bad
    → Shows o m ds (with_end v (Stopped v.steps (stops.Memory at)))
    → Shows o m ds (reading (read_answer o v.steps v.twins at) o v at)
shows-lost {o = o} {m = m} {ds = ds} v at answer bad is lost h =
    subst (λ (a : Result ReadOut BothBad). Shows o m ds (reading a o v at)) (sym lost ∙ is) h

-- an exchange that takes a sound word is a read of its address
pub shows-sound : {o : Trial} {m : View} {ds : List device.Device} (v : Voted) (wanted : Wanted) (word : ℕ)
    → IfSome (read_of_wish wanted) (IsSoundAt o v word) → IsSome (read_of_wish wanted)
    → Shows o m ds (latches o (noting v (record { memory = word; port = 0; line = None; repair = None })) word 0)
    → Shows o m ds (exchanges o v wanted)
shows-sound v Nothing word sound read h = absurd (true≢false (sym read))
shows-sound v (Fetch at) word sound read h = shows-read v at _ (record { word = word; repaired = None; switched = false }) v.steps None refl sound.answer refl refl h
shows-sound v (Operand at) word sound read h = shows-read v at _ (record { word = word; repaired = None; switched = false }) v.steps None refl sound.answer refl refl h
shows-sound v (Store at other) word sound read h = absurd (true≢false (sym read))
shows-sound v (PortRead port) word sound read h = absurd (true≢false (sym read))
shows-sound v (PortWrite port other) word sound read h = absurd (true≢false (sym read))
