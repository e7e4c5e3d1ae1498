-- What a machine says of a step is what the definitions say.
use Rattle.std.proofs.Common.{◌≡◌, ℕ, true, false, List, refl, sym, ap, subst, ◌∙◌}
use Rattle.std.specs.declared.option.Option.{Option}
use Rattle.std.specs.declared.option.Option.TheVariants.{None, Some}
use Rattle.lvdc_port.specs.Device as device
use Rattle.lvdc_map.specs.Address.{Spot}
use Rattle.lvdc_fault.specs.Script.{wrong_module}
use Rattle.lvdc_fault.specs.declared.event.Event.{Event}
use Rattle.lvdc_fault.specs.declared.verdict.Verdict.{Verdict}
use Rattle.lvdc_fault.specs.declared.verdict.Verdict.TheVariants.{Admissible, Logic, Memory}
use Rattle.lvdc_model.specs.Trial.{Trial}
use Rattle.lvdc_model.specs.Voted.{Voted}
use Rattle.lvdc_model.specs.Exchanges.{wished}
use Rattle.lvdc_model.specs.Runs.{own_verdict, own_logic, own_memory, recovers, read_of_wish}
use Rattle.lvdc_machine.specs.View.{View}
use Rattle.lvdc_machine.specs.Shows.{Shows}
use Rattle.lvdc_forces.specs.Parts.{IsRightAt}
use Rattle.lvdc_forces.specs.declared.known.Known.{Known}
use Rattle.lvdc_machine.specs.Sound.{KnowsForce}
use Rattle.lvdc_machine.specs.Steps.{IsSoundAt, IsFoundSound, IsRecovered}
use Rattle.std.specs.Prelude.{IfSome, Ok, is_some}
use Rattle.std.proofs.lemmas.Bool.{true≢false}
use Rattle.lvdc_map.specs.Memory as memory
use Rattle.lvdc_map.specs.Memory.{word_at}
use Rattle.lvdc_fault.specs.Recoverable.{is_recovered}
use Rattle.lvdc_model.specs.Known.{shows_since}
use Rattle.lvdc_model.specs.Twins.{Twins, read_answer}
use Rattle.lvdc_memory.specs.Holds.{IsMemoryOf}

-- the module that is found wrong
pub found-wrong : {o : Trial} {m : View} {ds : List device.Device} {v : Voted} → Shows o m ds v → (n : ℕ)
    → wrong_module m.script m.steps ≡ Some n → Logic m.steps n ≡ own_verdict o v
found-wrong {o = o} {v = v} h n e =
    let there : wrong_module o.script v.steps ≡ Some n = sym (λ i. wrong_module (h.script i) (h.steps i)) ∙ e in
    ap (λ step. Logic step n) h.steps ∙ sym (ap (λ w. own_logic o v w) there)

-- where none is, the address that is read is judged
pub found-none : {o : Trial} {m : View} {ds : List device.Device} {v : Voted} → Shows o m ds v → (w : Verdict) (at : Option Spot)
    → wrong_module m.script m.steps ≡ None → w ≡ own_memory o v at → at ≡ read_of_wish (wished o v) → w ≡ own_verdict o v
found-none {o = o} {v = v} h w at e is same =
    let there : wrong_module o.script v.steps ≡ None = sym (λ i. wrong_module (h.script i) (h.steps i)) ∙ e in
    is ∙ ap (λ a. own_memory o v a) same ∙ sym (ap (λ x. own_logic o v x) there)

-- what is said of an address by whether it can be recovered
pub found-good : (o : Trial) (v : Voted) (at : Spot) → true ≡ recovers o v at → Admissible ≡ own_memory o v (Some at)
found-good o v at e = rw (← e) refl

-- and where it can't
pub found-bad : (o : Trial) (v : Voted) (at : Spot) (step : ℕ) → step ≡ v.steps → false ≡ recovers o v at → Memory step at ≡ own_memory o v (Some at)
found-bad o v at step is e = rw (← e) (ap (λ s. Memory s at) is)

-- what is known of the copies is so in that step
pub known_then : (script : List Event) (last : Option ℕ) (steps : ℕ) (known : Known) → KnowsForce script last known → last ≡ Some steps → IsRightAt script steps known
known_then script last steps known knows is = subst (λ (l : Option ℕ). KnowsForce script l known) is knows

-- a sound word of the address that is to be read is one by every state that is shown
pub found-sound : (m : View) (found : Option ℕ) (at : Option Spot) (spot : Spot) → at ≡ Some spot → m.on_memory.last ≡ Some m.steps
    → IfSome found (λ word. (o : Trial) (in_force : Option ℕ) (t : Twins) (i : memory.Memory) → IsMemoryOf o in_force m.memory t i
    → is_recovered o.opening.banks spot (word_at i spot) (λ twin. shows_since in_force o t twin spot) ≡ true)
    → IfSome found (λ word. (o : Trial) (step : ℕ) (t : Twins) (i : memory.Memory) → IsMemoryOf o (Some step) m.memory t i
    → read_answer o step t spot ≡ Ok (record { word = word; repaired = None; switched = false }))
    → IsFoundSound m at found
found-sound m None at spot is begun recovered answer = tt
found-sound m (Some word) at spot is begun recovered answer = λ o v ds h.
    let holds = subst (λ (l : Option ℕ). IsMemoryOf o l m.memory v.twins v.intended) (begun ∙ ap Some h.steps) h.memory in
    subst (λ (a : Option Spot). IfSome a (IsSoundAt o v word)) (sym is)
    (record { recovered = recovered o (Some v.steps) v.twins v.intended holds; answer = answer o v.steps v.twins v.intended holds })

-- where one was found, the word can be recovered
pub sound-recovered : (m : View) (at : Option Spot) (found : Option ℕ) → IsFoundSound m at found → is_some found ≡ true → IsRecovered m at
sound-recovered m at None sound some = absurd (true≢false (sym some))
sound-recovered m None (Some word) sound some = λ o v ds h. tt
sound-recovered m (Some spot) (Some word) sound some = λ o v ds h. (sound o v ds h).recovered

-- what can be recovered, where anything is read, is admissible
pub found-recovered : (o : Trial) (v : Voted) (at : Option Spot) → IfSome at (λ spot. recovers o v spot ≡ true) → Admissible ≡ own_memory o v at
found-recovered o v None good = refl
found-recovered o v (Some spot) good = found-good o v spot (sym good)
