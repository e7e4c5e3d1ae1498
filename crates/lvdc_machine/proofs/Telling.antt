-- What is told of a word.
use Rattle.std.proofs.Common.{◌≡◌, ℕ, Bool, true, false, List, refl, ap, ◌∙◌}
use Rattle.std.specs.declared.option.Option.{Option}
use Rattle.lvdc_map.specs.Address.{Spot}
use Rattle.lvdc_map.specs.Memory.{word_at}
use Rattle.lvdc_port.specs.Device as device
use Rattle.lvdc_fault.specs.Recoverable.{is_recovered}
use Rattle.lvdc_model.specs.Known.{last_begun, shows_since, is_known}
use Rattle.lvdc_model.specs.Trial.{Trial}
use Rattle.lvdc_model.specs.Voted.{Voted}
use Rattle.lvdc_machine.specs.declared.shown.Shown.TheVariants.{Known, Unknown}
use Rattle.lvdc_machine.specs.Shows.{Shows}
use Rattle.lvdc_machine.specs.Stands.{shown_by}
use Rattle.lvdc_machine.specs.View.{View}

-- what can be recovered by what is in force can be told
pub known-is : {o : Trial} {m : View} {ds : List device.Device} {v : Voted} → Shows o m ds v → (at : Spot) (b : Bool)
    → m.on_memory.last ≡ last_begun m.end m.steps
    → b ≡ is_recovered o.opening.banks at (word_at v.intended at) (λ twin. shows_since m.on_memory.last o v.twins twin at) → b ≡ is_known o v at
known-is {o = o} {m = m} {v = v} s at b begun is =
    let same : m.on_memory.last ≡ last_begun v.end v.steps = begun ∙ (λ i. last_begun (s.end i) (s.steps i)) in
    is ∙ ap (λ (l : Option ℕ). is_recovered o.opening.banks at (word_at v.intended at) (λ twin. shows_since l o v.twins twin at)) same

-- a word that is known is told
pub shown-known : (known : Bool) (word x : ℕ) → true ≡ known → x ≡ word → Known x ≡ shown_by known word
shown-known known word x is same = rw (← is) (ap Known same)

-- and one that isn't, isn't
pub shown-unknown : (known : Bool) (word : ℕ) → false ≡ known → Unknown ≡ shown_by known word
shown-unknown known word is = rw (← is) refl
