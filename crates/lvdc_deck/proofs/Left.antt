-- The kind of the device that is left at a port.
use Rattle.std.proofs.Common.{◌≡◌, ℕ, Bool, false, List, map, Option, None, sym, subst, ◌∙◌}
use Rattle.std.specs.Bool.{if◌then◌else◌}
use Rattle.lvdc_port.specs.Device.{Device}
use Rattle.lvdc_port.specs.Supplies.{kind_at}
use Rattle.lvdc_port.specs.declared.device.Kind.{Kind}
use Rattle.lvdc_port.proofs.Supplied.{kind-map}
use Rattle.lvdc_deck.specs.Sections.{Sections, is_unplugged, kind_left}

-- it is that of the box there, where no line unplugs the port
pub kind_left-at : {B : Type 0} (device_of : B → Device) (bs : List B) (s : Sections) (port : ℕ) (kind : Option Kind) →
    is_unplugged s port ≡ false → kind ≡ kind_at device_of port bs → kind ≡ kind_left (map device_of bs) s port
kind_left-at device_of bs s port kind plugged is =
    subst (λ (t : Bool). kind ≡ (if t then None else kind_at (λ (d : Device). d) port (map device_of bs))) (sym plugged) (is ∙ kind-map device_of port bs)
