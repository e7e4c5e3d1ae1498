-- How a command is answered over devices that may fail.
use Rattle.std.specs.Prelude.{◌≡◌, ℕ, ◌≢◌, ◌⊎◌, true, List}
use Rattle.lvdc_port.specs.Causes.{Rose}
use Rattle.lvdc_port.specs.Device.{Device}
use Rattle.lvdc_port.specs.Devices.{has_port, count_at}
use Rattle.lvdc_reply.specs.Answer.{Answer}

-- ---- the devices' counts of faults

-- no count has grown of a device that is left
abbrev pub Quiet : {B : Type 0} → (B → Device) → (B → ℕ) → List B → List B → Type 0
Quiet device_of faults old new =
    (port : ℕ) → has_port device_of port new ≡ true → count_at device_of faults port new ≡ count_at device_of faults port old

-- the count of the device at this port has risen
abbrev pub RoseAt : {B : Type 0} → (B → Device) → (B → ℕ) → ℕ → List B → List B → Type 0
RoseAt device_of faults port old new = Rose (count_at device_of faults port old) (count_at device_of faults port new)

-- no count has grown of a device that is left, but for the one at this port
abbrev pub OthersQuiet : {B : Type 0} → (B → Device) → (B → ℕ) → ℕ → List B → List B → Type 0
OthersQuiet device_of faults port old new =
    (other : ℕ) → other ≢ port → has_port device_of other new ≡ true → count_at device_of faults other new ≡ count_at device_of faults other old

-- ---- statuses

-- the input was refused: its deck, its source or its image
abbrev pub IsRefused : ℕ → Type 0
IsRefused status = (status ≡ 2) ⊎ (status ≡ 3) ⊎ (status ≡ 4)

-- a status that a command comes to by itself, where no device fails: it has done what was asked, its input was refused, a step
-- was inadmissible, or the machine stopped
abbrev pub IsUnfailed : ℕ → Type 0
IsUnfailed status = (status ≡ 0) ⊎ (status ≡ 2) ⊎ (status ≡ 3) ⊎ (status ≡ 4) ⊎ (status ≡ 5) ⊎ (status ≡ 6)

-- ---- the answer

-- How a command is answered over these devices, before and after: with the answer that is due where no device fails; or a device
-- failed in an exchange, and an answer is due that says so. `Fails step port` are those answers for the exchange of a step with a
-- port.
pub data IsReply {B : Type 0} (device_of : B → Device) (faults : B → ℕ) (due : Answer) (Fails : ℕ → ℕ → Answer → Type 0) (old new : List B) : Answer → Type 0 where
  -- no count has grown, and after a refusal the devices are the same objects as before
  answered : IsUnfailed due.status → (IsRefused due.status → new ≡ old) → Quiet device_of faults old new
      → IsReply device_of faults due Fails old new due
  -- the count of the device at this port has risen, and that of no other that is left
  failed : (step port : ℕ) (reply : Answer) → Fails step port reply → reply.status ≡ 10 → RoseAt device_of faults port old new
      → OthersQuiet device_of faults port old new → IsReply device_of faults due Fails old new reply
