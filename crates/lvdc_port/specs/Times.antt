-- The time that a device was told with the last word that was written to it and that it took.
use Rattle.std.specs.Prelude.{ℕ, ◌==◌, if◌then◌else◌}
use Rattle.lvdc_port.specs.Causes.{never}
use Rattle.lvdc_port.specs.declared.requests.PortRequest.{PortRequest}
use Rattle.lvdc_port.specs.declared.requests.PortRequest.TheVariants.{Read, Write}

-- the time that a device has been told once it took a word at this time: this one, unless it never looks at the time of a write
abbrev pub told_at : ℕ → ℕ → ℕ
told_at time before = if before == never then never else time

-- the same once it has answered a request: a read tells it nothing
abbrev pub told_by : PortRequest → ℕ → ℕ → ℕ
told_by (Read port) time before = before
told_by (Write port word) time before = told_at time before
