use Rattle.std.proofs.Common.{map}
use Rattle.lvdc_save_read.proofs.Soundness.{sound_made}
use Rattle.lvdc_save_read.proofs.reading.Reading.take_line.Goals as goal

pub returns-in-Some-clause-sound : goal.returns-in-Some-clause-sound
returns-in-Some-clause-sound g c =
    sound_made (map (λ b. (goal.PortDevice-dyn g (b.vtable, b.value)).device_of b.value) c.args.devices.now.items) c.args.number c.args.self.now c.take_entry.new.self c.in-Some.entry c.take_entry.result c.take_entry.ensures (rw c.in-Some.is at c.in_ok-entry.ensures.ranges)
