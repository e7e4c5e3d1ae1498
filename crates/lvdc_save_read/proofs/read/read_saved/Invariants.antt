use Rattle.std.proofs.Common.{◌≡◌, map, drop}
use Rattle.lvdc_text.specs.Lines.{numbered}
use Rattle.lvdc_save.specs.Reading.{nothing_said, told_from}
use Rattle.lvdc_save_read.specs.Sound.{IsSoundProgress}
use Rattle.lvdc_save_read.proofs.read.read_saved.Given as goal

abbrev pub invariant-loop-line : goal.invariant-loop-line
invariant-loop-line g l = record {
  told :
      told_from (map (λ b. (goal.PortDevice-dyn g (b.vtable, b.value)).device_of b.value) l.fn.devices.items) l.reading (numbered l.bytes (drop l.line-index l.all))
      ≡ told_from (map (λ b. (goal.PortDevice-dyn g (b.vtable, b.value)).device_of b.value) l.fn.devices.items) nothing_said (numbered l.bytes l.all);
  sound : IsSoundProgress l.reading;
}
