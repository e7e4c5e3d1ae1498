use Rattle.std.proofs.Common.{◌≤◌, subst, arith}
use Rattle.lvdc_port.specs.Device.{Device, AreWords}
use Rattle.lvdc_port.specs.Supplies.{HasRecorder}
use Rattle.lvdc_port.proofs.Supplied.{has_recorder}
use Rattle.lvdc_port.proofs.OneByOne.{all_more, all_done, all_mapped, kept_set}
use Rattle.lvdc_port.proofs.requests.prepare_each.Goals as goal

pub returns-in-Err-clause-devices : goal.returns-in-Err-clause-devices
returns-in-Err-clause-devices g c =
    kept_set c.loop-device.devices (λ b. (goal.PortDevice-dyn g (b.vtable, b.value)).device_of b.value) _ c.device-item.result _ _ c.prepare.ensures.device c.loop-device.invariant.devices

pub returns-in-Err-clause-faults : goal.returns-in-Err-clause-faults
returns-in-Err-clause-faults g c =
    kept_set c.loop-device.devices (λ b. (goal.PortDevice-dyn g (b.vtable, b.value)).faults b.value) _ c.device-item.result _ _ c.prepare.ensures.faults c.loop-device.invariant.faults

pub returns-in-Err-clause-told : goal.returns-in-Err-clause-told
returns-in-Err-clause-told g c =
    kept_set c.loop-device.devices (λ b. (goal.PortDevice-dyn g (b.vtable, b.value)).told b.value) _ c.device-item.result _ _ c.prepare.ensures.told c.loop-device.invariant.told

pub returns-in-Err-clause-want : goal.returns-in-Err-clause-want
returns-in-Err-clause-want g c =
    subst HasRecorder c.loop-device.invariant.devices
    (has_recorder (λ b. (goal.PortDevice-dyn g (b.vtable, b.value)).device_of b.value) c.loop-device.devices _ c.device-item.result (omega (arith, c.loop-device.auto.devices)) c.in-Err.ensures.want)

pub loop-device-preserved : goal.loop-device-preserved
loop-device-preserved g c = record {
  devices = kept_set c.loop-device.devices (λ b. (goal.PortDevice-dyn g (b.vtable, b.value)).device_of b.value) _ c.device-item.result _ _ c.prepare.ensures.device c.loop-device.invariant.devices;
  faults = kept_set c.loop-device.devices (λ b. (goal.PortDevice-dyn g (b.vtable, b.value)).faults b.value) _ c.device-item.result _ _ c.prepare.ensures.faults c.loop-device.invariant.faults;
  told = kept_set c.loop-device.devices (λ b. (goal.PortDevice-dyn g (b.vtable, b.value)).told b.value) _ c.device-item.result _ _ c.prepare.ensures.told c.loop-device.invariant.told;
  room = all_more (λ b. c.args.writes ≤ (goal.PortDevice-dyn g (b.vtable, b.value)).spare b.value) c.loop-device.devices _ _ (omega (arith, c.loop-device.auto.devices)) c.in-Ok.ensures.ok c.loop-device.invariant.room;
  words = all_more (λ b. AreWords ((goal.PortDevice-dyn g (b.vtable, b.value)).device_of b.value).state) c.loop-device.devices _ _ (omega (arith, c.loop-device.auto.devices)) c.prepare.ensures.words c.loop-device.invariant.words;
}

pub returns-clause-ok : goal.returns-clause-ok
returns-clause-ok g c =
    all_done (λ b. c.args.writes ≤ (goal.PortDevice-dyn g (b.vtable, b.value)).spare b.value) c.loop-device.devices _ (omega (arith, c.loop-device.auto.devices)) c.loop-device.invariant.room

pub returns-clause-words : goal.returns-clause-words
returns-clause-words g c =
    all_mapped (λ (d : Device). AreWords d.state) (λ b. (goal.PortDevice-dyn g (b.vtable, b.value)).device_of b.value) c.loop-device.devices _ (omega (arith, c.loop-device.auto.devices)) c.loop-device.invariant.words
