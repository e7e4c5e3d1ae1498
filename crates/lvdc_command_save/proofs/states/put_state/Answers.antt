use Rattle.std.proofs.Common.{sym, ap, ◌∙◌, ◌++◌}
use Rattle.std.proofs.lemmas.Bool.{eq-eqb, ne_eqb}
use Rattle.std.proofs.lemmas.Result.{on_ok_weaker}
use Rattle.std.proofs.lemmas.List.{append-nil}
use Rattle.lvdc_command_save.proofs.HeldWords.{device-added, device-here, device-more, device-none}
use Rattle.lvdc_command_save.proofs.states.put_state.Goals as goal

pub loop-device-preserved : goal.loop-device-preserved
loop-device-preserved g c = record {
  kept = c.loop-device.invariant.kept;
  rest = device-more _ c.args.port c.args.devices.now c.loop-device.device-index c.device-item.result _ c.loop-device.invariant.rest c.loop-device-test.true
      c.device-item.is (ne_eqb _ c.args.port (λ e. c.if-port_of-port.false (c.port_of.ensures ∙ e)));
}

pub returns-then-port_of-port : goal.returns-then-port_of-port
returns-then-port_of-port g c =
    on_ok_weaker c.put_words.result
    (device-added c.args.states.now.items c.loop-device.states.items c.put_words.new.states.items _ _ c.loop-device.invariant.kept
    (device-here _ c.args.port c.args.devices.now c.loop-device.device-index c.device-item.result _ c.loop-device.invariant.rest c.loop-device-test.true
    c.device-item.is (eq-eqb _ c.args.port (sym c.port_of.ensures ∙ c.if-port_of-port.true))))
    c.put_words.ensures

pub returns : goal.returns
returns g c =
    c.loop-device.invariant.kept ∙ sym (append-nil c.args.states.now.items)
    ∙ ap (λ ss. c.args.states.now.items ++ ss)
    (sym (device-none _ c.args.port c.args.devices.now c.loop-device.device-index _ c.loop-device.invariant.rest c.loop-device-test.false))
