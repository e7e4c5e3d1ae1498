use Rattle.std.proofs.Common.{◌/◌, refl, ap, ◌∙◌}
use Rattle.std.proofs.lemmas.Result.{on_ok_weaker}
use Rattle.lvdc_port.specs.Supplies.{ports_of}
use Rattle.lvdc_command_resume.proofs.Unplugged.{distinct-left}
use Rattle.lvdc_command_resume.proofs.Taking.{distinct-given, since-same, since-both, refused-since, left-same, if_err_weaker, taken-none}
use Rattle.lvdc_command_resume.proofs.Told.{were-since, on-ok-two}
use Rattle.lvdc_command_resume.proofs.restore.restore_devices.Goals as goal

pub returns-in-Ok-clause-distinct : goal.returns-in-Ok-clause-distinct
returns-in-Ok-clause-distinct g c =
    on_ok_weaker c.give_words.result
    (distinct-given _ c.args.saved.now.states c.prepare_all.new.devices.items c.give_words.new.devices.items _
    (c.in-Ok.ensures.devices ∙ c.unplug_before.ensures.left) (distinct-left c.items.result.now (c.args.saved.now.snapshot.steps / 3) _ c.requires.distinct))
    c.give_words.ensures.ok

pub returns-in-Ok-clause-since : goal.returns-in-Ok-clause-since
returns-in-Ok-clause-since g c =
    on_ok_weaker c.give_words.result
    (since-both (since-both c.unplug_before.ensures.since (since-same _ _ _ _ (ap ports_of c.in-Ok.ensures.devices) c.in-Ok.ensures.faults)))
    c.give_words.ensures.since

pub returns-in-Ok-clause-refused : goal.returns-in-Ok-clause-refused
returns-in-Ok-clause-refused g c =
    if_err_weaker c.give_words.result _ _
    (λ e. refused-since _ _ c.args.saved.now.states c.args.saved.now.states _ e c.args.devices.now.items c.prepare_all.new.devices.items
    c.give_words.new.devices.items refl
    (since-both c.unplug_before.ensures.since (since-same _ _ _ _ (ap ports_of c.in-Ok.ensures.devices) c.in-Ok.ensures.faults))
    (left-same c.args.saved.now.unplugs _ (c.args.saved.now.snapshot.steps / 3) _ _ c.items.ensures (c.in-Ok.ensures.devices ∙ c.unplug_before.ensures.left)))
    c.give_words.ensures.refused

pub returns-in-Err-clause-refused : goal.returns-in-Err-clause-refused
returns-in-Err-clause-refused g c = (
  taken-none c.args.saved.now.states _ _
      (left-same c.args.saved.now.unplugs _ (c.args.saved.now.snapshot.steps / 3) _ _ c.items.ensures (c.in-Err.ensures.devices ∙ c.unplug_before.ensures.left)),
  (since-both c.unplug_before.ensures.since (since-same _ _ _ _ (ap ports_of c.in-Err.ensures.devices) c.in-Err.ensures.faults)).counts,
)

pub returns-in-Ok-clause-told : goal.returns-in-Ok-clause-told
returns-in-Ok-clause-told g c =
    on-ok-two c.give_words.result
    (λ since were. were-since _ _ _ _ c.args.saved.now.states c.args.saved.now.states c.args.devices.now.items c.prepare_all.new.devices.items c.give_words.new.devices.items
    c.word_of_time.ensures refl
    (since-both c.unplug_before.ensures.told (since-same _ _ _ _ (ap ports_of c.in-Ok.ensures.devices) c.in-Ok.ensures.told)) since.left were)
    c.give_words.ensures.since c.give_words.ensures.told
