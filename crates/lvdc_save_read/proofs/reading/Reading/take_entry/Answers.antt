use Rattle.std.proofs.Common.{map, sym, ◌∙◌}
use Rattle.lvdc_save_read.proofs.Soundness.{stands, taken, unfit, without}
use Rattle.lvdc_save_read.proofs.reading.Reading.take_entry.Goals as goal

pub returns-then-not-fits : goal.returns-then-not-fits
returns-then-not-fits g c = λ _.
    unfit (map (λ b. (goal.PortDevice-dyn g (b.vtable, b.value)).device_of b.value) c.args.devices.now.items) c.args.number c.args.self.now c.args.entry
    (sym c.fits.ensures.value ∙ c.if-not-fits.true)

pub returns-in-Some : goal.returns-in-Some
returns-in-Some g c = λ _.
    without (map (λ b. (goal.PortDevice-dyn g (b.vtable, b.value)).device_of b.value) c.args.devices.now.items) c.args.number c.in-Some.line c.args.self.now c.args.entry
    (sym c.fits.ensures.value ∙ c.if-not-fits.false) (sym c.lacking.ensures ∙ c.in-Some.is)

pub least_after-least-requires : goal.least_after-least-requires
least_after-least-requires g c = c.fits.ensures.next c.if-not-fits.false

pub add-requires : goal.add-requires
add-requires g c = (stands c.args.self.now c.args.entry (sym c.fits.ensures.value ∙ c.if-not-fits.false)).agreed

pub returns : goal.returns
returns g c =
    taken (map (λ b. (goal.PortDevice-dyn g (b.vtable, b.value)).device_of b.value) c.args.devices.now.items) c.args.number c.least_after-least.result c.args.self.now _ c.args.entry
    c.section_of-section.result (sym c.fits.ensures.value ∙ c.if-not-fits.false) (sym c.lacking.ensures ∙ c.in_default.is) (c.self.view_is ∙ c.in_ok-add.ensures)
    c.section_of-section.ensures c.least_after-least.ensures
