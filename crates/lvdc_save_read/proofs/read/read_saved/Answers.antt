use Rattle.std.proofs.Common.{map, sym, ap, ◌∙◌, refl, subst}
use Rattle.lvdc_text.specs.Lines.{numbered}
use Rattle.lvdc_save.specs.Reading.{Progress, told_from}
use Rattle.lvdc_save_read.specs.Sound.{IsSoundProgress}
use Rattle.lvdc_save_read.proofs.Soundness.{sound_first}
use Rattle.lvdc_save_read.proofs.ReadingLines.{no_line, told-more, told-bad, told-done, saved-done, saved-bad, ok_of, err_of}
use Rattle.lvdc_save_read.proofs.Fitting.{result-fits}
use Rattle.lvdc_save_read.proofs.read.read_saved.Goals as goal

pub loop-line-init : goal.loop-line-init
loop-line-init g c = record {
  told = ap (λ (r : Progress). told_from (map (λ b. (goal.PortDevice-dyn g (b.vtable, b.value)).device_of b.value) c.args.devices.now.items) r (numbered c.args.bytes.now c.as_slice-all.result.now)) c.new-reading.ensures;
  sound = subst IsSoundProgress (sym c.new-reading.ensures) sound_first;
}

pub loop-line-preserved : goal.loop-line-preserved
loop-line-preserved g c = record {
  told = told-more (map (λ b. (goal.PortDevice-dyn g (b.vtable, b.value)).device_of b.value) c.args.devices.now.items) c.args.bytes.now c.loop-line.reading c.as_slice-all.result.now c.loop-line.line-index no_line _ c.loop-line.invariant.told c.loop-line-test.true
      c.take_line.new.self (rw c.part.ensures at c.in-Ok.ensures.made);
  sound = c.in-Ok.ensures.sound c.loop-line.invariant.sound;
}

pub returns-in-Err-clause-refusal : goal.returns-in-Err-clause-refusal
returns-in-Err-clause-refusal g c =
    λ known. saved-bad (map (λ b. (goal.PortDevice-dyn g (b.vtable, b.value)).device_of b.value) c.args.devices.now.items) c.args.bytes.now c.as_slice-all.result.now c.in-Err.fault (c.as_slice-all.ensures.value ∙ c.in_ok-found.ensures.lines)
    (told-bad (map (λ b. (goal.PortDevice-dyn g (b.vtable, b.value)).device_of b.value) c.args.devices.now.items) c.args.bytes.now c.loop-line.reading c.as_slice-all.result.now c.loop-line.line-index no_line _ c.loop-line.invariant.told c.loop-line-test.true c.in-Err.fault
    ((rw c.part.ensures at c.in-Err.ensures.made) known))

pub into_saved-requires : goal.into_saved-requires
into_saved-requires g c = c.loop-line.invariant.sound

pub returns-clause-saved : goal.returns-clause-saved
returns-clause-saved g c =
    ok_of c.into_saved.result _
    (saved-done (map (λ b. (goal.PortDevice-dyn g (b.vtable, b.value)).device_of b.value) c.args.devices.now.items) c.args.bytes.now c.as_slice-all.result.now _ c.loop-line.reading c.into_saved.result (c.as_slice-all.ensures.value ∙ c.in_ok-found.ensures.lines) refl
    (told-done (map (λ b. (goal.PortDevice-dyn g (b.vtable, b.value)).device_of b.value) c.args.devices.now.items) c.args.bytes.now c.loop-line.reading c.as_slice-all.result.now c.loop-line.line-index no_line _ c.loop-line.invariant.told c.loop-line-test.false) c.into_saved.ensures.saved)

pub returns-clause-refusal : goal.returns-clause-refusal
returns-clause-refusal g c =
    err_of c.into_saved.result _
    (saved-done (map (λ b. (goal.PortDevice-dyn g (b.vtable, b.value)).device_of b.value) c.args.devices.now.items) c.args.bytes.now c.as_slice-all.result.now _ c.loop-line.reading c.into_saved.result (c.as_slice-all.ensures.value ∙ c.in_ok-found.ensures.lines) refl
    (told-done (map (λ b. (goal.PortDevice-dyn g (b.vtable, b.value)).device_of b.value) c.args.devices.now.items) c.args.bytes.now c.loop-line.reading c.as_slice-all.result.now c.loop-line.line-index no_line _ c.loop-line.invariant.told c.loop-line-test.false) c.into_saved.ensures.saved)

pub returns-clause-fits : goal.returns-clause-fits
returns-clause-fits g c =
    result-fits (map (λ b. (goal.PortDevice-dyn g (b.vtable, b.value)).device_of b.value) c.args.devices.now.items) c.args.bytes.now c.into_saved.result (returns-clause-saved g c)
