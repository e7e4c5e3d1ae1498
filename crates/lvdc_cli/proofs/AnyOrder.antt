-- A saved text means the same over devices in any order.
use Rattle.std.proofs.Common.{◌≡◌, ℕ, ◌+◌, List, [], ◌∷◌, length, Option, None, Some, Result, Ok, Err, refl, ap, ◌∙◌, if◌then◌else◌}
use Rattle.lvdc_text.specs.Lines.{NumberedLine, numbered, lines_of}
use Rattle.lvdc_port.specs.Device.{Device}
use Rattle.lvdc_port.specs.declared.device.Kind.{Kind}
use Rattle.lvdc_save.specs.declared.entry.Entry.{Entry}
use Rattle.lvdc_save.specs.declared.entry.Entry.TheVariants as says
use Rattle.lvdc_save.specs.declared.fault.SaveFault.{SaveFault}
use Rattle.lvdc_save.specs.declared.fault.SaveFault.TheVariants.{BadSave}
use Rattle.lvdc_save.specs.Entries.{entry_of}
use Rattle.lvdc_save.specs.Reading.{Progress, nothing_said, section_of, holds_one, least_after, without_words, without_device, lacking, fits, adds, by_lack, after_entry, by_entry, after_line, and_then, told_from, whole_of, saved_of}
use Rattle.lvdc_command_resume.specs.Reordered.{AreReordered}
use Rattle.lvdc_command_resume.proofs.InAnyOrder.{kind-reordered}

module _ (old new : List Device) (re : AreReordered old new) where
  least-same : (e : Entry) → least_after new e ≡ least_after old e
  least-same says.Title = refl
  least-same (says.Steps steps) = refl
  least-same (says.Count count) = refl
  least-same (says.Simplex banks) = refl
  least-same (says.Copy copy) = refl
  least-same (says.Select twins) = refl
  least-same (says.Cell held) = refl
  least-same (says.Word placed) = refl
  least-same (says.Exchange exchange) = refl
  least-same (says.Repair repair) = refl
  least-same (says.State supply) =
      ap (λ (kind : Option Kind). if holds_one kind then supply.port + 1 else supply.port) (kind-reordered supply.port old new re)
  least-same (says.Unplug unplug) = refl
  least-same (says.Fault event) = refl
  least-same (says.Order order) = refl
  least-same says.End = refl

  lacking-same : (number : ℕ) (r : Progress) (e : Entry) → lacking new number r e ≡ lacking old number r e
  lacking-same number r says.Title = refl
  lacking-same number r (says.Steps steps) = refl
  lacking-same number r (says.Count count) = refl
  lacking-same number r (says.Simplex banks) = refl
  lacking-same number r (says.Copy copy) = refl
  lacking-same number r (says.Select twins) = refl
  lacking-same number r (says.Cell held) = refl
  lacking-same number r (says.Word placed) = refl
  lacking-same number r (says.Exchange exchange) = refl
  lacking-same number r (says.Repair repair) = refl
  lacking-same number r (says.State supply) = ap (without_words number) (kind-reordered supply.port old new re)
  lacking-same number r (says.Unplug unplug) = ap (without_device number r unplug) (kind-reordered unplug.port old new re)
  lacking-same number r (says.Fault event) = refl
  lacking-same number r (says.Order order) = refl
  lacking-same number r says.End = refl

  by_lack-same : (number : ℕ) (r : Progress) (e : Entry) (lack : Option ℕ) → by_lack new number r e lack ≡ by_lack old number r e lack
  by_lack-same number r e None = ap (λ (least : ℕ). Ok (record (adds number r e) { section = section_of e; least = least })) (least-same e)
  by_lack-same number r e (Some line) = refl

  entry-same : (number : ℕ) (r : Progress) (e : Entry) → after_entry new number r e ≡ after_entry old number r e
  entry-same number r e =
      ap (λ (lack : Option ℕ). if fits r e then by_lack new number r e lack else Err (BadSave number)) (lacking-same number r e)
      ∙ ap (λ (made : Result Progress SaveFault). if fits r e then made else Err (BadSave number)) (by_lack-same number r e (lacking old number r e))

  said-same : (number : ℕ) (r : Progress) (said : Option Entry) → by_entry new number r said ≡ by_entry old number r said
  said-same number r None = refl
  said-same number r (Some e) = entry-same number r e

  then-same : (made : Result Progress SaveFault) (lines : List NumberedLine) → ((s : Progress) → told_from new s lines ≡ told_from old s lines)
      → and_then made (λ s. told_from new s lines) ≡ and_then made (λ s. told_from old s lines)
  then-same (Ok s) lines later = later s
  then-same (Err fault) lines later = refl

  told-same : (lines : List NumberedLine) (r : Progress) → told_from new r lines ≡ told_from old r lines
  unfolding told_from
  told-same [] r = refl
  told-same (line ∷ lines) r =
      ap (λ (made : Result Progress SaveFault). and_then made (λ s. told_from new s lines)) (said-same line.number r (entry_of line.text))
      ∙ then-same (after_line old r line) lines (told-same lines)

  pub saved-same : (bytes : List ℕ) → saved_of new bytes ≡ saved_of old bytes
  saved-same bytes =
      let lines : List NumberedLine = numbered bytes (lines_of bytes) in
      ap (λ (told : Result Progress SaveFault). and_then told (whole_of (length lines + 1))) (told-same lines nothing_said)
