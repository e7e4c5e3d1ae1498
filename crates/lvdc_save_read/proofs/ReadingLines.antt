-- Lines read one after the other.
use Rattle.std.proofs.Common.{◌≡◌, ◌≢◌, IfOk, IfErr, ℕ, ◌+◌, ◌<◌, ◌≤◌, List, length, get_or, drop, Result, Ok, Err, sym, ap, ◌∙◌}
use Rattle.std.proofs.lemmas.List.{drop_more, drop_all, length-map}
use Rattle.lvdc_text.specs.declared.cutting.Line.{Line}
use Rattle.lvdc_text.specs.Lines.{lines_of, part_of, numbered, numbered_line}
use Rattle.lvdc_port.specs.Device.{Device}
use Rattle.lvdc_save.specs.declared.fault.SaveFault.{SaveFault}
use Rattle.lvdc_save.specs.declared.fault.SaveFault.TheVariants.{NoMemory as WantsMemory}
use Rattle.lvdc_save.specs.declared.saved.Saved.{Saved}
use Rattle.lvdc_save.specs.Entries.{entry_of}
use Rattle.lvdc_save.specs.Reading.{Progress, nothing_said, by_entry, and_then, told_from, whole_of, saved_of}

-- what an index past the end reads
abbrev pub no_line : Line
no_line = record { number = 0; start = 0; end = 0 }

module _ (devices : List Device) (bytes : List ℕ) (s : Progress) (lines : List Line) (i : ℕ) (d : Line) (total : Result Progress SaveFault)
    (so_far : told_from devices s (numbered bytes (drop i lines)) ≡ total) where
  by_after : i < length lines → (after : Result Progress SaveFault) →
      by_entry devices (get_or lines i d).number s (entry_of (part_of bytes (get_or lines i d))) ≡ after →
      and_then after (λ t. told_from devices t (numbered bytes (drop (i + 1) lines))) ≡ total
  unfolding told_from
  by_after within after is =
      ap (λ (r : Result Progress SaveFault). and_then r (λ t. told_from devices t (numbered bytes (drop (i + 1) lines)))) (sym is)
      ∙ ap (λ (ls : List Line). told_from devices s (numbered bytes ls)) (sym (drop_more lines i d within)) ∙ so_far

  pub told-more : i < length lines → (t : Progress) → by_entry devices (get_or lines i d).number s (entry_of (part_of bytes (get_or lines i d))) ≡ Ok t →
      told_from devices t (numbered bytes (drop (i + 1) lines)) ≡ total
  told-more within t is = by_after within (Ok t) is

  pub told-bad : i < length lines → (fault : SaveFault) →
      by_entry devices (get_or lines i d).number s (entry_of (part_of bytes (get_or lines i d))) ≡ Err fault → total ≡ Err fault
  told-bad within fault is = sym (by_after within (Err fault) is)

  pub told-done : length lines ≤ i → total ≡ Ok s
  unfolding told_from
  told-done all = sym so_far ∙ ap (λ (ls : List Line). told_from devices s (numbered bytes ls)) (drop_all i lines all)

-- all lines were read, or one was refused
pub saved-done : (devices : List Device) (bytes : List ℕ) (lines : List Line) (next : ℕ) (s : Progress) (due : Result Saved SaveFault)
    → lines ≡ lines_of bytes → next ≡ length lines + 1 → told_from devices nothing_said (numbered bytes lines) ≡ Ok s → due ≡ whole_of next s
    → saved_of devices bytes ≡ due
saved-done devices bytes lines next s due are n told is =
    let from : told_from devices nothing_said (numbered bytes (lines_of bytes)) ≡ Ok s = ap (λ (ls : List Line). told_from devices nothing_said (numbered bytes ls)) (sym are) ∙ told in
    let count : length (numbered bytes (lines_of bytes)) + 1 ≡ next = ap (λ n. n + 1) (length-map (lines_of bytes) (numbered_line bytes) ∙ ap length (sym are)) ∙ sym n in
    ap (λ (r : Result Progress SaveFault). and_then r (whole_of (length (numbered bytes (lines_of bytes)) + 1))) from
    ∙ ap (λ (m : ℕ). whole_of m s) count ∙ sym is

pub saved-bad : (devices : List Device) (bytes : List ℕ) (lines : List Line) (fault : SaveFault)
    → lines ≡ lines_of bytes → told_from devices nothing_said (numbered bytes lines) ≡ Err fault → saved_of devices bytes ≡ Err fault
saved-bad devices bytes lines fault are told =
    ap (λ (r : Result Progress SaveFault). and_then r (whole_of (length (numbered bytes (lines_of bytes)) + 1)))
    (ap (λ (ls : List Line). told_from devices nothing_said (numbered bytes ls)) (sym are) ∙ told)

-- what a call that answers this is told to be
pub ok_of : (due : Result Saved SaveFault) (total : Result Saved SaveFault) → total ≡ due → IfOk due (λ saved. total ≡ Ok saved)
ok_of (Ok saved) total e = e
ok_of (Err fault) total e = tt

pub err_of : (due : Result Saved SaveFault) (total : Result Saved SaveFault) → total ≡ due → IfErr due (λ fault. fault ≢ WantsMemory → total ≡ Err fault)
err_of (Ok saved) total e = tt
err_of (Err fault) total e = λ known. e
