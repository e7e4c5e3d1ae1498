-- A whole snapshot that means a state is the snapshot of it.
use Rattle.std.proofs.Common.{◌≡◌, ℕ, All, sym, ap, ◌∙◌}
use Rattle.std.specs.List.{concat}
use Rattle.lvdc_map.specs.Address.{IsAddress}
use Rattle.lvdc_model.specs.Voted.{Voted}
use Rattle.lvdc_snapshot.specs.Snapshot.{IsWhole, Means}
use Rattle.lvdc_snapshot.specs.declared.snapshot.Snapshot.{Snapshot}
use Rattle.lvdc_command_save.specs.Snapshots.{latches_in, snapshot_of}
use Rattle.lvdc_command_save.proofs.Listed.{latches_listed, counts_listed}
use Rattle.lvdc_command_save.proofs.Cells.{cells_rise, cells_left}
use Rattle.lvdc_command_save.proofs.Words.{words_rise, words_left}

pub snapshot_is : (s : Snapshot) (banks : ℕ) (v : Voted) → IsWhole s → Means s v → All (λ p. IsAddress p.at) s.words → s.banks ≡ banks
    → s ≡ snapshot_of banks v
snapshot_is s banks v w m addresses b =
    let steps = m.steps in
    let latches = sym (latches_listed s.latches w.latches) ∙ ap latches_in (sym m.copies) in
    let counts = sym (counts_listed s.differed w.counts) ∙ ap concat (sym m.counts) in
    let selected = m.selected in
    let cells = cells_left v.twins s.cells (cells_rise s.cells w.cells_rise) w.places m.cells w.cells_differ in
    let words = words_left v.intended s.words (words_rise s.words w.words_rise) addresses m.words w.words_differ in
    let log = m.log in
    let repairs = m.repairs in
    λ i. record {
      steps = sym steps i;
      latches = latches i;
      differed = counts i;
      selected = sym selected i;
      cells = sym cells i;
      words = sym words i;
      log = sym log i;
      repairs = sym repairs i;
      banks = b i;
    }
