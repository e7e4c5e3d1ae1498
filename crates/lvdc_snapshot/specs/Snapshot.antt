-- Snapshots of the voted machine: when one is whole, and which state one means.
use Rattle.std.specs.Prelude.{◌≡◌, ◌≢◌, ◌/◌, ◌%◌, ◌≤◌, ◌<◌, true, List, All, length, map}
use Rattle.std.specs.declared.option.Option.TheVariants.{None}
use Rattle.lvdc_word.specs.Cell.{code_of}
use Rattle.lvdc_map.specs.Memory as image
use Rattle.lvdc_map.specs.Memory.{memory_of, AllThere}
use Rattle.lvdc_port.specs.Device as device
use Rattle.lvdc_twin.specs.Cells.{NamesPlace, cells_of, are_rising}
use Rattle.lvdc_vote.specs.Copies.{vote_of}
use Rattle.lvdc_modules.specs.Rows.{bus_of}
use Rattle.lvdc_modules.specs.declared.bus.Bus.{Bus}
use Rattle.lvdc_model.specs.Voted.{Voted}
use Rattle.lvdc_model.specs.Listing.{copies_of, counts_of}
use Rattle.lvdc_memory.specs.Holds.{StoreCells, AreIntended}
use Rattle.lvdc_snapshot.specs.declared.snapshot.Snapshot.{Snapshot}
use Rattle.lvdc_snapshot.specs.Notes.{IsLog, AreRepairs}

-- ---- whole

-- the bus of the votes over the copies
abbrev pub voted_in : Snapshot → Bus
voted_in s = bus_of (map vote_of (copies_of s.latches)) 0 0

-- there are 45 latches, 21 counts and four selections, each in its range; whole times were made, the votes say that a time
-- begins and that nothing has stopped; cells and words rise, name places that are there, and leave out the word 0; and the log
-- and the repairs are from before
pub record IsWhole (s : Snapshot) : Type 0 where
  pub latches : length s.latches ≡ 45
  pub counts : length s.differed ≡ 21
  pub pairs : length s.selected ≡ 4
  pub most : All (λ count. count ≤ s.steps) s.differed
  pub twins : All (λ twin. twin < 2) s.selected
  pub times : s.steps % 3 ≡ 0
  pub phase : (voted_in s).timer.phase % 4 ≡ 0
  pub stop : (voted_in s).exchange.stop % 4 ≡ 0
  pub cells_rise : are_rising s.cells ≡ true
  pub cells_differ : All (λ held. held.cell ≢ code_of 0) s.cells
  pub places : All NamesPlace s.cells
  pub words_rise : image.are_rising s.words ≡ true
  pub words_differ : All (λ placed. placed.word ≢ 0) s.words
  pub there : AllThere s.banks s.words
  pub log : IsLog (s.steps / 3) s.log
  pub repairs : AreRepairs s.banks s.steps s.repairs

-- ---- what it means

-- the state has the copies, the memory, the counts, the log, the repairs and the steps of the snapshot, and no end has come
pub record Means (s : Snapshot) (v : Voted) : Type 0 where
  pub copies : v.copies ≡ copies_of s.latches
  pub counts : v.counts ≡ counts_of s.differed
  pub cells : StoreCells s.cells v.twins
  pub selected : v.twins.selected ≡ s.selected
  pub words : AreIntended s.words v.intended
  pub log : v.log ≡ s.log
  pub repairs : v.repairs ≡ s.repairs
  pub steps : v.steps ≡ s.steps
  pub end : v.end ≡ None

-- the state that the lists of a snapshot are, with these devices
abbrev pub meant : Snapshot → List device.Device → Voted
meant s devices =
    record {
      copies = copies_of s.latches;
      twins = record { cells = cells_of s.cells; selected = s.selected };
      intended = memory_of s.words;
      devices = devices;
      log = s.log;
      repairs = s.repairs;
      counts = counts_of s.differed;
      steps = s.steps;
      end = None;
    }
