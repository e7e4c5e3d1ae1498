-- What is true of what was said so far, whatever comes next.
use Rattle.std.specs.Prelude.{◌≡◌, ◌≢◌, ℕ, ◌*◌, ◌/◌, ◌%◌, ◌<◌, ◌≤◌, true, List, [], length, All}
use Rattle.lvdc_word.specs.Cell.{code_of}
use Rattle.lvdc_map.specs.Address.{number_of}
use Rattle.lvdc_map.specs.Memory as image
use Rattle.lvdc_map.specs.Memory.{AllThere}
use Rattle.lvdc_twin.specs.Store.{slot_of}
use Rattle.lvdc_twin.specs.Cells.{NamesPlace, are_rising}
use Rattle.lvdc_fault.specs.Events.{TIMES, EVENTS, IsEvent}
use Rattle.lvdc_snapshot.specs.Notes.{IsLog, AreRepairs}
use Rattle.lvdc_map.specs.declared.placed.Placed.{Placed}
use Rattle.lvdc_twin.specs.declared.held.Held.{Held}
use Rattle.lvdc_fault.specs.declared.event.Event.{Event}
use Rattle.lvdc_plain.specs.declared.records.Exchange.{Exchange}
use Rattle.lvdc_model.specs.declared.repair.Repair.{Repair}
use Rattle.lvdc_orders.specs.Orders.{COPIES}
use Rattle.lvdc_save.specs.declared.entry.Entry.{Entry}
use Rattle.lvdc_save.specs.declared.entry.Entry.TheVariants as says
use Rattle.lvdc_save.specs.Saved.{latches_before}
use Rattle.lvdc_save.specs.Reading.{Progress, rank, is_at_rest}

-- the numbers of an entry are in their ranges
abbrev pub IsEntry : Entry → Type 0
IsEntry (says.Count count) = count ≤ TIMES
IsEntry (says.Select twins) = (length twins ≡ 4) × All (λ twin. twin < 2) twins
IsEntry (says.Cell held) = NamesPlace held
IsEntry (says.Repair repair) = repair.twin < 2
IsEntry (says.Fault event) = IsEvent event
IsEntry _ = Unit {0}

-- the steps are those of whole times, and no more than the count asks for
pub record AreCounted (at steps count : ℕ) : Type 0 where
  pub whole : steps % 3 ≡ 0
  pub within : 2 < at → steps ≤ 3 * count
  pub most : count ≤ TIMES

-- the copies so far, with their latches; none before their section, and all after it
pub record AreCopies (at steps : ℕ) (latches differed : List ℕ) : Type 0 where
  pub none : at < 5 → differed ≡ []
  pub sized : length latches ≡ latches_before (length differed)
  pub counts : length differed ≤ COPIES
  pub all : 5 < at → length differed ≡ COPIES
  pub most : All (λ count. count ≤ steps) differed
  pub rest : is_at_rest latches ≡ true

-- the twins that are selected
pub record AreSelected (at : ℕ) (selected : List ℕ) : Type 0 where
  pub pairs : 5 < at → length selected ≡ 4
  pub twins : All (λ twin. twin < 2) selected

-- the cells so far
pub record AreCells (at least : ℕ) (cells : List Held) : Type 0 where
  pub none : at < 7 → cells ≡ []
  pub below : at ≡ 7 → All (λ held. slot_of held.twin held.at < least) cells
  pub rise : are_rising cells ≡ true
  pub differ : All (λ held. held.cell ≢ code_of 0) cells
  pub places : All NamesPlace cells

-- the words so far
pub record ArePlaced (at least banks : ℕ) (words : List Placed) : Type 0 where
  pub none : at < 8 → words ≡ []
  pub below : at ≡ 8 → All (λ placed. number_of placed.at < least) words
  pub rise : image.are_rising words ≡ true
  pub differ : All (λ placed. placed.word ≢ 0) words
  pub there : AllThere banks words

-- the log so far
pub record AreLogged (at least steps : ℕ) (log : List Exchange) : Type 0 where
  pub none : at < 9 → log ≡ []
  pub below : at ≡ 9 → All (λ exchange. exchange.time ≤ least) log
  pub lines : IsLog (steps / 3) log

-- the repairs so far
pub record AreMended (at least banks steps : ℕ) (repairs : List Repair) : Type 0 where
  pub none : at < 10 → repairs ≡ []
  pub below : at ≡ 10 → All (λ repair. repair.step < least) repairs
  pub lines : AreRepairs banks steps repairs

-- the events so far
pub record AreEvents (script : List Event) : Type 0 where
  pub few : length script ≤ EVENTS
  pub events : All IsEvent script

-- all of these, at the section of the last line
pub record IsSoundProgress (r : Progress) : Type 0 where
  pub counted : AreCounted (rank r.section) r.steps r.count
  pub copies : AreCopies (rank r.section) r.steps r.latches r.differed
  pub selected : AreSelected (rank r.section) r.selected
  pub cells : AreCells (rank r.section) r.least r.cells
  pub words : ArePlaced (rank r.section) r.least r.banks r.words
  pub log : AreLogged (rank r.section) r.least r.steps r.log
  pub repairs : AreMended (rank r.section) r.least r.banks r.steps r.repairs
  pub events : AreEvents r.script
