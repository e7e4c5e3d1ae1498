-- The voted machine: three copies of each of seven modules and their votes, and what each copy latches.
use Rattle.std.specs.Prelude.{ℕ, ◌+◌, ◌-◌, Bool, true, false, List, [], ◌∷◌, map, replicate, slice_index, slice_index_or}
use Rattle.std.specs.declared.option.Option.{Option}
use Rattle.std.specs.declared.option.Option.TheVariants.{None}
use Rattle.lvdc_word.specs.Word.{bit_of}
use Rattle.lvdc_map.specs.Memory as memory
use Rattle.lvdc_port.specs.Device.{Device}
use Rattle.lvdc_vote.specs.Copies.{Copies, settled, copy_of, vote_of, differs_of}
use Rattle.lvdc_vote.specs.Latches.{latched_by}
use Rattle.lvdc_modules.specs.Rows.{bus_of, start_latches}
use Rattle.lvdc_modules.specs.declared.bus.Bus.{Bus}
use Rattle.lvdc_plain.specs.declared.records.Exchange.{Exchange}
use Rattle.lvdc_fault.specs.Hurts.{hurts_on}
use Rattle.lvdc_fault.specs.Script.{is_deaf}
use Rattle.lvdc_fault.specs.declared.event.Event.{Event}
use Rattle.lvdc_model.specs.declared.outcome.Outcome.{Outcome}
use Rattle.lvdc_model.specs.declared.repair.Repair.{Repair}
use Rattle.lvdc_model.specs.Trial.{Trial}
use Rattle.lvdc_model.specs.Twins.{Twins, twins_at_start}

-- the copies of the seven modules, the twins, the intended words, the devices, the log, the repairs noted, of each copy how
-- often it differed from the vote, the steps made, and the end, where one has come
pub record Voted : Type 0 where
  pub copies : List Copies
  pub twins : Twins
  pub intended : memory.Memory
  pub devices : List Device
  pub log : List Exchange
  pub repairs : List Repair
  pub counts : List (List ℕ)
  pub steps : ℕ
  pub end : Option Outcome

-- ---- the bus

-- the votes of the seven modules
abbrev pub votes : Voted → List (List ℕ)
votes v = map vote_of v.copies

-- the bus of the votes, with these words from memory and port
abbrev pub voted_bus : Voted → ℕ → ℕ → Bus
voted_bus v memory port = bus_of (votes v) memory port

-- what copy c of each module reads: the votes, or where it is deaf the copies c of all seven
abbrev pub inputs : Bool → List Copies → ℕ → Bus → Bus
inputs false copies c voted = voted
inputs true copies c voted = bus_of (map (λ t. copy_of t (c - 1)) copies) voted.memory voted.port

-- ---- what a copy latches

-- what copy c of module m latches: its row over what it reads, changed by what the script does to it
abbrev pub next_copy : List Event → ℕ → ℕ → ℕ → (Bus → List ℕ) → List ℕ → List Copies → Bus → List ℕ
next_copy script step m c row old copies voted =
    latched_by old (row (inputs (is_deaf script step m c) copies c voted)) (hurts_on step m c script)

-- what the three copies of module m latch
abbrev pub next_three : List Event → ℕ → ℕ → (Bus → List ℕ) → Copies → List Copies → Bus → Copies
next_three script step m row t copies voted =
    settled (next_copy script step m 1 row t.one copies voted)
    (next_copy script step m 2 row t.two copies voted)
    (next_copy script step m 3 row t.three copies voted)

-- what the copies of all modules from m on latch
abbrev pub next_copies : List Event → ℕ → ℕ → List (Bus → List ℕ) → List Copies → List Copies → Bus → List Copies
next_copies script step m [] ts copies voted = []
next_copies script step m (row ∷ rest) [] copies voted = []
next_copies script step m (row ∷ rest) (t ∷ ts) copies voted =
    next_three script step m row t copies voted ∷ next_copies script step (m + 1) rest ts copies voted

-- ---- counts

-- one more for each copy of a module that differs from the vote
abbrev pub counted_three : Copies → List ℕ → List ℕ
counted_three t counts =
    (slice_index counts 0 + bit_of (differs_of t 0)) ∷ (slice_index counts 1 + bit_of (differs_of t 1))
    ∷ (slice_index counts 2 + bit_of (differs_of t 2)) ∷ []

-- the same of all modules
abbrev pub counted : List Copies → List (List ℕ) → List (List ℕ)
counted [] counts = []
counted (t ∷ ts) [] = []
counted (t ∷ ts) (three ∷ counts) = counted_three t three ∷ counted ts counts

-- how often a copy differed, by the number of its module and its own, both from 1
abbrev pub count_of : List (List ℕ) → ℕ → ℕ → ℕ
count_of counts number copy = slice_index (slice_index_or counts (number - 1) []) (copy - 1)

-- ---- the start

-- three equal copies
abbrev pub thrice : List ℕ → Copies
thrice latches = settled latches latches latches

-- the voted machine before its first step
abbrev pub voted_start : Trial → Voted
voted_start o =
    record {
      copies = map thrice (start_latches o.opening.start);
      twins = twins_at_start o;
      intended = memory.memory_of o.opening.image;
      devices = o.opening.devices;
      log = [];
      repairs = [];
      counts = replicate 7 (0 ∷ 0 ∷ 0 ∷ []);
      steps = 0;
      end = None;
    }
