-- One step of the split machine: each sound copy latches its row over the bus that it hears, and one that fails anything.
use Rattle.std.specs.Prelude.{ℕ, zero, suc, ◌+◌, List, [], ◌∷◌, map, if◌then◌else◌, Result, Ok, Err}
use Rattle.std.specs.declared.option.Option.{Option}
use Rattle.std.specs.declared.option.Option.TheVariants.{None, Some}
use Rattle.lvdc_port.specs.declared.requests.PortRequest.TheVariants as requests
use Rattle.lvdc_twin.specs.declared.both_bad.BothBad.{BothBad}
use Rattle.lvdc_twin.specs.declared.read_out.ReadOut.{ReadOut}
use Rattle.lvdc_vote.specs.Numbers.{latches_of}
use Rattle.lvdc_modules.specs.Rows.{rows, bus_of, start_latches}
use Rattle.lvdc_modules.specs.declared.bus.Bus.{Bus}
use Rattle.lvdc_modules.specs.declared.wanted.Wanted.{Wanted}
use Rattle.lvdc_modules.specs.declared.wanted.Wanted.TheVariants.{Fetch, Operand, PortRead}
use Rattle.lvdc_plain.specs.declared.records.Stop.TheVariants as stops
use Rattle.lvdc_model.specs.declared.outcome.Outcome.{Outcome}
use Rattle.lvdc_model.specs.declared.outcome.Outcome.TheVariants.{Stopped}
use Rattle.lvdc_model.specs.Trial.{Trial}
use Rattle.lvdc_model.specs.Twins.{read_answer}
use Rattle.lvdc_model.specs.Voted.{Voted, voted_start}
use Rattle.lvdc_model.specs.Exchanges.{begin_step, step_made, port_word, exchanges, wished}
use Rattle.lvdc_laws_failures.specs.Listeners.{Copy, Exchange, Teller, Sound, Failed, Three, told_by_three, all_heard}
use Rattle.lvdc_laws_failures.specs.Split.{Split, Run, Adversary}

-- ---- what the copies latch

-- so many words, of the indices from this one on
abbrev pub words_from : (ℕ → ℕ) → ℕ → ℕ → List ℕ
words_from says index zero = []
words_from says index (suc n) = says index ∷ words_from says (suc index) n

-- what copy c of module m will tell after a step: where it fails in it what the adversary says, else its row over the bus that it
-- hears, with these words from memory and port. Lines of the script on copies aren't asked: the adversary stands for them
abbrev pub next_teller : Adversary → Run → ℕ → ℕ → (Bus → List ℕ) → ℕ → ℕ → Teller
next_teller a run m c row memory port =
    if a.fails run m c then Failed (λ listener. words_from (a.says run m c listener) 0 (latches_of m))
    else Sound (row (bus_of (all_heard (Copy m c) run.now.copies) memory port))

-- the same of the three copies of module m
abbrev pub next_three : Adversary → Run → ℕ → (Bus → List ℕ) → ℕ → ℕ → Three
next_three a run m row memory port =
    record {
      one = next_teller a run m 1 row memory port;
      two = next_teller a run m 2 row memory port;
      three = next_teller a run m 3 row memory port;
    }

-- the same of all modules from m on
abbrev pub next_copies : Adversary → Run → ℕ → List (Bus → List ℕ) → ℕ → ℕ → List Three
next_copies a run m [] memory port = []
next_copies a run m (row ∷ more) memory port = next_three a run m row memory port ∷ next_copies a run (m + 1) more memory port

-- ---- what the exchange puts on every bus

-- the word that a read found, and 0 where no cell was good
abbrev pub word_found : Result ReadOut BothBad → ℕ
word_found (Ok r) = r.word
word_found (Err bad) = 0

-- the word that came from memory
abbrev pub memory_word : Trial → Voted → Wanted → ℕ
memory_word o v (Fetch at) = word_found (read_answer o v.steps v.twins at)
memory_word o v (Operand at) = word_found (read_answer o v.steps v.twins at)
memory_word o v _ = 0

-- the word that came from a port
abbrev pub answer_word : Voted → Wanted → ℕ
answer_word v (PortRead port) = port_word v (requests.Read port)
answer_word v _ = 0

-- ---- the step

-- the voted machine as the exchange hears these copies after a step: the exchange left memory, ports and log, each copy that
-- differs from the vote is counted, and a stop ends the run
abbrev pub heard_after : List Three → Voted → Voted → Voted
heard_after copies begun exchanged =
    step_made (record exchanged { copies = map (told_by_three Exchange) copies; counts = begun.counts; steps = begun.steps })

-- what a step leaves, where it would leave these copies; where a read found no good cell the run ends before they latch
abbrev pub split_by : Option Outcome → List Three → Run → Voted → Voted → Split
split_by (Some (Stopped step (stops.Memory at))) copies run begun exchanged = record { copies = run.now.copies; voted = exchanged }
split_by _ copies run begun exchanged = record { copies = copies; voted = heard_after copies begun exchanged }

-- a step that was begun, with this exchange: the exchange is made as in the voted machine, and the copies latch
abbrev pub split_with : Trial → Adversary → Run → Voted → Wanted → Split
split_with o a run begun wanted =
    split_by (exchanges o begun wanted).end
    (next_copies a run 1 rows (memory_word o begun wanted) (answer_word begun wanted)) run begun (exchanges o begun wanted)

-- the exchange is the one that it wishes for by the bus that it hears
abbrev pub split_from : Trial → Adversary → Run → Voted → Split
split_from o a run begun = split_with o a run begun (wished o begun)

-- the run after one more step; a run that has ended stays
abbrev pub run_by : Option Outcome → Trial → Adversary → Run → Run
run_by (Some e) o a run = run
run_by None o a run = record { now = split_from o a run (begin_step o run.now.voted); before = run.now ∷ run.before }

-- three sound copies
abbrev pub all_sound : List ℕ → Three
all_sound latches = record { one = Sound latches; two = Sound latches; three = Sound latches }

-- the split machine before its first step
abbrev pub split_start : Trial → Split
split_start o = record { copies = map all_sound (start_latches o.opening.start); voted = voted_start o }

-- its run of so many steps, or fewer where it ends
abbrev pub split_run : Trial → Adversary → ℕ → Run
split_run o a zero = record { now = split_start o; before = [] }
split_run o a (suc n) = run_by (split_run o a n).now.voted.end o a (split_run o a n)

-- its copies after so many steps
abbrev pub copies_after : Trial → Adversary → ℕ → List Three
copies_after o a n = (split_run o a n).now.copies

-- the voted machine as the exchange hears it after so many steps
abbrev pub voted_after : Trial → Adversary → ℕ → Voted
voted_after o a n = (split_run o a n).now.voted
