-- The adversary that does what a script does to copies.
use Rattle.std.specs.Prelude.{ℕ, ◌-◌, [], slice_index, slice_index_or}
use Rattle.lvdc_vote.specs.Copies.{copy_of}
use Rattle.lvdc_fault.specs.Script.{is_wrong}
use Rattle.lvdc_model.specs.Trial.{Trial}
use Rattle.lvdc_model.specs.Voted.{Voted, thrice}
use Rattle.lvdc_model.specs.Exchanges.{begin_step, voted_step}
use Rattle.lvdc_laws_failures.specs.Split.{Adversary}

-- the word that a copy has in a latch in the voted machine, its module and its own number counted from 1
abbrev pub latch_word : Voted → ℕ → ℕ → ℕ → ℕ
latch_word v m c index = slice_index (copy_of (slice_index_or v.copies (m - 1) (thrice [])) (c - 1)) index

-- a copy fails where the script makes it wrong, and then tells every listener what it latches in the voted machine
abbrev pub scripted : Trial → Adversary
scripted o =
    record {
      fails = λ run m c. is_wrong o.script run.now.voted.steps m c;
      says = λ run m c listener index. latch_word (voted_step o (begin_step o run.now.voted)) m c index;
    }
