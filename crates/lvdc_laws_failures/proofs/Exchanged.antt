-- The exchange of a step doesn't look at copies and counts, and where a read found a good cell all copies latch over its words.
use Rattle.std.proofs.Common.{◌≡◌, ℕ, zero, suc, List, map, refl, Result, Ok, Err, inl, inr, ◌⊎◌}
use Rattle.std.specs.declared.option.Option.{Option}
use Rattle.std.specs.declared.option.Option.TheVariants.{None, Some}
use Rattle.lvdc_map.specs.Address.{Spot}
use Rattle.lvdc_twin.specs.declared.both_bad.BothBad.{BothBad}
use Rattle.lvdc_twin.specs.declared.read_out.ReadOut.{ReadOut}
use Rattle.lvdc_vote.specs.Copies.{Copies}
use Rattle.lvdc_modules.specs.Rows.{rows}
use Rattle.lvdc_modules.specs.declared.wanted.Wanted.{Wanted}
use Rattle.lvdc_modules.specs.declared.wanted.Wanted.TheVariants.{Nothing, Fetch, Operand, Store, PortRead, PortWrite}
use Rattle.lvdc_plain.specs.View.{ByInstruction}
use Rattle.lvdc_plain.specs.declared.records.Stop.{Stop}
use Rattle.lvdc_plain.specs.declared.records.Stop.TheVariants as stops
use Rattle.lvdc_model.specs.Trial.{Trial}
use Rattle.lvdc_model.specs.Twins.{read_answer}
use Rattle.lvdc_model.specs.Voted as voted
use Rattle.lvdc_model.specs.Voted.{Voted, voted_bus}
use Rattle.lvdc_model.specs.Exchanges.{stop_of, stop_after, reading, exchanges}
use Rattle.lvdc_model.specs.declared.outcome.Outcome.{Outcome}
use Rattle.lvdc_model.specs.declared.outcome.Outcome.TheVariants.{Done, Stopped, Inadmissible, Device}
use Rattle.lvdc_laws_failures.specs.Listeners.{Exchange, Three, told_by_three}
use Rattle.lvdc_laws_failures.specs.Split.{Run}
use Rattle.lvdc_laws_failures.specs.Steps.{word_found, memory_word, answer_word, heard_after, split_by}

-- ---- an end that is no bad read

-- no read ended the step
abbrev pub IsFound : Option Outcome → Type 0
IsFound (Some (Stopped step (stops.Memory at))) = ⊥
IsFound _ = Unit {0}

-- what STOP means is no read
found-stop : (n step : ℕ) → IsFound (stop_of n step)
found-stop zero step = tt
found-stop (suc zero) step = tt
found-stop (suc (suc n)) step = tt

-- nor is a stop by an instruction
pub found-instruction : (step : ℕ) (s : Stop) → ByInstruction (Some s) → IsFound (Some (Stopped step s))
found-instruction step stops.Shift h = tt
found-instruction step stops.Exm h = tt
found-instruction step (stops.Memory at) h = h

-- then the copies latch
pub split-found : (end : Option Outcome) (copies : List Three) (run : Run) (begun exchanged : Voted) → IsFound end
    → split_by end copies run begun exchanged ≡ record { copies = copies; voted = heard_after copies begun exchanged }
split-found None copies run begun exchanged h = refl
split-found (Some Done) copies run begun exchanged h = refl
split-found (Some (Stopped step stops.Shift)) copies run begun exchanged h = refl
split-found (Some (Stopped step stops.Exm)) copies run begun exchanged h = refl
split-found (Some (Stopped step (stops.Memory at))) copies run begun exchanged h = absurd h
split-found (Some (Inadmissible verdict)) copies run begun exchanged h = refl
split-found (Some (Device step port)) copies run begun exchanged h = refl

-- ---- what copies and counts have no part in

-- the same machine with other copies and counts
abbrev pub with_copies : Voted → List Copies → List (List ℕ) → Voted
with_copies v copies counts = record v { copies = copies; counts = counts }

pub memory_word-same : (o : Trial) (v : Voted) (copies : List Copies) (counts : List (List ℕ)) (w : Wanted) → memory_word o (with_copies v copies counts) w ≡ memory_word o v w
memory_word-same o v copies counts Nothing = refl
memory_word-same o v copies counts (Fetch at) = refl
memory_word-same o v copies counts (Operand at) = refl
memory_word-same o v copies counts (Store at word) = refl
memory_word-same o v copies counts (PortRead port) = refl
memory_word-same o v copies counts (PortWrite port word) = refl

pub answer_word-same : (v : Voted) (copies : List Copies) (counts : List (List ℕ)) (w : Wanted) → answer_word (with_copies v copies counts) w ≡ answer_word v w
answer_word-same v copies counts Nothing = refl
answer_word-same v copies counts (Fetch at) = refl
answer_word-same v copies counts (Operand at) = refl
answer_word-same v copies counts (Store at word) = refl
answer_word-same v copies counts (PortRead port) = refl
answer_word-same v copies counts (PortWrite port word) = refl

-- ---- a step in which no read failed

-- the voted machine has latched over the exchange's words, and its end is what its votes bring; another with the same memory and
-- ports is found too, and whatever copies are heard then, all else is the same
pub record IsMade (o : Trial) (v : Voted) (w : Wanted) (next : Voted) : Type 0 where
  pub copies : next.copies ≡ voted.next_copies o.script v.steps 1 rows v.copies v.copies (voted_bus v (memory_word o v w) (answer_word v w))
  pub counts : next.counts ≡ voted.counted next.copies v.counts
  pub end : next.end ≡ stop_after v.steps next
  pub steps : next.steps ≡ suc v.steps
  pub found : (copies : List Copies) (counts : List (List ℕ)) → IsFound (exchanges o (with_copies v copies counts) w).end
  pub same : (copies : List Copies) (counts : List (List ℕ)) (threes : List Three)
      → heard_after threes (with_copies v copies counts) (exchanges o (with_copies v copies counts) w)
      ≡ record next {
        copies = map (told_by_three Exchange) threes;
        counts = voted.counted (map (told_by_three Exchange) threes) counts;
        end = stop_after v.steps (record v { copies = map (told_by_three Exchange) threes });
      }

-- the same of a read by its answer
record IsMadeBy (o : Trial) (v : Voted) (at : Spot) (r : Result ReadOut BothBad) : Type 0 where
  copies : (reading r o v at).copies ≡ voted.next_copies o.script v.steps 1 rows v.copies v.copies (voted_bus v (word_found r) 0)
  counts : (reading r o v at).counts ≡ voted.counted (reading r o v at).copies v.counts
  end : (reading r o v at).end ≡ stop_after v.steps (reading r o v at)
  steps : (reading r o v at).steps ≡ suc v.steps
  found : (copies : List Copies) (counts : List (List ℕ)) → IsFound (reading r o (with_copies v copies counts) at).end
  same : (copies : List Copies) (counts : List (List ℕ)) (threes : List Three)
      → heard_after threes (with_copies v copies counts) (reading r o (with_copies v copies counts) at)
      ≡ record (reading r o v at) {
        copies = map (told_by_three Exchange) threes;
        counts = voted.counted (map (told_by_three Exchange) threes) counts;
        end = stop_after v.steps (record v { copies = map (told_by_three Exchange) threes });
      }

made-reading : (o : Trial) (v : Voted) (at : Spot) (r : Result ReadOut BothBad) → IsFound (reading r o v at).end → IsMadeBy o v at r
made-reading o v at (Err bad) h = absurd h
made-reading o v at (Ok r) h =
    record {
      copies = refl;
      counts = refl;
      end = refl;
      steps = refl;
      found = λ copies counts. found-stop _ _;
      same = λ copies counts threes. refl;
    }

pub is-made : (o : Trial) (v : Voted) (w : Wanted) → IsFound (exchanges o v w).end → IsMade o v w (exchanges o v w)
is-made o v (Fetch at) h =
    let m = made-reading o v at (read_answer o v.steps v.twins at) h in
    record { copies = m.copies; counts = m.counts; end = m.end; steps = m.steps; found = m.found; same = m.same }
is-made o v (Operand at) h =
    let m = made-reading o v at (read_answer o v.steps v.twins at) h in
    record { copies = m.copies; counts = m.counts; end = m.end; steps = m.steps; found = m.found; same = m.same }
is-made o v Nothing h = record { copies = refl; counts = refl; end = refl; steps = refl; found = λ copies counts. found-stop _ _; same = λ copies counts threes. refl }
is-made o v (Store at word) h = record { copies = refl; counts = refl; end = refl; steps = refl; found = λ copies counts. found-stop _ _; same = λ copies counts threes. refl }
is-made o v (PortRead port) h = record { copies = refl; counts = refl; end = refl; steps = refl; found = λ copies counts. found-stop _ _; same = λ copies counts threes. refl }
is-made o v (PortWrite port word) h = record { copies = refl; counts = refl; end = refl; steps = refl; found = λ copies counts. found-stop _ _; same = λ copies counts threes. refl }

-- ---- a step in which a read failed

-- the end tells which it was
pub found-or : (end : Option Outcome) → IsFound end ⊎ (IsFound end → ⊥)
found-or None = inl tt
found-or (Some Done) = inl tt
found-or (Some (Stopped step stops.Shift)) = inl tt
found-or (Some (Stopped step stops.Exm)) = inl tt
found-or (Some (Stopped step (stops.Memory at))) = inr (λ h. h)
found-or (Some (Inadmissible verdict)) = inl tt
found-or (Some (Device step port)) = inl tt

-- then no copy latches
pub split-lost : (end : Option Outcome) (copies : List Three) (run : Run) (begun exchanged : Voted) → (IsFound end → ⊥)
    → split_by end copies run begun exchanged ≡ record { copies = run.now.copies; voted = exchanged }
split-lost None copies run begun exchanged h = absurd (h tt)
split-lost (Some Done) copies run begun exchanged h = absurd (h tt)
split-lost (Some (Stopped step stops.Shift)) copies run begun exchanged h = absurd (h tt)
split-lost (Some (Stopped step stops.Exm)) copies run begun exchanged h = absurd (h tt)
split-lost (Some (Stopped step (stops.Memory at))) copies run begun exchanged h = refl
split-lost (Some (Inadmissible verdict)) copies run begun exchanged h = absurd (h tt)
split-lost (Some (Device step port)) copies run begun exchanged h = absurd (h tt)

-- nor does one in the voted machine, and none is counted
pub record IsLeft (v next : Voted) : Type 0 where
  pub copies : next.copies ≡ v.copies
  pub counts : next.counts ≡ v.counts

lost-reading : (o : Trial) (v : Voted) (at : Spot) (r : Result ReadOut BothBad) → (IsFound (reading r o v at).end → ⊥) → IsLeft v (reading r o v at)
lost-reading o v at (Err bad) h = record { copies = refl; counts = refl }
lost-reading o v at (Ok r) h = absurd (h (found-stop _ _))

pub is-left : (o : Trial) (v : Voted) (w : Wanted) → (IsFound (exchanges o v w).end → ⊥) → IsLeft v (exchanges o v w)
is-left o v (Fetch at) h = lost-reading o v at (read_answer o v.steps v.twins at) h
is-left o v (Operand at) h = lost-reading o v at (read_answer o v.steps v.twins at) h
is-left o v Nothing h = absurd (h (found-stop _ _))
is-left o v (Store at word) h = absurd (h (found-stop _ _))
is-left o v (PortRead port) h = absurd (h (found-stop _ _))
is-left o v (PortWrite port word) h = absurd (h (found-stop _ _))
