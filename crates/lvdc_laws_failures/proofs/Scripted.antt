-- The split machine under the adversary of a script is the voted machine under that script.
use Rattle.std.proofs.Common.{◌≡◌, ℕ, zero, suc, ◌+◌, ◌-◌, ◌≤◌, Bool, true, false, cond, List, [], ◌∷◌, length, map, refl, sym, ap, subst, ◌∙◌, arith, add-zero, inl, inr, ◌⊎◌}
use Rattle.std.specs.Prelude.{slice_index, slice_index_or}
use Rattle.std.specs.declared.option.Option.{Option}
use Rattle.std.specs.declared.option.Option.TheVariants.{None, Some}
use Rattle.lvdc_vote.specs.Copies.{Copies, copy_of, vote_of, IsSized}
use Rattle.lvdc_vote.specs.Numbers.{latches_of}
use Rattle.lvdc_modules.specs.Rows.{rows, bus_of}
use Rattle.lvdc_modules.specs.declared.bus.Bus.{Bus}
use Rattle.lvdc_modules.specs.declared.wanted.Wanted.{Wanted}
use Rattle.lvdc_fault.specs.Script.{is_wrong}
use Rattle.lvdc_model.proofs.Latching.{right_copy, length-next_copy}
use Rattle.lvdc_model.specs.declared.outcome.Outcome.{Outcome}
use Rattle.lvdc_model.specs.Trial.{Trial}
use Rattle.lvdc_model.specs.Runs.{through_by, through}
use Rattle.lvdc_model.specs.Voted as voted
use Rattle.lvdc_model.specs.Voted.{Voted, votes, thrice, next_copy}
use Rattle.lvdc_model.specs.Exchanges.{begin_step, wished, voted_step, stop_after}
use Rattle.lvdc_laws_failures.specs.Listeners.{Listener, Copy, Exchange, Sound, Failed, Three, told, told_by_three, all_heard}
use Rattle.lvdc_laws_failures.specs.Split.{Split, Run}
use Rattle.lvdc_laws_failures.specs.Steps.{words_from, next_teller, next_copies, memory_word, answer_word, heard_after, split_from, run_by, split_run}
use Rattle.lvdc_laws_failures.specs.Laws.{IsScripted}
use Rattle.lvdc_laws_failures.specs.Scripts.{scripted}
use Rattle.lvdc_laws_failures.proofs.Exchanged.{IsFound, found-or, split-found, split-lost, is-left, IsMade, is-made}
use Rattle.lvdc_laws_failures.proofs.Telling.{RowsFit, rows-fit, heard-votes}

-- ---- a list told word by word

words-told : (words rest : List ℕ) (index : ℕ) → ((i : ℕ) → slice_index words (index + i) ≡ slice_index rest i) → words_from (slice_index words) index (length rest) ≡ rest
words-told words [] index h = refl
words-told words (x ∷ rest) index h =
    rw (sym (ap (slice_index words) (add-zero index)) ∙ h 0, words-told words rest (suc index) (λ i. ap (slice_index words) (omega arith) ∙ h (suc i))) refl

-- the words of a list are the list
pub words-list : (words : List ℕ) (n : ℕ) → length words ≡ n → words_from (slice_index words) 0 n ≡ words
words-list words n h = ap (words_from (slice_index words) 0) (sym h) ∙ words-told words words 0 (λ i. ap (slice_index words) (omega arith))

-- ---- what the copies tell is what they latch in the voted machine

-- each copy has as many latches as its module
abbrev pub AllSized : ℕ → List (Bus → List ℕ) → List Copies → Type 0
AllSized m [] [] = Unit {0}
AllSized m [] (t ∷ ts) = ⊥
AllSized m (row ∷ more) [] = ⊥
AllSized m (row ∷ more) (t ∷ ts) = IsSized (latches_of m) t × AllSized (m + 1) more ts

-- a copy tells these words: as the adversary where it fails, and else as its own latches
teller-is : (fails : Bool) (words latches : List ℕ) (listener : Listener) (n : ℕ) → length words ≡ n → (fails ≡ false → latches ≡ words)
    → told listener (cond fails (Failed (λ other. words_from (slice_index words) 0 n)) (Sound latches)) ≡ words
teller-is true words latches listener n h e = words-list words n h
teller-is false words latches listener n h e = e refl

-- the same item of a list and of its rest
abbrev IsRest : List Copies → ℕ → List Copies → Type 0
IsRest all m rest = (i : ℕ) → slice_index_or all (m - 1 + i) (thrice []) ≡ slice_index_or rest i (thrice [])

-- the voted machine one step later
abbrev stepped : Trial → Run → Voted
stepped o run = voted_step o (begin_step o run.now.voted)

-- the bus of its votes in that step
abbrev bus_in : Run → ℕ → ℕ → Bus
bus_in run memory port = bus_of (votes run.now.voted) memory port

-- what a copy latches in it
abbrev latched : Trial → Run → ℕ → ℕ → ℕ → ℕ → (Bus → List ℕ) → List ℕ → List ℕ
latched o run memory port m c row old = next_copy o.script run.now.voted.steps m c row old run.now.voted.copies (bus_in run memory port)

-- what the copies of the modules from m on latch in it
abbrev all_latched : Trial → Run → ℕ → ℕ → ℕ → List (Bus → List ℕ) → List Copies → List Copies
all_latched o run memory port m rs old = voted.next_copies o.script run.now.voted.steps m rs old run.now.voted.copies (bus_in run memory port)

-- in a step in which every listener hears the votes
module _ (o : Trial) (run : Run) (memory port : ℕ) (hears : (listener : Listener) → all_heard listener run.now.copies ≡ votes run.now.voted) where
  told-next : (listener : Listener) (m c : ℕ) (row : Bus → List ℕ) (old : List ℕ) → ((b : Bus) → length (row b) ≡ latches_of m) → length old ≡ latches_of m
      → copy_of (slice_index_or (stepped o run).copies (m - 1) (thrice [])) (c - 1) ≡ latched o run memory port m c row old
      → told listener (next_teller (scripted o) run m c row memory port) ≡ latched o run memory port m c row old
  told-next listener m c row old fits sized e =
      ap (λ (words : List ℕ). told listener (cond (is_wrong o.script run.now.voted.steps m c) (Failed (λ other. words_from (slice_index words) 0 (latches_of m))) (Sound (row (bus_of (all_heard (Copy m c) run.now.copies) memory port))))) e
      ∙ teller-is (is_wrong o.script run.now.voted.steps m c) (latched o run memory port m c row old) (row (bus_of (all_heard (Copy m c) run.now.copies) memory port)) listener (latches_of m)
      (length-next_copy o.script run.now.voted.steps m c (latches_of m) row old run.now.voted.copies (bus_in run memory port) fits sized)
      (λ sound. ap (λ (states : List (List ℕ)). row (bus_of states memory port)) (hears (Copy m c))
      ∙ sym (right_copy o.script run.now.voted.steps m c row old run.now.voted.copies (bus_in run memory port) sound))

  told-more : (listener : Listener) (m : ℕ) (rs : List (Bus → List ℕ)) (old : List Copies) → 1 ≤ m → RowsFit m rs → AllSized m rs old
      → IsRest (stepped o run).copies m (all_latched o run memory port m rs old)
      → map (told_by_three listener) (next_copies (scripted o) run m rs memory port) ≡ all_latched o run memory port m rs old
  told-more listener m [] [] from fits sized rest = refl
  told-more listener m [] (t ∷ ts) from fits sized rest = absurd sized
  told-more listener m (r ∷ rs) [] from fits sized rest = absurd sized
  told-more listener m (r ∷ rs) (t ∷ ts) from fits sized rest =
      let here : slice_index_or (stepped o run).copies (m - 1) (thrice []) ≡ voted.next_three o.script run.now.voted.steps m r t run.now.voted.copies (bus_in run memory port) =
      ap (λ (k : ℕ). slice_index_or (stepped o run).copies k (thrice [])) (omega arith) ∙ rest 0 in
      rw (
        told-next listener m 1 r t.one fits.0 sized.0.one (ap (λ (u : Copies). u.one) here),
        told-next listener m 2 r t.two fits.0 sized.0.two (ap (λ (u : Copies). u.two) here),
        told-next listener m 3 r t.three fits.0 sized.0.three (ap (λ (u : Copies). u.three) here),
        told-more listener (m + 1) rs ts (omega arith) fits.1 sized.1 (λ i. ap (λ (k : ℕ). slice_index_or (stepped o run).copies k (thrice [])) (omega arith) ∙ rest (suc i)),
      ) refl

  sized-more : (m : ℕ) (rs : List (Bus → List ℕ)) (old : List Copies) → RowsFit m rs → AllSized m rs old → AllSized m rs (all_latched o run memory port m rs old)
  sized-more m [] [] fits sized = tt
  sized-more m [] (t ∷ ts) fits sized = absurd sized
  sized-more m (r ∷ rs) [] fits sized = absurd sized
  sized-more m (r ∷ rs) (t ∷ ts) fits sized = (
    record {
      one = length-next_copy o.script run.now.voted.steps m 1 (latches_of m) r t.one run.now.voted.copies (bus_in run memory port) fits.0 sized.0.one;
      two = length-next_copy o.script run.now.voted.steps m 2 (latches_of m) r t.two run.now.voted.copies (bus_in run memory port) fits.0 sized.0.two;
      three = length-next_copy o.script run.now.voted.steps m 3 (latches_of m) r t.three run.now.voted.copies (bus_in run memory port) fits.0 sized.0.three;
    },
    sized-more (m + 1) rs ts fits.1 sized.1,
  )

-- ---- the run

-- the split machine is the voted one, whoever listens
record IsVoted (run : Run) (v : Voted) : Type 0 where
  tells : (listener : Listener) → map (told_by_three listener) run.now.copies ≡ run.now.voted.copies
  sized : AllSized 1 rows run.now.voted.copies
  voted : run.now.voted ≡ v

-- a step that was made: its copies tell what they latch, and the exchange hears the voted machine
made-step : (o : Trial) (run : Run) (before : List Split) → IsVoted run run.now.voted → IsFound (stepped o run).end
    → IsVoted (record { now = split_from o (scripted o) run (begin_step o run.now.voted); before = before }) (stepped o run)
made-step o run before h found =
    subst (λ (s : Split). IsVoted (record { now = s; before = before }) (stepped o run)) (sym (split-found (stepped o run).end copies run b (stepped o run) found))
    (record {
      tells = λ listener. tells listener ∙ sym (ap (λ (u : Voted). u.copies) same);
      sized = subst (AllSized 1 rows) (sym (made.copies) ∙ sym (ap (λ (u : Voted). u.copies) same)) (sized-more o run memory port hears 1 rows run.now.voted.copies rows-fit h.sized);
      voted = same;
    })
  where
    b : Voted
    b = begin_step o run.now.voted

    w : Wanted
    w = wished o b

    memory : ℕ
    memory = memory_word o b w

    port : ℕ
    port = answer_word b w

    copies : List Three
    copies = next_copies (scripted o) run 1 rows memory port

    made : IsMade o b w (stepped o run)
    made = is-made o b w found

    hears : (listener : Listener) → all_heard listener run.now.copies ≡ votes run.now.voted
    hears listener = sym (heard-votes listener run.now.copies) ∙ ap (λ (told : List Copies). map vote_of told) (h.tells listener)

    tells : (listener : Listener) → map (told_by_three listener) copies ≡ (stepped o run).copies
    tells listener =
        told-more o run memory port hears listener 1 rows run.now.voted.copies (omega arith) rows-fit h.sized
        (λ i. ap (λ (ts : List Copies). slice_index_or ts (1 - 1 + i) (thrice [])) made.copies ∙ ap (λ (k : ℕ). slice_index_or (all_latched o run memory port 1 rows run.now.voted.copies) k (thrice [])) (omega arith))
        ∙ sym made.copies

    same : heard_after copies b (stepped o run) ≡ stepped o run
    same =
        made.same b.copies b.counts copies
        ∙ ap (λ (told : List Copies). record (stepped o run) { copies = told; counts = voted.counted told b.counts; end = stop_after b.steps (record b { copies = told }) }) (tells Exchange)
        ∙ ap (λ (counts : List (List ℕ)). record (stepped o run) { counts = counts; end = stop_after b.steps (stepped o run) }) (sym made.counts)
        ∙ ap (λ (end : Option Outcome). record (stepped o run) { end = end }) (sym made.end)

-- one in which no good cell was found leaves them
lost-step : (o : Trial) (run : Run) (before : List Split) → IsVoted run run.now.voted → (IsFound (stepped o run).end → ⊥)
    → IsVoted (record { now = split_from o (scripted o) run (begin_step o run.now.voted); before = before }) (stepped o run)
lost-step o run before h lost =
    subst (λ (s : Split). IsVoted (record { now = s; before = before }) (stepped o run)) (sym (split-lost (stepped o run).end _ run (begin_step o run.now.voted) (stepped o run) lost))
    (record {
      tells = λ listener. h.tells listener ∙ sym kept;
      sized = subst (AllSized 1 rows) (sym kept) h.sized;
      voted = refl;
    })
  where
    kept : (stepped o run).copies ≡ run.now.voted.copies
    kept = (is-left o (begin_step o run.now.voted) (wished o (begin_step o run.now.voted)) lost).copies

-- so of every step
one-step : (o : Trial) (run : Run) (before : List Split) → IsVoted run run.now.voted
    → IsVoted (record { now = split_from o (scripted o) run (begin_step o run.now.voted); before = before }) (stepped o run)
one-step o run before h = by_end (found-or (stepped o run).end)
  where
    by_end : IsFound (stepped o run).end ⊎ (IsFound (stepped o run).end → ⊥) → IsVoted (record { now = split_from o (scripted o) run (begin_step o run.now.voted); before = before }) (stepped o run)
    by_end (inl found) = made-step o run before h found
    by_end (inr lost) = lost-step o run before h lost

next-by : (end : Option Outcome) (o : Trial) (run : Run) → IsVoted run run.now.voted → IsVoted (run_by end o (scripted o) run) (through_by end o run.now.voted)
next-by None o run h = one-step o run (run.now ∷ run.before) h
next-by (Some e) o run h = h

-- three copies of the start have its length
three-sized : (latches : List ℕ) → IsSized (length latches) (thrice latches)
three-sized latches = record { one = refl; two = refl; three = refl }

-- and of every run
pub scripted-run : (o : Trial) (n : ℕ) → IsScripted o (scripted o) n
scripted-run o n =
    let h = runs n in
    record { tells = λ listener. h.tells listener ∙ ap (λ (v : Voted). v.copies) h.voted; voted = h.voted }
  where
    runs : (n : ℕ) → IsVoted (split_run o (scripted o) n) (through o n)
    runs zero = record { tells = λ listener. refl; sized = (three-sized _, (three-sized _, (three-sized _, (three-sized _, (three-sized _, (three-sized _, (three-sized _, tt))))))); voted = refl }
    runs (suc n) =
        let h = runs n in
        subst (IsVoted (split_run o (scripted o) (suc n))) (ap (λ (v : Voted). through_by v.end o v) h.voted)
        (next-by (split_run o (scripted o) n).now.voted.end o (split_run o (scripted o) n) (record { tells = h.tells; sized = h.sized; voted = refl }))
