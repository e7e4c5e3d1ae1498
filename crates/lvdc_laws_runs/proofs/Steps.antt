-- A step without active events is the step of the trial without its script.
use Rattle.std.proofs.Common.{◌≡◌, ℕ, suc, ◌-◌, ◌/◌, ◌≤◌, Bool, true, false, cond, List, [], ◌++◌, slice_index, refl, ap, ◌∙◌, arith}
use Rattle.std.specs.declared.option.Option.{Option}
use Rattle.std.specs.declared.option.Option.TheVariants.{None, Some}
use Rattle.std.specs.Prelude.{Result, Ok, Err}
use Rattle.lvdc_word.specs.Cell.{code_of}
use Rattle.lvdc_map.specs.Address.{Spot}
use Rattle.lvdc_map.specs.Banks.{is_simplex, home, holds}
use Rattle.lvdc_map.specs.Memory as memory
use Rattle.lvdc_twin.specs.Calls.{answer_by_one, answer_by_two}
use Rattle.lvdc_twin.specs.declared.both_bad.BothBad.{BothBad}
use Rattle.lvdc_twin.specs.declared.read_out.ReadOut.{ReadOut}
use Rattle.lvdc_port.specs.Devices.{after_exchange}
use Rattle.lvdc_port.specs.declared.requests.PortRequest.TheVariants as requests
use Rattle.lvdc_modules.specs.Rows.{rows}
use Rattle.lvdc_modules.specs.declared.wanted.Wanted.{Wanted}
use Rattle.lvdc_modules.specs.declared.wanted.Wanted.TheVariants.{Nothing, Fetch, Operand, Store, PortRead, PortWrite}
use Rattle.lvdc_fault.specs.Recoverable.{is_recovered}
use Rattle.lvdc_fault.specs.Script.{active_events}
use Rattle.lvdc_fault.specs.declared.verdict.Verdict.{Verdict}
use Rattle.lvdc_fault.specs.declared.verdict.Verdict.TheVariants.{Admissible, Logic, Memory}
use Rattle.lvdc_model.specs.Trial.{Trial, devices_left}
use Rattle.lvdc_model.specs.Twins.{Twins, with_cell, with_word, shows, answer_by, read_answer, rewritten, switched_by, after_read, with_held, after_store}
use Rattle.lvdc_model.specs.Voted.{Voted, voted_bus}
use Rattle.lvdc_model.specs.Exchanges.{begin_step, step_made, latches, repair_by, reading, storing, port_word, exchanges, wished, voted_step}
use Rattle.lvdc_model.specs.Runs.{read_of_wish, recovers, own_memory, own_logic, own_verdict, judged_by}
use Rattle.lvdc_laws_runs.specs.Early.{fault_free}
use Rattle.lvdc_laws_runs.proofs.Idle.{module-none, dead-none, shown-same, damages-none, copies-same}

-- ---- memory

module _ (o : Trial) (step : ℕ) (none : active_events o.script step ≡ []) where
  shows-same : (t : Twins) (twin : ℕ) (at : Spot) → shows o step t twin at ≡ shows (fault_free o) step t twin at
  shows-same t twin at = shown-same o.script step none twin (home at) (memory.word_at (t.cells twin) (home at))

  answer-same : (simplex : Bool) (t : Twins) (at : Spot) → answer_by simplex o step t at ≡ answer_by simplex (fault_free o) step t at
  answer-same true t at = ap answer_by_one (shows-same t (at.pair / 4) at)
  answer-same false t at =
      let selected = slice_index t.selected (home at).pair in
      λ i. answer_by_two selected (shows-same t selected at i) (shows-same t (1 - selected) at i)

  -- a read answers the same
  pub read-same : (t : Twins) (at : Spot) → read_answer o step t at ≡ read_answer (fault_free o) step t at
  read-same t at = answer-same (is_simplex o.opening.banks (home at).pair) t at

  word-same : (t : Twins) (twin : ℕ) (at : Spot) (w : ℕ) → with_word o step t twin at w ≡ with_word (fault_free o) step t twin at w
  word-same t twin at w = ap (λ b. cond b t (with_cell t twin at (code_of w))) (dead-none o.script step none twin (home at).pair)

  rewritten-same : (repaired : Option ℕ) (t : Twins) (at : Spot) (w : ℕ) → rewritten repaired o step t at w ≡ rewritten repaired (fault_free o) step t at w
  rewritten-same None t at w = refl
  rewritten-same (Some twin) t at w = word-same t twin at w

  -- it leaves the same
  pub after-read-same : (t : Twins) (at : Spot) (r : ReadOut) → after_read o step t at r ≡ after_read (fault_free o) step t at r
  after-read-same t at r = ap (λ t. switched_by r.switched t (home at).pair) (rewritten-same r.repaired t at r.word)

  held-same : (twin : ℕ) (at : Spot) (w : ℕ) (t : Twins) → with_held o step twin at w t ≡ with_held (fault_free o) step twin at w t
  held-same twin at w t = ap (λ (u : Twins). cond (holds o.opening.banks twin at) u t) (word-same t twin at w)

  -- and so does a store
  pub after-store-same : (at : Spot) (w : ℕ) (t : Twins) → after_store o step at w t ≡ after_store (fault_free o) step at w t
  after-store-same at w t = held-same 1 at w (with_held o step 0 at w t) ∙ ap (with_held (fault_free o) step 1 at w) (held-same 0 at w t)

-- ---- the exchange

-- all copies latch the same
latches-same : (o : Trial) (v : Voted) → active_events o.script v.steps ≡ [] → (word port : ℕ) → latches o v word port ≡ latches (fault_free o) v word port
latches-same o v none word port =
    ap (λ (copies : List _). step_made (record v { copies = copies })) (copies-same o.script v.steps none 1 rows v.copies v.copies (voted_bus v word port))

module _ (o : Trial) (v : Voted) (none : active_events o.script v.steps ≡ []) where
  reading-same : (r : Result ReadOut BothBad) (at : Spot) → reading r o v at ≡ reading r (fault_free o) v at
  reading-same (Err bad) at = refl
  reading-same (Ok r) at =
      latches-same o (record v { twins = after_read o v.steps v.twins at r; repairs = v.repairs ++ repair_by r.repaired v.steps at r.switched }) none r.word 0
      ∙ ap (λ (t : Twins). latches (fault_free o) (record v { twins = t; repairs = v.repairs ++ repair_by r.repaired v.steps at r.switched }) r.word 0) (after-read-same o v.steps none v.twins at r)

  read-done : (at : Spot) → reading (read_answer o v.steps v.twins at) o v at ≡ reading (read_answer (fault_free o) v.steps v.twins at) (fault_free o) v at
  read-done at = reading-same (read_answer o v.steps v.twins at) at ∙ ap (λ r. reading r (fault_free o) v at) (read-same o v.steps none v.twins at)

  storing-same : (at : Spot) (w : ℕ) → storing o v at w ≡ storing (fault_free o) v at w
  storing-same at w =
      latches-same o (record v { twins = after_store o v.steps at w v.twins; intended = memory.stored v.intended at w }) none 0 0
      ∙ ap (λ (t : Twins). latches (fault_free o) (record v { twins = t; intended = memory.stored v.intended at w }) 0 0) (after-store-same o v.steps none at w v.twins)

  exchange-same : (w : Wanted) → exchanges o v w ≡ exchanges (fault_free o) v w
  exchange-same Nothing = latches-same o v none 0 0
  exchange-same (Fetch at) = read-done at
  exchange-same (Operand at) = read-done at
  exchange-same (Store at word) = storing-same at word
  exchange-same (PortRead port) = latches-same o (record v { devices = after_exchange (requests.Read port) v.devices; log = _ }) none 0 (port_word v (requests.Read port))
  exchange-same (PortWrite port word) = latches-same o (record v { devices = after_exchange (requests.Write port word) v.devices; log = _ }) none 0 0

  -- a step that was begun is made as under no script
  pub step-same : voted_step o v ≡ voted_step (fault_free o) v
  step-same = exchange-same (wished o v)

  -- it is begun so
  pub begin-same : begin_step o v ≡ begin_step (fault_free o) v
  begin-same = ap (λ (t : Twins). record v { devices = devices_left o.opening.unplugs v.steps v.devices; twins = t }) (damages-none o.script v.steps none v.twins)

  -- ---- the machine's own verdict

  recovers-same : (at : Spot) → recovers o v at ≡ recovers (fault_free o) v at
  recovers-same at = λ i. is_recovered o.opening.banks at (memory.word_at v.intended at) (λ twin. shows-same o v.steps none v.twins twin at i)

  own-memory-same : (r : Option Spot) → own_memory o v r ≡ own_memory (fault_free o) v r
  own-memory-same None = refl
  own-memory-same (Some at) = ap (λ b. cond b Admissible (Memory v.steps at)) (recovers-same at)

  pub own-verdict-same : own_verdict o v ≡ own_verdict (fault_free o) v
  own-verdict-same = ap (own_logic o v) (module-none o.script v.steps none) ∙ own-memory-same (read_of_wish (wished o v))

  pub judged-by-same : (w : Verdict) → judged_by w o v ≡ judged_by w (fault_free o) v
  judged-by-same Admissible = step-same
  judged-by-same (Logic step m) = refl
  judged-by-same (Memory step at) = refl

-- ---- the steps made

reading-steps : (r : Result ReadOut BothBad) (o : Trial) (v : Voted) (at : Spot) → (reading r o v at).steps ≤ suc v.steps
reading-steps (Err bad) o v at = omega arith
reading-steps (Ok r) o v at = omega arith

exchange-steps : (o : Trial) (v : Voted) (w : Wanted) → (exchanges o v w).steps ≤ suc v.steps
exchange-steps o v Nothing = omega arith
exchange-steps o v (Fetch at) = reading-steps (read_answer o v.steps v.twins at) o v at
exchange-steps o v (Operand at) = reading-steps (read_answer o v.steps v.twins at) o v at
exchange-steps o v (Store at word) = omega arith
exchange-steps o v (PortRead port) = omega arith
exchange-steps o v (PortWrite port word) = omega arith

-- a step makes one step at most, also one that was judged
pub step-steps : (o : Trial) (v : Voted) → (voted_step o v).steps ≤ suc v.steps
step-steps o v = exchange-steps o v (wished o v)

pub judged-steps : (w : Verdict) (o : Trial) (v : Voted) → (judged_by w o v).steps ≤ suc v.steps
judged-steps Admissible o v = step-steps o v
judged-steps (Logic step m) o v = omega arith
judged-steps (Memory step at) o v = omega arith
