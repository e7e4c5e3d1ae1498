-- Under a script without events every cell is the code of the plain run's word, so no step is inadmissible.
use Rattle.std.proofs.Common.{◌≡◌, ℕ, zero, suc, ◌/◌, ◌%◌, Bool, true, false, cond, ◌&&◌, List, [], subst, refl, sym, ap, ◌∙◌, arith}
use Rattle.std.specs.declared.option.Option.{Option}
use Rattle.std.specs.declared.option.Option.TheVariants.{None, Some}
use Rattle.lvdc_word.specs.Cell.{code_of}
use Rattle.lvdc_map.specs.Address.{Spot, is_same}
use Rattle.lvdc_map.specs.Banks.{holds}
use Rattle.lvdc_map.specs.Memory as memory
use Rattle.lvdc_map.specs.declared.placed.Placed.{Placed}
use Rattle.lvdc_modules.specs.declared.wanted.Wanted.{Wanted}
use Rattle.lvdc_modules.specs.declared.wanted.Wanted.TheVariants as wanted
use Rattle.lvdc_plain.specs.Table.{fetched_instr}
use Rattle.lvdc_plain.specs.Accesses.{store, accessed, store_of}
use Rattle.lvdc_plain.specs.Plain.{PlainState, World}
use Rattle.lvdc_plain.specs.Run.{Opening, plugged, time_by, run}
use Rattle.lvdc_plain.specs.declared.records.Stop.{Stop}
use Rattle.lvdc_laws_phases.specs.Exchanges.{made}
use Rattle.lvdc_fault.specs.declared.verdict.Verdict.TheVariants as verdicts
use Rattle.lvdc_model.specs.Trial.{Trial, plain_in, read_at, store_in_phase}
use Rattle.lvdc_model.specs.CellsBefore.{cell_after, cell_before, is_mended, mended, overwritten}
use Rattle.lvdc_model.specs.Judging.{is_recoverable, judged, judged_memory, is_begun, first_bad_below}
use Rattle.lvdc_model.specs.Runs.{guarded}
use Rattle.lvdc_model.proofs.Stuck.{nothing-stuck}
use Rattle.lvdc_laws_voted.specs.Laws.{PortLaw, HoldersLaw, StepLaws}
use Rattle.lvdc_laws_voted.specs.Leaves.{memory_after}
use Rattle.lvdc_laws_voted.specs.Relation.{Follows, Goes, Halts}
use Rattle.lvdc_laws_voted.specs.Ends.{Opens}
use Rattle.lvdc_laws_voted.proofs.PlainTimes.{store_of_wish, made-store}
use Rattle.lvdc_laws_voted.proofs.PlainRuns.{stays-world}
use Rattle.lvdc_laws_voted.proofs.Recovered.{recovered-code}
use Rattle.lvdc_laws_voted.proofs.Steps.{HasBanks}
use Rattle.lvdc_laws_voted.proofs.Join.{bank-read}
use Rattle.lvdc_laws_voted.proofs.Run.{or_else-first, kept-here, follows}

-- a trial without events
abbrev pub without_events : Opening → Trial
without_events o = record { opening = o; script = [] }

-- ---- the memory of the plain run, by its stores

-- the memory after a store, where there is one
abbrev after_stores : Option Placed → memory.Memory → memory.Memory
after_stores None m = m
after_stores (Some s) m = memory.stored m s.at s.word

-- memory changes by stores alone
wish-memory : (w : Wanted) (m : memory.Memory) → memory_after w m ≡ after_stores (store_of_wish w) m
wish-memory (wanted.Store at word) m = refl
wish-memory wanted.Nothing m = refl
wish-memory (wanted.Fetch at) m = refl
wish-memory (wanted.Operand at) m = refl
wish-memory (wanted.PortRead port) m = refl
wish-memory (wanted.PortWrite port word) m = refl

-- one time changes it by the store that it makes
time-memory : PortLaw → (stop : Option Stop) (o : Opening) (w : World) → w.plain.stop ≡ stop
    → (time_by stop o.unplugs w).plain.memory ≡ after_stores (accessed stop w.plain.hold (store_of w.plain (fetched_instr w.plain).op (fetched_instr w.plain).address)) w.plain.memory
time-memory law (Some s) o w e = refl
time-memory law None o w e =
    let p = w.plain in
    (law p (plugged o.unplugs p.times w.devices) e).memory
    ∙ ap (λ (stop : Option Stop). memory_after (made stop p.hold p) p.memory) e
    ∙ wish-memory (made None p.hold p) p.memory
    ∙ ap (λ (s : Option Placed). after_stores s p.memory) (sym (made-store None p.hold p))

next-memory : PortLaw → (o : Opening) (k : ℕ) → (run o (suc k)).plain.memory ≡ after_stores (store (run o k).plain) (run o k).plain.memory
next-memory law o k = time-memory law (run o k).plain.stop o (run o k) refl

-- ---- the cells

-- a read that mends a cell writes what stands there
mended-plain : (b : Bool) (cell code : ℕ) → cell ≡ code → cond b code cell ≡ code
mended-plain true cell code e = refl
mended-plain false cell code e = e

-- a store writes the code of the plain run's word
store-plain : (o : Opening) (n twin : ℕ) (at : Spot) → holds o.banks twin at ≡ true → (s : Option Placed) (m : memory.Memory) (cell : ℕ) → cell ≡ code_of (memory.word_at m at)
    → overwritten (without_events o) n twin at s cell ≡ code_of (memory.word_at (after_stores s m) at)
store-plain o n twin at held None m cell e = e
store-plain o n twin at held (Some s) m cell e = rw held (by_place (is_same at s.at))
  where
    by_place : (b : Bool) → cond ((b && true) && true) (code_of s.word) cell ≡ code_of (cond b s.word (memory.word_at m at))
    by_place true = refl
    by_place false = e

-- the store of a step
store-in : PortLaw → (o : Opening) (n r twin : ℕ) (at : Spot) → holds o.banks twin at ≡ true → n % 3 ≡ r
    → (cell : ℕ) → cell ≡ code_of (memory.word_at (plain_in (without_events o) n).memory at)
    → overwritten (without_events o) n twin at (store_in_phase r (plain_in (without_events o) n)) cell
    ≡ code_of (memory.word_at (plain_in (without_events o) (suc n)).memory at)
store-in law o n zero twin at held is cell e =
    let same : suc n / 3 ≡ n / 3 = omega arith in e ∙ sym (ap (λ (i : ℕ). code_of (memory.word_at (run o i).plain.memory at)) same)
store-in law o n (suc zero) twin at held is cell e =
    let same : suc n / 3 ≡ n / 3 = omega arith in e ∙ sym (ap (λ (i : ℕ). code_of (memory.word_at (run o i).plain.memory at)) same)
store-in law o n (suc (suc zero)) twin at held is cell e =
    let p = plain_in (without_events o) n in
    let next : suc n / 3 ≡ suc (n / 3) = omega arith in
    store-plain o n twin at held (store p) p.memory cell e
    ∙ sym (ap (λ (m : memory.Memory). code_of (memory.word_at m at)) (next-memory law o (n / 3)))
    ∙ sym (ap (λ (i : ℕ). code_of (memory.word_at (run o i).plain.memory at)) next)
store-in law o n (suc (suc (suc r))) twin at held is cell e = absurd (omega arith)

-- a step leaves the code of the plain run's word where it finds it
pub cell-next : PortLaw → (o : Opening) (twin : ℕ) (at : Spot) → holds o.banks twin at ≡ true → (n cell : ℕ) → cell ≡ code_of (memory.word_at (plain_in (without_events o) n).memory at)
    → cell_after (without_events o) n twin at cell ≡ code_of (memory.word_at (plain_in (without_events o) (suc n)).memory at)
cell-next law o twin at held n cell e =
    let t = without_events o in
    store-in law o n (n % 3) twin at held refl (mended t n twin at cell)
    (mended-plain (is_mended t n twin at cell) cell (code_of (memory.word_at (plain_in t n).memory at)) e)

-- each twin stores the code of the plain run's word at every address that it holds
cell-plain : PortLaw → (o : Opening) (twin : ℕ) (at : Spot) → holds o.banks twin at ≡ true → (n : ℕ)
    → cell_before (without_events o) twin at n ≡ code_of (memory.word_at (plain_in (without_events o) n).memory at)
cell-plain law o twin at held zero = refl
cell-plain law o twin at held (suc n) = cell-next law o twin at held n (cell_before (without_events o) twin at n) (cell-plain law o twin at held n)

-- ---- no verdict

-- so its word can be recovered
recoverable : PortLaw → HoldersLaw → (o : Opening) (n : ℕ) (at : Spot) → HasBanks o.banks (Some at) → is_recoverable (without_events o) n at ≡ true
recoverable law holders o n at bank =
    let t = without_events o in
    let w = memory.word_at (plain_in t n).memory at in
    holders o.banks at w _ (λ twin. code_of w) bank (λ twin two held. nothing-stuck _ ∙ cell-plain law o twin at held n) ∙ recovered-code o.banks at w

-- without events no step is bad
nothing-said : PortLaw → HoldersLaw → (o : Opening) (n : ℕ) (r : Option Spot) → HasBanks o.banks r → judged_memory (without_events o) n r ≡ verdicts.Admissible
nothing-said law holders o n None bank = refl
nothing-said law holders o n (Some at) bank = rw (recoverable law holders o n at bank) refl

pub none-bad : (Stands : ℕ → List (List ℕ) → PlainState → Type 0) → StepLaws Stands → (o : Opening) → Opens Stands (without_events o)
    → (n : ℕ) → first_bad_below (without_events o) n ≡ verdicts.Admissible
none-bad Stands law o opens zero = refl
none-bad Stands law o opens (suc n) =
    let before = none-bad Stands law o opens n in
    or_else-first (first_bad_below t n) (cond (is_begun t n) (judged t n) verdicts.Admissible) before ∙ by_run (follows Stands t law opens n before)
  where
    t : Trial
    t = without_events o

    either : (b : Bool) → judged t n ≡ verdicts.Admissible → cond b (judged t n) verdicts.Admissible ≡ verdicts.Admissible
    either true e = e
    either false e = refl

    by_run : Follows Stands t n (guarded t n) → cond (is_begun t n) (judged t n) verdicts.Admissible ≡ verdicts.Admissible
    by_run (Goes e k) =
        either (is_begun t n) (nothing-said law.ports law.holders o n (read_at t n)
        (subst (λ (m : ℕ). HasBanks o.banks (read_at t m)) e (bank-read Stands t (guarded t n) law (kept-here Stands t n (guarded t n) e k))))
    by_run (Halts le d) =
        let later : (plain_in t n).stop ≡ Some d.why =
        ap (λ (w : World). w.plain.stop) (stays-world law.stopped o ((guarded t n).steps / 3) d.why d.stopped (n / 3) (omega arith)) ∙ d.stopped in
        rw later refl
