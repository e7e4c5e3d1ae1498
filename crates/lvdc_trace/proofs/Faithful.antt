-- A step that a guarded run makes is one of the plain run.
use Rattle.std.proofs.Common.{◌≡◌, ℕ, zero, suc, ◌-◌, ◌*◌, ◌/◌, ◌%◌, ◌<◌, ◌^◌, Bool, true, false, List, Result, Ok, Err, codes, refl, sym, ap, subst, ◌∙◌, arith}
use Rattle.std.specs.Prelude.{slice_index, ◌==◌}
use Rattle.std.proofs.lemmas.Bool.Decides.{nat_tests}
use Rattle.std.specs.declared.option.Option.{Option}
use Rattle.std.specs.declared.option.Option.TheVariants.{None, Some}
use Rattle.lvdc_word.specs.Cell.{code_of}
use Rattle.lvdc_map.specs.Address.{Spot}
use Rattle.lvdc_map.specs.Banks.{is_simplex, home}
use Rattle.lvdc_map.specs.Memory.{word_at}
use Rattle.lvdc_map.specs.declared.placed.Placed.{Placed}
use Rattle.lvdc_isa.specs.declared.op.Op.{Op}
use Rattle.lvdc_isa.specs.declared.op.Op.TheVariants.{Sto}
use Rattle.lvdc_port.specs.declared.requests.PortRequest.{PortRequest}
use Rattle.lvdc_port.specs.declared.requests.PortRequest.TheVariants.{Read, Write}
use Rattle.lvdc_twin.specs.Calls.{answer_by_one, answer_by_two, Finds}
use Rattle.lvdc_twin.specs.Store.{survives}
use Rattle.lvdc_twin.specs.declared.both_bad.BothBad.{BothBad}
use Rattle.lvdc_twin.specs.declared.read_out.ReadOut.{ReadOut}
use Rattle.lvdc_modules.specs.declared.wanted.Wanted.{Wanted}
use Rattle.lvdc_modules.specs.declared.wanted.Wanted.TheVariants.{Nothing, Fetch, Operand, Store as Stores, PortRead, PortWrite}
use Rattle.lvdc_plain.specs.Accesses.{fetched, operand, store_of, accessed}
use Rattle.lvdc_plain.specs.Plain.{PlainState}
use Rattle.lvdc_plain.specs.Table.{fetched_instr, request_by}
use Rattle.lvdc_plain.specs.declared.records.Stop.{Stop}
use Rattle.lvdc_fault.specs.Recoverable.{recovers_by}
use Rattle.lvdc_fault.specs.Script.{wrong_module}
use Rattle.lvdc_fault.specs.declared.verdict.Verdict.{Verdict}
use Rattle.lvdc_fault.specs.declared.verdict.Verdict.TheVariants.{Admissible, Logic, Memory}
use Rattle.lvdc_laws_phases.specs.Exchanges.{exchange_in, read_wish, exchange_wish, made as exchange_of}
use Rattle.lvdc_laws_phases.specs.Standing.{Standing}
use Rattle.lvdc_model.specs.declared.outcome.Outcome.{Outcome}
use Rattle.lvdc_model.specs.declared.outcome.Outcome.TheVariants.{Inadmissible}
use Rattle.lvdc_model.specs.declared.repair.Repair.{Repair}
use Rattle.lvdc_model.specs.Exchanges.{begin_step, wished}
use Rattle.lvdc_model.specs.Judging.{first_bad, first_bad_below}
use Rattle.lvdc_model.specs.Runs.{guarded, alone, own_verdict, own_logic, own_memory, read_of_wish, recovers}
use Rattle.lvdc_model.specs.Trial.{Trial, plain_at, plain_in}
use Rattle.lvdc_model.specs.Twins.{Twins, shows, answer_by, read_answer}
use Rattle.lvdc_model.specs.Voted.{Voted}
use Rattle.lvdc_laws_voted.specs.Ends.{ShowsTimes, IsBegun, Comes, Good, Bad, EndsAt}
use Rattle.lvdc_laws_voted.specs.Relation.{IsOnCourse, Goes, Halts}
use Rattle.lvdc_machine.specs.Made.{read_made, exchange_made, made_if, made_unless, made_next}
use Rattle.lvdc_machine.specs.Steps.{run_of}
use Rattle.lvdc_machine.specs.declared.made.Made.{Made}
use Rattle.lvdc_machine.specs.declared.mode.Mode.TheVariants.{Guarded}
use Rattle.lvdc_report.specs.Report.{visible_in}
use Rattle.lvdc_report.specs.Voted.{visible_of}
use Rattle.lvdc_trace.specs.Steps.{access_line}
use Rattle.lvdc_trace.specs.Plainly.{read_line, store_line, memory_line, memory_part, IsPlainly}
use Rattle.lvdc_trace.proofs.Making.{made-going, made-unjudged}

-- the laws of guarded runs and of reads, of one trial
pub record PlainLaws (o : Trial) : Type 0 where
  pub comes : (n : ℕ) → Comes Standing o n
  pub same : (n : ℕ) → alone o n ≡ guarded o n
  pub times : (times : ℕ) → first_bad o times ≡ Admissible → ShowsTimes o times (guarded o (3 * times))
  pub steps : (times : ℕ) → first_bad o times ≡ Admissible → (guarded o (3 * times)).steps ≡ 3 * (plain_at o times).times
  pub begun : (n : ℕ) → first_bad_below o n ≡ Admissible → (guarded o n).end ≡ None → IsBegun o n (begin_step o (guarded o n))
  pub one : (w : ℕ) → w < 2 ^ 26 → answer_by_one (code_of w) ≡ Ok (record { word = w; repaired = None; switched = false })
  pub two : (w selected : ℕ) (shown : ℕ → ℕ) → selected < 2 → w < 2 ^ 26 → survives (code_of w) (shown 0) (shown 1) ≡ true
      → Finds w shown (answer_by_two selected (shown selected) (shown (1 - selected)))

-- ---- where the run has come to

-- where a verdict has ended it
end-bad : (o : Trial) (n m : ℕ) → guarded o n ≡ guarded o (suc m) → EndsAt o m → (guarded o n).end ≡ Some (Inadmissible (first_bad_below o (suc m)))
end-bad o n m same h = ap (λ (v : Voted). v.end) same ∙ ap (λ (v : Voted). v.end) h.ends

-- no end has come: no step was inadmissible, and the run keeps to the plain run
record KeepsOn (o : Trial) (n : ℕ) : Type 0 where
  good : first_bad_below o n ≡ Admissible
  kept : IsOnCourse Standing o n (guarded o n)

keeps-on : (o : Trial) (n : ℕ) → Comes Standing o n → (guarded o n).end ≡ None → KeepsOn o n
keeps-on o n (Good good (Goes steps kept)) none = record { good = good; kept = kept }
keeps-on o n (Good good (Halts steps halted)) none = let ended = halted.ended in absurd (cc (ended, none))
keeps-on o n (Bad m less first same ends) none = let bad = end-bad o n m same ends in absurd (cc (bad, none))

-- no verdict has ended it
unjudged-good : (o : Trial) (n : ℕ) → Comes Standing o n → ((verdict : Verdict) → (guarded o n).end ≡ Some (Inadmissible verdict) → ⊥)
    → first_bad_below o n ≡ Admissible
unjudged-good o n (Good good follows) none = good
unjudged-good o n (Bad m less first same ends) none = absurd (none (first_bad_below o (suc m)) (end-bad o n m same ends))

-- ---- what a read brings

-- two numbers that a test finds equal
eq_of : (a b : ℕ) → (a == b) ≡ true → a ≡ b
eq_of a b h = grind (arith, nat_tests)

-- ---- what is made

-- the made thing itself, where there is one
abbrev of_some : Made → Option Made → Made
of_some other None = other
of_some other (Some made) = made

-- the part of memory in an exchange that brought this word, whatever was noted
part-of : (wanted : Wanted) (word : ℕ) (made : Made) {repair : Option Repair} → Some (record { wanted = wanted; word = word; repair = repair }) ≡ Some made
    → memory_part made.wanted made.word ≡ memory_part wanted word
part-of wanted word made is = ap (λ (x : Option Made). memory_part (of_some made x).wanted (of_some made x).word) (sym is)

-- a read of this address, where there is one
abbrev wish_of : (Spot → Wanted) → Option Spot → Wanted
wish_of make at = read_wish make at

-- an instruction that asks for a port stores nothing
no-store : (op : Op) (p : PlainState) (address : ℕ) (request : PortRequest) → request_by op p address ≡ Some request → store_of p op address ≡ None
no-store Sto p address request is = absurd (cc (is))
no-store _ p address request is = refl

module _ (o : Trial) (law : PlainLaws o) where
  -- a word that can be recovered is read
  read-word : (simplex : Bool) (step : ℕ) (t : Twins) (at : Spot) (w : ℕ) (r : ReadOut) → w < 2 ^ 26 → slice_index t.selected (home at).pair < 2
      → recovers_by simplex at.pair (code_of w) (λ twin. shows o step t twin at) ≡ true → answer_by simplex o step t at ≡ Ok r → r.word ≡ w
  read-word true step t at w r small sel rec is =
      let shown : shows o step t (at.pair / 4) at ≡ code_of w = eq_of (shows o step t (at.pair / 4) at) (code_of w) rec in
      let out = law.one w small in
      let there = sym is ∙ ap answer_by_one shown in
      cc (out, there)
  read-word false step t at w r small sel rec is =
      let found = law.two w (slice_index t.selected (home at).pair) (λ twin. shows o step t twin at) sel small rec in
      let there = found.is in
      let word = found.word in
      cc (is, there, word)

  -- the word of an address that the machine finds recoverable
  found-word : (b : Voted) (at : Spot) (w : ℕ) (r : ReadOut) → w < 2 ^ 26 → slice_index b.twins.selected (home at).pair < 2 → word_at b.intended at ≡ w
      → own_memory o b (Some at) ≡ Admissible → read_answer o b.steps b.twins at ≡ Ok r → r.word ≡ w
  found-word b at w r small sel intended admitted is =
      read-word (is_simplex o.opening.banks (home at).pair) b.steps b.twins at w r small sel
      (subst (λ (x : ℕ). recovers_by (is_simplex o.opening.banks (at.pair % 4)) at.pair (code_of x) (λ twin. shows o b.steps b.twins twin at) ≡ true) intended
      (recovered (recovers o b at) refl)) is
    where
      recovered : (x : Bool) → recovers o b at ≡ x → recovers o b at ≡ true
      recovered true e = e
      recovered false e =
          let bad : own_memory o b (Some at) ≡ Memory b.steps at = rw e refl in
          absurd (cc (bad, admitted))

  -- ---- the exchange of a phase

  -- a read
  read-told : (name : List ℕ) (make : Spot → Wanted) (p : PlainState) (b : Voted) (at : Spot) (out : Result ReadOut BothBad) (made : Made)
      → ((word : ℕ) → memory_part (make at) word ≡ access_line name at word)
      → ((r : ReadOut) → out ≡ Ok r → r.word ≡ word_at p.memory at)
      → read_made out b.steps at (make at) ≡ Some made → memory_part made.wanted made.word ≡ access_line name at (word_at p.memory at)
  read-told name make p b at (Err bad) made line word is = absurd (cc (is))
  read-told name make p b at (Ok r) made line word is =
      let w = word r refl in
      part-of (make at) r.word made is ∙ line r.word ∙ ap (access_line name at) w

  -- what the machine finds of memory, beside the plain state
  record Beside (b : Voted) (p : PlainState) : Type 0 where
    intended : b.intended ≡ p.memory
    selected : (pair : ℕ) → slice_index b.twins.selected pair < 2
    words : (at : Spot) → word_at p.memory at < 2 ^ 26

  word-beside : (b : Voted) (p : PlainState) (at : Spot) (r : ReadOut) → Beside b p → own_memory o b (Some at) ≡ Admissible
      → read_answer o b.steps b.twins at ≡ Ok r → r.word ≡ word_at p.memory at
  word-beside b p at r h admitted is =
      let same = h.intended in
      found-word b at (word_at p.memory at) r (h.words at) (h.selected (home at).pair) (ap (λ m. word_at m at) same) admitted is

  first-told : (b : Voted) (p : PlainState) (at : Option Spot) (made : Made) → fetched p ≡ at → Beside b p
      → own_memory o b (read_of_wish (exchange_in 0 p)) ≡ Admissible → exchange_made o b (exchange_in 0 p) ≡ Some made
      → memory_part made.wanted made.word ≡ read_line (codes "FETCH") p at
  first-told b p None made e h admitted is =
      let made_is = ap (λ (x : Option Spot). exchange_made o b (wish_of Fetch x)) (sym e) ∙ is in
      part-of Nothing 0 made made_is
  first-told b p (Some at) made e h admitted is =
      let made_is = ap (λ (x : Option Spot). exchange_made o b (wish_of Fetch x)) (sym e) ∙ is in
      let found_is = ap (λ (x : Option Spot). own_memory o b (read_of_wish (wish_of Fetch x))) (sym e) ∙ admitted in
      read-told (codes "FETCH") Fetch p b at (read_answer o b.steps b.twins at) made (λ word. refl) (λ r out. word-beside b p at r h found_is out) made_is

  second-told : (b : Voted) (p : PlainState) (at : Option Spot) (made : Made) → operand p ≡ at → Beside b p
      → own_memory o b (read_of_wish (exchange_in 1 p)) ≡ Admissible → exchange_made o b (exchange_in 1 p) ≡ Some made
      → memory_part made.wanted made.word ≡ read_line (codes "OPERAND") p at
  second-told b p None made e h admitted is =
      let made_is = ap (λ (x : Option Spot). exchange_made o b (wish_of Operand x)) (sym e) ∙ is in
      part-of Nothing 0 made made_is
  second-told b p (Some at) made e h admitted is =
      let made_is = ap (λ (x : Option Spot). exchange_made o b (wish_of Operand x)) (sym e) ∙ is in
      let found_is = ap (λ (x : Option Spot). own_memory o b (read_of_wish (wish_of Operand x))) (sym e) ∙ admitted in
      read-told (codes "OPERAND") Operand p b at (read_answer o b.steps b.twins at) made (λ word. refl) (λ r out. word-beside b p at r h found_is out) made_is

  -- a port exchange or a store
  third-told : (r : Option PortRequest) (s : Option Placed) (b : Voted) (made : Made) → ((request : PortRequest) → r ≡ Some request → s ≡ None)
      → exchange_made o b (exchange_wish r s) ≡ Some made → memory_part made.wanted made.word ≡ store_line s
  third-told (Some (Read port)) s b made apart is = let none = apart (Read port) refl in rw none (part-of (PortRead port) _ made is)
  third-told (Some (Write port word)) s b made apart is = let none = apart (Write port word) refl in rw none (part-of (PortWrite port word) 0 made is)
  third-told None None b made apart is = part-of Nothing 0 made is
  third-told None (Some s) b made apart is = part-of (Stores s.at s.word) 0 made is

  made-told : (stop : Option Stop) (hold : ℕ) (p : PlainState) (b : Voted) (made : Made) → exchange_made o b (exchange_of stop hold p) ≡ Some made
      → memory_part made.wanted made.word ≡ store_line (accessed stop hold (store_of p (fetched_instr p).op (fetched_instr p).address))
  made-told None zero p b made is =
      third-told (request_by (fetched_instr p).op p (fetched_instr p).address) (store_of p (fetched_instr p).op (fetched_instr p).address) b made
      (no-store (fetched_instr p).op p (fetched_instr p).address) is
  made-told None (suc hold) p b made is = part-of Nothing 0 made is
  made-told (Some s) hold p b made is = part-of Nothing 0 made is

  -- by phases
  phase-told : (k : ℕ) (b : Voted) (p : PlainState) (made : Made) → Beside b p → own_memory o b (read_of_wish (exchange_in k p)) ≡ Admissible
      → exchange_made o b (exchange_in k p) ≡ Some made → memory_part made.wanted made.word ≡ memory_line k p
  phase-told zero b p made h admitted is = first-told b p (fetched p) made refl h admitted is
  phase-told (suc zero) b p made h admitted is = second-told b p (operand p) made refl h admitted is
  phase-told (suc (suc k)) b p made h admitted is = made-told p.stop p.hold p b made is

  -- ---- a step that is made

  -- nothing was said against it
  record Admitted (b : Voted) (made : Made) : Type 0 where
    verdict : own_memory o b (read_of_wish (wished o b)) ≡ Admissible
    exchange : exchange_made o b (wished o b) ≡ Some made

  admitted-logic : (number : Option ℕ) (b : Voted) → own_logic o b number ≡ Admissible → own_memory o b (read_of_wish (wished o b)) ≡ Admissible
  admitted-logic None b is = is
  admitted-logic (Some m) b is = absurd (cc (is))

  admitted-if : (verdict : Verdict) (b : Voted) (made : Made) → own_verdict o b ≡ verdict → made_if verdict o b ≡ Some made → Admitted b made
  admitted-if Admissible b made e is = record { verdict = admitted-logic (wrong_module o.script b.steps) b e; exchange = is }
  admitted-if (Logic step number) b made e is = absurd (cc (is))
  admitted-if (Memory step at) b made e is = absurd (cc (is))

  admitted : (v : Voted) (made : Made) → v.end ≡ None → made_next Guarded o v ≡ Some made → Admitted (begin_step o v) made
  admitted v made none is =
      admitted-if (own_verdict o (begin_step o v)) (begin_step o v) made refl (ap (λ (e : Option Outcome). made_unless e Guarded o v) (sym none) ∙ is)

  module _ (step : ℕ) (made : Made) (is : made_next Guarded o (run_of Guarded o step) ≡ Some made) where
    going : (guarded o step).end ≡ None
    going = ap (λ (v : Voted). v.end) (sym (law.same step)) ∙ made-going Guarded o (run_of Guarded o step) made is

    here : KeepsOn o step
    here = keeps-on o step (law.comes step) going

    is_begun : IsBegun o step (begin_step o (run_of Guarded o step))
    is_begun = subst (λ (v : Voted). IsBegun o step (begin_step o v)) (sym (law.same step)) (law.begun step here.good going)

    told : memory_part made.wanted made.word ≡ memory_line (step % 3) (plain_in o step)
    told =
        let b = begin_step o (run_of Guarded o step) in
        let p = plain_in o step in
        let may = admitted (run_of Guarded o step) made (made-going Guarded o (run_of Guarded o step) made is) is in
        let wish : wished o b ≡ exchange_in (step % 3) p = is_begun.wish in
        let fits = here.kept.stands.plain in
        let beside : Beside b p = record { intended = is_begun.intended; selected = is_begun.cells.selected; words = fits.words } in
        phase-told (step % 3) b p made beside (subst (λ (w : Wanted). own_memory o b (read_of_wish w) ≡ Admissible) wish may.verdict)
        (subst (λ (w : Wanted). exchange_made o b w ≡ Some made) wish may.exchange)

    -- it is admissible
    next-good : first_bad_below o (suc step) ≡ Admissible
    next-good =
        unjudged-good o (suc step) (law.comes (suc step))
        (λ verdict end. made-unjudged Guarded o (run_of Guarded o step) made is verdict (ap (λ (v : Voted). v.end) (law.same (suc step)) ∙ end))

    shown : step % 3 ≡ 2 → visible_of (run_of Guarded o (suc step)) ≡ visible_in (plain_at o (suc step / 3))
    shown last =
        let times = suc step / 3 in
        let whole : suc step ≡ 3 * times = omega (arith, last) in
        let good : first_bad o times ≡ Admissible = ap (first_bad_below o) (sym whole) ∙ next-good in
        let state : run_of Guarded o (suc step) ≡ guarded o (3 * times) = law.same (suc step) ∙ ap (guarded o) whole in
        let shows = law.times times good in
        let steps = law.steps times good in
        let third : (guarded o (3 * times)).steps / 3 ≡ (plain_at o times).times = omega (arith, steps) in
        ap visible_of state ∙ (λ i. record { place = shows.registers.place i; a = shows.registers.a i; pq = shows.registers.pq i; saver = shows.registers.saver i; times = third i })

    pub step-plainly : IsPlainly o step made
    step-plainly = record { memory = told; registers = shown }
