-- Under damage alone that a program repairs in time the guarded machine notes what its reads find.
use Rattle.std.proofs.Common.{◌≡◌, ℕ, zero, suc, ◌+◌, ◌-◌, ◌*◌, ◌/◌, ◌%◌, ◌^◌, ◌<◌, ◌≤◌, Bool, true, false, not, cond, List, [], ◌∷◌, ◌++◌, map, slice_index, refl, sym, ap, ◌∙◌, subst, arith, Result, Ok}
use Rattle.std.specs.Prelude.{IfSome}
use Rattle.std.specs.List.{list_any, list_all}
use Rattle.std.specs.declared.option.Option.{Option}
use Rattle.std.specs.declared.option.Option.TheVariants.{None, Some}
use Rattle.std.proofs.lemmas.Bool.{eqb-true, eq-eqb}
use Rattle.std.proofs.lemmas.List.{map-append, append-nil}
use Rattle.lvdc_word.specs.Cell.{code_of, is_good}
use Rattle.lvdc_map.specs.Address.{Spot}
use Rattle.lvdc_map.specs.Banks.{is_simplex, holds, HasBank}
use Rattle.lvdc_map.specs.Memory.{word_at}
use Rattle.lvdc_twin.specs.Store.{survives}
use Rattle.lvdc_twin.specs.Calls.{answer_by_one, answer_by_two, is_repaired, Finds}
use Rattle.lvdc_twin.specs.declared.both_bad.BothBad.{BothBad}
use Rattle.lvdc_twin.specs.declared.read_out.ReadOut.{ReadOut}
use Rattle.lvdc_modules.specs.declared.wanted.Wanted.{Wanted}
use Rattle.lvdc_modules.specs.declared.wanted.Wanted.TheVariants as wanted
use Rattle.lvdc_map.specs.Hop.{fetch_of}
use Rattle.lvdc_plain.specs.Table.{fetched_instr}
use Rattle.lvdc_plain.specs.Accesses.{accessed, operand_of}
use Rattle.lvdc_plain.specs.Plain.{PlainState, World}
use Rattle.lvdc_plain.specs.Run.{run, IsOpening}
use Rattle.lvdc_plain.specs.declared.records.Stop.{Stop}
use Rattle.lvdc_fault.specs.Recoverable.{recovers_by}
use Rattle.lvdc_fault.specs.declared.verdict.Verdict.{Verdict}
use Rattle.lvdc_fault.specs.declared.verdict.Verdict.TheVariants.{Admissible}
use Rattle.lvdc_laws_phases.specs.Exchanges.{read_wish, exchange_in, made}
use Rattle.lvdc_laws_phases.specs.Standing.{Standing}
use Rattle.lvdc_model.specs.declared.outcome.Outcome.{Outcome}
use Rattle.lvdc_model.specs.Trial.{Trial, plain_in, read_at, read_in_phase}
use Rattle.lvdc_model.specs.CellsBefore.{shown_at, shown_with}
use Rattle.lvdc_model.specs.Twins.{shows, answer_by, read_answer}
use Rattle.lvdc_model.specs.Voted.{Voted}
use Rattle.lvdc_model.specs.Exchanges.{begin_step, repair_by, reading, exchanges, voted_step}
use Rattle.lvdc_model.specs.Judging.{judged, is_recoverable, first_bad_below}
use Rattle.lvdc_model.specs.Runs.{read_of_wish, judged_by, guarded_by, guarded}
use Rattle.lvdc_laws_voted.specs.Ends.{IsBegun, Comes, Good, Bad}
use Rattle.lvdc_laws_voted.specs.Laws.{PortLaw, DeviceWords, BankLaw, StopLaw}
use Rattle.lvdc_laws_voted.specs.Relation.{Halted, Goes, Halts}
use Rattle.lvdc_laws_voted.proofs.PlainTimes.{made-reads_none}
use Rattle.lvdc_withstands.specs.Form.{lines_in}
use Rattle.lvdc_withstands.specs.Findings.{Finding, finding_of, is_damage_alone, meets, found_in, findings}
use Rattle.lvdc_withstands.proofs.Runs.{WordsLaw, HasBanks, read-bank, next-word}
use Rattle.lvdc_withstands.proofs.Admitted.{Parts, DuplexLaw, repairs-at, fits, small, recovered-in, step-admissible, none-bad}
use Rattle.lvdc_withstands.proofs.Waiting.{met-bad, met-simplex}

-- ---- what a step notes

-- a step that reads nothing notes nothing
quiet : (o : Trial) (v : Voted) (w : Wanted) → read_of_wish w ≡ None → (exchanges o v w).repairs ≡ v.repairs
quiet o v wanted.Nothing h = refl
quiet o v (wanted.Fetch at) h = absurd (cc)
quiet o v (wanted.Operand at) h = absurd (cc)
quiet o v (wanted.Store at word) h = refl
quiet o v (wanted.PortRead port) h = refl
quiet o v (wanted.PortWrite port word) h = refl

-- a read notes what it repairs
read-notes : (o : Trial) (v : Voted) (at : Spot) (a : Result ReadOut BothBad) (out : ReadOut) → a ≡ Ok out → (reading a o v at).repairs ≡ v.repairs ++ repair_by out.repaired v.steps at out.switched
read-notes o v at a out e = ap (λ (a : Result ReadOut BothBad). (reading a o v at).repairs) e

-- a twin that is repaired is one that is found
noted : (o : Trial) (n : ℕ) (at : Spot) (r : Option ℕ) (switched : Bool) → IfSome r (λ twin. twin < 2) → is_repaired r 0 ≡ list_any (meets o n at 0) o.script
    → is_repaired r 1 ≡ list_any (meets o n at 1) o.script → map finding_of (repair_by r n at switched) ≡ found_in o n (Some at)
noted o n at None switched two e f = λ i. cond (e i) (record { step = n; at = at; twin = 0 } ∷ []) [] ++ cond (f i) (record { step = n; at = at; twin = 1 } ∷ []) []
noted o n at (Some zero) switched two e f = λ i. cond (e i) (record { step = n; at = at; twin = 0 } ∷ []) [] ++ cond (f i) (record { step = n; at = at; twin = 1 } ∷ []) []
noted o n at (Some (suc zero)) switched two e f = λ i. cond (e i) (record { step = n; at = at; twin = 0 } ∷ []) [] ++ cond (f i) (record { step = n; at = at; twin = 1 } ∷ []) []
noted o n at (Some (suc (suc twin))) switched two e f = absurd (omega arith)

-- a machine that has stopped reads nothing
stopped-reads : (r : ℕ) (p : PlainState) (why : Stop) → p.stop ≡ Some why → read_in_phase r p ≡ None
stopped-reads zero p why e = ap (λ (s : Option Stop). accessed s p.hold (Some (fetch_of p.banks p.place))) e
stopped-reads (suc zero) p why e = ap (λ (s : Option Stop). accessed s p.hold (operand_of p (fetched_instr p))) e
stopped-reads (suc (suc r)) p why e = refl

-- what a read of one and of two cells answers
abbrev pub OneLaw : Type 0
OneLaw = (w : ℕ) → w < 2 ^ 26 → answer_by_one (code_of w) ≡ Ok (record { word = w; repaired = None; switched = false })

abbrev pub TwoLaw : Type 0
TwoLaw = (w selected : ℕ) (shown : ℕ → ℕ) → selected < 2 → w < 2 ^ 26 → survives (code_of w) (shown 0) (shown 1) ≡ true
    → Finds w shown (answer_by_two selected (shown selected) (shown (1 - selected)))

module _ (ports : PortLaw) (devices : DeviceWords) (words : WordsLaw) (banks : BankLaw) (duplex : DuplexLaw) (o : Trial) (count : ℕ) (ok : IsOpening o.opening)
    (comes : (n : ℕ) → Comes Standing o n) (f : Parts o count) (alone : list_all is_damage_alone (lines_in count o.script) ≡ true) (one : OneLaw) (two : TwoLaw)
    (begun : (n : ℕ) → first_bad_below o n ≡ Admissible → (guarded o n).end ≡ None → IsBegun o n (begin_step o (guarded o n))) (stays : StopLaw) where
  word_small : (at : Spot) (n : ℕ) → word_at (plain_in o n).memory at < 2 ^ 26
  word_small at n = small ports devices words banks duplex o count ok (comes 0) f at n

  recovered : (n : ℕ) (at : Spot) → n < 3 * count → HasBank o.opening.banks at → is_recoverable o n at ≡ true
  recovered n at below bank = recovered-in ports devices words banks duplex o count ok (comes 0) f n at below bank

  good : (n : ℕ) → n ≤ 3 * count → first_bad_below o n ≡ Admissible
  good n le = none-bad ports devices words banks duplex o count ok (comes 0) f n le

  -- ---- one read

  -- the answer of a read, and that it repairs what it meets
  record Answers (v : Voted) (at : Spot) (a : Result ReadOut BothBad) : Type 0 where
    out : ReadOut
    is : a ≡ Ok out
    notes : map finding_of (repair_by out.repaired v.steps at out.switched) ≡ found_in o v.steps (Some at)

  answers : (v : Voted) (at : Spot) → v.steps < 3 * count → IsBegun o v.steps v → HasBank o.opening.banks at → Answers v at (read_answer o v.steps v.twins at)
  answers v at below b bank = by_simplex (is_simplex o.opening.banks (at.pair % 4)) refl
    where
      n : ℕ
      n = v.steps

      w : ℕ
      w = word_at (plain_in o n).memory at

      shown : ℕ → ℕ
      shown twin = shows o n v.twins twin at

      shown_is : (twin : ℕ) → twin < 2 → holds o.opening.banks twin at ≡ true → shown twin ≡ shown_at o twin at n
      shown_is twin small held = ap (shown_with o n twin at) (b.cells.cells twin small at held)

      by_simplex : (s : Bool) → is_simplex o.opening.banks (at.pair % 4) ≡ s → Answers v at (answer_by s o n v.twins at)
      by_simplex true simplex =
          let few : at.pair < 8 = bank.small in
          let held : holds o.opening.banks (at.pair / 4) at ≡ true = rw simplex (eq-eqb (at.pair / 4) (at.pair / 4) refl) in
          let recovers : recovers_by true at.pair (code_of w) (λ twin. shown_at o twin at n) ≡ true =
          subst (λ (s : Bool). recovers_by s at.pair (code_of w) (λ twin. shown_at o twin at n) ≡ true) simplex (recovered n at below bank) in
          record {
            out = record { word = w; repaired = None; switched = false };
            is = ap answer_by_one (shown_is (at.pair / 4) (omega arith) held ∙ eqb-true _ _ recovers) ∙ one w (word_small at n);
            notes = noted o n at None false tt (sym (none 0 simplex)) (sym (none 1 simplex));
          }
        where
          none : (twin : ℕ) → is_simplex o.opening.banks (at.pair % 4) ≡ true → list_any (meets o n at twin) o.script ≡ false
          none twin simplex =
              met-simplex o count at bank (repairs-at o count at f) (λ twin h. duplex o.opening.banks twin at bank h) (word_small at) (λ k. next-word ports o k at) alone n twin below simplex
      by_simplex false not_simplex =
          record { out = it.out; is = it.is; notes = noted o n at it.out.repaired it.out.switched it.twin (met 0 (omega arith)) (met 1 (omega arith)) }
        where
          held : (twin : ℕ) → holds o.opening.banks twin at ≡ true
          held twin = duplex o.opening.banks twin at bank not_simplex

          recovers : recovers_by false at.pair (code_of w) (λ twin. shown_at o twin at n) ≡ true
          recovers = subst (λ (s : Bool). recovers_by s at.pair (code_of w) (λ twin. shown_at o twin at n) ≡ true) not_simplex (recovered n at below bank)

          it : Finds w shown (answer_by false o n v.twins at)
          it = two w (slice_index v.twins.selected (at.pair % 4)) shown (b.cells.selected (at.pair % 4)) (word_small at n)
              (rw (shown_is 0 (omega arith) (held 0), shown_is 1 (omega arith) (held 1)) recovers)

          met : (twin : ℕ) → twin < 2 → is_repaired it.out.repaired twin ≡ list_any (meets o n at twin) o.script
          met twin small =
              it.bad twin small ∙ ap (λ (c : ℕ). not (is_good c)) (shown_is twin small (held twin))
              ∙ sym (met-bad o count at bank (repairs-at o count at f) (λ twin h. duplex o.opening.banks twin at bank h) (word_small at) (λ k. next-word ports o k at) alone n twin below not_simplex)

  -- ---- one step

  -- what a step adds to the notes
  abbrev Adds : Voted → Voted → ℕ → Option Spot → Type 0
  Adds next v n r = map finding_of next.repairs ≡ map finding_of v.repairs ++ found_in o n r

  reads : (v : Voted) → v.steps < 3 * count → IsBegun o v.steps v → (make : Spot → Wanted) → ((at : Spot) → exchanges o v (make at) ≡ reading (read_answer o v.steps v.twins at) o v at)
      → (r : Option Spot) → HasBanks o.opening.banks r → Adds (exchanges o v (read_wish make r)) v v.steps r
  reads v below b make is None bank = sym (append-nil (map finding_of v.repairs))
  reads v below b make is (Some at) bank =
      ap (λ (u : Voted). map finding_of u.repairs) (is at)
      ∙ ap (map finding_of) (read-notes o v at (read_answer o v.steps v.twins at) it.out it.is)
      ∙ map-append finding_of v.repairs (repair_by it.out.repaired v.steps at it.out.switched)
      ∙ ap (λ (found : List Finding). map finding_of v.repairs ++ found) it.notes
    where
      it : Answers v at (read_answer o v.steps v.twins at)
      it = answers v at below b bank

  phase : (v : Voted) → v.steps < 3 * count → IsBegun o v.steps v → (r : ℕ) → HasBanks o.opening.banks (read_in_phase r (plain_in o v.steps))
      → Adds (exchanges o v (exchange_in r (plain_in o v.steps))) v v.steps (read_in_phase r (plain_in o v.steps))
  phase v below b zero bank = reads v below b wanted.Fetch (λ at. refl) (read_in_phase zero (plain_in o v.steps)) bank
  phase v below b (suc zero) bank = reads v below b wanted.Operand (λ at. refl) (read_in_phase (suc zero) (plain_in o v.steps)) bank
  phase v below b (suc (suc r)) bank =
      let p : PlainState = plain_in o v.steps in
      ap (map finding_of) (quiet o v (made p.stop p.hold p) (made-reads_none p.stop p.hold p)) ∙ sym (append-nil (map finding_of v.repairs))

  step : (v : Voted) → v.steps < 3 * count → IsBegun o v.steps v → Adds (voted_step o v) v v.steps (read_at o v.steps)
  step v below b =
      ap (λ (w : Wanted). map finding_of (exchanges o v w).repairs) b.wish
      ∙ phase v below b (v.steps % 3) (read-bank ports banks o v.steps (fits ports devices words banks duplex o count ok (comes 0) f (v.steps / 3)))

  -- ---- all steps

  pub notes-findings : (n : ℕ) → n ≤ 3 * count → map finding_of (guarded o n).repairs ≡ findings o n
  notes-findings zero le = refl
  notes-findings (suc n) le = after (comes n) (notes-findings n (omega arith))
    where
      v : Voted
      v = guarded o n

      u : Voted
      u = begin_step o v

      made_step : v.end ≡ None → v.steps ≡ n → guarded o (suc n) ≡ voted_step o u
      made_step going steps =
          ap (λ (e : Option Outcome). guarded_by e o v) going
          ∙ ap (λ (verdict : Verdict). judged_by verdict o u)
          (ap (judged o) steps ∙ step-admissible ports devices words banks duplex o count ok (comes 0) f n (omega arith))

      goes : v.end ≡ None → v.steps ≡ n → Adds (guarded o (suc n)) v n (read_at o n)
      goes going steps =
          ap (λ (x : Voted). map finding_of x.repairs) (made_step going steps)
          ∙ subst (λ (k : ℕ). Adds (voted_step o u) u k (read_at o k)) steps
          (step u (let below : n < 3 * count = omega arith in omega (arith, steps)) (subst (λ (k : ℕ). IsBegun o k u) (sym steps) (begun n (good n (omega arith)) going)))

      halts : Halted o v.steps v → v.steps ≤ n → Adds (guarded o (suc n)) v n (read_at o n)
      halts halted le =
          ap (λ (e : Option Outcome). map finding_of (guarded_by e o v).repairs) halted.ended
          ∙ sym (append-nil (map finding_of v.repairs))
          ∙ ap (λ (r : Option Spot). map finding_of v.repairs ++ found_in o n r) (sym (stopped-reads (n % 3) (plain_in o n) halted.why stopped))
        where
          more : ℕ
          more = n / 3 - v.steps / 3

          times : n / 3 ≡ v.steps / 3 + more
          times = omega arith

          stopped : (plain_in o n).stop ≡ Some halted.why
          stopped =
              ap (λ (k : ℕ). (run o.opening k).plain.stop) times
              ∙ ap (λ (w : World). w.plain.stop) (stays o.opening (v.steps / 3) more halted.why halted.stopped)
              ∙ halted.stopped

      after : Comes Standing o n → map finding_of v.repairs ≡ findings o n → map finding_of (guarded o (suc n)).repairs ≡ findings o n ++ found_in o n (read_at o n)
      after (Good h (Goes steps kept)) before = goes kept.going steps ∙ ap (λ (found : List Finding). found ++ found_in o n (read_at o n)) before
      after (Good h (Halts le halted)) before = halts halted le ∙ ap (λ (found : List Finding). found ++ found_in o n (read_at o n)) before
      after (Bad m lt same stuck ends) before = absurd (ends.bad (sym same ∙ good n (omega arith)))
