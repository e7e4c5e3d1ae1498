-- Where a program repairs the damage of a script each step of the run is admissible, and each word can be recovered.
use Rattle.std.proofs.Common.{◌≡◌, ℕ, zero, suc, ◌-◌, ◌*◌, ◌/◌, ◌%◌, ◌^◌, ◌<◌, ◌≤◌, Bool, true, false, not, ◌&&◌, ◌||◌, cond, List, [], ◌∷◌, ◌⊎◌, inl, inr, refl, sym, ap, ◌∙◌, subst, arith, ⊎_elim}
use Rattle.std.specs.Prelude.{is_none}
use Rattle.std.specs.List.{list_all}
use Rattle.std.specs.declared.option.Option.{Option}
use Rattle.std.specs.declared.option.Option.TheVariants.{None, Some}
use Rattle.std.proofs.lemmas.Bool.{true≢false, or_cases, not-true, and_parts, cases_eq}
use Rattle.lvdc_map.specs.Address.{Spot}
use Rattle.lvdc_map.specs.Banks.{is_simplex, holds, HasBank}
use Rattle.lvdc_map.specs.Memory.{word_at}
use Rattle.lvdc_plain.specs.Run.{run, IsOpening}
use Rattle.lvdc_fault.specs.Script.{wrong_module}
use Rattle.lvdc_fault.specs.Damage.{is_dead}
use Rattle.lvdc_fault.specs.declared.event.Event.{Event}
use Rattle.lvdc_fault.specs.declared.verdict.Verdict.TheVariants as verdicts
use Rattle.lvdc_laws_phases.specs.Standing.{Standing}
use Rattle.lvdc_model.specs.Trial.{Trial, plain_in, read_at}
use Rattle.lvdc_model.specs.Judging.{judged, judged_logic, judged_memory, is_begun, is_recoverable, is_recoverable_after, first_bad_below}
use Rattle.lvdc_model.specs.Runs.{guarded}
use Rattle.lvdc_laws_voted.specs.Ends.{Comes, Good, Bad}
use Rattle.lvdc_laws_voted.specs.Laws.{PortLaw, DeviceWords, BankLaw}
use Rattle.lvdc_laws_voted.specs.Relation.{Goes, Halts}
use Rattle.lvdc_withstands.specs.Form.{lines_in, one_wrong_before, is_duplex, is_seen, is_one_sound}
use Rattle.lvdc_withstands.specs.Touches.{touches_between}
use Rattle.lvdc_withstands.specs.Repairs.{stays_dead, is_lasting_in, are_apart, each_two, repairs}
use Rattle.lvdc_withstands.proofs.Runs.{WordsLaw, HasWords, run-words, HasBanks, read-bank, next-word}
use Rattle.lvdc_withstands.proofs.Recovered.{RepairsAt, in-step, after-step}

-- ---- the condition, part by part

pub record Parts (o : Trial) (count : ℕ) : Type 0 where
  pub copies : one_wrong_before o.script (3 * count) ≡ true
  pub duplex : list_all (is_duplex o.opening.banks) (lines_in count o.script) ≡ true
  pub seen : list_all is_seen (lines_in count o.script) ≡ true
  pub lasting : list_all (is_lasting_in o.script count) (0 ∷ 1 ∷ 2 ∷ 3 ∷ []) ≡ true
  pub sound : list_all (is_one_sound (lines_in count o.script)) (0 ∷ 1 ∷ 2 ∷ 3 ∷ []) ≡ true
  pub apart : each_two (are_apart (touches_between o)) (lines_in count o.script) ≡ true

pub parts : (o : Trial) (count : ℕ) → repairs o count ≡ true → Parts o count
parts o count h =
    let a = one_wrong_before o.script (3 * count) in
    let b = list_all (is_duplex o.opening.banks) (lines_in count o.script) in
    let c = list_all is_seen (lines_in count o.script) in
    let d = list_all (is_lasting_in o.script count) (0 ∷ 1 ∷ 2 ∷ 3 ∷ []) in
    let e = list_all (is_one_sound (lines_in count o.script)) (0 ∷ 1 ∷ 2 ∷ 3 ∷ []) in
    let f = each_two (are_apart (touches_between o)) (lines_in count o.script) in
    let five = and_parts (a && b && c && d && e) f h in
    let four = and_parts (a && b && c && d) e five.0 in
    let three = and_parts (a && b && c) d four.0 in
    let two = and_parts (a && b) c three.0 in
    let one = and_parts a b two.0 in
    record { copies = one.0; duplex = one.1; seen = two.1; lasting = three.1; sound = four.1; apart = five.1 }

-- ---- copies

none_is : (o : Option ℕ) → is_none o ≡ true → o ≡ None
none_is None h = refl
none_is (Some m) h = absurd (true≢false (sym h))

pub none-wrong : (script : List Event) (n step : ℕ) → one_wrong_before script n ≡ true → step < n → wrong_module script step ≡ None
none-wrong script zero step h below = absurd (omega arith)
none-wrong script (suc n) step h below =
    let parts = and_parts (one_wrong_before script n) (is_none (wrong_module script n)) h in
    ⊎_elim (λ e. ap (wrong_module script) e ∙ none_is (wrong_module script n) parts.1) (λ other. none-wrong script n step parts.0 (omega arith)) (cases_eq step n)

-- ---- the pair of an address

by_pair : (is : ℕ → Bool) (pair : ℕ) → pair < 4 → is 0 ≡ true → is 1 ≡ true → is 2 ≡ true → is 3 ≡ true → is pair ≡ true
by_pair is zero below a b c d = a
by_pair is (suc zero) below a b c d = b
by_pair is (suc (suc zero)) below a b c d = c
by_pair is (suc (suc (suc zero))) below a b c d = d
by_pair is (suc (suc (suc (suc p)))) below a b c d = absurd (omega arith)

four-pairs : (is : ℕ → Bool) (pair : ℕ) → list_all is (0 ∷ 1 ∷ 2 ∷ 3 ∷ []) ≡ true → pair < 4 → is pair ≡ true
four-pairs is pair h below =
    let zeroth = and_parts (is 0) (is 1 && (is 2 && (is 3 && true))) h in
    let first = and_parts (is 1) (is 2 && (is 3 && true)) zeroth.1 in
    let second = and_parts (is 2) (is 3 && true) first.1 in
    let third = and_parts (is 3) true second.1 in
    by_pair is pair below zeroth.0 first.0 second.0 third.0

-- a twin that is dead in a step is dead in each later one before the last
stays : (script : List Event) (twin pair steps earlier later : ℕ) → stays_dead script twin pair steps ≡ true → earlier ≤ later → later ≤ steps
    → is_dead script earlier twin pair ≡ true → is_dead script later twin pair ≡ true
stays script twin pair zero earlier later h le below dead =
    subst (λ (n : ℕ). is_dead script n twin pair ≡ true) (let same : earlier ≡ later = omega arith in same) dead
stays script twin pair (suc step) earlier later h le below dead =
    by_last (λ n below here. stays script twin pair step earlier n (and_parts (stays_dead script twin pair step) (not (is_dead script step twin pair) || is_dead script (suc step) twin pair) h).0 below here dead)
    (cases_eq later (suc step)) (cases_eq earlier later)
  where
    both : (stays_dead script twin pair step ≡ true) × ((not (is_dead script step twin pair) || is_dead script (suc step) twin pair) ≡ true)
    both = and_parts (stays_dead script twin pair step) (not (is_dead script step twin pair) || is_dead script (suc step) twin pair) h

    by_alive : (not (is_dead script step twin pair) ≡ true) ⊎ (is_dead script (suc step) twin pair ≡ true) → is_dead script step twin pair ≡ true → is_dead script (suc step) twin pair ≡ true
    by_alive (inl alive) is = absurd (true≢false (sym is ∙ not-true (is_dead script step twin pair) alive))
    by_alive (inr dies) is = dies

    by_last : ((n : ℕ) → earlier ≤ n → n ≤ step → is_dead script n twin pair ≡ true) → (later ≡ suc step) ⊎ (later ≡ suc step → ⊥) → (earlier ≡ later) ⊎ (earlier ≡ later → ⊥) → is_dead script later twin pair ≡ true
    by_last more last (inl same) = subst (λ (n : ℕ). is_dead script n twin pair ≡ true) same dead
    by_last more (inl last) (inr before) =
        subst (λ (n : ℕ). is_dead script n twin pair ≡ true) (sym last)
        (by_alive (or_cases (not (is_dead script step twin pair)) (is_dead script (suc step) twin pair) both.1)
        (more step (omega arith) (omega arith)))
    by_last more (inr other) (inr before) = more later le (omega arith)

pub repairs-at : (o : Trial) (count : ℕ) (at : Spot) → Parts o count → RepairsAt o count at
repairs-at o count at p =
    record {
      duplex = p.duplex;
      seen = p.seen;
      lasting = λ twin earlier later two le below dead. by_twin twin two earlier later le below dead;
      sound = four-pairs (is_one_sound (lines_in count o.script)) (at.pair % 4) p.sound (omega arith);
      apart = p.apart;
    }
  where
    both : (stays_dead o.script 0 (at.pair % 4) (3 * count - 1) ≡ true) × (stays_dead o.script 1 (at.pair % 4) (3 * count - 1) ≡ true)
    both = and_parts (stays_dead o.script 0 (at.pair % 4) (3 * count - 1)) (stays_dead o.script 1 (at.pair % 4) (3 * count - 1))
        (four-pairs (is_lasting_in o.script count) (at.pair % 4) p.lasting (omega arith))

    by_twin : (twin : ℕ) → twin < 2 → (earlier later : ℕ) → earlier ≤ later → later < 3 * count → is_dead o.script earlier twin (at.pair % 4) ≡ true → is_dead o.script later twin (at.pair % 4) ≡ true
    by_twin zero two earlier later le below dead = stays o.script 0 (at.pair % 4) (3 * count - 1) earlier later both.0 le (omega arith) dead
    by_twin (suc zero) two earlier later le below dead = stays o.script 1 (at.pair % 4) (3 * count - 1) earlier later both.1 le (omega arith) dead
    by_twin (suc (suc twin)) two earlier later le below dead = absurd (omega arith)

-- ---- the words of the plain run

starts-words : (o : Trial) → IsOpening o.opening → Comes Standing o 0 → HasWords (run o.opening 0)
starts-words o ok (Bad m lt same stuck ends) = absurd (omega arith)
starts-words o ok (Good good (Halts le halted)) = absurd (let last : (guarded o 0).steps ≡ suc halted.last = halted.is_last in omega arith)
starts-words o ok (Good good (Goes e kept)) = record { plain = kept.stands.plain; devices = ok.devices }

-- both twins hold the addresses of a duplex pair
abbrev pub DuplexLaw : Type 0
DuplexLaw = (banks twin : ℕ) (at : Spot) → HasBank banks at → is_simplex banks (at.pair % 4) ≡ false → holds banks twin at ≡ true

module _ (ports : PortLaw) (devices : DeviceWords) (words : WordsLaw) (banks : BankLaw) (duplex : DuplexLaw) (o : Trial) (count : ℕ) (ok : IsOpening o.opening)
    (comes : Comes Standing o 0) (f : Parts o count) where
  pub fits : (k : ℕ) → HasWords (run o.opening k)
  fits k = run-words ports devices words o.opening (starts-words o ok comes) k

  pub small : (at : Spot) (n : ℕ) → word_at (plain_in o n).memory at < 2 ^ 26
  small at n = (fits (n / 3)).plain.words at

  -- ---- words

  pub recovered-in : (n : ℕ) (at : Spot) → n < 3 * count → HasBank o.opening.banks at → is_recoverable o n at ≡ true
  recovered-in n at below bank =
      in-step o count at bank (repairs-at o count at f) (λ twin h. duplex o.opening.banks twin at bank h) (small at) (λ k. next-word ports o k at) n below

  pub recovered-after : (n : ℕ) (at : Spot) → n ≤ 3 * count → HasBank o.opening.banks at → is_recoverable_after o n at ≡ true
  recovered-after zero at below bank = refl
  recovered-after (suc n) at below bank =
      after-step o count at bank (repairs-at o count at f) (λ twin h. duplex o.opening.banks twin at bank h) (small at) (λ k. next-word ports o k at) n (omega arith)

  -- ---- steps

  read-admissible : (n : ℕ) → n < 3 * count → (r : Option Spot) → HasBanks o.opening.banks r → judged_memory o n r ≡ verdicts.Admissible
  read-admissible n below None bank = refl
  read-admissible n below (Some at) bank = rw (recovered-in n at below bank) refl

  pub step-admissible : (n : ℕ) → n < 3 * count → judged o n ≡ verdicts.Admissible
  step-admissible n below =
      ap (judged_logic o n) (none-wrong o.script (3 * count) n f.copies below) ∙ read-admissible n below (read_at o n) (read-bank ports banks o n (fits (n / 3)))

  pub none-bad : (n : ℕ) → n ≤ 3 * count → first_bad_below o n ≡ verdicts.Admissible
  none-bad zero le = refl
  none-bad (suc n) le =
      rw (none-bad n (omega arith)) (either (is_begun o n) (step-admissible n (omega arith)))
    where
      either : (b : Bool) → judged o n ≡ verdicts.Admissible → cond b (judged o n) verdicts.Admissible ≡ verdicts.Admissible
      either true e = e
      either false e = refl
