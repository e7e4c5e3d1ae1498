-- What a read mends, and where it finds no good cell.
use Rattle.std.proofs.Common.{◌≡◌, ℕ, zero, suc, ◌-◌, ◌/◌, ◌%◌, ◌^◌, ◌<◌, Bool, true, false, cond, not, ◌&&◌, ◌||◌, subst, refl, sym, ap, ◌∙◌, arith, Option, Some, None, IfSome, Result, Ok, Err, IsErr, OnErr, ◌↔◌}
use Rattle.std.specs.Prelude.{◌==◌}
use Rattle.std.proofs.lemmas.Bool.{true≢false, false≢true, eqb-true, eq-eqb, ne_eqb, and_parts}
use Rattle.lvdc_word.specs.Cell.{code_of, is_good, word_in}
use Rattle.lvdc_word.proofs.Parity.{good-code, word-code}
use Rattle.lvdc_map.specs.Address.{Spot, is_same}
use Rattle.lvdc_map.specs.Banks.{is_simplex, is_there, home, IsPlace}
use Rattle.lvdc_map.proofs.Holders.{holds_duplex}
use Rattle.lvdc_twin.specs.declared.both_bad.BothBad.{BothBad}
use Rattle.lvdc_twin.specs.declared.read_out.ReadOut.{ReadOut}
use Rattle.lvdc_twin.specs.Store.{Store, IsStore, stored_in, is_dead, shown_in, selected_in, with_word, survives}
use Rattle.lvdc_twin.specs.Calls.{all_show, answer_of, answer_by_one, answer_by_two, repaired_by, switched_by, after_answer, shows_word, is_repaired, Finds, Mends, NoneGood}
use Rattle.lvdc_twin.proofs.Places.{stored-with_word}
use Rattle.lvdc_twin.proofs.Writes.{and_false, kept-with_word}

-- ---- cells that show a word

-- of two shown cells each good one is the code of the word, and one is good
record Recovers (w mine others : ℕ) : Type 0 where
  mine_good : is_good mine ≡ true → mine ≡ code_of w
  others_good : is_good others ≡ true → others ≡ code_of w
  some : is_good mine ≡ false → others ≡ code_of w

or_not : (a b : Bool) → (a || not b) ≡ true → b ≡ true → a ≡ true
or_not true b h e = refl
or_not false true h e = absurd (true≢false (sym h))
or_not false false h e = absurd (true≢false (sym e))

or_first : (a b : Bool) → (a || b) ≡ true → a ≡ false → b ≡ true
or_first true b h e = absurd (true≢false e)
or_first false b h e = h

or_second : (a b : Bool) → (a || b) ≡ true → b ≡ false → a ≡ true
or_second true b h e = refl
or_second false b h e = absurd (true≢false (sym h ∙ e))

-- a bad cell is no code
bad_cell : (w x : ℕ) → w < 2 ^ 26 → is_good x ≡ false → (x == code_of w) ≡ false
bad_cell w x small bad = by_case (x == code_of w) refl
  where
    by_case : (b : Bool) → (x == code_of w) ≡ b → b ≡ false
    by_case false e = refl
    by_case true e = absurd (true≢false (sym (good-code w small) ∙ ap is_good (sym (eqb-true x (code_of w) e)) ∙ bad))

recovers : (w x y : ℕ) → w < 2 ^ 26 → ((x == code_of w || y == code_of w) && (x == code_of w || not (is_good x)) && (y == code_of w || not (is_good y))) ≡ true
    → Recovers w x y × Recovers w y x
recovers w x y small h =
    let one = and_parts ((x == code_of w || y == code_of w) && (x == code_of w || not (is_good x))) (y == code_of w || not (is_good y)) h in
    let two = and_parts (x == code_of w || y == code_of w) (x == code_of w || not (is_good x)) one.0 in
    let xs = λ (g : is_good x ≡ true). eqb-true x (code_of w) (or_not (x == code_of w) (is_good x) two.1 g) in
    let ys = λ (g : is_good y ≡ true). eqb-true y (code_of w) (or_not (y == code_of w) (is_good y) one.1 g) in (
      record { mine_good = xs; others_good = ys; some = λ bad. eqb-true y (code_of w) (or_first (x == code_of w) (y == code_of w) two.0 (bad_cell w x small bad)) },
      record { mine_good = ys; others_good = xs; some = λ bad. eqb-true x (code_of w) (or_second (x == code_of w) (y == code_of w) two.0 (bad_cell w y small bad)) },
    )

-- a number below 2 is this one or the other
either : (P : ℕ → Type 0) (s twin : ℕ) → s < 2 → twin < 2 → P s → P (1 - s) → P twin
either P zero zero hs ht p q = p
either P zero (suc zero) hs ht p q = q
either P (suc zero) zero hs ht p q = q
either P (suc zero) (suc zero) hs ht p q = p
either P (suc (suc s)) twin hs ht p q = absurd (omega arith)
either P s (suc (suc twin)) hs ht p q = absurd (omega arith)

-- ---- what a read finds

not_false : (b : Bool) → false ≡ not b → b ≡ true
not_false true e = refl
not_false false e = e

found_by : (g h : Bool) (w s : ℕ) (shown : ℕ → ℕ) → s < 2 → w < 2 ^ 26 → is_good (shown s) ≡ g → is_good (shown (1 - s)) ≡ h → Recovers w (shown s) (shown (1 - s))
    → Finds w shown (answer_by_two s (shown s) (shown (1 - s)))
found_by true true w s shown two small mine others rec =
    record {
      out = record { word = word_in (shown s); repaired = None; switched = false };
      is = rw (mine, others) refl;
      word = ap word_in (rec.mine_good mine) ∙ word-code w small;
      twin = tt;
      bad = λ twin ht. either (λ n. false ≡ not (is_good (shown n))) s twin two ht (sym (ap not mine)) (sym (ap not others));
    }
found_by true false w s shown two small mine others rec =
    record {
      out = record { word = word_in (shown s); repaired = Some (1 - s); switched = false };
      is = rw (mine, others) refl;
      word = ap word_in (rec.mine_good mine) ∙ word-code w small;
      twin = omega arith;
      bad = λ twin ht. either (λ n. (n == 1 - s) ≡ not (is_good (shown n))) s twin two ht
          (ne_eqb s (1 - s) (λ same. omega arith) ∙ sym (ap not mine)) (eq-eqb (1 - s) (1 - s) refl ∙ sym (ap not others));
    }
found_by false true w s shown two small mine others rec =
    record {
      out = record { word = word_in (shown (1 - s)); repaired = Some s; switched = true };
      is = rw (mine, others) refl;
      word = ap word_in (rec.some mine) ∙ word-code w small;
      twin = two;
      bad = λ twin ht. either (λ n. (n == s) ≡ not (is_good (shown n))) s twin two ht
          (eq-eqb s s refl ∙ sym (ap not mine)) (ne_eqb (1 - s) s (λ same. omega arith) ∙ sym (ap not others));
    }
found_by false false w s shown two small mine others rec = absurd (true≢false (sym (good-code w small) ∙ ap is_good (sym (rec.some mine)) ∙ others))

-- of a duplex pair in which the code of a word survives
pub found-two : (w s : ℕ) (shown : ℕ → ℕ) → s < 2 → w < 2 ^ 26 → survives (code_of w) (shown 0) (shown 1) ≡ true
    → Finds w shown (answer_by_two s (shown s) (shown (1 - s)))
found-two w s shown two small lives =
    found_by (is_good (shown s)) (is_good (shown (1 - s))) w s shown two small refl refl (by_selected s two)
  where
    both : Recovers w (shown 0) (shown 1) × Recovers w (shown 1) (shown 0)
    both = recovers w (shown 0) (shown 1) small lives

    by_selected : (n : ℕ) → n < 2 → Recovers w (shown n) (shown (1 - n))
    by_selected zero two = both.0
    by_selected (suc zero) two = both.1
    by_selected (suc (suc n)) two = absurd (omega arith)

-- of a simplex pair whose twin shows the code
pub found-one : (w : ℕ) → w < 2 ^ 26 → answer_by_one (code_of w) ≡ Ok (record { word = w; repaired = None; switched = false })
found-one w small = rw (good-code w small, word-code w small) refl

-- ---- the law of repair

-- no twin is mended
none_mended : (same dead good : Bool) (c x : ℕ) → good ≡ true → x ≡ cond (same && (not dead && not good)) c x
none_mended same dead false c x e = absurd (true≢false (sym e))
none_mended same dead true c x e = rw (and_false (not dead), and_false same) refl

-- the twin repaired is the one that is mended
one_mended : (good same dr dt : Bool) (c x : ℕ) → (not good ≡ true → dr ≡ dt) → cond (not dr && (not good && same)) c x ≡ cond (same && (not dt && not good)) c x
one_mended true same dr dt c x h = rw (and_false (not dr), and_false (not dt), and_false same) refl
one_mended false same dr dt c x h = rw (h refl) (turned dt same)
  where
    turned : (d same : Bool) → cond (not d && same) c x ≡ cond (same && (not d && true)) c x
    turned true true = refl
    turned true false = refl
    turned false true = refl
    turned false false = refl

-- a switch changes no stored cell
pub stored-switched_by : (b : Bool) (t : Store) (pair twin : ℕ) (place : Spot) → stored_in (switched_by b t pair) twin place ≡ stored_in t twin place
stored-switched_by true t pair twin place = refl
stored-switched_by false t pair twin place = refl

-- what a read by its answer leaves meets the law
abbrev MendsBy : Store → Spot → ℕ → Result ReadOut BothBad → Type 0
MendsBy t place w answer = Mends t (after_answer answer t place) place w answer

-- a read that repairs the one twin that shows a bad cell
repairs : (switched : Bool) (t : Store) (place : Spot) (w r v : ℕ) → r < 2 → IsStore t → IsPlace place → v ≡ w
    → ((twin : ℕ) → twin < 2 → (twin == r) ≡ not (is_good (shown_in t twin place)))
    → MendsBy t place w (Ok (record { word = v; repaired = Some r; switched = switched }))
repairs switched t place w r v two whole here found bad =
    record {
      found = found;
      cells = λ twin ht other ho.
          stored-switched_by switched (with_word t r place v) place.pair twin other
          ∙ stored-with_word t r place v twin other whole two ht here ho
          ∙ ap (λ (b : Bool). cond (not (is_dead t r place.pair) && (b && is_same other place)) (code_of v) (stored_in t twin other)) (bad twin ht)
          ∙ one_mended (is_good (shown_in t twin place)) (is_same other place) (is_dead t r place.pair) (is_dead t twin place.pair) (code_of v) (stored_in t twin other)
          (λ e. ap (λ (n : ℕ). is_dead t n place.pair) (sym (eqb-true twin r (bad twin ht ∙ e))))
          ∙ ap (λ (c : ℕ). cond (is_same other place && (not (is_dead t twin place.pair) && not (is_good (shown_in t twin place)))) (code_of c) (stored_in t twin other)) found;
    }

-- a read that found the word meets the law
mends_found : (repaired : Option ℕ) (switched : Bool) (t : Store) (place : Spot) (w v : ℕ) → IsStore t → IsPlace place → v ≡ w
    → IfSome repaired (λ twin. twin < 2)
    → ((twin : ℕ) → twin < 2 → is_repaired repaired twin ≡ not (is_good (shown_in t twin place)))
    → MendsBy t place w (Ok (record { word = v; repaired = repaired; switched = switched }))
mends_found None switched t place w v whole here found two bad =
    record {
      found = found;
      cells = λ twin ht other ho.
          stored-switched_by switched t place.pair twin other
          ∙ none_mended (is_same other place) (is_dead t twin place.pair) (is_good (shown_in t twin place)) (code_of w) (stored_in t twin other) (not_false (is_good (shown_in t twin place)) (bad twin ht));
    }
mends_found (Some r) switched t place w v whole here found two bad = repairs switched t place w r v two whole here found bad

-- in a duplex pair where some twin shows the code of a word, and each that shows another cell shows a bad one
pub mends : (t u : Store) (place : Spot) (w : ℕ) (answer : Result ReadOut BothBad) → IsStore t → IsPlace place → w < 2 ^ 26
    → answer ≡ answer_by_two (selected_in t place.pair) (shown_in t (selected_in t place.pair) place) (shown_in t (1 - selected_in t place.pair) place)
    → u ≡ after_answer answer t place → shows_word t place w ≡ true → Mends t u place w answer
mends t u place w answer whole here small answered left shows =
    let it = found-two w (selected_in t place.pair) (λ twin. shown_in t twin place) (whole.selected place.pair) small shows in
    subst (λ (v : Store). Mends t v place w answer) (sym left)
    (subst (MendsBy t place w) (sym (answered ∙ it.is))
    (mends_found it.out.repaired it.out.switched t place w it.out.word whole here it.word it.twin it.bad))

-- ---- what a read leaves as it is

-- a read that finds no good cell changes nothing
pub unchanged-after_answer : (answer : Result ReadOut BothBad) (t u : Store) (place : Spot) → u ≡ after_answer answer t place → OnErr answer (u ≡ t)
unchanged-after_answer (Ok r) t u place left = tt
unchanged-after_answer (Err _) t u place left = left

banks-switched_by : (b : Bool) (t : Store) (pair : ℕ) → (switched_by b t pair).banks ≡ t.banks
banks-switched_by true t pair = refl
banks-switched_by false t pair = refl

banks-repaired_by : (repaired : Option ℕ) (t : Store) (place : Spot) (w : ℕ) → (repaired_by repaired t place w).banks ≡ t.banks
banks-repaired_by None t place w = refl
banks-repaired_by (Some twin) t place w = kept-with_word (λ u. u.banks) t twin place w refl

-- a read leaves the banks as they are
pub banks-after_answer : (answer : Result ReadOut BothBad) (t : Store) (place : Spot) → (after_answer answer t place).banks ≡ t.banks
banks-after_answer (Ok r) t place = banks-switched_by r.switched (repaired_by r.repaired t place r.word) place.pair ∙ banks-repaired_by r.repaired t place r.word
banks-after_answer (Err _) t place = refl

-- ---- no good cell

-- no twin showed a good cell
abbrev none_found : Result ReadOut BothBad
none_found = Err (record {})

err_two : (g h : Bool) (a b : ReadOut) → IsErr (cond g (Ok a) (cond h (Ok b) none_found)) ↔ ((g ≡ false) × (h ≡ false))
err_two true h a b = (λ e. absurd (false≢true e), λ p. absurd (true≢false p.0))
err_two false true a b = (λ e. absurd (false≢true e), λ p. absurd (true≢false p.1))
err_two false false a b = (λ e. (refl, refl), λ p. refl)

err_one : (g : Bool) (a : ReadOut) → IsErr (cond g (Ok a) none_found) ↔ (g ≡ false)
err_one true a = (λ e. absurd (false≢true e), λ p. absurd (true≢false p))
err_one false a = (λ e. refl, λ p. refl)

pub none_good-two : (t : Store) (at : Spot) (answer : Result ReadOut BothBad) → IsStore t → at.pair < 8 → is_there t.banks at ≡ true → is_simplex t.banks (at.pair % 4) ≡ false
    → (let s = selected_in t (at.pair % 4) in answer ≡ answer_by_two s (shown_in t s (home at)) (shown_in t (1 - s) (home at)))
    → IsErr answer ↔ NoneGood t at
none_good-two t at answer whole small there duplex answered = (there', back)
  where
    s : ℕ
    s = selected_in t (at.pair % 4)

    two : s < 2
    two = whole.selected (at.pair % 4)

    cases : IsErr (answer_by_two s (shown_in t s (home at)) (shown_in t (1 - s) (home at))) ↔ ((is_good (shown_in t s (home at)) ≡ false) × (is_good (shown_in t (1 - s) (home at)) ≡ false))
    cases = err_two (is_good (shown_in t s (home at))) (is_good (shown_in t (1 - s) (home at))) _ _

    there' : IsErr answer → NoneGood t at
    there' e twin ht held =
        let bad = cases.0 (subst IsErr answered e) in
        either (λ n. is_good (shown_in t n (home at)) ≡ false) s twin two ht bad.0 bad.1

    back : NoneGood t at → IsErr answer
    back none =
        let other : 1 - s < 2 = omega arith in
        subst IsErr (sym answered) (cases.1 (none s two (holds_duplex t.banks s at (record { small = small; there = there }) duplex), none (1 - s) other (holds_duplex t.banks (1 - s) at (record { small = small; there = there }) duplex)))

pub none_good-one : (t : Store) (at : Spot) (answer : Result ReadOut BothBad) → at.pair < 8 → is_simplex t.banks (at.pair % 4) ≡ true
    → answer ≡ answer_by_one (shown_in t (at.pair / 4) (home at)) → IsErr answer ↔ NoneGood t at
none_good-one t at answer small simplex answered = (there', back)
  where
    cases : IsErr (answer_by_one (shown_in t (at.pair / 4) (home at))) ↔ (is_good (shown_in t (at.pair / 4) (home at)) ≡ false)
    cases = err_one (is_good (shown_in t (at.pair / 4) (home at))) _

    there' : IsErr answer → NoneGood t at
    there' e twin ht held =
        let mine : (twin == at.pair / 4) ≡ true = rw simplex at held in
        subst (λ n. is_good (shown_in t n (home at)) ≡ false) (sym (eqb-true twin (at.pair / 4) mine)) (cases.0 (subst IsErr answered e))

    back : NoneGood t at → IsErr answer
    back none = subst IsErr (sym answered) (cases.1 (none (at.pair / 4) (omega arith) (rw simplex (eq-eqb (at.pair / 4) (at.pair / 4) refl))))

-- ---- where nothing is wrong

-- two twins that show the code of a word
both-show : (selected w : ℕ) → w < 2 ^ 26 → answer_by_two selected (code_of w) (code_of w) ≡ Ok (record { word = w; repaired = None; switched = false })
both-show selected w small =
    ap (λ (b : Bool). cond b (Ok (record { word = word_in (code_of w); repaired = cond b None (Some (1 - selected)); switched = false }))
    (cond b (Ok (record { word = word_in (code_of w); repaired = Some selected; switched = true })) (Err (record {})))) (good-code w small)
    ∙ ap (λ (x : ℕ). Ok (record { word = x; repaired = None; switched = false })) (word-code w small)

-- of two equal numbers the one and the other
of_both : (f : ℕ → ℕ) (c n : ℕ) → n < 2 → f 0 ≡ c → f 1 ≡ c → (f n ≡ c) × (f (1 - n) ≡ c)
of_both f c zero small zeroth first = (zeroth, first)
of_both f c (suc zero) small zeroth first = (first, zeroth)
of_both f c (suc (suc n)) small zeroth first = absurd (omega arith)

-- a read finds a word that each twin shows that holds the address
pub found-shown : (t : Store) (at : Spot) (w : ℕ) → IsStore t → w < 2 ^ 26 → all_show t at (code_of w) ≡ true
    → answer_of t at ≡ Ok (record { word = w; repaired = None; switched = false })
found-shown t at w whole small h = by_case (is_simplex t.banks (home at).pair) h
  where
    n : ℕ
    n = selected_in t (home at).pair

    by_case : (b : Bool)
        → cond b (shown_in t (at.pair / 4) (home at) == code_of w) (shown_in t 0 (home at) == code_of w && shown_in t 1 (home at) == code_of w) ≡ true
        → cond b (answer_by_one (shown_in t (at.pair / 4) (home at))) (answer_by_two n (shown_in t n (home at)) (shown_in t (1 - n) (home at)))
        ≡ Ok (record { word = w; repaired = None; switched = false })
    by_case true e = ap answer_by_one (eqb-true (shown_in t (at.pair / 4) (home at)) (code_of w) e) ∙ found-one w small
    by_case false e =
        let parts = and_parts (shown_in t 0 (home at) == code_of w) (shown_in t 1 (home at) == code_of w) e in
        let both = of_both (λ twin. shown_in t twin (home at)) (code_of w) n (whole.selected (home at).pair)
        (eqb-true (shown_in t 0 (home at)) (code_of w) parts.0) (eqb-true (shown_in t 1 (home at)) (code_of w) parts.1) in
        (λ i. answer_by_two n (both.0 i) (both.1 i)) ∙ both-show n w small
