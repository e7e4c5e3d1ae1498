-- Lines by rising first step, one after another: when two copies are wrong in the same step.
use Rattle.std.proofs.Common.{◌≡◌, ℕ, zero, suc, ◌+◌, ◌<◌, ◌≤◌, Bool, true, false, ◌&&◌, ◌||◌, ◌==◌, List, [], ◌∷◌, ◌++◌, length, take, get_or, All, ◌⊎◌, inl, inr, refl, sym, ap, ◌∙◌, arith}
use Rattle.std.specs.Prelude.{nat_lt, nat_le, MatchBool}
use Rattle.std.specs.List.{list_any}
use Rattle.std.proofs.lemmas.Bool.{true≢false, lt-ltb, le-ltb, ltb-true, leb-true, cases_lt, or_cases, or_left, or_right, or_from, and_parts, and_from, false_from_ne_true}
use Rattle.std.proofs.lemmas.List.Elements.{All-from_get_or, All-head, All-tail, All-weaker, All-push, All-cons, All-nil}
use Rattle.std.proofs.lemmas.List.Folds.{list_any-append, list_any_at}
use Rattle.std.specs.List.Sorted.{IsNonDecreasingBy}
use Rattle.std.proofs.lemmas.List.{take_more, get_or-take, length-take}
use Rattle.lvdc_fault.specs.Script.{is_within, first_of, makes_wrong, is_wrong}
use Rattle.lvdc_fault.specs.declared.event.Event.{Event}
use Rattle.lvdc_fault.specs.declared.event.Event.TheVariants.{Flip, Force, Lag, Deaf}
use Rattle.lvdc_withstands.specs.Copies.{NeverMeet, Meet, NeverTwoOf, HasTwoOf, IsWrongUntil, GoesOn, Meets}

-- ---- lists

all-parts : {X : Type 0} (P : X → Type 0) (xs : List X) (x : X) → All P (xs ++ x ∷ []) → All P xs × P x
all-parts P [] x h = (All-nil P, All-head P x [] h)
all-parts P (y ∷ ys) x h =
    let rest = all-parts P ys x (All-tail P y (ys ++ x ∷ []) h) in
    (All-cons P y ys (All-head P y (ys ++ x ∷ []) h) rest.0, rest.1)

any-take : {X : Type 0} (p : X → Bool) (xs : List X) (i : ℕ) → list_any p (take i xs) ≡ true → list_any p xs ≡ true
any-take p xs zero h = absurd (true≢false (sym h))
any-take p [] (suc i) h = h
any-take p (x ∷ xs) (suc i) h = by_head (or_cases (p x) (list_any p (take i xs)) h) (any-take p xs i)
  where
    by_head : (p x ≡ true) ⊎ (list_any p (take i xs) ≡ true) → (list_any p (take i xs) ≡ true → list_any p xs ≡ true) → (p x || list_any p xs) ≡ true
    by_head (inl here) more = or_left (p x) (list_any p xs) here
    by_head (inr there) more = or_right (p x) (list_any p xs) (more there)

-- ---- one line

begun_within : (a : Bool) (first last step : ℕ) → (a && is_within first last step) ≡ true → first ≤ step
begun_within a first last step h = leb-true first step (and_parts (nat_le first step) (nat_le step last) (and_parts a (is_within first last step) h).1).0

-- a line that acts at a step has begun
pub makes_wrong-begun : (step number copy : ℕ) (e : Event) → makes_wrong step number copy e ≡ true → first_of e ≤ step
makes_wrong-begun step number copy (Flip m c first last index mask) h = begun_within (m == number && c == copy) first last step h
makes_wrong-begun step number copy (Force m c first last index mask value) h = begun_within (m == number && c == copy) first last step h
makes_wrong-begun step number copy (Lag m c first last) h = begun_within (m == number && c == copy) first last step h
makes_wrong-begun step number copy (Deaf m c first last) h = begun_within (m == number && c == copy) first last step h
makes_wrong-begun step number copy _ h = absurd (true≢false (sym h))

wrong-more : (before : List Event) (e : Event) (step number copy : ℕ) → is_wrong (before ++ e ∷ []) step number copy ≡ (is_wrong before step number copy || (makes_wrong step number copy e || false))
wrong-more before e step number copy = list_any-append (makes_wrong step number copy) before (e ∷ [])

-- with one line more a copy is wrong up to before another step
until-next : (before : List Event) (e : Event) (number copy mine others until : ℕ) → IsWrongUntil before number copy mine → GoesOn e number copy mine others until
    → IsWrongUntil (before ++ e ∷ []) number copy until
until-next before e number copy mine others until w g step begun =
    wrong-more before e step number copy ∙ ap (λ (b : Bool). b || (makes_wrong step number copy e || false)) (w step parts.0) ∙ by_line (makes_wrong step number copy e) refl
  where
    parts : All (λ x. first_of x ≤ step) before × (first_of e ≤ step)
    parts = all-parts (λ x. first_of x ≤ step) before e begun

    or_true : (b : Bool) → (b || true) ≡ true
    or_true true = refl
    or_true false = refl

    or_false : (b : Bool) → (b || false) ≡ b
    or_false true = refl
    or_false false = refl

    by_line : (b : Bool) → makes_wrong step number copy e ≡ b → (nat_lt step mine || (b || false)) ≡ nat_lt step until
    by_line true acts = or_true (nat_lt step mine) ∙ sym (lt-ltb step until (g.reaches step parts.1 acts))
    by_line false idle = or_false (nat_lt step mine) ∙ by_step (cases_lt step mine) (cases_lt step until)
      where
        by_step : (step < mine) ⊎ (mine ≤ step) → (step < until) ⊎ (until ≤ step) → nat_lt step mine ≡ nat_lt step until
        by_step (inl early) _ = lt-ltb step mine early ∙ sym (lt-ltb step until (g.keeps step early))
        by_step (inr late) (inl early) = let earlier : step < mine = g.ends step parts.1 early idle in absurd (omega arith)
        by_step (inr late) (inr later) = le-ltb step mine late ∙ sym (le-ltb step until later)

-- ---- the lines so far

-- two copies of a module by these lines
pub record Swept (before : List Event) (number one other one_until other_until : ℕ) : Type 0 where
  pub first : IsWrongUntil before number one one_until
  pub second : IsWrongUntil before number other other_until
  pub apart : NeverMeet before number one other

pub swept-start : (number one other : ℕ) → Swept [] number one other 0 0
swept-start number one other =
    record {
      first = λ step begun. sym (le-ltb step 0 (omega arith));
      second = λ step begun. sym (le-ltb step 0 (omega arith));
      apart = λ step. refl;
    }

module _ (before : List Event) (e : Event) (number one other u v : ℕ) (s : Swept before number one other u v) (rising : All (λ x. first_of x ≤ first_of e) before) where
  -- all lines before have begun once this one has
  begun : (step : ℕ) → first_of e ≤ step → All (λ x. first_of x ≤ step) before
  begun step h = All-weaker (λ x. first_of x ≤ first_of e) (λ x. first_of x ≤ step) (λ x k. omega arith) before rising

  pub swept-next : (u' v' : ℕ) → GoesOn e number one u v u' → GoesOn e number other v u' v' → Swept (before ++ e ∷ []) number one other u' v'
  swept-next u' v' g h =
      record {
        first = until-next before e number one u v u' s.first g;
        second = until-next before e number other v u' v' s.second h;
        apart = λ step. false_from_ne_true (is_wrong (before ++ e ∷ []) step number one && is_wrong (before ++ e ∷ []) step number other) (never step);
      }
    where
      one_more : (step copy : ℕ) → is_wrong (before ++ e ∷ []) step number copy ≡ true → (is_wrong before step number copy ≡ true) ⊎ (makes_wrong step number copy e ≡ true)
      one_more step copy k = by_case (or_cases (is_wrong before step number copy) (makes_wrong step number copy e || false) (sym (wrong-more before e step number copy) ∙ k))
        where
          by_or : (b : Bool) → (b || false) ≡ true → b ≡ true
          by_or true r = refl
          by_or false r = r

          by_case : (is_wrong before step number copy ≡ true) ⊎ ((makes_wrong step number copy e || false) ≡ true) → (is_wrong before step number copy ≡ true) ⊎ (makes_wrong step number copy e ≡ true)
          by_case (inl q) = inl q
          by_case (inr q) = inr (by_or (makes_wrong step number copy e) q)

      clash : (step : ℕ) → (is_wrong before step number one ≡ true) ⊎ (makes_wrong step number one e ≡ true)
          → (is_wrong before step number other ≡ true) ⊎ (makes_wrong step number other e ≡ true) → ⊥
      clash step (inl p) (inl q) = true≢false (sym (and_from (is_wrong before step number one) (is_wrong before step number other) p q) ∙ s.apart step)
      clash step (inr p) (inl q) =
          let late : v ≤ step = g.apart step p in
          let early : step < v = ltb-true step v (sym (s.second step (begun step (makes_wrong-begun step number one e p))) ∙ q) in
          omega arith
      clash step (inl p) (inr q) =
          let late : u' ≤ step = h.apart step q in
          let early : step < u = ltb-true step u (sym (s.first step (begun step (makes_wrong-begun step number other e q))) ∙ p) in
          let still : step < u' = g.keeps step early in
          omega arith
      clash step (inr p) (inr q) =
          let late : u' ≤ step = h.apart step q in
          let still : step < u' = g.reaches step (makes_wrong-begun step number one e p) p in
          omega arith

      never : (step : ℕ) → (is_wrong (before ++ e ∷ []) step number one && is_wrong (before ++ e ∷ []) step number other) ≡ true → ⊥
      never step k =
          let both = and_parts (is_wrong (before ++ e ∷ []) step number one) (is_wrong (before ++ e ∷ []) step number other) k in
          clash step (one_more step one both.0) (one_more step other both.1)

-- ---- a line of the whole list

module _ (lines : List Event) (i number one other u v : ℕ) (e : Event) (within : i < length lines) (is : e ≡ get_or lines i e)
    (s : Swept (take i lines) number one other u v) (rising : All (λ x. first_of x ≤ first_of e) (take i lines)) where
  early : (steps : ℕ) → All (λ x. first_of x < steps) lines → first_of e < steps
  early steps all = let at : first_of (get_or lines i e) < steps = all i e within in omega (arith, ap first_of is)

  acts_in : (copy : ℕ) → makes_wrong (first_of e) number copy e ≡ true → is_wrong lines (first_of e) number copy ≡ true
  acts_in copy h = list_any_at (makes_wrong (first_of e) number copy) lines i e within (ap (makes_wrong (first_of e) number copy) (sym is) ∙ h)

  -- the first copy is hurt while the other one is wrong
  pub first-meets : Meets e number one v → Meet lines number one other
  first-meets m =
      record {
        step = first_of e;
        before = early;
        both = and_from (is_wrong lines (first_of e) number one) (is_wrong lines (first_of e) number other)
            (acts_in one m.acts) (any-take (makes_wrong (first_of e) number other) lines i (s.second (first_of e) rising ∙ lt-ltb (first_of e) v m.early));
      }

  -- and the other way round
  pub second-meets : (u' : ℕ) (next : take (i + 1) lines ≡ take i lines ++ e ∷ []) → GoesOn e number one u v u' → Meets e number other u' → Meet lines number one other
  second-meets u' next g m =
      let all = All-push (λ x. first_of x ≤ first_of e) (take i lines) e rising (omega arith) in
      record {
        step = first_of e;
        before = early;
        both = and_from (is_wrong lines (first_of e) number one) (is_wrong lines (first_of e) number other)
            (any-take (makes_wrong (first_of e) number one) lines (i + 1)
            (ap (λ (xs : List Event). is_wrong xs (first_of e) number one) next
            ∙ until-next (take i lines) e number one u v u' s.first g (first_of e) all ∙ lt-ltb (first_of e) u' m.early))
            (acts_in other m.acts);
      }

-- ---- by rising first step

-- the lines before one have begun no later
pub rising-take : (lines : List Event) (i : ℕ) (e : Event) → IsNonDecreasingBy first_of lines → i < length lines → e ≡ get_or lines i e → All (λ x. first_of x ≤ first_of e) (take i lines)
rising-take lines i e rising within is =
    All-from_get_or (λ x. first_of x ≤ first_of e) (take i lines) e
    (λ k h. let small : k < i = omega (arith, length-take i lines) in
    let same : get_or (take i lines) k e ≡ get_or lines k e = get_or-take i lines k e small in
    let up : first_of (get_or lines k e) ≤ first_of (get_or lines i e) = rising k i e (omega arith) within in
    omega (arith, ap first_of same, ap first_of is))

pub taken : (lines : List Event) (i : ℕ) (e : Event) → i < length lines → e ≡ get_or lines i e → take (i + 1) lines ≡ take i lines ++ e ∷ []
taken lines i e within is = take_more lines i e within ∙ ap (λ (x : Event). take i lines ++ x ∷ []) (sym is)

-- ---- three copies

pub never-two : (lines : List Event) (number : ℕ) → NeverMeet lines number 1 2 → NeverMeet lines number 1 3 → NeverMeet lines number 2 3 → NeverTwoOf lines number
never-two lines number a b c step =
    or_from ((is_wrong lines step number 1 && is_wrong lines step number 2) || (is_wrong lines step number 1 && is_wrong lines step number 3)) (is_wrong lines step number 2 && is_wrong lines step number 3)
    (or_from (is_wrong lines step number 1 && is_wrong lines step number 2) (is_wrong lines step number 1 && is_wrong lines step number 3) (a step) (b step)) (c step)

module _ (lines : List Event) (number : ℕ) where
  pub two-first : Meet lines number 1 2 → HasTwoOf lines number
  two-first m =
      record {
        step = m.step;
        before = m.before;
        two = or_left ((is_wrong lines m.step number 1 && is_wrong lines m.step number 2) || (is_wrong lines m.step number 1 && is_wrong lines m.step number 3))
            (is_wrong lines m.step number 2 && is_wrong lines m.step number 3)
            (or_left (is_wrong lines m.step number 1 && is_wrong lines m.step number 2) (is_wrong lines m.step number 1 && is_wrong lines m.step number 3) m.both);
      }

  pub two-outer : Meet lines number 1 3 → HasTwoOf lines number
  two-outer m =
      record {
        step = m.step;
        before = m.before;
        two = or_left ((is_wrong lines m.step number 1 && is_wrong lines m.step number 2) || (is_wrong lines m.step number 1 && is_wrong lines m.step number 3))
            (is_wrong lines m.step number 2 && is_wrong lines m.step number 3)
            (or_right (is_wrong lines m.step number 1 && is_wrong lines m.step number 2) (is_wrong lines m.step number 1 && is_wrong lines m.step number 3) m.both);
      }

  pub two-last : Meet lines number 2 3 → HasTwoOf lines number
  two-last m =
      record {
        step = m.step;
        before = m.before;
        two = or_right ((is_wrong lines m.step number 1 && is_wrong lines m.step number 2) || (is_wrong lines m.step number 1 && is_wrong lines m.step number 3))
            (is_wrong lines m.step number 2 && is_wrong lines m.step number 3) m.both;
      }

-- by what is told of the last two copies
pub last-two : (lines : List Event) (number : ℕ) (b : Bool) → MatchBool b (NeverMeet lines number 2 3) (Meet lines number 2 3) → NeverMeet lines number 1 2 → NeverMeet lines number 1 3
    → MatchBool b (NeverTwoOf lines number) (HasTwoOf lines number)
last-two lines number true apart first outer = never-two lines number first outer apart
last-two lines number false meet first outer = two-last lines number meet
