-- Snapshots without their logs, and the waypoint at which a script may begin.
use Rattle.std.proofs.Common.{rules, ◌≡◌, ℕ, zero, suc, ◌/◌, ◌<◌, Bool, true, List, [], ◌∷◌, length, is_some, All, refl, sym, subst, arith, IfSome, IsSomeAnd, IfOk, IsOkAnd, OnOk, Result, Ok, Err, slice_get, get_or}
use Rattle.std.proofs.lemmas.List.Elements.{All-nil}
use Rattle.std.specs.declared.option.Option.{Option}
use Rattle.std.specs.declared.option.Option.TheVariants.{None, Some}
use Rattle.lvdc_port.specs.Device.{Device}
use Rattle.lvdc_model.specs.Voted.{Voted}
use Rattle.lvdc_snapshot.specs.Snapshot.{IsWhole, Means}
use Rattle.lvdc_snapshot.specs.Notes.{IsLog}
use Rattle.lvdc_snapshot.specs.declared.snapshot.Snapshot.{Snapshot}

-- a log without lines is one from before
no-log : (times : ℕ) → IsLog times []
no-log times = record { below = All-nil (λ line. line.time < times); order = search rules }

-- a whole snapshot is whole without its log
pub whole-without : (s : Snapshot) → IsWhole s → IsWhole (record s { log = [] })
whole-without s h = record {
  latches = h.latches;
  counts = h.counts;
  pairs = h.pairs;
  most = h.most;
  twins = h.twins;
  times = h.times;
  phase = h.phase;
  stop = h.stop;
  cells_rise = h.cells_rise;
  cells_differ = h.cells_differ;
  places = h.places;
  words_rise = h.words_rise;
  words_differ = h.words_differ;
  there = h.there;
  log = no-log (s.steps / 3);
  repairs = h.repairs;
}

-- and means the state without its log
pub means-without : (s : Snapshot) (v : Voted) → Means s v → Means (record s { log = [] }) (record v { log = [] })
means-without s v h = record {
  copies = h.copies;
  counts = h.counts;
  cells = h.cells;
  selected = h.selected;
  words = h.words;
  log = refl;
  repairs = h.repairs;
  steps = h.steps;
  end = h.end;
}

-- it means the state over whatever devices
pub means-over : (s : Snapshot) (v : Voted) (devices : List Device) → Means s v → Means s (record v { devices = devices })
means-over s v devices h = record {
  copies = h.copies;
  counts = h.counts;
  cells = h.cells;
  selected = h.selected;
  words = h.words;
  log = h.log;
  repairs = h.repairs;
  steps = h.steps;
  end = h.end;
}

-- what is found in a list of one is that
pub found-one : {A : Type 0} (P : A → Type 0) (a : A) (found : Option ℕ) (is : Bool) → is ≡ is_some found → is ≡ true
    → IfSome found (λ at. IsSomeAnd (slice_get (a ∷ []) at) P) → P a
found-one P a None is same told h = absurd (cc)
found-one P a (Some zero) is same told h = h
found-one P a (Some (suc at)) is same told h = absurd h

-- what holds of a value if there is one holds of the one that is there
pub some-is : {A : Type 0} (P : A → Type 0) (o : Option A) (a : A) → o ≡ Some a → IfSome o P → P a
some-is P o a is h = subst (λ (found : Option _). IfSome found P) is h

-- what is so of what is found at a position is so of what stands there
pub found-at : {A : Type 0} (P : A → Type 0) (xs : List A) (i : ℕ) (x : A) → x ≡ get_or xs i x → IsSomeAnd (slice_get xs i) P → P x
found-at P [] i x is h = absurd h
found-at P (y ∷ ys) zero x is h = subst P (sym is) h
found-at P (y ∷ ys) (suc i) x is h = found-at P ys i x is h

found-within : {A : Type 0} (P : A → Type 0) (xs : List A) (i : ℕ) → IsSomeAnd (slice_get xs i) P → i < length xs
found-within P [] i h = absurd h
found-within P (y ∷ ys) zero h = omega arith
found-within P (y ∷ ys) (suc i) h = let within = found-within P ys i h in omega (arith, within)

-- so is what is so of all
pub all-at : {A : Type 0} (P Q : A → Type 0) (xs : List A) (i : ℕ) (x : A) → x ≡ get_or xs i x → IsSomeAnd (slice_get xs i) P → All Q xs → Q x
all-at P Q xs i x is h all = subst Q (sym is) (all i x (found-within P xs i h))

-- what follows from what holds of a value if there is one holds of it too
pub some-weaker : {A : Type 0} (o : Option A) (P Q : A → Type 0) → ((a : A) → P a → Q a) → IfSome o P → IfSome o Q
some-weaker None P Q from h = tt
some-weaker (Some a) P Q from h = from a h

-- what follows from two things that hold of a value that was made holds
pub by-ok : {A E : Type 0} (r : Result A E) (P Q : A → Type 0) (R : Type 0) → ((a : A) → P a → Q a → R) → IsOkAnd r P → IfOk r Q → R
by-ok (Ok a) P Q R from one other = from a one other
by-ok (Err e) P Q R from one other = absurd one

-- what holds of a value that was made is so of what was made
pub ok-and : {A E : Type 0} (P : A → Type 0) (r : Result A E) (a : A) → r ≡ Ok a → P a → IsOkAnd r P
ok-and P r a is h = subst (λ (made : Result _ _). IsOkAnd made P) (sym is) h

-- what follows from what holds once a call was right holds then
pub on-ok : {A E : Type 0} (r : Result A E) (P Q : Type 0) → (P → Q) → OnOk r P → OnOk r Q
on-ok (Ok a) P Q from h = from h
on-ok (Err e) P Q from h = tt

-- what follows from two things that hold of a value if it was made holds of it too
pub ok-both : {A E : Type 0} (r : Result A E) (P Q R : A → Type 0) → ((a : A) → P a → Q a → R a) → IfOk r P → IfOk r Q → IfOk r R
ok-both (Ok a) P Q R from one other = from a one other
ok-both (Err e) P Q R from one other = tt
