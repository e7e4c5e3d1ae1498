-- What is told of the parts of a script is what the script does.
use Rattle.std.proofs.Common.{◌≡◌, ℕ, zero, suc, ◌+◌, ◌-◌, ◌*◌, ◌/◌, ◌%◌, ◌<◌, ◌≤◌, Bool, true, false, cond, ◌&&◌, ◌||◌, ◌==◌, List, [], ◌∷◌, ◌++◌, length, take, drop, min, refl, sym, ◌∙◌, ap, subst, arith, Some, None, find, length-drop, get_or, get_or-drop, set, replicate}
use Rattle.std.specs.List.{list_any}
use Rattle.std.specs.Prelude.{All, slice_get}
use Rattle.std.proofs.Math.Bool.{or-false}
use Rattle.std.proofs.Math.Seq.{take-add}
use Rattle.std.proofs.lemmas.Bool.{eqb-true, eqb-false, false≢true}
use Rattle.std.proofs.lemmas.Bool.Decides.{nat_tests}
use Rattle.std.proofs.lemmas.List.{take_all, get_or-replicate, get_or-set_same, get_or-set_other}
use Rattle.std.proofs.lemmas.List.Elements.{All-more, All-weaker}
use Rattle.std.proofs.lemmas.Option.{slice_get_within, slice_get-get_or, get_or_from_slice_get}
use Rattle.lvdc_vote.specs.Harms.{harm_of}
use Rattle.lvdc_fault.specs.Script.{is_within, makes_wrong, is_wrong, deafens, is_deaf, are_two, two_wrong}
use Rattle.lvdc_fault.specs.declared.event.Event.{Event}
use Rattle.lvdc_fault.specs.declared.event.Event.TheVariants.{Flip, Force, Lag, Deaf}
use Rattle.lvdc_fault.proofs.Lowest.{find_same}
use Rattle.lvdc_fault.specs.Hurts.{hurts_by, hurts_on}
use Rattle.lvdc_forces.specs.Untouched.{IsUntouched}
use Rattle.lvdc_forces.specs.InForce.{faults_at, mark_at, no_faults, nothing_in_force}
use Rattle.lvdc_forces.specs.Parts.{StaysUntil, faults_in, no_part, part_of_script, events_of_part, IsRightUntil, total_of, share_then, IsRightAt}
use Rattle.lvdc_forces.specs.Shares.{no_share, share_at, share_with, share_on, share_of, share_next, share_join}
use Rattle.lvdc_forces.specs.declared.in_force.Faults.{Faults}
use Rattle.lvdc_forces.specs.declared.known.Known.{Known}
use Rattle.lvdc_forces.specs.declared.part.Part.{Part}
use Rattle.lvdc_forces.specs.declared.shares.Share.{Share}
use Rattle.lvdc_forces.proofs.Joins.{idle, idle_next, joined_none, join_shares}

-- ---- the same at two steps

same_deafens : (s t m c : ℕ) (e : Event) → makes_wrong t m c e ≡ makes_wrong s m c e → deafens t m c e ≡ deafens s m c e
same_deafens s t m c (Deaf number copy first last) h = h
same_deafens s t m c _ h = refl

same_hurts : (s t m c : ℕ) (e : Event) → makes_wrong t m c e ≡ makes_wrong s m c e → hurts_by t m c e ≡ hurts_by s m c e
same_hurts s t m c (Flip number copy first last index mask) h = rw h refl
same_hurts s t m c (Force number copy first last index mask value) h = rw h refl
same_hurts s t m c (Lag number copy first last) h = rw h refl
same_hurts s t m c _ h = refl

module _ (s t m c : ℕ) where
  abbrev Same : Event → Type 0
  Same e = makes_wrong t m c e ≡ makes_wrong s m c e

  same_wrong : (es : List Event) → All Same es → is_wrong es t m c ≡ is_wrong es s m c
  same_wrong [] h = refl
  same_wrong (e ∷ es) h = λ j. h 0 e (omega arith) j || same_wrong es (λ k d below. h (suc k) d (omega (arith, below))) j

  same_deaf : (es : List Event) → All Same es → is_deaf es t m c ≡ is_deaf es s m c
  same_deaf [] h = refl
  same_deaf (e ∷ es) h = λ j. same_deafens s t m c e (h 0 e (omega arith)) j || same_deaf es (λ k d below. h (suc k) d (omega (arith, below))) j

  same_hurts_on : (es : List Event) → All Same es → hurts_on t m c es ≡ hurts_on s m c es
  same_hurts_on [] h = refl
  same_hurts_on (e ∷ es) h =
      rw (same_hurts s t m c e (h 0 e (omega arith)), same_hurts_on es (λ k d below. h (suc k) d (omega (arith, below)))) refl

  pub same_share : (es : List Event) → All Same es → share_on es t m c ≡ share_on es s m c
  same_share es h = λ j. share_with (same_wrong es h j) (same_deaf es h j) (harm_of (same_hurts_on es h j))

-- what is worked out for a step is right while no event of the part begins or has ended
pub right_part : (es : List Event) (step : ℕ) (p : Part) → ((n : ℕ) → n < 21 → share_at p.shares n ≡ share_on es step (n / 3 + 1) (n % 3 + 1))
    → All (StaysUntil step p.until) es → IsRightUntil es step p
right_part es step p at stays n t h low high =
    at n h
    ∙ sym (same_share step t (n / 3 + 1) (n % 3 + 1) es
    (All-weaker (StaysUntil step p.until) (Same step t (n / 3 + 1) (n % 3 + 1)) (λ e same. same t (n / 3 + 1) (n % 3 + 1) low high) es stays))

-- ---- what is known

pub neither : (a b : Bool) → (a || b) ≡ false → (a ≡ false) × (b ≡ false)
neither false b h = (refl, h)
neither true b h = absurd (false≢true (sym h))

-- to a copy that isn't wrong nothing is done
unwrong_hears : (t m c : ℕ) (es : List Event) → is_wrong es t m c ≡ false → is_deaf es t m c ≡ false
unwrong_hears t m c [] h = refl
unwrong_hears t m c (e ∷ es) h =
    let both = neither (makes_wrong t m c e) (is_wrong es t m c) h in
    λ j. (idle t m c e both.0).0 j || unwrong_hears t m c es both.1 j

unwrong_unhurt : (t m c : ℕ) (es : List Event) → is_wrong es t m c ≡ false → hurts_on t m c es ≡ []
unwrong_unhurt t m c [] h = refl
unwrong_unhurt t m c (e ∷ es) h =
    let both = neither (makes_wrong t m c e) (is_wrong es t m c) h in
    rw ((idle t m c e both.0).1) (unwrong_unhurt t m c es both.1)

abbrev AreMarks : List Event → ℕ → List Bool → Type 0
AreMarks script t marks = (n : ℕ) → n < 21 → mark_at marks n ≡ is_wrong script t (n / 3 + 1) (n % 3 + 1)

-- where a copy is marked any is
any_marked : (marks : List Bool) (n : ℕ) → mark_at marks n ≡ true → list_any (λ (mark : Bool). mark) marks ≡ true
any_marked (mark ∷ marks) zero e = rw e refl
any_marked (true ∷ marks) (suc n) e = refl
any_marked (false ∷ marks) (suc n) e = any_marked marks n e
any_marked [] n e = absurd (false≢true e)

-- and a copy that isn't named isn't marked
unnamed : (any mark : Bool) → (mark ≡ true → any ≡ true) → (any && mark) ≡ false → mark ≡ false
unnamed any false some off = refl
unnamed true true some off = absurd (false≢true (sym off))
unnamed false true some off = absurd (false≢true (some refl))

-- the lowest module with two marked copies is that with two wrong ones
abbrev pub two_marked : List Bool → ℕ → Bool
two_marked marks m = are_two (λ c. mark_at marks (3 * (m - 1) + (c - 1)))

marked_two : (script : List Event) (t : ℕ) (marks : List Bool) → AreMarks script t marks → (m : ℕ) → 1 ≤ m → m ≤ 7 → two_wrong script t m ≡ two_marked marks m
marked_two script t marks are m low high =
    let one = are (3 * (m - 1) + 0) (omega arith) in
    let two = are (3 * (m - 1) + 1) (omega arith) in
    let three = are (3 * (m - 1) + 2) (omega arith) in
    let m1 : (3 * (m - 1) + 0) / 3 + 1 ≡ m = omega arith in
    let m2 : (3 * (m - 1) + 1) / 3 + 1 ≡ m = omega arith in
    let m3 : (3 * (m - 1) + 2) / 3 + 1 ≡ m = omega arith in
    let c1 : (3 * (m - 1) + 0) % 3 + 1 ≡ 1 = omega arith in
    let c2 : (3 * (m - 1) + 1) % 3 + 1 ≡ 2 = omega arith in
    let c3 : (3 * (m - 1) + 2) % 3 + 1 ≡ 3 = omega arith in
    let first : is_wrong script t m 1 ≡ mark_at marks (3 * (m - 1) + 0) = sym (one ∙ (λ j. is_wrong script t (m1 j) (c1 j))) in
    let second : is_wrong script t m 2 ≡ mark_at marks (3 * (m - 1) + 1) = sym (two ∙ (λ j. is_wrong script t (m2 j) (c2 j))) in
    let third : is_wrong script t m 3 ≡ mark_at marks (3 * (m - 1) + 2) = sym (three ∙ (λ j. is_wrong script t (m3 j) (c3 j))) in
    cc

-- what is in force on a copy is what the script does to it
faults_are : (script : List Event) (t m c : ℕ) → faults_in (share_on script t m c) ≡ record { deaf = is_deaf script t m c; harm = harm_of (hurts_on t m c script) }
faults_are script t m c = by (is_wrong script t m c) refl where
  done : Faults
  done = record { deaf = is_deaf script t m c; harm = harm_of (hurts_on t m c script) }

  by : (b : Bool) → is_wrong script t m c ≡ b → cond (is_wrong script t m c) done no_faults ≡ done
  by true e = ap (λ (b : Bool). cond b done no_faults) e
  by false e =
      ap (λ (b : Bool). cond b done no_faults) e
      ∙ sym (λ j. record { deaf = unwrong_hears t m c script e j; harm = harm_of (unwrong_unhurt t m c script e j) })

-- what is known by the totals of all copies
pub known_by : (script : List Event) (t : ℕ) (k : Known) (shares : List Share) → ((n : ℕ) → n < 21 → share_at shares n ≡ share_of script t n)
    → ((n : ℕ) → n < 21 → mark_at k.force.marks n ≡ (share_at shares n).named)
    → ((n : ℕ) → n < 21 → faults_at k.force.copies n ≡ faults_in (share_at shares n))
    → k.force.any ≡ list_any (λ (mark : Bool). mark) k.force.marks
    → k.force.deaf ≡ list_any (λ (f : Faults). f.deaf) k.force.copies
    → k.wrong ≡ find (two_marked k.force.marks) (1 ∷ 2 ∷ 3 ∷ 4 ∷ 5 ∷ 6 ∷ 7 ∷ [])
    → IsRightAt script t k
known_by script t k shares right marks copies any deaf wrong =
    record {
      force =
          record {
            deaf = deaf;
            copies = λ n h. copies n h ∙ ap faults_in (right n h) ∙ faults_are script t (n / 3 + 1) (n % 3 + 1);
            others = λ n h off. untouched n (sym (are n h) ∙ unnamed k.force.any (mark_at k.force.marks n) (λ e. any ∙ any_marked k.force.marks n e) off);
          };
      marks = are;
      wrong = wrong ∙ find_same (two_marked k.force.marks) (two_wrong script t) (marked_two script t k.force.marks are);
    }
  where
    are : AreMarks script t k.force.marks
    are n h = marks n h ∙ ap (λ (s : Share). s.named) (right n h)

    untouched : (n : ℕ) → is_wrong script t (n / 3 + 1) (n % 3 + 1) ≡ false → IsUntouched script t (n / 3 + 1) (n % 3 + 1)
    untouched n off = record { heard = unwrong_hears t (n / 3 + 1) (n % 3 + 1) script off; unhurt = unwrong_unhurt t (n / 3 + 1) (n % 3 + 1) script off }

-- ---- all parts

-- what comes after it does nothing where it doesn't name the copy
then_is : (a : Share) (es : List Event) (t m c : ℕ) → share_then a (share_on es t m c) ≡ share_join a (share_on es t m c)
then_is a es t m c = by (is_wrong es t m c) refl where
  by : (b : Bool) → is_wrong es t m c ≡ b → share_then a (share_on es t m c) ≡ share_join a (share_on es t m c)
  by true e = ap (λ (b : Bool). cond b (share_join a (share_on es t m c)) a) e
  by false e =
      let nothing : share_on es t m c ≡ no_share = λ j. share_with (e j) (unwrong_hears t m c es e j) (harm_of (unwrong_unhurt t m c es e j)) in
      let same : share_join a no_share ≡ a =
      λ j. record { named = or-false a.named j; deaf = or-false a.deaf j; lags = or-false a.lags j; patches = joined_none a.patches 5 j } in
      ap (λ (b : Bool). cond b (share_join a (share_on es t m c)) a) e ∙ sym (ap (share_join a) nothing ∙ same)

-- what so many parts do
total_right : (parts : List Part) (script : List Event) (t n count : ℕ)
    → ((k : ℕ) → k < count → share_at (part_of_script parts k).shares n ≡ share_of (events_of_part script k) t n)
    → total_of parts n count ≡ share_of (take (256 * count) script) t n
total_right parts script t n zero h = refl
total_right parts script t n (suc k) h =
    let m = n / 3 + 1 in
    let c = n % 3 + 1 in
    let before = total_right parts script t n k (λ j below. h j (omega (arith, below))) in
    let here = h k (omega arith) in
    let more : 256 * k + 256 ≡ 256 * suc k = omega arith in
    (λ j. share_then (before j) (here j))
    ∙ then_is (share_of (take (256 * k) script) t n) (events_of_part script k) t m c
    ∙ join_shares (take (256 * k) script) (take 256 (drop (256 * k) script)) t m c
    ∙ ap (λ (es : List Event). share_on es t m c) (sym (take-add (256 * k) 256 script) ∙ ap (λ (i : ℕ). take i script) more)

-- what all parts do is what the script does
pub totals_right : (parts : List Part) (script : List Event) (t n : ℕ) → length script ≤ 256 * length parts
    → ((k : ℕ) → k < length parts → share_at (part_of_script parts k).shares n ≡ share_of (events_of_part script k) t n)
    → total_of parts n (length parts) ≡ share_of script t n
totals_right parts script t n whole h =
    total_right parts script t n (length parts) h ∙ ap (λ (es : List Event). share_of es t n) (take_all (256 * length parts) script whole)

-- ---- as the code goes

-- the events from a position on stay so, and one more
pub stays_more : (script : List Event) (from position step until change next : ℕ) (e : Event) → from ≤ position → slice_get script position ≡ Some e
    → next ≡ min until change → All (StaysUntil step until) (take (position - from) (drop from script)) → StaysUntil step change e
    → All (StaysUntil step next) (take (position + 1 - from) (drop from script))
stays_more script from position step until change next e low here sooner before stays =
    let within = slice_get_within script position e here in
    let k : ℕ = position - from in
    let more : position + 1 - from ≡ k + 1 = omega (arith, low) in
    let at : from + k ≡ position = omega (arith, low) in
    let is : get_or (drop from script) k e ≡ e = get_or-drop from script k e ∙ ap (λ (n : ℕ). get_or script n e) at ∙ get_or_from_slice_get script position e e here in
    subst (λ (n : ℕ). All (StaysUntil step next) (take n (drop from script))) (sym more)
    (All-more (StaysUntil step next) (drop from script) k e (omega (arith, length-drop from script, within, low))
    (All-weaker (StaysUntil step until) (StaysUntil step next) (λ x was t m c up down. was t m c up (omega (arith, sooner, down))) (take k (drop from script)) before)
    (subst (StaysUntil step next) (sym is) (λ t m c up down. stays t m c up (omega (arith, sooner, down)))))

-- one part more of which nothing is known
pub push_unknown : (parts : List Part) → ((k : ℕ) → part_of_script parts k ≡ no_part) → (k : ℕ) → part_of_script (parts ++ no_part ∷ []) k ≡ no_part
push_unknown [] h zero = refl
push_unknown [] h (suc k) = refl
push_unknown (p ∷ parts) h zero = h 0
push_unknown (p ∷ parts) h (suc k) = push_unknown parts (λ j. h (suc j)) k

-- a step before the first, after the last, or neither
pub before_first : (first last step : ℕ) → step < first → is_within first last step ≡ false
before_first first last step h = grind (arith, nat_tests)

pub after_last : (first last step : ℕ) → last < step → is_within first last step ≡ false
after_last first last step h = grind (arith, nat_tests)

pub from_to : (first last step : ℕ) → first ≤ step → step ≤ last → is_within first last step ≡ true
from_to first last step low high = grind (arith, nat_tests)

-- no event does nothing
pub none_yet : (script : List Event) (from step : ℕ) (n : ℕ) → n < 21 → share_at (replicate 21 no_share) n ≡ share_on (take (from - from) (drop from script)) step (n / 3 + 1) (n % 3 + 1)
none_yet script from step n h =
    let none : from - from ≡ 0 = omega arith in
    get_or-replicate 21 n no_share no_share h ∙ ap (λ (k : ℕ). share_on (take k (drop from script)) step (n / 3 + 1) (n % 3 + 1)) (sym none)

-- what an event does to the copy that it acts on, and to the others
pub added : (step n k : ℕ) (old : List Share) (e : Event) (x r : Share) → length old ≡ 21 → k < 21
    → makes_wrong step (n / 3 + 1) (n % 3 + 1) e ≡ (k == n)
    → ((t m c : ℕ) → makes_wrong t m c e ≡ true → x ≡ share_next t m c (get_or old k r) e)
    → share_at (set old k x) n ≡ share_next step (n / 3 + 1) (n % 3 + 1) (share_at old n) e
added step n k old e x r long within acts did = by (k == n) refl where
  by : (b : Bool) → (k == n) ≡ b → share_at (set old k x) n ≡ share_next step (n / 3 + 1) (n % 3 + 1) (share_at old n) e
  by true same =
      let is : k ≡ n = eqb-true k n same in
      let there : k < length old = omega (arith, long, within) in
      ap (λ (j : ℕ). share_at (set old k x) j) (sym is) ∙ get_or-set_same old k x no_share there ∙ did step (n / 3 + 1) (n % 3 + 1) (acts ∙ same)
      ∙ ap (λ (s : Share). share_next step (n / 3 + 1) (n % 3 + 1) s e)
      (sym (get_or_from_slice_get old k (get_or old k r) no_share (slice_get-get_or old k r there)) ∙ ap (share_at old) is)
  by false other =
      get_or-set_other old k n x no_share (λ (z : n ≡ k). eqb-false k n other (sym z))
      ∙ sym (idle_next step (n / 3 + 1) (n % 3 + 1) (share_at old n) e (acts ∙ other))

-- ---- parts that name no copy

-- where none of a list holds, one of it doesn't
none-holds : {X : Type 0} (p : X → Bool) (xs : List X) (d : X) → p d ≡ false → list_any p xs ≡ false → (n : ℕ) → p (get_or xs n d) ≡ false
none-holds p [] d none h n = none
none-holds p (x ∷ xs) d none h zero = (neither (p x) (list_any p xs) h).0
none-holds p (x ∷ xs) d none h (suc n) = none-holds p xs d none (neither (p x) (list_any p xs) h).1 n

-- what doesn't name a copy leaves what was done to it
unnamed-then : (a b : Share) → b.named ≡ false → share_then a b ≡ a
unnamed-then a b h = ap (λ (named : Bool). cond named (share_join a b) a) h

-- a part that names no copy names none
part-unnamed : (p : Part) → p.names_any ≡ false → (n : ℕ) → (share_at p.shares n).named ≡ false
part-unnamed p h n = none-holds (λ (s : Share). s.named) p.shares no_share refl (sym p.told ∙ h) n

-- so such parts do nothing
total-none : (parts : List Part) → list_any (λ (p : Part). p.names_any) parts ≡ false → (n count : ℕ) → total_of parts n count ≡ no_share
total-none parts h n zero = refl
total-none parts h n (suc k) =
    let p = part_of_script parts k in
    unnamed-then (total_of parts n k) (share_at p.shares n) (part-unnamed p (none-holds (λ (p : Part). p.names_any) parts no_part refl h k) n)
    ∙ total-none parts h n k

-- and nothing is in force
pub known_none : (script : List Event) (t : ℕ) (parts : List Part) → list_any (λ (p : Part). p.names_any) parts ≡ false
    → ((n : ℕ) → n < 21 → total_of parts n (length parts) ≡ share_of script t n) → IsRightAt script t (record { force = nothing_in_force; wrong = None })
known_none script t parts h right =
    known_by script t (record { force = nothing_in_force; wrong = None }) (replicate 21 no_share)
    (λ n below. get_or-replicate 21 n no_share no_share below ∙ sym (total-none parts h n (length parts)) ∙ right n below)
    (λ n below. get_or-replicate 21 n false false below ∙ sym (ap (λ (s : Share). s.named) (get_or-replicate 21 n no_share no_share below)))
    (λ n below. get_or-replicate 21 n no_faults no_faults below ∙ sym (ap faults_in (get_or-replicate 21 n no_share no_share below)))
    refl refl refl
