-- Entries one after the other: one that fits is added, and so is a list of them whose items each may follow those before.
use Rattle.std.proofs.Common.{◌≡◌, ◌≢◌, ℕ, ◌+◌, ◌<◌, ◌≤◌, Bool, true, false, ◌&&◌, ◌==◌, List, [], ◌∷◌, ◌++◌, map, All, Option, None, Result, Ok, Err, refl, sym, ap, subst, ◌∙◌, arith, append_assoc, append-nil, if◌then◌else◌}
use Rattle.std.specs.Prelude.{AllPairs, nat_le}
use Rattle.std.proofs.lemmas.Bool.{eqb-true, le-leb}
use Rattle.lvdc_port.specs.Device.{Device}
use Rattle.lvdc_save.specs.declared.entry.Entry.{Entry}
use Rattle.lvdc_save.specs.declared.fault.SaveFault.{SaveFault}
use Rattle.lvdc_save.specs.declared.fault.SaveFault.TheVariants.{BadSave}
use Rattle.lvdc_save.specs.declared.section.Section.{Section}
use Rattle.lvdc_save.specs.Reading.{Progress, rank, section_of, earliest, latest, follows, place_of, least_after, least_in, agrees, fits, lacking, adds, moved_on, by_lack, after_entry, and_then, told_entries}
use Rattle.lvdc_save_read.proofs.Splits.{before_item, last_item}

-- ---- one entry

pub both_are : (a b : Bool) → a ≡ true → b ≡ true → (a && b) ≡ true
both_are true b one two = two
both_are false b one two = absurd cc

pub fits_here : (r : Progress) (e : Entry) → earliest (section_of e) ≤ rank r.section → rank r.section ≤ latest (section_of e)
    → least_in (section_of e) r ≤ place_of e → agrees r e ≡ true → fits r e ≡ true
fits_here r e from to place agreed =
    let follow : follows (section_of e) r.section ≡ true =
    both_are (nat_le (earliest (section_of e)) (rank r.section)) (nat_le (rank r.section) (latest (section_of e)))
    (le-leb (earliest (section_of e)) (rank r.section) from) (le-leb (rank r.section) (latest (section_of e)) to) in
    both_are (follows (section_of e) r.section && nat_le (least_in (section_of e) r) (place_of e)) (agrees r e)
    (both_are (follows (section_of e) r.section) (nat_le (least_in (section_of e) r) (place_of e)) follow
    (le-leb (least_in (section_of e) r) (place_of e) place)) agreed

pub added : (devices : List Device) (number : ℕ) (r : Progress) (e : Entry) → fits r e ≡ true → lacking devices number r e ≡ None
    → after_entry devices number r e ≡ Ok (moved_on devices (adds number r e) e)
added devices number r e fit here =
    ap (λ (b : Bool). if b then by_lack devices number r e (lacking devices number r e) else Err (BadSave number)) fit
    ∙ ap (λ (lack : Option ℕ). by_lack devices number r e lack) here

-- in a new section no place is too low
least_new : (a b least place : ℕ) (same : Bool) → (a == b) ≡ same → b < a → (if same then least else 0) ≤ place
least_new a b least place true is below = let e = eqb-true a b is in absurd (omega (arith, e, below))
least_new a b least place false is below = omega arith

-- the first line of another section
pub first_added : (devices : List Device) (number : ℕ) (r : Progress) (e : Entry) → earliest (section_of e) ≤ rank r.section
    → rank r.section ≤ latest (section_of e) → rank r.section < rank (section_of e) → agrees r e ≡ true → lacking devices number r e ≡ None
    → after_entry devices number r e ≡ Ok (moved_on devices (adds number r e) e)
first_added devices number r e from to below agreed here =
    added devices number r e
    (fits_here r e from to
    (least_new (rank (section_of e)) (rank r.section) r.least (place_of e) (rank (section_of e) == rank r.section) refl below) agreed) here

-- ---- lists of entries

-- these entries are accepted from the line of this number on, whatever comes after them, and then P holds of what was said
pub record AreTold (devices : List Device) (number : ℕ) (r : Progress) (es : List Entry) (P : Progress → Type 0) : Type 0 where
  pub next : ℕ
  pub after : Progress
  pub holds : P after
  pub told : (rest : List Entry) → told_entries devices number r (es ++ rest) ≡ told_entries devices next after rest

-- none
pub told_none : (devices : List Device) (number : ℕ) (r : Progress) (P : Progress → Type 0) → P r → AreTold devices number r [] P
told_none devices number r P holds = record { next = number; after = r; holds = holds; told = λ rest. refl }

-- one entry, and others after it
pub told_first : (devices : List Device) (number : ℕ) (r t : Progress) (e : Entry) (es : List Entry) (P : Progress → Type 0)
    → after_entry devices number r e ≡ Ok t → AreTold devices (number + 1) t es P → AreTold devices number r (e ∷ es) P
unfolding told_entries
told_first devices number r t e es P is more = record {
  next = more.next;
  after = more.after;
  holds = more.holds;
  told = λ rest.
      ap (λ (made : Result Progress SaveFault). and_then made (λ s. told_entries devices (number + 1) s (es ++ rest))) is ∙ more.told rest;
}

-- some entries, and others after them
pub told_on : (devices : List Device) (number : ℕ) (r : Progress) (es fs : List Entry) (P Q : Progress → Type 0)
    → AreTold devices number r es P → ((next : ℕ) (t : Progress) → P t → AreTold devices next t fs Q) → AreTold devices number r (es ++ fs) Q
told_on devices number r es fs P Q first more =
    let later = more first.next first.after first.holds in
    record {
      next = later.next;
      after = later.after;
      holds = later.holds;
      told = λ rest. ap (told_entries devices number r) (append_assoc es fs rest) ∙ first.told (fs ++ rest) ∙ later.told rest;
    }

-- what follows holds too
pub told_so : (devices : List Device) (number : ℕ) (r : Progress) (es : List Entry) (P Q : Progress → Type 0)
    → ((t : Progress) → P t → Q t) → AreTold devices number r es P → AreTold devices number r es Q
told_so devices number r es P Q so goes = record { next = goes.next; after = goes.after; holds = so goes.after goes.holds; told = goes.told }

-- ---- a section of a list

-- the items of a list are said in a section that may begin after one of this rank, and each may be said after those before it;
-- where some have been said, Keeps tells what else is known
pub record MayFollow {A : Type 0} (devices : List Device) (say : A → Entry) (here : Section) (low : ℕ)
    (Keeps : List A → Progress → Type 0) (all : List A) : Type 0 where
  pub place : (x : A) → section_of (say x) ≡ here
  pub from : earliest here ≤ low
  pub to : latest here ≡ rank here
  pub rise : AllPairs (λ x y. least_after devices (say x) ≤ place_of (say y)) all
  -- an item agrees with what was said before it, lacks no device, and then Keeps holds with it
  pub agree : (done rest : List A) (x : A) (r : Progress) → done ++ x ∷ rest ≡ all → Keeps done r → agrees r (say x) ≡ true
  pub there : (done rest : List A) (x : A) (number : ℕ) (r : Progress) → done ++ x ∷ rest ≡ all → Keeps done r
      → lacking devices number r (say x) ≡ None
  pub keep : (done rest : List A) (x : A) (number : ℕ) (r : Progress) → done ++ x ∷ rest ≡ all → Keeps done r
      → Keeps (done ++ x ∷ []) (moved_on devices (adds number r (say x)) (say x))

-- so many items have been said, and nothing after them: the section has begun if there are any, and a next item may have any place
-- that none of them bars
pub record HasSaid {A : Type 0} (devices : List Device) (say : A → Entry) (here : Section) (low : ℕ)
    (Keeps : List A → Progress → Type 0) (done : List A) (r : Progress) : Type 0 where
  pub from : low ≤ rank r.section
  pub to : rank r.section ≤ rank here
  pub there : done ≢ [] → rank r.section ≡ rank here
  pub least : (place : ℕ) → All (λ x. least_after devices (say x) ≤ place) done → least_in here r ≤ place
  pub keeps : Keeps done r

least_same : (least place : ℕ) (same : Bool) → least ≤ place → (if same then least else 0) ≤ place
least_same least place true h = h
least_same least place false h = omega arith

module _ {A : Type 0} (devices : List Device) (say : A → Entry) (here : Section) (low : ℕ) (Keeps : List A → Progress → Type 0)
    (all : List A) (follow : MayFollow devices say here low Keeps all) where
  -- so much has been said
  abbrev Has : List A → Progress → Type 0
  Has = HasSaid devices say here low Keeps

  item_fits : (done rest : List A) (x : A) (r : Progress) → done ++ x ∷ rest ≡ all → Has done r → fits r (say x) ≡ true
  item_fits done rest x r e said =
      let is = follow.place x in
      let first : earliest (section_of (say x)) ≡ earliest here = ap earliest is in
      let last : latest (section_of (say x)) ≡ latest here = ap latest is in
      let least : least_in (section_of (say x)) r ≡ least_in here r = ap (λ (next : Section). least_in next r) is in
      let before = before_item (λ y z. least_after devices (say y) ≤ place_of (say z)) done rest x all e follow.rise in
      let low_least = said.least (place_of (say x)) before in
      let from = follow.from in
      let to = follow.to in
      let begun = said.from in
      let ended = said.to in
      fits_here r (say x) (omega (arith, first, from, begun)) (omega (arith, last, to, ended)) (omega (arith, least, low_least))
      (follow.agree done rest x r e said.keeps)

  item_said : (done rest : List A) (x : A) (number : ℕ) (r : Progress) → done ++ x ∷ rest ≡ all → Has done r
      → Has (done ++ x ∷ []) (moved_on devices (adds number r (say x)) (say x))
  item_said done rest x number r e said =
      let is : rank (section_of (say x)) ≡ rank here = ap rank (follow.place x) in
      let begun = said.from in
      let ended = said.to in
      record {
        from = omega (arith, is, begun, ended);
        to = omega (arith, is);
        there = λ some. is;
        least = λ place below.
            least_same (least_after devices (say x)) place (rank here == rank (section_of (say x)))
            (last_item (λ y. least_after devices (say y) ≤ place) done x below);
        keeps = follow.keep done rest x number r e said.keeps;
      }

  items_told : (done todo : List A) (number : ℕ) (r : Progress) → done ++ todo ≡ all → Has done r
      → AreTold devices number r (map say todo) (Has all)
  items_told done [] number r e said =
      told_none devices number r (Has all) (subst (λ (xs : List A). Has xs r) (sym (append-nil done) ∙ e) said)
  items_told done (x ∷ todo) number r e said =
      told_first devices number r (moved_on devices (adds number r (say x)) (say x)) (say x) (map say todo) (Has all)
      (added devices number r (say x) (item_fits done todo x r e said) (follow.there done todo x number r e said.keeps))
      (items_told (done ++ x ∷ []) todo (number + 1) (moved_on devices (adds number r (say x)) (say x))
      (append_assoc done (x ∷ []) todo ∙ e) (item_said done todo x number r e said))

  -- all items, from an earlier section on
  pub section_told : (number : ℕ) (r : Progress) → low ≤ rank r.section → rank r.section < rank here → Keeps [] r
      → AreTold devices number r (map say all) (Has all)
  section_told number r from below keeps = items_told [] all number r refl (record {
    from = from;
    to = omega (arith, below);
    there = λ some. absurd (some refl);
    least = λ place none. least_new (rank here) (rank r.section) r.least place (rank here == rank r.section) refl below;
    keeps = keeps;
  })
