-- The STATE and UNPLUG lines of what is read fit the devices over which it is read.
use Rattle.std.proofs.Common.{◌≡◌, ◌≢◌, ℕ, ◌+◌, ◌/◌, ◌<◌, ◌≤◌, Bool, true, false, ◌==◌, ◌||◌, List, [], ◌∷◌, ◌++◌, All, length, Option, None, Some, Result, Ok, Err, refl, ap, subst, ◌∙◌, arith, if◌then◌else◌, eq-eqb}
use Rattle.std.specs.Prelude.{nat_lt, IfOk}
use Rattle.std.specs.List.{list_any}
use Rattle.std.proofs.lemmas.Bool.{lt-ltb}
use Rattle.std.proofs.lemmas.List.Elements.{All-nil, All-push, All-cons}
use Rattle.std.proofs.lemmas.List.Folds.{list_any-append}
use Rattle.lvdc_text.specs.Lines.{NumberedLine, numbered, lines_of}
use Rattle.lvdc_port.specs.Device.{Device}
use Rattle.lvdc_port.specs.declared.device.Kind.{Kind}
use Rattle.lvdc_port.specs.declared.device.Kind.TheVariants.{Tape, Latch, Ticker, Recorder}
use Rattle.lvdc_port.specs.declared.requests.Supply.{Supply}
use Rattle.lvdc_plain.specs.declared.records.Unplug.{Unplug}
use Rattle.lvdc_save.specs.declared.entry.Entry.{Entry}
use Rattle.lvdc_save.specs.declared.entry.Entry.TheVariants as says
use Rattle.lvdc_save.specs.declared.fault.SaveFault.{SaveFault}
use Rattle.lvdc_save.specs.declared.fault.SaveFault.TheVariants.{BadSave}
use Rattle.lvdc_save.specs.declared.mark.Mark.{Mark}
use Rattle.lvdc_save.specs.declared.saved.Saved.{Saved}
use Rattle.lvdc_save.specs.Entries.{entry_of}
use Rattle.lvdc_save.specs.Reading.{Progress, nothing_said, rank, holds_one, line_in, without_words, without_device, is_unplugged, lacking, fits, adds, moved_on, by_lack, by_entry, and_then, told_from, saved_in, whole_of, saved_of}
use Rattle.lvdc_save_read.specs.Accepted.{kind_among, HoldsWords, AreStates, AreUnplugs}
use Rattle.lvdc_save_read.proofs.Soundness.{pairs_push, before, Stands, stands}

-- this port stands before a least place: below it, or at it where its device holds a list of words
pub record IsBefore (devices : List Device) (least : ℕ) (word : Supply) : Type 0 where
  low : word.port ≤ least
  last : word.port ≡ least → kind_among devices word.port ≢ Some Latch

-- the STATE lines so far, and their marks
pub record HoldStates (devices : List Device) (at least : ℕ) (states : List Supply) (marks : List Mark) : Type 0 where
  none : at < 11 → states ≡ []
  words : AreStates devices states
  below : at ≡ 11 → All (IsBefore devices least) states
  marked : All (λ word. list_any (λ (mark : Mark). mark.port == word.port) marks ≡ true) states

-- the UNPLUG lines so far
pub record TakeAway (devices : List Device) (at times : ℕ) (states : List Supply) (unplugs : List Unplug) : Type 0 where
  none : at < 12 → unplugs ≡ []
  lines : AreUnplugs devices times states unplugs

pub record AreFitting (devices : List Device) (r : Progress) : Type 0 where
  pub states : HoldStates devices (rank r.section) r.least r.states r.marks
  pub unplugs : TakeAway devices (rank r.section) (r.steps / 3) r.states r.unplugs

-- ---- what a line of another section keeps

states_kept : (devices : List Device) (at next least after : ℕ) (states : List Supply) (marks : List Mark) → HoldStates devices at least states marks → at ≤ next → next ≢ 11
    → HoldStates devices next after states marks
states_kept devices at next least after states marks h later other =
    record { none = λ l. h.none (omega (arith, l, later)); words = h.words; below = λ is. absurd (other is); marked = h.marked }

unplugs_kept : (devices : List Device) (at next times : ℕ) (states : List Supply) (unplugs : List Unplug) → TakeAway devices at times states unplugs → at ≤ next
    → TakeAway devices next times states unplugs
unplugs_kept devices at next times states unplugs h later = record { none = λ l. h.none (omega (arith, l, later)); lines = h.lines }

-- where there is no UNPLUG line, words and times are free
no_unplugs : (devices : List Device) (times : ℕ) (states : List Supply) (unplugs : List Unplug) → unplugs ≡ [] → AreUnplugs devices times states unplugs
no_unplugs devices times states [] e = record {
  there = All-nil (λ unplug. kind_among devices unplug.port ≢ None);
  once = λ i j d less within. absurd (omega (arith, less, within));
  gone = All-nil (λ unplug. unplug.time < times → All (λ word. word.port ≢ unplug.port) states);
}
no_unplugs devices times states (x ∷ xs) e = absurd cc

unplugs_early : (devices : List Device) (at next old times : ℕ) (states more : List Supply) (unplugs : List Unplug) → TakeAway devices at old states unplugs → at < 12
    → TakeAway devices next times more unplugs
unplugs_early devices at next old times states more unplugs h early =
    record { none = λ _. h.none early; lines = no_unplugs devices times more unplugs (h.none early) }

-- ---- a STATE line

-- a port that stands before this one stands before what may follow it, and so does this one
module _ (devices : List Device) (port : ℕ) where
  follows-by : (kind : Option Kind) → kind_among devices port ≡ kind → (word : Supply) → IsBefore devices port word → IsBefore devices (if holds_one kind then port + 1 else port) word
  follows-by None is word h = h
  follows-by (Some Latch) is word h = let low = h.low in record { low = omega (arith, low); last = λ same. absurd (omega (arith, low, same)) }
  follows-by (Some Tape) is word h = h
  follows-by (Some Ticker) is word h = h
  follows-by (Some Recorder) is word h = h

  itself-by : (kind : Option Kind) → kind_among devices port ≡ kind → (word : Supply) → word.port ≡ port → IsBefore devices (if holds_one kind then port + 1 else port) word
  itself-by None is word here = record { low = omega (arith, here); last = λ same latch. absurd (cc) }
  itself-by (Some Latch) is word here = record { low = omega (arith, here); last = λ same. absurd (omega (arith, here, same)) }
  itself-by (Some Tape) is word here = record { low = omega (arith, here); last = λ same latch. absurd (cc) }
  itself-by (Some Ticker) is word here = record { low = omega (arith, here); last = λ same latch. absurd (cc) }
  itself-by (Some Recorder) is word here = record { low = omega (arith, here); last = λ same latch. absurd (cc) }

  holds-by : (number : ℕ) (kind : Option Kind) → kind_among devices port ≡ kind → without_words number kind ≡ None → HoldsWords devices port
  holds-by number None is lack = absurd (cc)
  holds-by number (Some Ticker) is lack = absurd (cc)
  holds-by number (Some Tape) is lack = record { there = λ none. absurd (cc); kind = λ ticker. absurd (cc) }
  holds-by number (Some Latch) is lack = record { there = λ none. absurd (cc); kind = λ ticker. absurd (cc) }
  holds-by number (Some Recorder) is lack = record { there = λ none. absurd (cc); kind = λ ticker. absurd (cc) }

-- a port that stood before a least place stands before each place from there on
nearer : (devices : List Device) (least port : ℕ) → least ≤ port → (word : Supply) → IsBefore devices least word → IsBefore devices port word
nearer devices least port later word h =
    let low = h.low in record { low = omega (arith, later, low); last = λ same. h.last (omega (arith, later, low, same)) }

either : (a b : Bool) → a ≡ true → (a || b) ≡ true
either true b is = refl
either false b is = absurd (cc)

or-true : (a : Bool) → (a || true) ≡ true
or-true true = refl
or-true false = refl

-- the marks with one for this port
module _ (marks : List Mark) (port number : ℕ) where
  abbrev with_mark : Bool → List Mark
  with_mark has = marks ++ (if has then [] else record { port = port; line = number } ∷ [])

  abbrev marks_it : ℕ → Mark → Bool
  marks_it p mark = mark.port == p

  marked-more : (has : Bool) (p : ℕ) → list_any (λ (mark : Mark). mark.port == p) marks ≡ true → list_any (λ (mark : Mark). mark.port == p) (with_mark has) ≡ true
  marked-more has p is =
      list_any-append (marks_it p) marks (if has then [] else record { port = port; line = number } ∷ [])
      ∙ either (list_any (marks_it p) marks) _ is

  marked-here : (has : Bool) → list_any (λ (mark : Mark). mark.port == port) marks ≡ has → list_any (λ (mark : Mark). mark.port == port) (with_mark has) ≡ true
  marked-here true is = marked-more true port is
  marked-here false is =
      list_any-append (marks_it port) marks (record { port = port; line = number } ∷ [])
      ∙ ap (λ (b : Bool). list_any (marks_it port) marks || (b || false)) (eq-eqb port port refl)
      ∙ or-true (list_any (marks_it port) marks)

states_add : (devices : List Device) (number at least : ℕ) (states : List Supply) (marks : List Mark) (s : Supply) → HoldStates devices at least states marks → at ≤ 11
    → (if 11 == at then least else 0) ≤ s.port → without_words number (kind_among devices s.port) ≡ None
    → HoldStates devices 11 (if holds_one (kind_among devices s.port) then s.port + 1 else s.port) (states ++ s ∷ [])
    (marks ++ (if list_any (λ (mark : Mark). mark.port == s.port) marks then [] else record { port = s.port; line = number } ∷ []))
states_add devices number at least states marks s h most from lack =
    let first : All (IsBefore devices s.port) states =
    before (IsBefore devices least) (IsBefore devices s.port) states 11 at least s.port (11 == at) refl most from h.none h.below (nearer devices least s.port) in
    let kind : Option Kind = kind_among devices s.port in
    record {
      none = λ l. absurd (omega (arith, l));
      words = record {
        held = All-push (λ word. HoldsWords devices word.port) states s h.words.held (holds-by devices s.port number kind refl lack);
        rise = pairs_push (λ word next. word.port ≤ next.port) states s (λ k d less. (first k d less).low) h.words.rise;
        single = pairs_push (λ word next. word.port ≡ next.port → kind_among devices word.port ≢ Some Latch) states s (λ k d less. (first k d less).last) h.words.single;
      };
      below = λ _. All-push (IsBefore devices (if holds_one kind then s.port + 1 else s.port)) states s
          (λ k d less. follows-by devices s.port kind refl _ (first k d less)) (itself-by devices s.port kind refl s refl);
      marked = All-push (λ word. list_any (λ (mark : Mark). mark.port == word.port) (with_mark marks s.port number (list_any (λ (mark : Mark). mark.port == s.port) marks)) ≡ true) states s
          (λ k d less. marked-more marks s.port number (list_any (λ (mark : Mark). mark.port == s.port) marks) _ (h.marked k d less))
          (marked-here marks s.port number (list_any (λ (mark : Mark). mark.port == s.port) marks) refl);
    }

-- ---- an UNPLUG line

clash : {b : Bool} → b ≡ true → b ≡ false → ⊥
clash is not = absurd (cc)

not-here : (a b : Bool) → (a || b) ≡ false → (a ≡ false) × (b ≡ false)
not-here true b is = absurd (cc)
not-here false b is = (refl, is)

-- no earlier line has the port
none-has : (unplugs : List Unplug) (port : ℕ) → list_any (λ (line : Unplug). line.port == port) unplugs ≡ false → All (λ line. line.port ≢ port) unplugs
none-has [] port is = All-nil (λ line. line.port ≢ port)
none-has (line ∷ unplugs) port is =
    let parts = not-here (line.port == port) (list_any (λ (l : Unplug). l.port == port) unplugs) is in
    All-cons (λ l. l.port ≢ port) line unplugs (λ same. clash (eq-eqb line.port port same) parts.0) (none-has unplugs port parts.1)

-- a port without a line among the marks has no mark
no-line : (marks : List Mark) (port : ℕ) → line_in marks port ≡ None → list_any (λ (mark : Mark). mark.port == port) marks ≡ false
no-line [] port is = refl
no-line (mark ∷ marks) port is = by_test (mark.port == port) is (no-line marks port)
  where
    by_test : (here : Bool) → (if here then Some mark.line else line_in marks port) ≡ None
        → (line_in marks port ≡ None → list_any (λ (m : Mark). m.port == port) marks ≡ false) → (here || list_any (λ (m : Mark). m.port == port) marks) ≡ false
    by_test true is later = absurd (cc)
    by_test false is later = later is

-- a port without a mark has no words
no-words : (states : List Supply) (marks : List Mark) (port : ℕ) → All (λ word. list_any (λ (mark : Mark). mark.port == word.port) marks ≡ true) states
    → list_any (λ (mark : Mark). mark.port == port) marks ≡ false → All (λ word. word.port ≢ port) states
no-words states marks port marked none =
    λ k d less same. clash (marked k d less) (ap (λ (p : ℕ). list_any (λ (mark : Mark). mark.port == p) marks) same ∙ none)

module _ (devices : List Device) (number : ℕ) (r : Progress) (u : Unplug) where
  pub record Lacks : Type 0 where
    there : kind_among devices u.port ≢ None
    new : is_unplugged r u.port ≡ false
    idle : u.time < r.steps / 3 → line_in r.marks u.port ≡ None

  by_time : (early : Bool) → nat_lt u.time (r.steps / 3) ≡ early → (if early then line_in r.marks u.port else None) ≡ None → u.time < r.steps / 3 → line_in r.marks u.port ≡ None
  by_time true is lack less = lack
  by_time false is lack less = absurd (clash (lt-ltb u.time (r.steps / 3) less) is)

  by_again : (has : Bool) → is_unplugged r u.port ≡ has → (if has then Some number else (if nat_lt u.time (r.steps / 3) then line_in r.marks u.port else None)) ≡ None
      → kind_among devices u.port ≢ None → Lacks
  by_again true is lack there = absurd (cc)
  by_again false is lack there = record { there = there; new = is; idle = by_time (nat_lt u.time (r.steps / 3)) refl lack }

  lacks-by : (kind : Option Kind) → kind_among devices u.port ≡ kind → without_device number r u kind ≡ None → Lacks
  lacks-by None is lack = absurd (cc)
  lacks-by (Some kind) is lack = by_again (is_unplugged r u.port) refl lack (λ none. absurd (cc))

  unplugs_add : HoldStates devices (rank r.section) r.least r.states r.marks → TakeAway devices (rank r.section) (r.steps / 3) r.states r.unplugs → Lacks
      → TakeAway devices 12 (r.steps / 3) r.states (r.unplugs ++ u ∷ [])
  unplugs_add states h lacks = record {
    none = λ l. absurd (omega (arith, l));
    lines = record {
      there = All-push (λ unplug. kind_among devices unplug.port ≢ None) r.unplugs u h.lines.there lacks.there;
      once = pairs_push (λ unplug later. unplug.port ≢ later.port) r.unplugs u (none-has r.unplugs u.port lacks.new) h.lines.once;
      gone = All-push (λ unplug. unplug.time < r.steps / 3 → All (λ word. word.port ≢ unplug.port) r.states) r.unplugs u h.lines.gone
          (λ early. no-words r.states r.marks u.port states.marked (no-line r.marks u.port (lacks.idle early)));
    };
  }

-- ---- one line

other_section : (devices : List Device) (r t : Progress) → AreFitting devices r → t.states ≡ r.states → t.marks ≡ r.marks → t.unplugs ≡ r.unplugs → t.steps ≡ r.steps
    → rank r.section ≤ rank t.section → rank t.section ≢ 11 → AreFitting devices t
other_section devices r t h states marks unplugs steps later other = record {
  states = rw (states, marks) (states_kept devices (rank r.section) (rank t.section) r.least t.least r.states r.marks h.states later other);
  unplugs = rw (states, unplugs, steps) (unplugs_kept devices (rank r.section) (rank t.section) (r.steps / 3) r.states r.unplugs h.unplugs later);
}

fits-after : (devices : List Device) (number : ℕ) (r : Progress) (e : Entry) → AreFitting devices r → Stands r e → lacking devices number r e ≡ None
    → AreFitting devices (moved_on devices (adds number r e) e)
fits-after devices number r says.Title h s lack = other_section devices r _ h refl refl refl refl s.later (omega arith)
fits-after devices number r (says.Steps steps) h s lack = record {
  states = states_kept devices (rank r.section) 2 r.least 0 r.states r.marks h.states s.later (omega arith);
  unplugs = unplugs_early devices (rank r.section) 2 (r.steps / 3) (steps / 3) r.states r.states r.unplugs h.unplugs (omega (arith, s.to));
}
fits-after devices number r (says.Count count) h s lack = other_section devices r _ h refl refl refl refl s.later (omega arith)
fits-after devices number r (says.Simplex banks) h s lack = other_section devices r _ h refl refl refl refl s.later (omega arith)
fits-after devices number r (says.Copy copy) h s lack = other_section devices r _ h refl refl refl refl s.later (omega arith)
fits-after devices number r (says.Select twins) h s lack = other_section devices r _ h refl refl refl refl s.later (omega arith)
fits-after devices number r (says.Cell held) h s lack = other_section devices r _ h refl refl refl refl s.later (omega arith)
fits-after devices number r (says.Word placed) h s lack = other_section devices r _ h refl refl refl refl s.later (omega arith)
fits-after devices number r (says.Exchange exchange) h s lack = other_section devices r _ h refl refl refl refl s.later (omega arith)
fits-after devices number r (says.Repair repair) h s lack = other_section devices r _ h refl refl refl refl s.later (omega arith)
fits-after devices number r (says.State supply) h s lack = record {
  states = states_add devices number (rank r.section) r.least r.states r.marks supply h.states s.later s.place lack;
  unplugs = unplugs_early devices (rank r.section) 11 (r.steps / 3) (r.steps / 3) r.states (r.states ++ supply ∷ []) r.unplugs h.unplugs (omega (arith, s.later));
}
fits-after devices number r (says.Unplug unplug) h s lack = record {
  states = states_kept devices (rank r.section) 12 r.least 0 r.states r.marks h.states s.later (omega arith);
  unplugs = unplugs_add devices number r unplug h.states h.unplugs (lacks-by devices number r unplug (kind_among devices unplug.port) refl lack);
}
fits-after devices number r (says.Fault event) h s lack = other_section devices r _ h refl refl refl refl s.later (omega arith)
fits-after devices number r (says.Order order) h s lack = other_section devices r _ h refl refl refl refl s.later (omega arith)
fits-after devices number r says.End h s lack = other_section devices r _ h refl refl refl refl s.later (omega arith)

entry-fits : (devices : List Device) (number : ℕ) (r t : Progress) (e : Entry) (fit : Bool) (lack : Option ℕ) → fits r e ≡ fit → lacking devices number r e ≡ lack
    → (if fit then by_lack devices number r e lack else Err (BadSave number)) ≡ Ok t → AreFitting devices r → AreFitting devices t
entry-fits devices number r t e true None fit lack made h =
    let one : moved_on devices (adds number r e) e ≡ t = cc in subst (AreFitting devices) one (fits-after devices number r e h (stands r e fit) lack)
entry-fits devices number r t e true (Some line) fit lack made h = absurd cc
entry-fits devices number r t e false found fit lack made h = absurd cc

line-fits : (devices : List Device) (number : ℕ) (r t : Progress) (said : Option Entry) → by_entry devices number r said ≡ Ok t → AreFitting devices r → AreFitting devices t
line-fits devices number r t None made h = absurd cc
line-fits devices number r t (Some e) made h = entry-fits devices number r t e (fits r e) (lacking devices number r e) refl refl made h

-- ---- all lines

lines-fit : (devices : List Device) (lines : List NumberedLine) (r t : Progress) → told_from devices r lines ≡ Ok t → AreFitting devices r → AreFitting devices t
unfolding told_from
lines-fit devices [] r t told h = let one : r ≡ t = cc in subst (AreFitting devices) one h
lines-fit devices (line ∷ lines) r t told h = by_first (by_entry devices line.number r (entry_of line.text)) refl told (λ s. lines-fit devices lines s t)
  where
    by_first : (first : Result Progress SaveFault) → by_entry devices line.number r (entry_of line.text) ≡ first
        → and_then first (λ s. told_from devices s lines) ≡ Ok t
        → ((s : Progress) → told_from devices s lines ≡ Ok t → AreFitting devices s → AreFitting devices t) → AreFitting devices t
    by_first (Ok s) is told later = later s told (line-fits devices line.number r s (entry_of line.text) is h)
    by_first (Err fault) is told later = absurd cc

first-fits : (devices : List Device) → AreFitting devices nothing_said
first-fits devices = record {
  states = record {
    none = λ _. refl;
    words = record {
      held = All-nil (λ word. HoldsWords devices word.port);
      rise = λ i j d less within. absurd (omega (arith, less, within));
      single = λ i j d less within. absurd (omega (arith, less, within));
    };
    below = λ is. absurd (omega (arith, is));
    marked = All-nil (λ word. list_any (λ (mark : Mark). mark.port == word.port) [] ≡ true);
  };
  unplugs = record { none = λ _. refl; lines = no_unplugs devices 0 [] [] refl };
}

-- the STATE and UNPLUG lines fit the devices
abbrev pub Fits : List Device → Saved → Type 0
Fits devices saved = AreStates devices saved.states × AreUnplugs devices (saved.snapshot.steps / 3) saved.states saved.unplugs

whole-fits : (devices : List Device) (next : ℕ) (r : Progress) (saved : Saved) (last : Bool) → (if last then Ok (saved_in r) else Err (BadSave next)) ≡ Ok saved → AreFitting devices r
    → Fits devices saved
whole-fits devices next r saved true is h =
    let one : saved_in r ≡ saved = cc in subst (Fits devices) one (h.states.words, h.unplugs.lines)
whole-fits devices next r saved false is h = absurd cc

pub saved-fits : (devices : List Device) (bytes : List ℕ) (saved : Saved) → saved_of devices bytes ≡ Ok saved → Fits devices saved
saved-fits devices bytes saved is = by_told (told_from devices nothing_said (numbered bytes (lines_of bytes))) refl is
  where
    by_told : (told : Result Progress SaveFault) → told_from devices nothing_said (numbered bytes (lines_of bytes)) ≡ told
        → and_then told (whole_of (length (numbered bytes (lines_of bytes)) + 1)) ≡ Ok saved → Fits devices saved
    by_told (Ok r) told whole =
        whole-fits devices (length (numbered bytes (lines_of bytes)) + 1) r saved (rank r.section == 15) whole
        (lines-fit devices (numbered bytes (lines_of bytes)) nothing_said r told (first-fits devices))
    by_told (Err fault) told whole = absurd cc

-- the same of the result of a call
pub result-fits : (devices : List Device) (bytes : List ℕ) (result : Result Saved SaveFault) → IfOk result (λ saved. saved_of devices bytes ≡ Ok saved)
    → IfOk result (Fits devices)
result-fits devices bytes (Ok saved) is = saved-fits devices bytes saved is
result-fits devices bytes (Err fault) is = tt
