-- The entries of a saved state say that state.
use Rattle.std.proofs.Common.{◌≡◌, ◌≢◌, ℕ, ◌+◌, ◌*◌, ◌<◌, ◌≤◌, Bool, true, false, ◌==◌, List, [], ◌∷◌, ◌++◌, map, take, length, Result, Ok, Err, refl, sym, ap, subst, ◌∙◌, arith, append_assoc, append-nil, if◌then◌else◌}
use Rattle.std.specs.List.{range_with_len}
use Rattle.std.proofs.lemmas.Bool.{eqb-true, le-leb, eq-eqb}
use Rattle.std.proofs.lemmas.List.{take_all}
use Rattle.lvdc_port.specs.Device.{Device}
use Rattle.lvdc_orders.specs.Orders.{orders_of}
use Rattle.lvdc_snapshot.specs.Snapshot.{IsWhole}
use Rattle.lvdc_save.specs.declared.entry.Entry.{Entry}
use Rattle.lvdc_save.specs.declared.entry.Entry.TheVariants as says
use Rattle.lvdc_save.specs.declared.fault.SaveFault.{SaveFault}
use Rattle.lvdc_save.specs.declared.fault.SaveFault.TheVariants.{BadSave}
use Rattle.lvdc_save.specs.declared.saved.Saved.{Saved}
use Rattle.lvdc_save.specs.declared.section.Section.{Section}
use Rattle.lvdc_save.specs.declared.section.Section.TheVariants as section
use Rattle.lvdc_save.specs.Saved.{copy_state, copy_entries, simplex_entries, entries_of}
use Rattle.lvdc_save.specs.Reading.{Progress, nothing_said, rank, adds, moved_on, saved_in, and_then, whole_of, told_entries}
use Rattle.lvdc_save_read.specs.Accepted.{GoesWith, with_orders}
use Rattle.lvdc_save_read.proofs.Following.{first_added, AreTold, told_none, told_first, told_on, told_so, HasSaid, section_told}
use Rattle.lvdc_save_read.proofs.Sections.{so_far, Said, ListFollows, up_to_cells, up_to_words, up_to_log, up_to_repairs, up_to_states, up_to_unplugs, up_to_script, up_to_orders, cells_follow, words_follow, log_follows, repairs_follow, states_follow, unplugs_follow, script_follows, orders_follow}
use Rattle.lvdc_save_read.proofs.Copies.{first_copies, copies_follow}

-- so much was said, and the last line is of a section between these
record Between (low high : ℕ) (s : Saved) (r : Progress) : Type 0 where
  from : low ≤ rank r.section
  to : rank r.section ≤ high
  said : Said s r

-- ---- what is said of a state before each of its parts

abbrev head_part : Saved → List Entry
head_part s = says.Title ∷ says.Steps s.snapshot.steps ∷ says.Count s.count ∷ simplex_entries s.snapshot.banks

abbrev copies_part : Saved → List Entry
copies_part s = head_part s ++ copy_entries s.snapshot

abbrev select_part : Saved → List Entry
select_part s = copies_part s ++ says.Select s.snapshot.selected ∷ []

abbrev cells_part : Saved → List Entry
cells_part s = copies_part s ++ says.Select s.snapshot.selected ∷ map says.Cell s.snapshot.cells

abbrev words_part : Saved → List Entry
words_part s = cells_part s ++ map says.Word s.snapshot.words

abbrev log_part : Saved → List Entry
log_part s = words_part s ++ map says.Exchange s.snapshot.log

abbrev repairs_part : Saved → List Entry
repairs_part s = log_part s ++ map says.Repair s.snapshot.repairs

abbrev states_part : Saved → List Entry
states_part s = repairs_part s ++ map says.State s.states

abbrev unplugs_part : Saved → List Entry
unplugs_part s = states_part s ++ map says.Unplug s.unplugs

abbrev script_part : Saved → List Entry
script_part s = unplugs_part s ++ map says.Fault s.script

abbrev orders_part : Saved → List Entry
orders_part s = script_part s ++ map says.Order (orders_of s.orders)

-- ---- the lines before the copies

-- steps and count, and no pairs yet
abbrev counted : Saved → ℕ → Saved
counted s banks =
    let none : Saved = first_copies s 0 in
    record none { snapshot = record none.snapshot { banks = banks } }

simplex_told : (devices : List Device) (number : ℕ) (s : Saved) (r : Progress) (none : Bool) → (s.snapshot.banks == 0) ≡ none
    → Between 3 3 (counted s 0) r
    → AreTold devices number r (if none then [] else says.Simplex s.snapshot.banks ∷ []) (Between 3 4 (first_copies s 0))
simplex_told devices number s r true is b =
    let to = b.to in
    told_none devices number r (Between 3 4 (first_copies s 0)) (record {
      from = b.from;
      to = omega (arith, to);
      said = record { is = b.said.is ∙ ap (counted s) (sym (eqb-true s.snapshot.banks 0 is)); marked = b.said.marked };
    })
simplex_told devices number s r false is b =
    let e = says.Simplex s.snapshot.banks in
    let t : Progress = moved_on devices (adds number r e) e in
    let from = b.from in
    let to = b.to in
    told_first devices number r t e [] (Between 3 4 (first_copies s 0))
    (first_added devices number r e from to (omega (arith, to)) refl refl)
    (told_none devices (number + 1) t (Between 3 4 (first_copies s 0)) (record {
      from = omega arith;
      to = omega arith;
      said = record {
        is = ap (λ (u : Saved). record u { snapshot = record u.snapshot { banks = s.snapshot.banks } }) b.said.is;
        marked = b.said.marked;
      };
    }))

-- ---- the copies

some_copies : range_with_len 0 21 ≢ []
some_copies = λ e. cc

-- the copies of a state, and no more yet
abbrev all_copies : Saved → Saved
all_copies s = so_far s s.snapshot.latches s.snapshot.differed [] [] [] [] [] [] [] [] []

copies_are_all : (s : Saved) → IsWhole s.snapshot → first_copies s 21 ≡ all_copies s
copies_are_all s whole =
    ap (λ (ls : List ℕ). so_far s ls (take 21 s.snapshot.differed) [] [] [] [] [] [] [] [] [])
    (take_all 45 s.snapshot.latches (omega (arith, whole.latches)))
    ∙ ap (λ (ds : List ℕ). so_far s s.snapshot.latches ds [] [] [] [] [] [] [] [] [])
    (take_all 21 s.snapshot.differed (omega (arith, whole.counts)))

some_orders : (orders : List (List ℕ)) → orders_of orders ≢ []
some_orders [] = λ e. cc
some_orders (order ∷ orders) = λ e. cc

whole_here : (next : ℕ) (r : Progress) → rank r.section ≡ 15 → whole_of next r ≡ Ok (saved_in r)
whole_here next r last = ap (λ n. if n == 15 then Ok (saved_in r) else Err (BadSave next)) last

-- ---- all entries of a state

module _ (devices : List Device) (s : Saved) (g : GoesWith devices s) where
  -- these entries are accepted from the first line on, and say so much
  abbrev Told : List Entry → ℕ → ℕ → Saved → Type 0
  Told es low high said = AreTold devices 1 nothing_said es (Between low high said)

  head_told : Told (head_part s) 3 4 (first_copies s 0)
  head_told =
      let steps = says.Steps s.snapshot.steps in
      let count = says.Count s.count in
      let rest = simplex_entries s.snapshot.banks in
      let one : Progress = moved_on devices (adds 1 nothing_said says.Title) says.Title in
      let two : Progress = moved_on devices (adds 2 one steps) steps in
      let three : Progress = moved_on devices (adds 3 two count) count in
      let P = Between 3 4 (first_copies s 0) in
      told_first devices 1 nothing_said one says.Title (steps ∷ count ∷ rest) P
      (first_added devices 1 nothing_said says.Title (omega arith) (omega arith) (omega arith) refl refl)
      (told_first devices 2 one two steps (count ∷ rest) P
      (first_added devices 2 one steps (omega arith) (omega arith) (omega arith) (eq-eqb _ 0 g.whole.times) refl)
      (told_first devices 3 two three count rest P
      (first_added devices 3 two count (omega arith) (omega arith) (omega arith) (le-leb s.snapshot.steps (3 * s.count) g.within) refl)
      (simplex_told devices 4 s three (s.snapshot.banks == 0) refl
      (record { from = omega arith; to = omega arith; said = record { is = refl; marked = λ port none. refl } }))))

  copies_told : Told (copies_part s) 5 5 (all_copies s)
  copies_told =
      let say = λ (index : ℕ). says.Copy (copy_state s.snapshot index) in
      let Keeps = λ (indices : List ℕ). Said (first_copies s (length indices)) in
      let Done = HasSaid devices say section.Copies 3 Keeps (range_with_len 0 21) in
      told_on devices 1 nothing_said (head_part s) (copy_entries s.snapshot) (Between 3 4 (first_copies s 0)) (Between 5 5 (all_copies s))
      head_told
      (λ number r b.
      let to = b.to in
      told_so devices number r (copy_entries s.snapshot) Done (Between 5 5 (all_copies s))
      (λ t h. let at = h.there some_copies in record {
        from = omega (arith, at);
        to = omega (arith, at);
        said = record { is = h.keeps.is ∙ copies_are_all s g.whole; marked = h.keeps.marked };
      })
      (section_told devices say section.Copies 3 Keeps (range_with_len 0 21) (copies_follow devices s g) number r b.from (omega (arith, to))
      b.said))

  select_told : Told (select_part s) 6 6 (up_to_cells s [])
  select_told =
      let e = says.Select s.snapshot.selected in
      let P = Between 6 6 (up_to_cells s []) in
      told_on devices 1 nothing_said (copies_part s) (e ∷ []) (Between 5 5 (all_copies s)) P copies_told
      (λ number r b.
      let from = b.from in
      let to = b.to in
      let differed : r.differed ≡ s.snapshot.differed = ap (λ (t : Saved). t.snapshot.differed) b.said.is in
      let t : Progress = moved_on devices (adds number r e) e in
      told_first devices number r t e [] P
      (first_added devices number r e from to (omega (arith, to)) (eq-eqb (length r.differed) 21 (ap length differed ∙ g.whole.counts)) refl)
      (told_none devices (number + 1) t P (record {
        from = omega arith;
        to = omega arith;
        said = record {
          is = ap (λ (u : Saved). record u { snapshot = record u.snapshot { selected = s.snapshot.selected } }) b.said.is;
          marked = b.said.marked;
        };
      })))

  -- the whole of a list is said after what stands before it
  then_list : {A : Type 0} (before : List Entry) (say : A → Entry) (here : Section) (up_to : List A → Saved) (all : List A) (high : ℕ)
      → ListFollows devices say here up_to all → high < rank here → Told before 6 high (up_to [])
      → AreTold devices 1 nothing_said (before ++ map say all) (HasSaid devices say here 6 (λ items. Said (up_to items)) all)
  then_list before say here up_to all high follow later told =
      let Done = HasSaid devices say here 6 (λ items. Said (up_to items)) all in
      told_on devices 1 nothing_said before (map say all) (Between 6 high (up_to [])) Done told
      (λ number r b.
      let to = b.to in
      section_told devices say here 6 (λ items. Said (up_to items)) all follow number r b.from (omega (arith, to, later)) b.said)

  list_told : {A : Type 0} (before : List Entry) (say : A → Entry) (here : Section) (up_to : List A → Saved) (all : List A) (high : ℕ)
      → ListFollows devices say here up_to all → high < rank here → Told before 6 high (up_to []) → Told (before ++ map say all) 6 (rank here) (up_to all)
  list_told before say here up_to all high follow later told =
      let Done = HasSaid devices say here 6 (λ items. Said (up_to items)) all in
      told_so devices 1 nothing_said (before ++ map say all) Done (Between 6 (rank here) (up_to all))
      (λ t h. record { from = h.from; to = h.to; said = h.keeps }) (then_list before say here up_to all high follow later told)

  cells_told : Told (cells_part s) 6 7 (up_to_cells s s.snapshot.cells)
  cells_told =
      subst (λ (es : List Entry). Told es 6 7 (up_to_cells s s.snapshot.cells))
      (append_assoc (copies_part s) (says.Select s.snapshot.selected ∷ []) (map says.Cell s.snapshot.cells))
      (list_told (select_part s) says.Cell section.Cells (up_to_cells s) s.snapshot.cells 6
      (cells_follow devices s g) (omega arith) select_told)

  words_told : Told (words_part s) 6 8 (up_to_words s s.snapshot.words)
  words_told =
      list_told (cells_part s) says.Word section.Words (up_to_words s) s.snapshot.words 7
      (words_follow devices s g) (omega arith) cells_told

  log_told : Told (log_part s) 6 9 (up_to_log s s.snapshot.log)
  log_told =
      list_told (words_part s) says.Exchange section.Log (up_to_log s) s.snapshot.log 8
      (log_follows devices s g) (omega arith) words_told

  repairs_told : Told (repairs_part s) 6 10 (up_to_repairs s s.snapshot.repairs)
  repairs_told =
      list_told (log_part s) says.Repair section.Repairs (up_to_repairs s) s.snapshot.repairs 9
      (repairs_follow devices s g) (omega arith) log_told

  states_told : Told (states_part s) 6 11 (up_to_states s s.states)
  states_told =
      list_told (repairs_part s) says.State section.States (up_to_states s) s.states 10
      (states_follow devices s g) (omega arith) repairs_told

  unplugs_told : Told (unplugs_part s) 6 12 (up_to_unplugs s s.unplugs)
  unplugs_told =
      list_told (states_part s) says.Unplug section.Unplugs (up_to_unplugs s) s.unplugs 11
      (unplugs_follow devices s g) (omega arith) states_told

  script_told : Told (script_part s) 6 13 (up_to_script s s.script)
  script_told =
      list_told (unplugs_part s) says.Fault section.Faults (up_to_script s) s.script 12
      (script_follows devices s g) (omega arith) unplugs_told

  orders_told : Told (orders_part s) 14 14 (with_orders s)
  orders_told =
      let Done = HasSaid devices says.Order section.Orders 6 (λ orders. Said (up_to_orders s orders)) (orders_of s.orders) in
      told_so devices 1 nothing_said (orders_part s) Done (Between 14 14 (with_orders s))
      (λ t h. let at = h.there (some_orders s.orders) in record { from = omega (arith, at); to = omega (arith, at); said = h.keeps })
      (then_list (script_part s) says.Order section.Orders (up_to_orders s) (orders_of s.orders) 13
      (orders_follow devices s g) (omega arith) script_told)

  all_told : Told (entries_of s) 15 15 (with_orders s)
  all_told =
      let P = Between 15 15 (with_orders s) in
      told_on devices 1 nothing_said (orders_part s) (says.End ∷ []) (Between 14 14 (with_orders s)) P orders_told
      (λ number r b.
      let from = b.from in
      let to = b.to in
      let t : Progress = moved_on devices (adds number r says.End) says.End in
      told_first devices number r t says.End [] P (first_added devices number r says.End from to (omega (arith, to)) refl refl)
      (told_none devices (number + 1) t P
      (record { from = omega arith; to = omega arith; said = record { is = b.said.is; marked = b.said.marked } })))

  -- what all entries say is the saved state, with its orders written out
  pub says_itself : (next : ℕ) → and_then (told_entries devices 1 nothing_said (entries_of s)) (whole_of next) ≡ Ok (with_orders s)
  unfolding told_entries
  says_itself next =
      let from = all_told.holds.from in
      let to = all_told.holds.to in
      let told : told_entries devices 1 nothing_said (entries_of s) ≡ Ok all_told.after =
      ap (told_entries devices 1 nothing_said) (sym (append-nil (entries_of s))) ∙ all_told.told [] in
      ap (λ (made : Result Progress SaveFault). and_then made (whole_of next)) told
      ∙ whole_here next all_told.after (omega (arith, from, to))
      ∙ ap (λ (t : Saved). Ok t) all_told.holds.said.is
