-- The UNPLUG lines of a deck name devices, each another one, at times within the limit, and it has no more orders than a deck may
-- have.
use Rattle.std.proofs.Common.{◌≡◌, ◌≢◌, ℕ, ◌+◌, ◌<◌, ◌≤◌, ◌==◌, nat_lt, Bool, true, false, List, [], ◌∷◌, ◌++◌, All, codes, length, length-append, drop, take, None, Some, Result, Ok, Err, refl, sym, ap, subst, ◌∙◌, arith}
use Rattle.std.specs.Bool.{if◌then◌else◌}
use Rattle.std.specs.List.{list_any}
use Rattle.std.specs.Str.{bytes_eq}
use Rattle.std.specs.declared.option.Option.{Option}
use Rattle.std.proofs.lemmas.Bool.{eqb-false, ltb-true, or_parts}
use Rattle.std.proofs.lemmas.List.Elements.{All-nil, All-cons, All-append, All-push}
use Rattle.std.proofs.lemmas.List.Quantifiers.{all_pairs_push}
use Rattle.lvdc_text.specs.Lines.{token_texts_of, is_long, is_comment, part_of, lines_of}
use Rattle.lvdc_text.specs.Numbers.{number_of, below, plain_number_of}
use Rattle.lvdc_text.specs.declared.cutting.Line.{Line}
use Rattle.lvdc_lines.specs.Lines.{fault_in, order_in}
use Rattle.lvdc_fault.specs.declared.event.Event.{Event}
use Rattle.lvdc_port.specs.Device.{Device}
use Rattle.lvdc_port.specs.Supplies.{kind_at}
use Rattle.lvdc_port.specs.declared.device.Kind.{Kind}
use Rattle.lvdc_port.specs.declared.device.Kind.TheVariants.{Tape, Latch, Ticker, Recorder}
use Rattle.lvdc_plain.specs.declared.records.Unplug.{Unplug}
use Rattle.lvdc_deck.specs.Deck.{and_then, Told, with_commands, by_debug, commands_from, told_from, count_in, program_of, start_in, made_of, with_program, by_end, end_of, opening_of, by_opening, deck_from, deck_of}
use Rattle.lvdc_deck.specs.Named.{NameDevices}
use Rattle.lvdc_deck.specs.Sections.{Sections, nothing_said, section_of, rank, is_debug, port_in, time_in, words_in, entry_in, pairs_from, with_start, start_line, with_simplex, simplex_line, ports_line, faults_line, order_line, with_count, run_line, debug_line, opens, is_unplugged, kind_left, tape_at, with_tape, tape_line, unplug_at, with_unplug, unplug_line, port_line, with_event, with_order, belongs, by_word, by_tokens, after_line}
use Rattle.lvdc_fault.specs.declared.TheConstants.{MOST_TIMES, MOST_EVENTS}
use Rattle.lvdc_orders.specs.declared.orders.TheConstants.{MOST_ORDERS}
use Rattle.lvdc_deck.specs.declared.deck.Deck.{Deck}
use Rattle.lvdc_deck.specs.declared.entry.EntryPoint.{EntryPoint}
use Rattle.lvdc_deck.specs.declared.fault.DeckFault.{DeckFault}
use Rattle.lvdc_deck.specs.declared.fault.DeckFault.TheVariants.{BadSection}
use Rattle.lvdc_deck.specs.declared.section.Opening.{Opening}
use Rattle.lvdc_deck.specs.declared.section.Opening.TheVariants as opening
use Rattle.lvdc_deck.specs.declared.section.ProgramKind.{ProgramKind}
use Rattle.lvdc_deck.specs.declared.section.Section.{Section}
use Rattle.lvdc_deck.specs.declared.section.Section.TheVariants as section

module _ (devices : List Device) where
  -- what is true of the UNPLUG lines and the orders
  pub record AreLines (unplugs : List Unplug) (orders : List (List ℕ)) : Type 0 where
    pub named : NameDevices devices unplugs
    pub early : All (λ unplug. unplug.time ≤ MOST_TIMES) unplugs
    pub few : length orders ≤ MOST_ORDERS

  -- so of sections that are not refused
  abbrev Kept : Result Sections DeckFault → Type 0
  Kept (Ok s) = AreLines s.unplugs s.orders
  Kept (Err fault) = Unit {0}

  -- ---- section words

  start-kept : (s : Sections) (number : ℕ) (entry : Option EntryPoint) → AreLines s.unplugs s.orders → Kept (with_start s number entry)
  start-kept s number None h = tt
  start-kept s number (Some entry) h = h

  start-line : (s : Sections) (number : ℕ) (tokens : List (List ℕ)) → AreLines s.unplugs s.orders → Kept (start_line s number tokens)
  start-line s number [] h = tt
  start-line s number (token ∷ []) h = start-kept s number (entry_in s.kind number token) h
  start-line s number (token ∷ next ∷ tokens) h = tt

  simplex-kept : (s : Sections) (number : ℕ) (pairs : Option ℕ) → AreLines s.unplugs s.orders → Kept (with_simplex s number pairs)
  simplex-kept s number None h = tt
  simplex-kept s number (Some pairs) h = h

  simplex-line : (s : Sections) (number : ℕ) (tokens : List (List ℕ)) → AreLines s.unplugs s.orders → Kept (simplex_line s number tokens)
  simplex-line s number [] h = tt
  simplex-line s number (token ∷ tokens) h = simplex-kept s number (pairs_from 0 (token ∷ tokens)) h

  ports-line : (s : Sections) (number : ℕ) (tokens : List (List ℕ)) → AreLines s.unplugs s.orders → Kept (ports_line s number tokens)
  ports-line s number [] h = h
  ports-line s number (token ∷ tokens) h = tt

  faults-line : (s : Sections) (number : ℕ) (tokens : List (List ℕ)) → AreLines s.unplugs s.orders → Kept (faults_line s number tokens)
  faults-line s number [] h = h
  faults-line s number (token ∷ tokens) h = tt

  order-line : (s : Sections) (number : ℕ) (tokens : List (List ℕ)) → AreLines s.unplugs s.orders → Kept (order_line s number tokens)
  order-line s number [] h = h
  order-line s number (token ∷ tokens) h = tt

  debug-line : (s : Sections) (number : ℕ) (tokens : List (List ℕ)) → AreLines s.unplugs s.orders → Kept (debug_line s number tokens)
  debug-line s number [] h = h
  debug-line s number (token ∷ tokens) h = tt

  count-kept : (s : Sections) (number : ℕ) (count : Option ℕ) → AreLines s.unplugs s.orders → Kept (with_count s number count)
  count-kept s number None h = tt
  count-kept s number (Some n) h = by_size (nat_lt MOST_TIMES n) refl
    where
      by_size : (t : Bool) → nat_lt MOST_TIMES n ≡ t → Kept (with_count s number (Some n))
      by_size true is = rw is tt
      by_size false is = rw is h

  run-line : (s : Sections) (number : ℕ) (tokens : List (List ℕ)) → AreLines s.unplugs s.orders → Kept (run_line s number tokens)
  run-line s number [] h = tt
  run-line s number (token ∷ []) h = count-kept s number (number_of 10 9 token) h
  run-line s number (token ∷ next ∷ tokens) h = tt

  opens-kept : (next : Section) (s : Sections) (number : ℕ) (tokens : List (List ℕ)) → AreLines s.unplugs s.orders → Kept (opens next s number tokens)
  opens-kept section.Start s number tokens h = start-line s number tokens h
  opens-kept section.Simplex s number tokens h = simplex-line s number tokens h
  opens-kept section.Ports s number tokens h = ports-line s number tokens h
  opens-kept section.Faults s number tokens h = faults-line s number tokens h
  opens-kept section.Order s number tokens h = order-line s number tokens h
  opens-kept section.Run s number tokens h = run-line s number tokens h
  opens-kept section.Debug s number tokens h = debug-line s number tokens h
  opens-kept section.Program s number tokens h = tt

  -- ---- lines of PORTS

  tape-at : (kind : Option Kind) (s : Sections) (number port : ℕ) (words : List ℕ) → AreLines s.unplugs s.orders → Kept (tape_at kind s number port words)
  tape-at None s number port words h = tt
  tape-at (Some Tape) s number port words h = h
  tape-at (Some Latch) s number port words h = tt
  tape-at (Some Ticker) s number port words h = tt
  tape-at (Some Recorder) s number port words h = tt

  tape-kept : (s : Sections) (number : ℕ) (port : Option ℕ) (words : Option (List ℕ)) → AreLines s.unplugs s.orders → Kept (with_tape devices s number port words)
  tape-kept s number (Some port) (Some words) h = tape-at (kind_left devices s port) s number port words h
  tape-kept s number (Some port) None h = tt
  tape-kept s number None words h = tt

  tape-line : (s : Sections) (number : ℕ) (tokens : List (List ℕ)) → AreLines s.unplugs s.orders → Kept (tape_line devices s number tokens)
  tape-line s number [] h = tt
  tape-line s number (port ∷ []) h = tt
  tape-line s number (port ∷ token ∷ tokens) h = tape-kept s number (port_in port) (words_in (token ∷ tokens)) h

  -- no earlier line names the port
  others : (port : ℕ) (unplugs : List Unplug) → list_any (λ line. line.port == port) unplugs ≡ false → All (λ line. line.port ≢ port) unplugs
  others port [] none = All-nil (λ line. line.port ≢ port)
  others port (line ∷ lines) none =
      let parts = or_parts (line.port == port) (list_any (λ l. l.port == port) lines) none in
      All-cons (λ l. l.port ≢ port) line lines (eqb-false line.port port parts.0) (others port lines parts.1)

  line-more : (s : Sections) (port time : ℕ) (kind : Kind) → time ≤ MOST_TIMES → AreLines s.unplugs s.orders → is_unplugged s port ≡ false → kind_at (λ device. device) port devices ≡ Some kind
      → AreLines (s.unplugs ++ record { port = port; time = time } ∷ []) s.orders
  line-more s port time kind soon h apart there =
      record {
        named = record {
          there = All-append (λ unplug. kind_at (λ device. device) unplug.port devices ≢ None) s.unplugs (record { port = port; time = time } ∷ []) h.named.there
              (All-cons (λ unplug. kind_at (λ device. device) unplug.port devices ≢ None) (record { port = port; time = time }) []
              (λ none. absurd (cc (none, there))) (All-nil (λ unplug. kind_at (λ device. device) unplug.port devices ≢ None)));
          once = all_pairs_push (λ unplug later. unplug.port ≢ later.port) s.unplugs (record { port = port; time = time }) h.named.once
              (λ k d within. others port s.unplugs apart k d within);
        };
        early = All-push (λ (unplug : Unplug). unplug.time ≤ MOST_TIMES) s.unplugs (record { port = port; time = time }) h.early soon;
        few = h.few;
      }

  unplug-at : (kind : Option Kind) (s : Sections) (number port time : ℕ) → kind_left devices s port ≡ kind → time ≤ MOST_TIMES → AreLines s.unplugs s.orders
      → Kept (unplug_at kind s number port time)
  unplug-at None s number port time is soon h = tt
  unplug-at (Some kind) s number port time is soon h = by_lines (is_unplugged s port) refl
    where
      by_lines : (t : Bool) → is_unplugged s port ≡ t → AreLines (s.unplugs ++ record { port = port; time = time } ∷ []) s.orders
      by_lines true named = absurd (cc (sym (ap (λ (t : Bool). if t then None else kind_at (λ device. device) port devices) named) ∙ is))
      by_lines false apart =
          line-more s port time kind soon h apart (sym (ap (λ (t : Bool). if t then None else kind_at (λ device. device) port devices) apart) ∙ is)

  -- a number that is read below a limit
  below-less : (limit : ℕ) (n : Option ℕ) (k : ℕ) → below limit n ≡ Some k → k < limit
  below-less limit (Some n) k e = by (nat_lt n limit) refl e
    where
      by : (less : Bool) → nat_lt n limit ≡ less → (if less then Some n else None) ≡ Some k → k < limit
      by true l e = let same : n ≡ k = cc in omega (arith, ltb-true n limit l, same)
      by false l e = absurd (cc)
  below-less limit None k e = absurd (cc)

  unplug-kept : (s : Sections) (number : ℕ) (token : List ℕ) (port time : Option ℕ) → time_in token ≡ time → AreLines s.unplugs s.orders
      → Kept (with_unplug devices s number port time)
  unplug-kept s number token (Some port) (Some time) is h =
      let less = below-less (MOST_TIMES + 1) (plain_number_of 7 token) time is in
      unplug-at (kind_left devices s port) s number port time refl (omega (arith, less)) h
  unplug-kept s number token (Some port) None is h = tt
  unplug-kept s number token None time is h = tt

  unplug-line : (s : Sections) (number : ℕ) (tokens : List (List ℕ)) → AreLines s.unplugs s.orders → Kept (unplug_line devices s number tokens)
  unplug-line s number [] h = tt
  unplug-line s number (port ∷ []) h = tt
  unplug-line s number (port ∷ time ∷ []) h = unplug-kept s number time (port_in port) (time_in time) refl h
  unplug-line s number (port ∷ time ∷ next ∷ tokens) h = tt

  port-line : (s : Sections) (number : ℕ) (first : List ℕ) (tokens : List (List ℕ)) → AreLines s.unplugs s.orders → Kept (port_line devices s number first tokens)
  port-line s number first tokens h =
      by_word_of (bytes_eq first (codes "TAPE")) (bytes_eq first (codes "UNPLUG")) refl refl
    where
      by_word_of : (t u : Bool) → bytes_eq first (codes "TAPE") ≡ t → bytes_eq first (codes "UNPLUG") ≡ u → Kept (port_line devices s number first tokens)
      by_word_of true u tape unplug = rw tape (tape-line s number tokens h)
      by_word_of false true tape unplug = rw (tape, unplug) (unplug-line s number tokens h)
      by_word_of false false tape unplug = rw (tape, unplug) tt

  -- ---- lines of FAULTS and ORDER

  event-kept : (s : Sections) (number : ℕ) (event : Option Event) → AreLines s.unplugs s.orders → Kept (with_event s number event)
  event-kept s number None h = tt
  event-kept s number (Some event) h = by_size (nat_lt (length s.script) MOST_EVENTS) refl
    where
      by_size : (t : Bool) → nat_lt (length s.script) MOST_EVENTS ≡ t → Kept (with_event s number (Some event))
      by_size true is = rw is h
      by_size false is = rw is tt

  order-kept : (s : Sections) (number : ℕ) (order : Option (List ℕ)) → AreLines s.unplugs s.orders → Kept (with_order s number order)
  order-kept s number None h = tt
  order-kept s number (Some order) h = by_size (nat_lt (length s.orders) MOST_ORDERS) refl
    where
      by_size : (t : Bool) → nat_lt (length s.orders) MOST_ORDERS ≡ t → Kept (with_order s number (Some order))
      by_size true is =
          let less = ltb-true (length s.orders) MOST_ORDERS is in
          rw is (record { named = h.named; early = h.early; few = omega (arith, less, length-append s.orders (order ∷ [])) })
      by_size false is = rw is tt

  -- ---- one line

  belongs-kept : (in_force : Section) (s : Sections) (number : ℕ) (first : List ℕ) (tokens : List (List ℕ)) → AreLines s.unplugs s.orders
      → Kept (belongs devices in_force s number first tokens)
  belongs-kept section.Ports s number first tokens h = port-line s number first tokens h
  belongs-kept section.Faults s number first tokens h = event-kept s number (fault_in (first ∷ tokens)) h
  belongs-kept section.Order s number first tokens h = order-kept s number (order_in (first ∷ tokens)) h
  belongs-kept section.Program s number first tokens h = tt
  belongs-kept section.Start s number first tokens h = tt
  belongs-kept section.Simplex s number first tokens h = tt
  belongs-kept section.Run s number first tokens h = tt
  belongs-kept section.Debug s number first tokens h = tt

  word-kept : (next : Option Section) (s : Sections) (number : ℕ) (first : List ℕ) (tokens : List (List ℕ)) → AreLines s.unplugs s.orders
      → Kept (by_word devices next s number first tokens)
  word-kept None s number first tokens h = belongs-kept s.section s number first tokens h
  word-kept (Some next) s number first tokens h =
      elim (nat_lt (rank s.section) (rank next)) as (λ t. Kept (if t then opens next s number tokens else Err (BadSection number)))
      [ true ↦ opens-kept next s number tokens h | false ↦ tt ]

  tokens-kept : (s : Sections) (number : ℕ) (tokens : List (List ℕ)) → AreLines s.unplugs s.orders → Kept (by_tokens devices s number tokens)
  tokens-kept s number [] h = h
  tokens-kept s number (first ∷ tokens) h = word-kept (section_of first) s number first tokens h

  line-kept : (s : Sections) (number : ℕ) (text : List ℕ) → AreLines s.unplugs s.orders → Kept (after_line devices s number text)
  line-kept s number text h = by_text (is_long text) (is_comment text) refl refl
    where
      by_text : (l c : Bool) → is_long text ≡ l → is_comment text ≡ c → Kept (after_line devices s number text)
      by_text true c long comment = rw long tt
      by_text false true long comment = rw (long, comment) h
      by_text false false long comment = rw (long, comment) (tokens-kept s number (token_texts_of text) h)

  -- ---- all lines

  abbrev KeptTold : Result Told DeckFault → Type 0
  KeptTold (Ok told) = AreLines told.sections.unplugs told.sections.orders
  KeptTold (Err fault) = Unit {0}

  commands-kept : (s : Sections) (commands : Result (List Line) DeckFault) → AreLines s.unplugs s.orders → KeptTold (with_commands s commands)
  commands-kept s (Ok commands) h = h
  commands-kept s (Err fault) h = tt

  debug-kept : (s : Sections) (commands : Result (List Line) DeckFault) (later : Result Told DeckFault) → AreLines s.unplugs s.orders → KeptTold later
      → KeptTold (by_debug s commands later)
  debug-kept s commands later h rest =
      elim (is_debug s.section) as (λ t. KeptTold (if t then with_commands s commands else later))
      [ true ↦ commands-kept s commands h | false ↦ rest ]

  then-told : (made : Result Sections DeckFault) (f : Sections → Result Told DeckFault) → Kept made
      → ((s : Sections) → AreLines s.unplugs s.orders → KeptTold (f s)) → KeptTold (and_then made f)
  then-told (Ok s) f h rest = rest s h
  then-told (Err fault) f h rest = tt

  told-kept : (bytes : List ℕ) (lines : List Line) (s : Sections) → AreLines s.unplugs s.orders → KeptTold (told_from devices bytes s lines)
  unfolding told_from
  told-kept bytes [] s h = h
  told-kept bytes (line ∷ lines) s h =
      then-told (after_line devices s line.number (part_of bytes line)) (λ t. by_debug t (commands_from bytes lines) (told_from devices bytes t lines))
      (line-kept s line.number (part_of bytes line) h)
      (λ t k. debug-kept t (commands_from bytes lines) (told_from devices bytes t lines) k (told-kept bytes lines t k))

  -- ---- the deck

  abbrev KeptDeck : Result Deck DeckFault → Type 0
  KeptDeck (Ok deck) = AreLines deck.unplugs deck.orders
  KeptDeck (Err fault) = Unit {0}

  then-deck : {A : Type 0} (made : Result A DeckFault) (f : A → Result Deck DeckFault) → ((a : A) → KeptDeck (f a)) → KeptDeck (and_then made f)
  then-deck (Ok a) f rest = rest a
  then-deck (Err fault) f rest = tt

  told-deck : (made : Result Told DeckFault) (f : Told → Result Deck DeckFault) → KeptTold made
      → ((told : Told) → AreLines told.sections.unplugs told.sections.orders → KeptDeck (f told)) → KeptDeck (and_then made f)
  told-deck (Ok told) f h rest = rest told h
  told-deck (Err fault) f h rest = tt

  program-kept : (kind : ProgramKind) (bytes : List ℕ) (text : List Line) (debugging : Bool) (next : ℕ) (told : Told)
      → AreLines told.sections.unplugs told.sections.orders → KeptDeck (with_program kind bytes text debugging next told)
  program-kept kind bytes text debugging next told h =
      then-deck (count_in debugging next told.sections) (λ count. and_then (program_of kind bytes text) (λ program. made_of program told count))
      (λ count. then-deck (program_of kind bytes text) (λ program. made_of program told count)
      (λ program. then-deck (start_in program told.sections.start) _ (λ start. h)))

  nothing-kept : AreLines [] []
  nothing-kept =
      record {
        named = record {
          there = All-nil (λ unplug. kind_at (λ device. device) unplug.port devices ≢ None);
          once = λ i j d less within. absurd (omega (arith, within));
        };
        early = All-nil (λ (unplug : Unplug). unplug.time ≤ MOST_TIMES);
        few = omega arith;
      }

  end-kept : (kind : ProgramKind) (debugging : Bool) (bytes : List ℕ) (next number : ℕ) (lines : List Line) (at : Option ℕ)
      → KeptDeck (by_end kind devices debugging bytes next number lines at)
  end-kept kind debugging bytes next number lines None = tt
  end-kept kind debugging bytes next number lines (Some at) =
      told-deck (told_from devices bytes (nothing_said kind) (drop (at + 1) lines))
      (λ told. with_program kind bytes (take (at + 1) lines) debugging next told)
      (told-kept bytes (drop (at + 1) lines) (nothing_said kind) nothing-kept)
      (λ told h. program-kept kind bytes (take (at + 1) lines) debugging next told h)

  opening-kept : (debugging : Bool) (bytes : List ℕ) (next number : ℕ) (lines : List Line) (opened : Opening) (later : Result Deck DeckFault)
      → KeptDeck later → KeptDeck (by_opening devices debugging bytes next number lines opened later)
  opening-kept debugging bytes next number lines opening.Long later h = tt
  opening-kept debugging bytes next number lines opening.Skipped later h = h
  opening-kept debugging bytes next number lines (opening.Program kind) later h = end-kept kind debugging bytes next number lines (end_of bytes lines)
  opening-kept debugging bytes next number lines opening.Other later h = tt

  deck-kept : (debugging : Bool) (bytes : List ℕ) (next : ℕ) (lines : List Line) → KeptDeck (deck_from devices debugging bytes next lines)
  unfolding deck_from
  deck-kept debugging bytes next [] = tt
  deck-kept debugging bytes next (line ∷ lines) =
      opening-kept debugging bytes next line.number lines (opening_of (part_of bytes line)) (deck_from devices debugging bytes next lines)
      (deck-kept debugging bytes next lines)

  -- so of a deck that is not refused
  pub lines-of-deck : (bytes : List ℕ) (debugging : Bool) (deck : Deck) → deck_of bytes devices debugging ≡ Ok deck → AreLines deck.unplugs deck.orders
  lines-of-deck bytes debugging deck means = subst KeptDeck means (deck-kept debugging bytes (length (lines_of bytes) + 1) (lines_of bytes))
