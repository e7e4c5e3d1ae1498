-- Seven triples whose copies, numbered from 0 to 20, latch one after another.
use Rattle.std.specs.Prelude.{◌≡◌, ℕ, ◌+◌, ◌/◌, ◌%◌, ◌<◌, Bool, true, false, Option, List, [], ◌∷◌, ◌==◌, if◌then◌else◌, map}
use Rattle.lvdc_vote.specs.Copies.{Copies, copy_of, vote_of, latched_in, after_latch, after_settle, IsFresh, IsSized}
use Rattle.lvdc_modules.specs.Rows.{bus_of}
use Rattle.lvdc_modules.specs.Timer.{timer_row}
use Rattle.lvdc_modules.specs.Locator.{locator_row}
use Rattle.lvdc_modules.specs.Decoder.{decoder_row}
use Rattle.lvdc_modules.specs.Selector.{selector_row}
use Rattle.lvdc_modules.specs.Accumulator.{accumulator_row}
use Rattle.lvdc_modules.specs.Multiplier.{multiplier_row}
use Rattle.lvdc_modules.specs.Exchange.{exchange_row}
use Rattle.lvdc_modules.specs.States.{timer_latches, locator_latches, decoder_latches, selector_latches, accumulator_latches, multiplier_latches, exchange_latches}
use Rattle.lvdc_modules.specs.declared.bus.Bus.{Bus}
use Rattle.lvdc_fault.specs.declared.event.Event.{Event}
use Rattle.lvdc_model.specs.Voted.{next_copy, thrice}
use Rattle.lvdc_logic.specs.Seven.{of_seven}
use Rattle.lvdc_logic.specs.declared.triples.Triples.{Triples}

-- three equal copies of each state on a bus
abbrev pub alike : Bus → Triples
alike b =
    record {
      timer = thrice (timer_latches b.timer);
      locator = thrice (locator_latches b.locator);
      decoder = thrice (decoder_latches b.decoder);
      selector = thrice (selector_latches b.selector);
      accumulator = thrice (accumulator_latches b.accumulator);
      multiplier = thrice (multiplier_latches b.multiplier);
      exchange = thrice (exchange_latches b.exchange);
    }

-- the copies that stand by themselves, or else those that are alike on the bus
abbrev pub copies_by : Bool → Triples → Bus → Triples
copies_by true t b = t
copies_by false t b = alike b

-- the copies of the modules, in order
abbrev pub copies_in : Triples → List Copies
copies_in t = t.timer ∷ t.locator ∷ t.decoder ∷ t.selector ∷ t.accumulator ∷ t.multiplier ∷ t.exchange ∷ []

-- what the latches of a module become, the modules counted from 0
abbrev pub row_of : ℕ → Bus → List ℕ
row_of = of_seven timer_row locator_row decoder_row selector_row accumulator_row multiplier_row exchange_row

-- copy n is copy n % 3 of module n / 3, both counted from 0: its latches
abbrev pub latches_in : Triples → ℕ → List ℕ
latches_in t n =
    of_seven
    (copy_of t.timer (n % 3))
    (copy_of t.locator (n % 3))
    (copy_of t.decoder (n % 3))
    (copy_of t.selector (n % 3))
    (copy_of t.accumulator (n % 3))
    (copy_of t.multiplier (n % 3))
    (copy_of t.exchange (n % 3))
    (n / 3)

-- the copies of module n / 3
abbrev pub triple_in : Triples → ℕ → Copies
triple_in t n = of_seven t.timer t.locator t.decoder t.selector t.accumulator t.multiplier t.exchange (n / 3)

-- what copy n latches in a step in which all modules have these copies, and their votes are on this bus
unfoldable pub new_latches : List Event → ℕ → Triples → Bus → ℕ → List ℕ
new_latches script step t voted n = next_copy script step (n / 3 + 1) (n % 3 + 1) (row_of (n / 3)) (latches_in t n) (copies_in t) voted

-- where copy n is one of module number's, it has latched these words
abbrev pub latched_at : Copies → ℕ → ℕ → List ℕ → Copies
latched_at t number n words = if n / 3 == number then after_latch t (n % 3) words else t

-- copy n has latched these words
abbrev pub after_number : Triples → ℕ → List ℕ → Triples
after_number t n words =
    record {
      timer = latched_at t.timer 0 n words;
      locator = latched_at t.locator 1 n words;
      decoder = latched_at t.decoder 2 n words;
      selector = latched_at t.selector 3 n words;
      accumulator = latched_at t.accumulator 4 n words;
      multiplier = latched_at t.multiplier 5 n words;
      exchange = latched_at t.exchange 6 n words;
    }

-- the shadow of the copy of this number after those of a list latched that are named: its words where it is one of them
abbrev pub latched_named : Bool → List ℕ → ℕ → List ℕ → Option (List ℕ) → Option (List ℕ)
latched_named named order number words had = if named then latched_in order number words had else had

-- the copies of a module, numbered from the first on, after those of a list latched that are named, each its words
abbrev pub after_named : Copies → (ℕ → Bool) → List ℕ → ℕ → (ℕ → List ℕ) → Copies
after_named t named order first words =
    record t {
      shadow_one = latched_named (named first) order first (words first) t.shadow_one;
      shadow_two = latched_named (named (first + 1)) order (first + 1) (words (first + 1)) t.shadow_two;
      shadow_three = latched_named (named (first + 2)) order (first + 2) (words (first + 2)) t.shadow_three;
    }

-- those of all modules
abbrev pub after_numbers : Triples → (ℕ → Bool) → List ℕ → (ℕ → List ℕ) → Triples
after_numbers t named order words =
    record {
      timer = after_named t.timer named order 0 words;
      locator = after_named t.locator named order 3 words;
      decoder = after_named t.decoder named order 6 words;
      selector = after_named t.selector named order 9 words;
      accumulator = after_named t.accumulator named order 12 words;
      multiplier = after_named t.multiplier named order 15 words;
      exchange = after_named t.exchange named order 18 words;
    }

-- the copies of all modules in the next step: what each latched, or where it hasn't, the row of the votes
abbrev pub after_steps : Triples → Bus → Triples
after_steps t voted =
    record {
      timer = after_settle t.timer (timer_row voted);
      locator = after_settle t.locator (locator_row voted);
      decoder = after_settle t.decoder (decoder_row voted);
      selector = after_settle t.selector (selector_row voted);
      accumulator = after_settle t.accumulator (accumulator_row voted);
      multiplier = after_settle t.multiplier (multiplier_row voted);
      exchange = after_settle t.exchange (exchange_row voted);
    }

-- no copy has a shadow
pub record AllFresh (t : Triples) : Type 0 where
  pub timer : IsFresh t.timer
  pub locator : IsFresh t.locator
  pub decoder : IsFresh t.decoder
  pub selector : IsFresh t.selector
  pub accumulator : IsFresh t.accumulator
  pub multiplier : IsFresh t.multiplier
  pub exchange : IsFresh t.exchange

-- each copy has as many latches as its module
pub record AllSized (t : Triples) : Type 0 where
  pub timer : IsSized 2 t.timer
  pub locator : IsSized 2 t.locator
  pub decoder : IsSized 1 t.decoder
  pub selector : IsSized 1 t.selector
  pub accumulator : IsSized 2 t.accumulator
  pub multiplier : IsSized 5 t.multiplier
  pub exchange : IsSized 2 t.exchange

-- what is true of every logic: no copy has latched since the last step, each has as many latches as its module, and the bus is that of
-- the votes
pub record IsVoted (t : Triples) (b : Bus) : Type 0 where
  pub fresh : AllFresh t
  pub sized : AllSized t
  pub votes : b ≡ bus_of (map vote_of (copies_in t)) 0 0

-- the copies of each number are what the votes are
abbrev pub AreAlike : Triples → Type 0
AreAlike t = (copy : ℕ) → copy < 3 → map (λ m. copy_of m copy) (copies_in t) ≡ map vote_of (copies_in t)
