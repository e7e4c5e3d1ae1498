-- The deck of a soak run: a program that goes round in a loop, and 4,096 faults, drawn from a number.
use Rattle.std.specs.Prelude.{ℕ, zero, suc, ◌+◌, ◌-◌, ◌*◌, ◌/◌, ◌%◌, ◌^◌, nat_lt, if◌then◌else◌, List, [], ◌∷◌, ◌++◌, None}
use Rattle.lvdc_map.specs.Address.{Spot}
use Rattle.lvdc_map.specs.Hop.{hop_of}
use Rattle.lvdc_map.specs.declared.placed.Placed.{Placed}
use Rattle.lvdc_fault.specs.declared.event.Event.{Event}
use Rattle.lvdc_fault.specs.declared.event.Event.TheVariants.{Flip, Damage}
use Rattle.lvdc_image.specs.Image.{Contents}
use Rattle.lvdc_deck.specs.declared.deck.Deck.{Deck}

-- ---- draws: a generator steps from state to state, and each new state is a word drawn

-- the state that a number gives at the start
abbrev pub seed_of : ℕ → ℕ
seed_of number = number % 2 ^ 31

-- the state after one more draw
abbrev pub next : ℕ → ℕ
next x = (1103515245 * x + 12345) % 2 ^ 31

-- the word that a draw gives, which left this state
abbrev pub drawn : ℕ → ℕ
drawn x = x / 16 % 2 ^ 26

-- the state after so many draws
unfoldable pub after_draws : ℕ → ℕ → ℕ
after_draws zero x = x
after_draws (suc n) x = after_draws n (next x)

-- the words of so many draws
unfoldable pub words_drawn : ℕ → ℕ → List ℕ
words_drawn zero x = []
words_drawn (suc n) x = drawn (next x) ∷ words_drawn n (next x)

-- ---- the image

-- the loop, in syllable 0: sums, a product, bitwise operations, their stores, a port written and one read, and the transfer
-- back to its first instruction
abbrev pub program : List ℕ
program =
    0o17000 ∷ 0o07001 ∷ 0o13000 ∷ 0o01002 ∷ 0o11003 ∷ 0o13003 ∷ 0o12017 ∷ 0o12416 ∷ 0o06004 ∷ 0o13005 ∷ 0o17775
    ∷ 0o13006 ∷ 0o10000 ∷ []

-- words at rising locations of a sector of pair 0, from this one on
unfoldable pub placed_from : ℕ → ℕ → List ℕ → List Placed
placed_from sector loc [] = []
placed_from sector loc (w ∷ ws) =
    record { at = record { pair = 0; sector = sector; loc = loc }; word = w } ∷ placed_from sector (loc + 1) ws

-- the loop from 0/00/000 on, and from 0/01/000 on five words that the first draws give
abbrev pub image_from : ℕ → Contents
image_from x = record { words = placed_from 0 0 program ++ placed_from 1 0 (words_drawn 5 x); start = None; banks = 0 }

-- ---- the script

-- the step of an event: there is one every 146 steps
abbrev pub step_of : ℕ → ℕ
step_of event = 146 * event

-- a mask below 2 ^ 26 with a bit at least
abbrev pub some_bits : ℕ → ℕ
some_bits w = 1 + w % (2 ^ 26 - 1)

-- a mask of one bit of a cell
abbrev pub one_bit : ℕ → ℕ
one_bit w = 2 ^ (w % 28)

-- the place of a word that the loop uses, of twenty: those of the loop itself, then seven from 0/01/000 on
abbrev pub used_place : ℕ → Spot
used_place n =
    if nat_lt n 13 then record { pair = 0; sector = 0; loc = n } else record { pair = 0; sector = 1; loc = n - 13 }

-- event 2k, with the word drawn for it: at one step bits of latch 0 of one copy are turned over, the seven modules in turn,
-- and after each round the next of the three copies
abbrev pub flip_event : ℕ → ℕ → Event
flip_event k w = Flip (k % 7 + 1) (k / 7 % 3 + 1) (step_of (2 * k)) (step_of (2 * k)) 0 (some_bits w)

-- event 2k + 1, with the word drawn for it: one bit of a stored cell is turned over, the twenty words in turn, and after
-- each round in the other twin
abbrev pub damage_event : ℕ → ℕ → Event
damage_event k w = Damage (k / 20 % 2) (used_place (k % 20)) (step_of (2 * k + 1)) (one_bit w)

-- so many pairs of events, from pair k on, each event with a draw of its own
unfoldable pub events_from : ℕ → ℕ → ℕ → List Event
events_from zero k x = []
events_from (suc n) k x =
    flip_event k (drawn (next x)) ∷ damage_event k (drawn (next (next x))) ∷ events_from n (k + 1) (next (next x))

-- ---- the whole

-- the deck whose draws begin at this state: five for the image, then one for each of the 4,096 events
abbrev pub soak_from : ℕ → Deck
soak_from x =
    record {
      image = image_from x;
      start = hop_of 0o16;
      banks = 0;
      supplies = [];
      unplugs = [];
      script = events_from 2048 0 (after_draws 5 x);
      orders = [];
      count = 200000;
      commands = [];
      run_line = 0;
      other_line = None;
    }

-- the deck of the soak run of this number
abbrev pub soak_of : ℕ → Deck
soak_of number = soak_from (seed_of number)
