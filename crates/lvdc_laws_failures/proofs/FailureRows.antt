-- Worked rows of the split machine, by computing.
use Rattle.std.proofs.Common.{◌≡◌, ℕ, ◌+◌, ◌*◌, refl, List, [], ◌∷◌, ◌++◌}
use Rattle.std.specs.Prelude.{◌==◌, ◌&&◌, map, slice_index_or}
use Rattle.lvdc_map.specs.Hop.{hop_of}
use Rattle.lvdc_map.specs.Memory as memory
use Rattle.lvdc_map.specs.declared.placed.Placed.{Placed}
use Rattle.lvdc_word.specs.Cell.{with_stuck}
use Rattle.lvdc_vote.specs.Bits.{majority, flipped}
use Rattle.lvdc_modules.specs.Request.{destination}
use Rattle.lvdc_model.specs.Trial.{Trial}
use Rattle.lvdc_model.specs.Voted.{Voted, voted_bus, voted_start}
use Rattle.lvdc_laws_failures.specs.Listeners.{Listener, Copy, Exchange, Sound, Three, told, heard}
use Rattle.lvdc_laws_failures.specs.Split.{Adversary}
use Rattle.lvdc_laws_failures.specs.Steps.{all_sound, copies_after, voted_after}
use Rattle.lvdc_laws_failures.specs.Limits.{liars, deceived, store_votes, two_faced}

-- words at the locations of a sector of bank 0, from one location on
abbrev placed : ℕ → ℕ → List ℕ → List Placed
placed sector loc [] = []
placed sector loc (w ∷ ws) = record { at = record { pair = 0; sector = sector; loc = loc }; word = w } ∷ placed sector (loc + 1) ws

-- CLA 0, ADD 1, STO 2, and a transfer to itself, over the words 3 and 4
abbrev sum : Trial
sum =
    record {
      opening = record {
        image = placed 0 0 (0o17000 ∷ 0o07001 ∷ 0o13002 ∷ 0o10003 ∷ []) ++ placed 1 0 (3 ∷ 4 ∷ []);
        banks = 0;
        start = hop_of 0o16;
        unplugs = [];
        devices = [];
      };
      script = [];
    }

-- A, the word at location 2, and how often the copies of ACCUMULATOR differed
abbrev shown : Voted → ℕ × ℕ × List ℕ
shown v = (
  (voted_bus v 0 0).accumulator.a,
  memory.word_at v.intended (record { pair = 0; sector = 1; loc = 2 }),
  slice_index_or v.counts 4 [],
)

-- the copies of ACCUMULATOR
abbrev accumulators : List Three → Three
accumulators copies = slice_index_or copies 4 (all_sound [])

-- ---- one copy of a module

-- copy 1 of ACCUMULATOR fails in every step: to the exchange it tells what is right, to copy c of module m 8 m + c
abbrev whisperer : Adversary
whisperer = two_faced sum (λ run m c. (m == 5) && (c == 1)) (λ run m c index number copy. 8 * number + copy)

nothing_comes_of_it : shown (voted_after sum whisperer 9) ≡ (7, 7, 0 ∷ 0 ∷ 0 ∷ [])
unfolding with_stuck majority flipped
nothing_comes_of_it = refl

it_tells_copies_what_it_likes : map (λ listener. told listener (accumulators (copies_after sum whisperer 9)).one) (Exchange ∷ Copy 1 1 ∷ Copy 7 3 ∷ []) ≡ (7 ∷ 4 ∷ []) ∷ (9 ∷ 9 ∷ []) ∷ (59 ∷ 59 ∷ []) ∷ []
unfolding with_stuck majority flipped
it_tells_copies_what_it_likes = refl

all_hear_the_vote : map (λ listener. heard listener (accumulators (copies_after sum whisperer 9))) (Exchange ∷ Copy 1 1 ∷ Copy 7 3 ∷ []) ≡ (7 ∷ 4 ∷ []) ∷ (7 ∷ 4 ∷ []) ∷ (7 ∷ 4 ∷ []) ∷ []
unfolding with_stuck majority flipped
all_hear_the_vote = refl

-- one copy after another fails, copy c in step c + 1
abbrev one_after_another : Adversary
one_after_another =
    record {
      fails = λ run m c. (m == 5) && (run.now.voted.steps == c + 1);
      says = λ run m c listener index. 0o252525252;
    }

-- one that failed and is sound in the next step is right again, though another fails then
right_again : (shown (voted_after sum one_after_another 9) ≡ (7, 7, 1 ∷ 1 ∷ 1 ∷ []))
    × ((accumulators (copies_after sum one_after_another 5)).one ≡ Sound (3 ∷ 4 ∷ []))
    × ((accumulators (copies_after sum one_after_another 5)).two ≡ Sound (3 ∷ 4 ∷ []))
    × (told Exchange (accumulators (copies_after sum one_after_another 5)).three ≡ 0o252525252 ∷ 0o252525252 ∷ [])
unfolding with_stuck majority flipped
right_again = (refl, refl, refl, refl)

-- ---- two copies of a module

-- copies 1 and 2 of ACCUMULATOR fail: the exchange is to hear the word 0o123, and copy c of module m 8 m + c
abbrev two : Adversary
two = liars 5 3 (λ run listener index. likes listener)
  where
    likes : Listener → ℕ
    likes Exchange = 0o123
    likes (Copy m c) = 8 * m + c

a_wrong_word_is_stored : shown (voted_after sum two 9) ≡ (0o123, 0o123, 0 ∷ 0 ∷ 9 ∷ [])
unfolding with_stuck majority flipped
a_wrong_word_is_stored = refl

each_hears_something_else : map (λ listener. heard listener (accumulators (copies_after sum two 9))) (Exchange ∷ Copy 1 1 ∷ Copy 7 3 ∷ []) ≡ (0o123 ∷ 0o123 ∷ []) ∷ (9 ∷ 9 ∷ []) ∷ (59 ∷ 59 ∷ []) ∷ []
unfolding with_stuck majority flipped
each_hears_something_else = refl

-- the sound copy latches what it hears: the word that it was told to take for the operand of CLA
the_third_latches_what_it_hears : (accumulators (copies_after sum two 3)).three ≡ Sound (43 ∷ 43 ∷ [])
unfolding with_stuck majority flipped
the_third_latches_what_it_hears = refl

-- ---- the voters of the exchange

-- a word is stored at location 2 of the data sector before the program has begun
the_exchange_is_deceived : memory.word_at (deceived sum (voted_start sum) (store_votes (destination (hop_of 0o16) 2) 0o7654321)).intended (record { pair = 0; sector = 1; loc = 2 }) ≡ 0o7654321
unfolding with_stuck majority flipped
the_exchange_is_deceived = refl
