-- Where all copies of each module are alike.
use Rattle.std.proofs.Common.{◌≡◌, ℕ, zero, suc, ◌-◌, false, List, refl, sym, ap}
use Rattle.std.specs.Prelude.{map, [], slice_index_or}
use Rattle.lvdc_vote.specs.Copies.{Copies, after_settle, differs_of, settled, vote_of, IsFresh}
use Rattle.lvdc_vote.proofs.Differences.{none_differs}
use Rattle.lvdc_vote.proofs.Votes.{majority_of-first}
use Rattle.lvdc_modules.specs.Next.{renewed}
use Rattle.lvdc_modules.specs.Rows.{bus_of}
use Rattle.lvdc_modules.specs.States.{timer_latches, timer_of, locator_latches, locator_of, decoder_latches, decoder_of, selector_latches, selector_of, accumulator_latches, accumulator_of, multiplier_latches, multiplier_of, exchange_latches, exchange_of}
use Rattle.lvdc_modules.specs.Timer.{timer_row}
use Rattle.lvdc_modules.specs.Locator.{locator_row}
use Rattle.lvdc_modules.specs.Decoder.{decoder_row}
use Rattle.lvdc_modules.specs.Selector.{selector_row}
use Rattle.lvdc_modules.specs.Accumulator.{accumulator_row}
use Rattle.lvdc_modules.specs.Multiplier.{multiplier_row}
use Rattle.lvdc_modules.specs.Exchange.{exchange_row}
use Rattle.lvdc_modules.specs.declared.bus.Bus.{Bus}
use Rattle.lvdc_model.specs.Voted.{thrice}
use Rattle.lvdc_logic.specs.Latching.{alike, copies_in, after_steps, AllFresh, AllSized, IsVoted}
use Rattle.lvdc_logic.specs.Logic.{copies_at, is_outvoted}
use Rattle.lvdc_logic.specs.declared.triples.Triples.{Triples}

-- the vote over three equal copies
vote_alike : (s : List ℕ) → s ≡ vote_of (thrice s)
vote_alike s = sym (majority_of-first s s refl)

-- no copy of them has latched
pub alike_fresh : (b : Bus) → AllFresh (alike b)
alike_fresh b =
    record {
      timer = record { one = refl; two = refl; three = refl };
      locator = record { one = refl; two = refl; three = refl };
      decoder = record { one = refl; two = refl; three = refl };
      selector = record { one = refl; two = refl; three = refl };
      accumulator = record { one = refl; two = refl; three = refl };
      multiplier = record { one = refl; two = refl; three = refl };
      exchange = record { one = refl; two = refl; three = refl };
    }

-- each has as many latches as its module
pub alike_sized : (b : Bus) → AllSized (alike b)
alike_sized b =
    record {
      timer = record { one = refl; two = refl; three = refl };
      locator = record { one = refl; two = refl; three = refl };
      decoder = record { one = refl; two = refl; three = refl };
      selector = record { one = refl; two = refl; three = refl };
      accumulator = record { one = refl; two = refl; three = refl };
      multiplier = record { one = refl; two = refl; three = refl };
      exchange = record { one = refl; two = refl; three = refl };
    }

-- the bus is that of their votes
pub alike_voted : (b : Bus) → b.memory ≡ 0 → b.port ≡ 0 → IsVoted (alike b) b
alike_voted b memory port =
    record {
      fresh = alike_fresh b;
      sized = alike_sized b;
      votes = λ i. record {
        timer = ap timer_of (vote_alike (timer_latches b.timer)) i;
        locator = ap locator_of (vote_alike (locator_latches b.locator)) i;
        decoder = ap decoder_of (vote_alike (decoder_latches b.decoder)) i;
        selector = ap selector_of (vote_alike (selector_latches b.selector)) i;
        accumulator = ap accumulator_of (vote_alike (accumulator_latches b.accumulator)) i;
        multiplier = ap multiplier_of (vote_alike (multiplier_latches b.multiplier)) i;
        exchange = ap exchange_of (vote_alike (exchange_latches b.exchange)) i;
        memory = memory i;
        port = port i;
      };
    }

-- the same votes with other words from memory and port
pub votes_with : (copies : List Copies) (b : Bus) (memory port : ℕ) → b ≡ bus_of (map vote_of copies) 0 0
    → record b { memory = memory; port = port } ≡ bus_of (map vote_of copies) memory port
votes_with copies b memory port is = ap (λ (v : Bus). record v { memory = memory; port = port }) is

-- where no copy of a module has latched by itself, all have these words
settled_alike : (t : Copies) (words : List ℕ) → IsFresh t → thrice words ≡ after_settle t words
settled_alike t words fresh = rw (fresh.one, fresh.two, fresh.three) refl

-- where none has, all have what follows from the votes
pub renewed_alike : (t : Triples) (voted : Bus) → AllFresh t → alike (renewed voted) ≡ after_steps t voted
renewed_alike t voted fresh = λ i.
    record {
      timer = settled_alike t.timer (timer_row voted) fresh.timer i;
      locator = settled_alike t.locator (locator_row voted) fresh.locator i;
      decoder = settled_alike t.decoder (decoder_row voted) fresh.decoder i;
      selector = settled_alike t.selector (selector_row voted) fresh.selector i;
      accumulator = settled_alike t.accumulator (accumulator_row voted) fresh.accumulator i;
      multiplier = settled_alike t.multiplier (multiplier_row voted) fresh.multiplier i;
      exchange = settled_alike t.exchange (exchange_row voted) fresh.exchange i;
    }

-- the vote of each module, counted from 0, is any of its copies
vote_of_alike : (b : Bus) (k : ℕ) → (slice_index_or (copies_in (alike b)) k (settled [] [] [])).one ≡ vote_of (slice_index_or (copies_in (alike b)) k (settled [] [] []))
vote_of_alike b zero = vote_alike (timer_latches b.timer)
vote_of_alike b (suc zero) = vote_alike (locator_latches b.locator)
vote_of_alike b (suc (suc zero)) = vote_alike (decoder_latches b.decoder)
vote_of_alike b (suc (suc (suc zero))) = vote_alike (selector_latches b.selector)
vote_of_alike b (suc (suc (suc (suc zero)))) = vote_alike (accumulator_latches b.accumulator)
vote_of_alike b (suc (suc (suc (suc (suc zero))))) = vote_alike (multiplier_latches b.multiplier)
vote_of_alike b (suc (suc (suc (suc (suc (suc zero)))))) = vote_alike (exchange_latches b.exchange)
vote_of_alike b (suc (suc (suc (suc (suc (suc (suc k))))))) = refl

pub vote_at_alike : (b : Bus) (number : ℕ) → (copies_at (copies_in (alike b)) number).one ≡ vote_of (copies_at (copies_in (alike b)) number)
vote_at_alike b number = vote_of_alike b (number - 1)

-- and none of them is outvoted
outvoted_of_alike : (b : Bus) (k copy : ℕ) → differs_of (slice_index_or (copies_in (alike b)) k (settled [] [] [])) copy ≡ false
outvoted_of_alike b zero copy = none_differs (timer_latches b.timer) copy
outvoted_of_alike b (suc zero) copy = none_differs (locator_latches b.locator) copy
outvoted_of_alike b (suc (suc zero)) copy = none_differs (decoder_latches b.decoder) copy
outvoted_of_alike b (suc (suc (suc zero))) copy = none_differs (selector_latches b.selector) copy
outvoted_of_alike b (suc (suc (suc (suc zero)))) copy = none_differs (accumulator_latches b.accumulator) copy
outvoted_of_alike b (suc (suc (suc (suc (suc zero))))) copy = none_differs (multiplier_latches b.multiplier) copy
outvoted_of_alike b (suc (suc (suc (suc (suc (suc zero)))))) copy = none_differs (exchange_latches b.exchange) copy
outvoted_of_alike b (suc (suc (suc (suc (suc (suc (suc k))))))) copy = none_differs [] copy

pub none_outvoted : (b : Bus) (number copy : ℕ) → is_outvoted (copies_in (alike b)) number copy ≡ false
none_outvoted b number copy = outvoted_of_alike b (number - 1) (copy - 1)
