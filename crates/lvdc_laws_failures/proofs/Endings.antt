-- Where masking ends: two copies of a module that fail together, and an exchange whose voters fail.
use Rattle.std.proofs.Common.{◌≡◌, ℕ, zero, suc, ◌+◌, ◌%◌, ◌≤◌, List, length, refl, sym, ap, ◌∙◌, arith}
use Rattle.std.proofs.lemmas.Bool.{eq-eqb}
use Rattle.lvdc_map.specs.Memory as memory
use Rattle.lvdc_vote.proofs.Votes.{majority_of-first, majority_of-ends, majority_of-last}
use Rattle.lvdc_vote.specs.Numbers.{latches_of}
use Rattle.lvdc_modules.specs.Request.{spot_of, destination_bits, destination_in, word_of_request, request_of, IsDestination}
use Rattle.lvdc_modules.specs.Rows.{rows, bus_of}
use Rattle.lvdc_modules.specs.Wish.{request_wish}
use Rattle.lvdc_modules.specs.Timer.{timer_row}
use Rattle.lvdc_modules.specs.Locator.{locator_row}
use Rattle.lvdc_modules.specs.Decoder.{decoder_row}
use Rattle.lvdc_modules.specs.Selector.{selector_row}
use Rattle.lvdc_modules.specs.Accumulator.{accumulator_row}
use Rattle.lvdc_modules.specs.Multiplier.{multiplier_row}
use Rattle.lvdc_modules.specs.Exchange.{exchange_row}
use Rattle.lvdc_modules.specs.declared.bus.Bus.{Bus}
use Rattle.lvdc_modules.specs.declared.request.Destination.{Destination}
use Rattle.lvdc_modules.specs.declared.request.Request.{Request}
use Rattle.lvdc_modules.specs.declared.request.Request.TheVariants.{StoreA}
use Rattle.lvdc_model.specs.Trial.{Trial}
use Rattle.lvdc_model.specs.Voted.{Voted}
use Rattle.lvdc_model.specs.Exchanges.{exchanges}
use Rattle.lvdc_laws_failures.specs.Listeners.{Listener, heard}
use Rattle.lvdc_laws_failures.specs.Split.{Run}
use Rattle.lvdc_laws_failures.specs.Steps.{words_from, next_three, next_copies}
use Rattle.lvdc_laws_failures.specs.Limits.{liars, three_of, deceived, store_votes}
use Rattle.lvdc_laws_failures.proofs.Telling.{length-words_from}

-- ---- two copies of a module

-- two that tell a listener the same are what it hears, whichever they are
liars-heard : (m honest : ℕ) (likes : Run → Listener → ℕ → ℕ) (run : Run) (row : Bus → List ℕ) (memory port : ℕ) (listener : Listener)
    → 1 ≤ honest → honest ≤ 3 → ((b : Bus) → length (row b) ≡ latches_of m)
    → heard listener (next_three (liars m honest likes) run m row memory port) ≡ words_from (likes run listener) 0 (latches_of m)
liars-heard m zero likes run row memory port listener low high fits = absurd (omega arith)
liars-heard m (suc zero) likes run row memory port listener low high fits =
    rw (eq-eqb m m refl) (majority_of-last _ _ (fits _ ∙ sym (length-words_from (likes run listener) 0 (latches_of m))))
liars-heard m (suc (suc zero)) likes run row memory port listener low high fits =
    rw (eq-eqb m m refl) (majority_of-ends _ _ (fits _ ∙ sym (length-words_from (likes run listener) 0 (latches_of m))))
liars-heard m (suc (suc (suc zero))) likes run row memory port listener low high fits =
    rw (eq-eqb m m refl) (majority_of-first _ _ (fits _ ∙ sym (length-words_from (likes run listener) 0 (latches_of m))))
liars-heard m (suc (suc (suc (suc honest)))) likes run row memory port listener low high fits = absurd (omega arith)

-- so of each of the seven modules
pub liars-say : (number honest : ℕ) (likes : Run → Listener → ℕ → ℕ) (run : Run) (memory port : ℕ) → 1 ≤ number → number ≤ 7 → 1 ≤ honest → honest ≤ 3 → (listener : Listener)
    → heard listener (three_of (next_copies (liars number honest likes) run 1 rows memory port) number) ≡ words_from (likes run listener) 0 (latches_of number)
liars-say zero honest likes run memory port first last low high listener = absurd (omega arith)
liars-say (suc zero) honest likes run memory port first last low high listener = liars-heard 1 honest likes run timer_row memory port listener low high (λ b. refl)
liars-say (suc (suc zero)) honest likes run memory port first last low high listener = liars-heard 2 honest likes run locator_row memory port listener low high (λ b. refl)
liars-say (suc (suc (suc zero))) honest likes run memory port first last low high listener = liars-heard 3 honest likes run decoder_row memory port listener low high (λ b. refl)
liars-say (suc (suc (suc (suc zero)))) honest likes run memory port first last low high listener = liars-heard 4 honest likes run selector_row memory port listener low high (λ b. refl)
liars-say (suc (suc (suc (suc (suc zero))))) honest likes run memory port first last low high listener =
    liars-heard 5 honest likes run accumulator_row memory port listener low high (λ b. refl)
liars-say (suc (suc (suc (suc (suc (suc zero)))))) honest likes run memory port first last low high listener =
    liars-heard 6 honest likes run multiplier_row memory port listener low high (λ b. refl)
liars-say (suc (suc (suc (suc (suc (suc (suc zero))))))) honest likes run memory port first last low high listener =
    liars-heard 7 honest likes run exchange_row memory port listener low high (λ b. refl)
liars-say (suc (suc (suc (suc (suc (suc (suc (suc number)))))))) honest likes run memory port first last low high listener = absurd (omega arith)

-- ---- the voters of the exchange

-- a destination is read back from the word of a request
destination-again : (t : Destination) → IsDestination t → request_of (word_of_request (StoreA t)) ≡ StoreA t
destination-again t ok =
    let kind : word_of_request (StoreA t) % 8 ≡ 1 = omega arith in
    let dmod : (destination_in (destination_bits t + 1)).dmod ≡ t.dmod = omega (arith, ok.dmod, ok.sector, ok.loc) in
    let sector : (destination_in (destination_bits t + 1)).sector ≡ t.sector = omega (arith, ok.dmod, ok.sector, ok.loc) in
    let loc : (destination_in (destination_bits t + 1)).loc ≡ t.loc = omega (arith, ok.dmod, ok.sector, ok.loc) in
    rw kind (λ i. StoreA (record { dmod = dmod i; sector = sector i; loc = loc i }))

-- so it stores any word anywhere
pub deceived-stores : (o : Trial) (v : Voted) (t : Destination) (word : ℕ) → IsDestination t
    → (deceived o v (store_votes t word)).intended ≡ memory.stored v.intended (spot_of o.opening.banks t) word
deceived-stores o v t word ok =
    ap (λ (r : Request). (exchanges o v (request_wish r (bus_of (store_votes t word) 0 0) o.opening.banks)).intended) (destination-again t ok)
