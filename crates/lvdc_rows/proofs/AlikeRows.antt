-- Worked comparisons of a voted run with the plain run: registers, logs, words, and whole states.
use Rattle.std.proofs.Common.{◌≡◌, ℕ, [], ◌∷◌, false, true, Some, map, ◌==◌, if◌then◌else◌, refl}
use Rattle.lvdc_map.specs.Address.{Spot, number_of}
use Rattle.lvdc_map.specs.Hop.{HopConstant, hop_of}
use Rattle.lvdc_map.specs.Memory.{Memory}
use Rattle.lvdc_model.specs.Trial.{Trial, plain_at}
use Rattle.lvdc_model.specs.Voted.{voted_start}
use Rattle.lvdc_plain.specs.declared.records.Exchange.{Exchange}
use Rattle.lvdc_plain.specs.declared.records.PlainEnd.TheVariants as plain
use Rattle.lvdc_plain.specs.declared.records.Stop.TheVariants.{Shift}
use Rattle.lvdc_plain.specs.declared.records.Visible.{Visible}
use Rattle.lvdc_runs.specs.Same.{is_same_constant, are_same_registers, is_same_exchange, is_same_log, end_by, is_same_word, are_same_below, are_same_words, is_same_state}
use Rattle.lvdc_vote.specs.Bits.{majority}

-- ---- registers: each field counts

place : HopConstant
place = record { imod = 1; isec = 2; syl = 0; loc = 3; dmod = 4; dsec = 5; dupin = true; dupdn = false }

fields_of_a_place : map (is_same_constant place)
    (place ∷ record place { imod = 2 } ∷ record place { isec = 3 } ∷ record place { syl = 1 } ∷ record place { loc = 4 } ∷ record place { dmod = 5 }
    ∷ record place { dsec = 6 } ∷ record place { dupin = false } ∷ record place { dupdn = true } ∷ [])
    ≡ true ∷ false ∷ false ∷ false ∷ false ∷ false ∷ false ∷ false ∷ false ∷ []
unfolding place
fields_of_a_place = refl

registers : Visible
registers = record { place = place; a = 1; pq = 2; saver = 3; times = 4 }

each_register : map (are_same_registers registers)
    (registers ∷ record registers { place = record place { loc = 4 } } ∷ record registers { a = 2 } ∷ record registers { pq = 3 } ∷ record registers { saver = 4 }
    ∷ record registers { times = 5 } ∷ [])
    ≡ true ∷ false ∷ false ∷ false ∷ false ∷ false ∷ []
unfolding registers place
each_register = refl

-- ---- the log: each field of a line counts, and each line

line : Exchange
line = record { time = 1; port = 2; reading = true; word = 3 }

fields_of_a_line : map (is_same_exchange line)
    (line ∷ record line { time = 2 } ∷ record line { port = 3 } ∷ record line { reading = false } ∷ record line { word = 4 } ∷ [])
    ≡ true ∷ false ∷ false ∷ false ∷ false ∷ []
unfolding line
fields_of_a_line = refl

lines_of_a_log : map (is_same_log (line ∷ line ∷ []))
    ((line ∷ line ∷ []) ∷ (line ∷ []) ∷ (line ∷ line ∷ line ∷ []) ∷ (line ∷ record line { word = 4 } ∷ []) ∷ (record line { word = 4 } ∷ line ∷ []) ∷ [])
    ≡ true ∷ false ∷ false ∷ false ∷ false ∷ []
unfolding line
lines_of_a_log = refl

-- ---- the end of two times is in step 5

end_of_two_times : end_by (Some Shift) 2 ≡ Some (plain.Stopped 5 Shift)
end_of_two_times = refl

-- ---- words

empty : Memory
empty at = 0

-- 1 at the address of this number
one_at : ℕ → Memory
one_at number at = if number_of at == number then 1 else 0

-- 1 at all addresses of bank 4
in_bank_4 : Memory
in_bank_4 at = if at.pair == 4 then 1 else 0

spot : ℕ → ℕ → Spot
spot pair loc = record { pair = pair; sector = 0; loc = loc }

banks_that_are_there : (is_same_word 0 empty (one_at 16385) (spot 4 1) ≡ true) × (is_same_word 1 empty (one_at 16385) (spot 4 1) ≡ false)
unfolding empty one_at spot
banks_that_are_there = (refl, refl)

-- below three are 0, 1 and 2
below_three : map (λ number. are_same_below 0 empty (one_at number) 3) (0 ∷ 1 ∷ 2 ∷ 3 ∷ []) ≡ false ∷ false ∷ false ∷ true ∷ []
unfolding empty one_at are_same_below
below_three = refl

-- pair 3 is simplex: the last word of bank 7 is there, and bank 4 isn't
last_word : are_same_words 8 empty (one_at 32767) ≡ false
unfolding empty one_at are_same_below
last_word = refl

no_bank_4 : are_same_words 8 empty in_bank_4 ≡ true
unfolding empty in_bank_4 are_same_below
no_bank_4 = refl

-- ---- whole states, of a trial without words

trial : Trial
trial = record { opening = record { image = []; banks = 0; start = hop_of 0o16; unplugs = []; devices = [] }; script = [] }

other_states : map (is_same_state 0 (voted_start trial))
    (record (plain_at trial 0) { a = 1 } ∷ record (plain_at trial 0) { log = line ∷ [] } ∷ record (plain_at trial 0) { memory = one_at 0 } ∷ [])
    ≡ false ∷ false ∷ false ∷ []
unfolding trial line one_at are_same_below majority
other_states = refl

same_state : is_same_state 0 (voted_start trial) (plain_at trial 0) ≡ true
unfolding trial are_same_below majority
same_state = refl
