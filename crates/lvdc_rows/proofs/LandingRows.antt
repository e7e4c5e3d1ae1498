-- Worked times of the plain machine: products on their way, held times, stores at 775 and 776, a stop, a simplex bank, and devices by time.
use Rattle.std.proofs.Common.{◌≡◌, ℕ, Bool, [], ◌∷◌, false, true, Some, None, refl}
use Rattle.lvdc_map.specs.Address.{Spot}
use Rattle.lvdc_map.specs.Hop.{hop_of}
use Rattle.lvdc_map.specs.Memory.{memory_of, word_at}
use Rattle.lvdc_map.specs.declared.placed.Placed.{Placed}
use Rattle.lvdc_plain.specs.Plain.{PlainState, World, started}
use Rattle.lvdc_plain.specs.Accesses.{fetched, store}
use Rattle.lvdc_plain.specs.Run.{run, time}
use Rattle.lvdc_plain.specs.Table.{step}
use Rattle.lvdc_plain.specs.declared.records.Stop.TheVariants as stops
use Rattle.lvdc_port.specs.Device.{Device}
use Rattle.lvdc_port.specs.declared.device.Kind.TheVariants.{Latch, Ticker}

-- location 000 of a sector
spot : ℕ → ℕ → Spot
spot pair sector = record { pair = pair; sector = sector; loc = 0 }

-- a word there
word_in : ℕ → ℕ → ℕ → Placed
word_in pair sector word = record { at = spot pair sector; word = word }

-- at location 000 of sector 00, before this instruction, at time 7: data sector 01, where this word stands, and registers that are unlike
before : ℕ → ℕ → PlainState
before code word =
    record (started 0 (hop_of 0o16) (memory_of (word_in 0 0 code ∷ word_in 0 1 word ∷ []))) { a = 0o40000000; pq = 0o6; saver = 0o52; times = 7 }

-- after it, without devices
after_time : PlainState → PlainState
after_time p = (step p []).plain

-- ---- a product: 2 ^ 21 times 2 ^ 20, over 2 ^ 21

mpy : (after_time (before 0o01000 0o20000000)).pending ≡ Some (record { left = 4; result = 0o4000000; to_a = false })
unfolding after_time before word_in spot
mpy = refl

mph : (after_time (before 0o05000 0o20000000)).pending ≡ Some (record { left = 4; result = 0o4000000; to_a = true })
unfolding after_time before word_in spot
mph = refl

mpy_keeps_a : (after_time (before 0o01000 0o20000000)).a ≡ 0o40000000
unfolding after_time before word_in spot
mpy_keeps_a = refl

-- ---- a store while a product is on its way: 776 keeps the saver in memory, 775 is PQ, which takes A and cancels the product

storing : ℕ → PlainState
storing code = record (before code 0) { pending = Some (record { left = 3; result = 0o777; to_a = false }) }

sto_776 : (word_at (after_time (storing 0o13776)).memory (record { pair = 0; sector = 15; loc = 254 }) ≡ 0o52) × ((after_time (storing 0o13776)).pq ≡ 0o6)
    × ((after_time (storing 0o13776)).pending ≡ Some (record { left = 2; result = 0o777; to_a = false }))
unfolding after_time storing before word_in spot
sto_776 = (refl, refl, refl)

sto_775 : ((after_time (storing 0o13775)).pq ≡ 0o40000000) × ((after_time (storing 0o13775)).pending ≡ None)
    × (word_at (after_time (storing 0o13775)).memory (record { pair = 0; sector = 15; loc = 253 }) ≡ 0)
unfolding after_time storing before word_in spot
sto_775 = (refl, refl, refl)

-- ---- held times

held : ℕ → Bool → PlainState
held left to_a = record (before 0o17000 5) { hold = 2; pending = Some (record { left = left; result = 0o777; to_a = to_a }) }

a_result_lands_in_both : ((after_time (held 1 true)).a ≡ 0o777) × ((after_time (held 1 true)).pq ≡ 0o777) × ((after_time (held 1 true)).pending ≡ None)
    × ((after_time (held 1 true)).hold ≡ 1) × ((after_time (held 1 true)).times ≡ 8)
unfolding after_time held before word_in spot
a_result_lands_in_both = (refl, refl, refl, refl, refl)

a_result_lands_in_pq : ((after_time (held 1 false)).a ≡ 0o40000000) × ((after_time (held 1 false)).pq ≡ 0o777)
unfolding after_time held before word_in spot
a_result_lands_in_pq = (refl, refl)

a_result_is_on_its_way : ((after_time (held 2 true)).a ≡ 0o40000000) × ((after_time (held 2 true)).pq ≡ 0o6)
    × ((after_time (held 2 true)).pending ≡ Some (record { left = 1; result = 0o777; to_a = true }))
unfolding after_time held before word_in spot
a_result_is_on_its_way = (refl, refl, refl)

-- ---- a stop

stopped : PlainState
stopped = record (before 0o17000 5) { stop = Some stops.Shift }

a_stopped_machine_makes_no_time : (after_time stopped).times ≡ 7
unfolding after_time stopped before word_in spot
a_stopped_machine_makes_no_time = refl

-- ---- pair 0 is simplex, and its odd module is bank 4

simplex : PlainState
simplex =
    record (started 1 (record (hop_of 0o16) { imod = 1 }) (memory_of (word_in 4 0 0o17000 ∷ word_in 0 1 5 ∷ []))) { a = 0o14 }

the_odd_module : (fetched simplex ≡ Some (spot 4 0)) × ((after_time simplex).a ≡ 5)
unfolding after_time simplex word_in spot
the_odd_module = (refl, refl)

-- data of the odd module: a word of bank 4 is read, and a store goes there
simplex_data : ℕ → PlainState
simplex_data code =
    record (started 1 (record (hop_of 0o16) { dmod = 1 }) (memory_of (word_in 0 0 code ∷ word_in 4 1 5 ∷ []))) { a = 0o14 }

data_of_the_odd_module : ((after_time (simplex_data 0o17000)).a ≡ 5) × (word_at (after_time (simplex_data 0o13000)).memory (spot 4 1) ≡ 0o14)
    × (store (simplex_data 0o13000) ≡ Some (record { at = spot 4 1; word = 0o14 }))
unfolding after_time simplex_data word_in spot
data_of_the_odd_module = (refl, refl, refl)

-- ---- devices by time

latch : Device
latch = record { port = 0o14; kind = Latch; state = 3 ∷ [] }

-- after a time in which the latch is taken away
unplugged : PlainState → World
unplugged p = time (record { port = 0o14; time = 7 } ∷ []) (record { plain = p; devices = latch ∷ [] })

taken_at_its_time : (unplugged (before 0o17000 5)).devices ≡ []
unfolding unplugged latch before word_in spot
taken_at_its_time = refl

-- two lines of one time
both_taken : (time (record { port = 0o14; time = 7 } ∷ record { port = 0o16; time = 7 } ∷ [])
    (record { plain = before 0o17000 5; devices = latch ∷ record { port = 0o16; kind = Ticker; state = [] } ∷ [] })).devices ≡ []
unfolding latch before word_in spot
both_taken = refl

taken_in_a_run : (run (record {
  image = word_in 0 0 0o17000 ∷ [];
  banks = 0;
  start = hop_of 0o16;
  unplugs = record { port = 0o14; time = 0 } ∷ [];
  devices = latch ∷ [];
}) 1).devices ≡ []
unfolding latch word_in spot
taken_in_a_run = refl

a_stopped_machine_loses_no_device : (unplugged stopped).devices ≡ latch ∷ []
unfolding unplugged latch stopped before word_in spot
a_stopped_machine_loses_no_device = refl

the_ticker_tells_the_time : (step (before 0o12416 0) (record { port = 0o16; kind = Ticker; state = [] } ∷ [])).plain.a ≡ 7
unfolding before word_in spot
the_ticker_tells_the_time = refl

-- the time 2 ^ 26 + 2 ^ 25 + 5, of which a device is told 2 ^ 25 + 5
the_ticker_tells_a_late_time : (step (record (before 0o12416 0) { times = 100663301 }) (record { port = 0o16; kind = Ticker; state = [] } ∷ [])).plain.a ≡ 33554437
unfolding before word_in spot
the_ticker_tells_a_late_time = refl
