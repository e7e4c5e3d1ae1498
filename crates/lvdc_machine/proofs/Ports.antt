-- What a port exchange makes of the state, and of the room.
use Rattle.std.proofs.Common.{◌≡◌, ℕ, ◌+◌, ◌*◌, ◌/◌, ◌%◌, ◌^◌, ◌≤◌, ◌<◌, List, [], ◌∷◌, ◌++◌, ap, ◌∙◌, subst, arith, true, false}
use Rattle.std.specs.declared.option.Option.TheVariants.{None, Some}
use Rattle.lvdc_port.specs.Device as device
use Rattle.lvdc_port.specs.Devices.{exchange_word, after_exchange}
use Rattle.lvdc_port.specs.declared.requests.PortRequest.{PortRequest}
use Rattle.lvdc_port.specs.declared.requests.PortRequest.TheVariants.{Read, Write}
use Rattle.lvdc_model.specs.Exchanges.{latches, port_word, port_reading, port_writing}
use Rattle.lvdc_model.specs.Trial.{Trial}
use Rattle.lvdc_model.specs.Voted.{Voted}
use Rattle.lvdc_machine.specs.declared.mode.Pace.{Pace}
use Rattle.lvdc_machine.specs.declared.mode.Pace.TheVariants.{ByTime, ByStep}
use Rattle.lvdc_machine.specs.Room.{exchanges_left, MayExchange}
use Rattle.lvdc_machine.specs.Shows.{Shows}
use Rattle.lvdc_machine.specs.Steps.{noting, Keeps, IsMade}
use Rattle.lvdc_machine.specs.View.{View}
use Rattle.lvdc_machine.proofs.Making.{exchanges-spent}

-- the devices after a request are those of the state after it
shows-exchanged : {o : Trial} {m : View} {ds : List device.Device} {v : Voted} → Shows o m ds v → (request : PortRequest) (left : List device.Device)
    → left ≡ after_exchange request ds → Shows o m left (record v { devices = after_exchange request v.devices })
shows-exchanged s request left is =
    record {
      banks = s.banks;
      script = s.script;
      unplugs = s.unplugs;
      copies = s.copies;
      memory = s.memory;
      left = is ∙ ap (λ ds. after_exchange request ds) s.left;
      log = s.log;
      repairs = s.repairs;
      counts = s.counts;
      steps = s.steps;
      end = s.end;
    }

-- the word that a port answered is logged, and latched
pub port-read : {o : Trial} {m : View} {ds : List device.Device} {v : Voted} → Shows o m ds v → (new : View) (left : List device.Device) (port word time : ℕ)
    → left ≡ after_exchange (Read port) ds → word ≡ exchange_word (Read port) (time % 2 ^ 26) ds → time ≡ m.steps / 3
    → ((w : Voted) → Shows o m left w → Shows o new left (latches o (noting w
    (record { memory = 0; port = word; line = Some (record { time = time; port = port; reading = true; word = word }); repair = None })) 0 word))
    → Shows o new left (port_reading o v port)
port-read {o = o} {m = m} {ds = ds} {v = v} s new left port word time is answered at made =
    let same : time ≡ v.steps / 3 = at ∙ ap (λ n. n / 3) s.steps in
    let answer : word ≡ port_word v (Read port) = answered ∙ (λ i. exchange_word (Read port) (same i % 2 ^ 26) (s.left i)) in
    let latched = λ (t w : ℕ). latches o (record v {
      devices = after_exchange (Read port) v.devices;
      log = v.log ++ record { time = t; port = port; reading = true; word = w } ∷ [];
    }) 0 w in
    subst (λ (w : ℕ). Shows o new left (latched (v.steps / 3) w)) answer
    (subst (λ (t : ℕ). Shows o new left (latched t word)) same (made (record v { devices = after_exchange (Read port) v.devices }) (shows-exchanged s (Read port) left is)))

-- the word that went to a port is logged
pub port-written : {o : Trial} {m : View} {ds : List device.Device} {v : Voted} → Shows o m ds v → (new : View) (left : List device.Device) (port word time : ℕ)
    → left ≡ after_exchange (Write port word) ds → time ≡ m.steps / 3
    → ((w : Voted) → Shows o m left w → Shows o new left (latches o (noting w
    (record { memory = 0; port = 0; line = Some (record { time = time; port = port; reading = false; word = word }); repair = None })) 0 0))
    → Shows o new left (port_writing o v port word)
port-written {o = o} {m = m} {ds = ds} {v = v} s new left port word time is at made =
    let same : time ≡ v.steps / 3 = at ∙ ap (λ n. n / 3) s.steps in
    subst (λ (t : ℕ). Shows o new left (latches o (record v {
      devices = after_exchange (Write port word) v.devices;
      log = v.log ++ record { time = t; port = port; reading = false; word = word } ∷ [];
    }) 0 0)) same (made (record v { devices = after_exchange (Write port word) v.devices }) (shows-exchanged s (Write port word) left is))

-- ---- room

-- later steps leave room for no more exchanges
fewer : (pace : Pace) (before after limit : ℕ) → before ≤ after → exchanges_left pace after limit ≤ exchanges_left pace before limit
fewer ByTime before after limit less = omega arith
fewer ByStep before after limit less = omega arith

-- no more exchanges are left after a call
pub room-kept : (before after : View) → Keeps before after → before.steps ≤ after.steps
    → exchanges_left after.pace after.steps after.limit ≤ exchanges_left before.pace before.steps before.limit
room-kept before after keeps less = rw (keeps.pace, keeps.limit) (fewer before.pace before.steps after.steps before.limit less)

-- and one less after an exchange
pub room-spent : (before after : View) → IsMade before after → after.steps ≡ before.steps + 1 → before.steps < 3 * before.limit
    → MayExchange before.pace before.steps
    → exchanges_left after.pace after.steps after.limit + 1 ≤ exchanges_left before.pace before.steps before.limit
room-spent before after made more left may = rw (made.keeps.pace, made.keeps.limit, more) (exchanges-spent before.pace before.steps before.limit left may)
