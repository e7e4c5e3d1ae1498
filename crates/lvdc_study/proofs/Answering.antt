-- What a run reads follows from the lines of its log so far: its devices are what the exchanges of these have made of the first ones.
use Rattle.std.proofs.Common.{◌≡◌, ℕ, zero, suc, ◌+◌, ◌-◌, ◌%◌, ◌^◌, ◌≤◌, Bool, true, false, List, [], ◌∷◌, ◌++◌, refl, sym, ap, ◌∙◌, subst, arith}
use Rattle.std.proofs.lemmas.List.{append-nil}
use Rattle.std.specs.declared.option.Option.{Option}
use Rattle.std.specs.declared.option.Option.TheVariants.{None, Some}
use Rattle.lvdc_port.specs.Device.{Device}
use Rattle.lvdc_port.specs.Devices.{exchange_word, after_exchange}
use Rattle.lvdc_port.specs.declared.requests.PortRequest.{PortRequest}
use Rattle.lvdc_port.specs.declared.requests.PortRequest.TheVariants.{Read, Write}
use Rattle.lvdc_modules.specs.declared.wanted.Wanted.{Wanted}
use Rattle.lvdc_modules.specs.declared.wanted.Wanted.TheVariants as wanted
use Rattle.lvdc_plain.specs.Plain.{World}
use Rattle.lvdc_plain.specs.Run.{Opening, plugged, time_by, run}
use Rattle.lvdc_plain.specs.declared.records.Exchange.{Exchange}
use Rattle.lvdc_plain.specs.declared.records.Stop.{Stop}
use Rattle.lvdc_plain.specs.declared.records.Unplug.{Unplug}
use Rattle.lvdc_laws_phases.specs.Exchanges.{made}
use Rattle.lvdc_laws_voted.specs.Laws.{PortLaw}
use Rattle.lvdc_laws_voted.specs.Leaves.{log_after, devices_after}
use Rattle.lvdc_laws_voted.proofs.PlainRuns.{times-count}

-- ---- what a log makes of devices

-- devices as the last line of a log left them, and how many times had been begun by then
pub record Left : Type 0 where
  pub begun : ℕ
  pub devices : List Device

-- the devices so many times on: those of each time are taken away
abbrev on : List Unplug → ℕ → ℕ → List Device → List Device
on unplugs begun zero devices = devices
on unplugs begun (suc more) devices = plugged unplugs (begun + more) (on unplugs begun more devices)

-- the devices once so many times are begun
abbrev pub on-to : List Unplug → ℕ → Left → List Device
on-to unplugs begun left = on unplugs left.begun (begun - left.begun) left.devices

-- one time more is begun
pub on-next : (unplugs : List Unplug) (left : Left) (begun : ℕ) → left.begun ≤ begun → on-to unplugs (suc begun) left ≡ plugged unplugs begun (on-to unplugs begun left)
on-next unplugs left begun le =
    let more : suc begun - left.begun ≡ suc (begun - left.begun) = omega (arith, le) in
    let time : left.begun + (begun - left.begun) ≡ begun = omega (arith, le) in
    ap (λ n. on unplugs left.begun n left.devices) more
    ∙ ap (λ n. plugged unplugs n (on unplugs left.begun (begun - left.begun) left.devices)) time

-- none is to be taken away yet
on-none : (unplugs : List Unplug) (left : Left) (begun : ℕ) → begun ≡ left.begun → on-to unplugs begun left ≡ left.devices
on-none unplugs left begun e =
    let none : begun - left.begun ≡ 0 = omega (arith, e) in ap (λ n. on unplugs left.begun n left.devices) none

-- the request of a line
abbrev asked : Bool → ℕ → ℕ → PortRequest
asked true port word = Read port
asked false port word = Write port word

-- the line that an exchange notes over these devices, in this time
abbrev pub line-at : Wanted → List Device → ℕ → List Exchange
line-at (wanted.PortRead port) devices time =
    record { time = time; port = port; reading = true; word = exchange_word (Read port) (time % 2 ^ 26) devices } ∷ []
line-at (wanted.PortWrite port word) devices time = record { time = time; port = port; reading = false; word = word } ∷ []
line-at (wanted.Store at word) devices time = []
line-at (wanted.Fetch at) devices time = []
line-at (wanted.Operand at) devices time = []
line-at wanted.Nothing devices time = []

log-line : (w : Wanted) (log : List Exchange) (devices : List Device) (time : ℕ) → log_after w log devices time ≡ log ++ line-at w devices time
log-line (wanted.PortRead port) log devices time = refl
log-line (wanted.PortWrite port word) log devices time = refl
log-line (wanted.Store at word) log devices time = sym (append-nil log)
log-line (wanted.Fetch at) log devices time = sym (append-nil log)
log-line (wanted.Operand at) log devices time = sym (append-nil log)
log-line wanted.Nothing log devices time = sym (append-nil log)

module _ (unplugs : List Unplug) where
  -- one line more
  abbrev one-more : Exchange → Left → Left
  one-more line left =
      record { begun = suc line.time; devices = after_exchange (asked line.reading line.port line.word) (on-to unplugs (suc line.time) left) }

  abbrev pub replayed : List Exchange → Left → Left
  replayed [] left = left
  replayed (line ∷ lines) left = replayed lines (one-more line left)

  replayed-more : (lines : List Exchange) (line : Exchange) (left : Left) → replayed (lines ++ line ∷ []) left ≡ one-more line (replayed lines left)
  replayed-more [] line left = refl
  replayed-more (first ∷ rest) line left = replayed-more rest line (one-more first left)

  -- the word of a line that reads is what the devices answer then
  abbrev pub Follows : Left → Exchange → Type 0
  Follows left line = line.reading ≡ true → line.word ≡ exchange_word (Read line.port) (line.time % 2 ^ 26) (on-to unplugs (suc line.time) left)

  -- so is that of each line
  abbrev pub AllFollow : Left → List Exchange → Type 0
  AllFollow left [] = Unit {0}
  AllFollow left (line ∷ lines) = Follows left line × AllFollow (one-more line left) lines

  follow-more : (lines : List Exchange) (left : Left) (line : Exchange) → AllFollow left lines → Follows (replayed lines left) line → AllFollow left (lines ++ line ∷ [])
  follow-more [] left line all one = (one, tt)
  follow-more (first ∷ rest) left line all one = (all.0, follow-more rest (one-more first left) line all.1 one)

  pub follow-at : (lines : List Exchange) (left : Left) (line : Exchange) (behind : List Exchange) → AllFollow left (lines ++ line ∷ behind) → Follows (replayed lines left) line
  follow-at [] left line behind all = all.0
  follow-at (first ∷ rest) left line behind all = follow-at rest (one-more first left) line behind all.1

  -- ---- over the first devices

  module _ (devices : List Device) where
    abbrev pub start : Left
    start = record { begun = 0; devices = devices }

    abbrev pub left-by : List Exchange → Left
    left-by log = replayed log start

    -- once so many times are begun no line is of a later one, and the devices are those of the log
    pub record Begun (begun : ℕ) (log : List Exchange) (now : List Device) : Type 0 where
      pub few : (left-by log).begun ≤ begun
      pub are : now ≡ on-to unplugs begun (left-by log)

    -- a line of the time that was begun
    one-line : (time : ℕ) (log : List Exchange) (line : Exchange) (now : List Device) → line.time ≡ time → Begun (suc time) log now
        → Begun (suc time) (log ++ line ∷ []) (after_exchange (asked line.reading line.port line.word) now)
    one-line time log line now is h =
        let left : left-by (log ++ line ∷ []) ≡ one-more line (left-by log) = replayed-more log line start in
        record {
          few = subst (λ (l : Left). l.begun ≤ suc time) (sym left) (omega (arith, is));
          are =
              ap (after_exchange (asked line.reading line.port line.word)) (h.are ∙ ap (λ (n : ℕ). on-to unplugs (suc n) (left-by log)) (sym is))
              ∙ sym (on-none unplugs (one-more line (left-by log)) (suc time) (ap suc (sym is))) ∙ ap (on-to unplugs (suc time)) (sym left);
        }

    no-line : (time : ℕ) (log : List Exchange) (now : List Device) → Begun (suc time) log now → Begun (suc time) (log ++ []) now
    no-line time log now h = subst (λ (l : List Exchange). Begun (suc time) l now) (sym (append-nil log)) h

    -- what an exchange leaves in the time that was begun
    pub begun-more : (w : Wanted) (time : ℕ) (log : List Exchange) (now : List Device) → Begun (suc time) log now
        → Begun (suc time) (log ++ line-at w now time) (devices_after w now)
    begun-more (wanted.PortRead port) time log now h = one-line time log _ now refl h
    begun-more (wanted.PortWrite port word) time log now h = one-line time log _ now refl h
    begun-more (wanted.Store at word) time log now h = no-line time log now h
    begun-more (wanted.Fetch at) time log now h = no-line time log now h
    begun-more (wanted.Operand at) time log now h = no-line time log now h
    begun-more wanted.Nothing time log now h = no-line time log now h

    exchange-follows : (w : Wanted) (time : ℕ) (log : List Exchange) (now : List Device) → Begun (suc time) log now → AllFollow start log
        → AllFollow start (log ++ line-at w now time)
    exchange-follows (wanted.PortRead port) time log now h all = follow-more log start _ all (λ reading. ap (exchange_word (Read port) (time % 2 ^ 26)) h.are)
    exchange-follows (wanted.PortWrite port word) time log now h all = follow-more log start _ all (λ reading. absurd (cc (reading)))
    exchange-follows (wanted.Store at word) time log now h all = subst (AllFollow start) (sym (append-nil log)) all
    exchange-follows (wanted.Fetch at) time log now h all = subst (AllFollow start) (sym (append-nil log)) all
    exchange-follows (wanted.Operand at) time log now h all = subst (AllFollow start) (sym (append-nil log)) all
    exchange-follows wanted.Nothing time log now h all = subst (AllFollow start) (sym (append-nil log)) all

-- ---- the plain run

module _ (law : PortLaw) (p : Opening) where
  -- after so many times each word that was read follows from the log, and as long as it goes on so do the devices
  pub record Plainly (n : ℕ) (w : World) : Type 0 where
    pub follow : AllFollow p.unplugs (start p.unplugs p.devices) w.plain.log
    pub begun : w.plain.stop ≡ None → Begun p.unplugs p.devices n w.plain.log w.devices

  time-goes : (n : ℕ) (w : World) (stop : Option Stop) → w.plain.stop ≡ stop → (w.plain.stop ≡ None → w.plain.times ≡ n) → Plainly n w
      → Plainly (suc n) (time_by stop p.unplugs w)
  time-goes n w (Some why) is times h = record { follow = h.follow; begun = λ none. absurd (cc (is, none)) }
  time-goes n w None is times h =
      let q = w.plain in
      let left = plugged p.unplugs q.times w.devices in
      let leaves = law q left is in
      let x = made q.stop q.hold q in
      let before = h.begun is in
      let time = times is in
      let begins : Begun p.unplugs p.devices (suc q.times) q.log left = record {
        few = let few = before.few in omega (arith, few, time);
        are =
            (λ i. plugged p.unplugs (time i) (before.are i)) ∙ sym (on-next p.unplugs (left-by p.unplugs p.devices q.log) n before.few)
            ∙ ap (λ (k : ℕ). on-to p.unplugs (suc k) (left-by p.unplugs p.devices q.log)) (sym time);
      } in
      let log : (time_by None p.unplugs w).plain.log ≡ q.log ++ line-at x left q.times = leaves.log ∙ log-line x q.log left q.times in
      let next : Begun p.unplugs p.devices (suc q.times) (time_by None p.unplugs w).plain.log (time_by None p.unplugs w).devices =
      subst (λ (l : List Exchange). Begun p.unplugs p.devices (suc q.times) l (time_by None p.unplugs w).devices) (sym log)
      (subst (Begun p.unplugs p.devices (suc q.times) (q.log ++ line-at x left q.times)) (sym leaves.devices) (begun-more p.unplugs p.devices x q.times q.log left begins)) in
      record {
        follow = subst (AllFollow p.unplugs (start p.unplugs p.devices)) (sym log) (exchange-follows p.unplugs p.devices x q.times q.log left begins h.follow);
        begun = λ none. subst (λ (k : ℕ). Begun p.unplugs p.devices (suc k) (time_by None p.unplugs w).plain.log (time_by None p.unplugs w).devices) time next;
      }

  pub plainly : (n : ℕ) → Plainly n (run p n)
  plainly zero = record { follow = tt; begun = λ none. record { few = omega arith; are = refl } }
  plainly (suc n) = time-goes n (run p n) (run p n).plain.stop refl (times-count law p n) (plainly n)
