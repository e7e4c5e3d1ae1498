-- One time of the machine goes on by one time of the run.
use Rattle.std.proofs.Common.{◌≡◌, ℕ, zero, suc, ◌+◌, ◌-◌, ◌*◌, ◌%◌, ◌^◌, ◌<◌, List, refl, sym, ◌∙◌, ap, subst, arith, add-one, add-zero}
use Rattle.std.specs.Bool.{if◌then◌else◌}
use Rattle.std.specs.declared.option.Option.{Option}
use Rattle.std.specs.declared.option.Option.TheVariants.{None, Some}
use Rattle.lvdc_isa.specs.Instr.{takes_operand}
use Rattle.lvdc_isa.specs.declared.instr.Instr.{Instr}
use Rattle.lvdc_port.specs.Device as device
use Rattle.lvdc_port.specs.Device.{word_of_time}
use Rattle.lvdc_port.specs.declared.requests.PortRequest.{PortRequest}
use Rattle.lvdc_plain.proofs.Runs.{time-stopped}
use Rattle.lvdc_plain.specs.Plain.{PlainState, World}
use Rattle.lvdc_plain.specs.Processor.{Holds, end_of}
use Rattle.lvdc_plain.specs.Run.{Opening, plugged, time, run}
use Rattle.lvdc_plain.specs.Stands.{Shows, Names, request_at, IsRunning, EndsAs, Stands}
use Rattle.lvdc_plain.specs.Table.{fetched_instr, operand_place, word_of_place, request_by, answered, exchanged, makes, waits, executes}
use Rattle.lvdc_plain.specs.View.{View}
use Rattle.lvdc_plain.specs.declared.records.PlainEnd.{PlainEnd}
use Rattle.lvdc_plain.specs.declared.records.PlainEnd.TheVariants.{Done, Stopped, Device}
use Rattle.lvdc_plain.specs.declared.records.Stop.{Stop}
use Rattle.lvdc_plain.specs.declared.records.Unplug.{Unplug}

-- a processor with the registers and the words that a machine shows holds the state
pub holds_shown : {m : View} {p : PlainState} → Shows m p →
    Holds (record { banks = m.banks; place = m.place; a = m.a; pq = m.pq; saver = m.saver; pending = m.pending; hold = m.hold; words = m.words }) p
holds_shown h =
    record { banks = h.banks; place = h.place; a = h.a; pq = h.pq; saver = h.saver; pending = h.pending; hold = h.hold; memory = h.memory }

-- a state is shown whatever end is kept
shows_with : {m : View} {p : PlainState} (end : Option PlainEnd) → Shows m p → Shows (record m { end = end }) p
shows_with end h =
    record {
      banks = h.banks;
      place = h.place;
      a = h.a;
      pq = h.pq;
      saver = h.saver;
      pending = h.pending;
      hold = h.hold;
      memory = h.memory;
      log = h.log;
      times = h.times;
    }

-- a machine that keeps no end runs
running : (o : Opening) (t : ℕ) (m : View) (ds : List device.Device) → Stands o t m ds → m.end ≡ None → IsRunning o t m ds
running o t m ds h none = subst (λ e. EndsAs o t m ds e) none h.ends

-- a time of a hold, and a time of an instruction
time-waits : (us : List Unplug) (w : World) (hold : ℕ) → w.plain.stop ≡ None → w.plain.hold ≡ suc hold →
    time us w ≡ record { plain = waits hold w.plain; devices = plugged us w.plain.times w.devices }
time-waits us w hold runs held = rw (runs, held)

time-executes : (us : List Unplug) (w : World) → w.plain.stop ≡ None → w.plain.hold ≡ 0 →
    time us w ≡ executes (fetched_instr w.plain) w.plain (plugged us w.plain.times w.devices)
time-executes us w runs free = rw (runs, free)

-- the devices that are left are those of the run
left_run : (o : Opening) (t : ℕ) (m : View) (ds left : List device.Device) → Stands o t m ds → IsRunning o t m ds →
    left ≡ plugged m.unplugs m.times ds → left ≡ plugged o.unplugs (run o t).plain.times (run o t).devices
left_run o t m ds left h now is =
    is ∙ ap (λ us. plugged us m.times ds) h.unplugs ∙ ap (λ n. plugged o.unplugs n ds) now.shows.times
    ∙ ap (λ d. plugged o.unplugs (run o t).plain.times d) now.left

-- it waits
pub stands-wait : (o : Opening) (t : ℕ) (m new : View) (ds left : List device.Device) →
    Stands o t m ds → m.end ≡ None → 0 < m.hold → left ≡ plugged m.unplugs m.times ds →
    ((p : PlainState) → Shows m p → Shows new (waits (m.hold - 1) p)) →
    new.end ≡ m.end → new.unplugs ≡ m.unplugs → new.times ≡ m.times + 1 → Stands o (t + 1) new left
stands-wait o t m new ds left h none held is goes end unplugs times =
    let now = running o t m ds h none in
    let had : m.hold ≡ (run o t).plain.hold = now.shows.hold in
    let more : (run o t).plain.hold ≡ suc (m.hold - 1) = omega arith in
    let next : run o (t + 1) ≡ record { plain = waits (m.hold - 1) (run o t).plain; devices = plugged o.unplugs (run o t).plain.times (run o t).devices } =
    rw add-one (time-waits o.unplugs (run o t) (m.hold - 1) now.stop more) in
    let runs : IsRunning o (t + 1) new left = record {
      shows = subst (λ w. Shows new w.plain) (sym next) (goes (run o t).plain now.shows);
      left = left_run o t m ds left h now is ∙ ap (λ w. w.devices) (sym next);
      stop = ap (λ w. w.plain.stop) next ∙ now.stop;
      times = times ∙ ap (λ n. n + 1) now.times;
    } in
    record {
      unplugs = unplugs ∙ h.unplugs;
      ends = subst (λ e. EndsAs o (t + 1) new left e) (sym (end ∙ none)) runs;
    }

-- where a machine is that has made a time
ends_made : (o : Opening) (t before : ℕ) (m : View) (ds : List device.Device) (stop : Option Stop) →
    Shows m (run o t).plain → ds ≡ (run o t).devices → (run o t).plain.stop ≡ stop → m.times ≡ t → before + 1 ≡ t →
    EndsAs o t m ds (end_of before stop)
ends_made o t before m ds None shows left stops times more =
    record { shows = shows; left = left; stop = stops; times = times }
ends_made o t before m ds (Some stop) shows left stops times more =
    record { shows = shows; left = left; stop = stops; step = omega arith }

-- the world after an instruction that took this word, its exchange answered
world_made : (p : PlainState) (i j : Instr) (word : ℕ) (left devices : List device.Device) (request : Option PortRequest) (answer : ℕ) →
    i ≡ j → request ≡ request_by i.op p i.address → answer ≡ answered request (word_of_time p.times) left →
    devices ≡ exchanged request left →
    word ≡ (if takes_operand i.op then word_of_place p (operand_place p i.address) else answer) →
    executes j p left ≡ record { plain = makes i p word; devices = devices }
world_made p i j word left devices request answer fetch asks answers does takes =
    let reply : answer ≡ answered (request_by i.op p i.address) (word_of_time p.times) left =
    answers ∙ ap (λ r. answered r (word_of_time p.times) left) asks in
    let took : (if takes_operand i.op then word_of_place p (operand_place p i.address) else answered (request_by i.op p i.address) (word_of_time p.times) left) ≡ word =
    sym (takes ∙ ap (λ n. if takes_operand i.op then word_of_place p (operand_place p i.address) else n) reply) in
    let did : exchanged (request_by i.op p i.address) left ≡ devices =
    sym (does ∙ ap (λ r. exchanged r left) asks) in
    ap (λ k. executes k p left) (sym fetch) ∙ (λ x. record { plain = makes i p (took x); devices = did x })

-- it makes an instruction
pub stands-go : (o : Opening) (t : ℕ) (m new : View) (ds left devices : List device.Device) (i : Instr) (word : ℕ)
    (request : Option PortRequest) (answer : ℕ) →
    Stands o t m ds → m.end ≡ None → m.hold ≡ 0 → left ≡ plugged m.unplugs m.times ds →
    ((p : PlainState) → Shows m p → i ≡ fetched_instr p) →
    ((p : PlainState) → Shows m p → request ≡ request_by i.op p i.address) →
    answer ≡ answered request (word_of_time m.times) left → devices ≡ exchanged request left →
    ((p : PlainState) → Shows m p → word ≡ (if takes_operand i.op then word_of_place p (operand_place p i.address) else answer)) →
    ((p : PlainState) → Shows m p → p.stop ≡ None → Shows new (makes i p word)) →
    ((p : PlainState) → p.stop ≡ None → new.end ≡ end_of m.times (makes i p word).stop) →
    new.unplugs ≡ m.unplugs → new.times ≡ m.times + 1 → Stands o (t + 1) new devices
stands-go o t m new ds left devices i word request answer h none free is fetch asks answers does takes goes end unplugs times =
    let now = running o t m ds h none in
    let p = (run o t).plain in
    let lines : left ≡ plugged o.unplugs (run o t).plain.times (run o t).devices = left_run o t m ds left h now is in
    let told : answer ≡ answered request (word_of_time (run o t).plain.times) left =
    answers ∙ ap (λ n. answered request (n % 2 ^ 26) left) now.shows.times in
    let next : run o (t + 1) ≡ record { plain = makes i (run o t).plain word; devices = devices } =
    rw add-one (time-executes o.unplugs (run o t) now.stop (sym now.shows.hold ∙ free)
    ∙ ap (λ d. executes (fetched_instr (run o t).plain) (run o t).plain d) (sym lines)
    ∙ world_made (run o t).plain i (fetched_instr (run o t).plain) word left devices request answer
    (fetch (run o t).plain now.shows) (asks (run o t).plain now.shows) told does (takes (run o t).plain now.shows)) in
    let made : EndsAs o (t + 1) new devices (end_of m.times (makes i (run o t).plain word).stop) =
    ends_made o (t + 1) m.times new devices (makes i (run o t).plain word).stop
    (subst (λ w. Shows new w.plain) (sym next) (goes (run o t).plain now.shows now.stop))
    (ap (λ w. w.devices) (sym next)) (ap (λ w. w.plain.stop) next)
    (times ∙ ap (λ n. n + 1) now.times) (ap (λ n. n + 1) now.times) in
    record {
      unplugs = unplugs ∙ h.unplugs;
      ends = subst (λ e. EndsAs o (t + 1) new devices e) (sym (end (run o t).plain now.stop)) made;
    }

-- its device fails
pub stands-fail : (o : Opening) (t : ℕ) (m : View) (ds left : List device.Device) (i : Instr) (request : Option PortRequest) (port : ℕ) →
    Stands o t m ds → m.end ≡ None → m.hold ≡ 0 → left ≡ plugged m.unplugs m.times ds →
    ((p : PlainState) → Shows m p → i ≡ fetched_instr p) →
    ((p : PlainState) → Shows m p → request ≡ request_by i.op p i.address) →
    Names request port → Stands o (t + 1) (record m { end = Some (Device (3 * m.times + 2) port) }) left
stands-fail o t m ds left i request port h none free is fetch asks names =
    let now = running o t m ds h none in
    let same : t ≡ m.times = sym now.times in
    let asked : request ≡ request_at (run o t).plain =
    asks (run o t).plain now.shows ∙ ap (λ j. request_by j.op (run o t).plain j.address) (fetch (run o t).plain now.shows) in
    let lines : left ≡ plugged o.unplugs m.times (run o t).devices =
    left_run o t m ds left h now is ∙ ap (λ n. plugged o.unplugs n (run o t).devices) (sym now.shows.times) in
    record {
      unplugs = h.unplugs;
      ends = record {
        early = omega arith;
        shows = subst (λ n. Shows (record m { end = Some (Device (3 * m.times + 2) port) }) (run o n).plain) same
            (shows_with (Some (Device (3 * m.times + 2) port)) now.shows);
        left = subst (λ n. left ≡ plugged o.unplugs m.times (run o n).devices) same lines;
        stop = subst (λ n. (run o n).plain.stop ≡ None) same now.stop;
        hold = subst (λ n. (run o n).plain.hold ≡ 0) same (sym now.shows.hold ∙ free);
        step = refl;
        asked = subst (λ n. Names (request_at (run o n).plain) port) same (subst (λ r. Names r port) asked names);
      };
    }

-- an end is kept
ends-kept : (o : Opening) (t : ℕ) (m : View) (ds : List device.Device) (end : PlainEnd) →
    EndsAs o t m ds (Some end) → EndsAs o (t + 1) m ds (Some end)
ends-kept o t m ds (Stopped step stop) h =
    let same : run o t ≡ run o (t + 1) = rw add-one (sym (time-stopped o.unplugs (run o t) stop h.stop)) in
    record {
      shows = subst (λ w. Shows m w.plain) same h.shows;
      left = subst (λ w. ds ≡ w.devices) same h.left;
      stop = subst (λ w. w.plain.stop ≡ Some stop) same h.stop;
      step = h.step;
    }
ends-kept o t m ds (Device step port) h =
    let before : m.times < t = h.early in
    record { early = omega arith; shows = h.shows; left = h.left; stop = h.stop; hold = h.hold; step = h.step; asked = h.asked }
ends-kept o t m ds Done h = h

pub stands-kept : (o : Opening) (t : ℕ) (m : View) (ds : List device.Device) (end : PlainEnd) →
    m.end ≡ Some end → Stands o t m ds → Stands o (t + 1) m ds
stands-kept o t m ds end kept h =
    record {
      unplugs = h.unplugs;
      ends = subst (λ e. EndsAs o (t + 1) m ds e) (sym kept)
          (ends-kept o t m ds end (subst (λ e. EndsAs o t m ds e) kept h.ends));
    }

-- for any number of times
pub stands-kept-for : (o : Opening) (t n : ℕ) (m : View) (ds : List device.Device) (end : PlainEnd) →
    m.end ≡ Some end → Stands o t m ds → Stands o (t + n) m ds
stands-kept-for o t zero m ds end kept h = subst (λ k. Stands o k m ds) (sym (add-zero t)) h
stands-kept-for o t (suc n) m ds end kept h =
    subst (λ k. Stands o k m ds) (omega arith) (stands-kept o (t + n) m ds end kept (stands-kept-for o t n m ds end kept h))

-- one more time, and an end before the last one
pub stands-next : (o : Opening) (t k : ℕ) (m : View) (ds : List device.Device) → Stands o (t + k + 1) m ds → Stands o (t + (k + 1)) m ds
stands-next o t k m ds h = subst (λ n. Stands o n m ds) (omega arith) h

pub stands-early : (o : Opening) (t k n : ℕ) (m : View) (ds : List device.Device) (end : PlainEnd) →
    Some end ≡ m.end → k < n → Stands o (t + k + 1) m ds → Stands o (t + n) m ds
stands-early o t k n m ds end kept within h =
    let same : t + k + 1 + (n - (k + 1)) ≡ t + n = omega arith in
    subst (λ j. Stands o j m ds) same (stands-kept-for o (t + k + 1) (n - (k + 1)) m ds end (sym kept) h)

pub stands-at : (o : Opening) (t k n : ℕ) (m : View) (ds : List device.Device) → k ≡ n → Stands o (t + k) m ds → Stands o (t + n) m ds
stands-at o t k n m ds same h = subst (λ j. Stands o (t + j) m ds) same h
