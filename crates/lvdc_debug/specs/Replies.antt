-- How a session is answered over devices that may fail, and what a want of memory leaves of them.
use Rattle.std.specs.Prelude.{◌≡◌, ℕ, ◌≤◌, true, List, length, map, take, Ok, Err, Option, None, Some}
use Rattle.lvdc_port.specs.Device.{Device}
use Rattle.lvdc_port.specs.Supplies.{supplied}
use Rattle.lvdc_deck.specs.Deck.{deck_of}
use Rattle.lvdc_deck.specs.declared.deck.Deck.{Deck}
use Rattle.lvdc_deck.specs.declared.fault.DeckFault.{DeckFault}
use Rattle.lvdc_reply.specs.Answer.{Answer}
use Rattle.lvdc_reply.specs.Replies.{Quiet, RoseAt, OthersQuiet, IsReply}
use Rattle.lvdc_command_run.specs.Runs.{ExchangesAdmitted}
use Rattle.lvdc_command_run.specs.Refusals.{refused_answer}
use Rattle.lvdc_command_run.specs.Trials.{trial_of}
use Rattle.lvdc_debug.specs.Session.{Failure, times_asked}
use Rattle.lvdc_debug.specs.Standing.{command_texts}
use Rattle.lvdc_debug.specs.Answers.{subject_of, asked_in, devices_after, whole_session, failed_session, session_answer}

-- ---- sessions

-- How a deck's session ends over these devices: all is as the session says; or a device failed in an exchange of the times that were
-- asked for, and no other that is left has failed.
pub data IsSession {B : Type 0} (device_of : B → Device) (faults : B → ℕ) (bytes : List ℕ) (deck : Deck) (old new : List B) : Answer → Type 0 where
  made : Quiet device_of faults old new → IsSession device_of faults bytes deck old new (whole_session bytes (map device_of old) deck)
  failed : (f : Failure)
      → ExchangesAdmitted (trial_of (map device_of old) deck) (asked_in (Some f) bytes (map device_of old) deck) f.step f.port
      → RoseAt device_of faults f.port old new → OthersQuiet device_of faults f.port old new
      → IsSession device_of faults bytes deck old new (failed_session bytes (map device_of old) deck f)

-- How the bytes are answered: they are refused, and the devices are the same objects as before; or their deck has its session.
pub data IsAnswered {B : Type 0} (device_of : B → Device) (faults : B → ℕ) (bytes : List ℕ) (old new : List B) : Answer → Type 0 where
  refused : (fault : DeckFault) → deck_of bytes (map device_of old) true ≡ Err fault → new ≡ old
      → IsAnswered device_of faults bytes old new (refused_answer (map device_of old) fault)
  debugged : (deck : Deck) (due : Answer) → deck_of bytes (map device_of old) true ≡ Ok deck → IsSession device_of faults bytes deck old new due
      → IsAnswered device_of faults bytes old new due

-- ---- the answer

-- this is the answer where the device at this port fails in this step, and the times asked for make that exchange
pub record FailsInSession (bytes : List ℕ) (devices : List Device) (step port : ℕ) (reply : Answer) : Type 0 where
  pub deck : Deck
  pub means : deck_of bytes devices true ≡ Ok deck
  pub exchanges : ExchangesAdmitted (trial_of devices deck) (asked_in (Some (record { step = step; port = port })) bytes devices deck) step port
  pub is : reply ≡ failed_session bytes devices deck (record { step = step; port = port })

-- how a session is answered over these bytes and devices
abbrev pub IsSessionReply : {B : Type 0} → (B → Device) → (B → ℕ) → List ℕ → List B → List B → Answer → Type 0
IsSessionReply device_of faults bytes old new reply =
    IsReply device_of faults (session_answer bytes (map device_of old)) (FailsInSession bytes (map device_of old)) old new reply

-- ---- want of memory

-- no device failed, or this one did, and no other that is left
abbrev pub FailsBy : {B : Type 0} → (B → Device) → (B → ℕ) → Option Failure → List B → List B → Type 0
FailsBy device_of faults None old new = Quiet device_of faults old new
FailsBy device_of faults (Some f) old new = RoseAt device_of faults f.port old new × OthersQuiet device_of faults f.port old new

-- What a want of memory leaves of the devices of a deck's session: words of its TAPE lines were supplied, the first so many or all,
-- and no count has grown; or they are as after the times for which the first so many commands ask.
pub data IsUnwritten {B : Type 0} (device_of : B → Device) (faults : B → ℕ) (bytes : List ℕ) (deck : Deck) (old new : List B) : Type 0 where
  supplying : (count : ℕ) → map device_of new ≡ supplied (take count deck.supplies) (map device_of old) → Quiet device_of faults old new
      → IsUnwritten device_of faults bytes deck old new
  amid : (failure : Option Failure) (count : ℕ) → count ≤ length (command_texts bytes deck.commands)
      → map device_of new ≡ devices_after failure (map device_of old) deck
      (times_asked (subject_of failure (map device_of old) deck) (take count (command_texts bytes deck.commands)))
      → FailsBy device_of faults failure old new → IsUnwritten device_of faults bytes deck old new

-- What it leaves of the devices of a session over these bytes: they are the same objects as before; or the session was begun.
pub data IsUnanswered {B : Type 0} (device_of : B → Device) (faults : B → ℕ) (bytes : List ℕ) (old new : List B) : Type 0 where
  untouched : new ≡ old → IsUnanswered device_of faults bytes old new
  begun : (deck : Deck) → deck_of bytes (map device_of old) true ≡ Ok deck → IsUnwritten device_of faults bytes deck old new
      → IsUnanswered device_of faults bytes old new
