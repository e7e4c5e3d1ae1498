-- The laws of one step, by name, and all of them in one record, from which the laws of whole runs follow.
use Rattle.std.specs.Prelude.{◌≡◌, ℕ, suc, ◌+◌, ◌<◌, ◌^◌, Bool, true, List, map}
use Rattle.std.specs.declared.option.Option.TheVariants.{None, Some}
use Rattle.lvdc_map.specs.Address.{Spot}
use Rattle.lvdc_map.specs.Banks.{bank_of, holds, HasBank}
use Rattle.lvdc_map.specs.Memory.{word_at}
use Rattle.lvdc_port.specs.Device.{Device}
use Rattle.lvdc_port.specs.Devices.{exchange_word, after_exchange, without, HoldWords, CarriesWord}
use Rattle.lvdc_port.specs.declared.requests.PortRequest.{PortRequest}
use Rattle.lvdc_vote.specs.Copies.{Copies, vote_of}
use Rattle.lvdc_modules.specs.Rows.{rows, bus_of}
use Rattle.lvdc_plain.specs.Plain.{PlainState}
use Rattle.lvdc_plain.specs.Run.{Opening, run}
use Rattle.lvdc_plain.specs.Table.{step}
use Rattle.lvdc_plain.specs.declared.records.Stop.{Stop}
use Rattle.lvdc_fault.specs.Recoverable.{is_recovered}
use Rattle.lvdc_fault.specs.Script.{is_wrong, wrong_module}
use Rattle.lvdc_fault.specs.declared.event.Event.{Event}
use Rattle.lvdc_laws_phases.specs.Exchanges.{made}
use Rattle.lvdc_laws_phases.specs.Standing.{PhaseLaw}
use Rattle.lvdc_laws_phases.specs.States.{Fits, after_phase}
use Rattle.lvdc_model.specs.Trial.{Trial, plain_in, read_at, store_at}
use Rattle.lvdc_model.specs.Twins.{Twins, after_store}
use Rattle.lvdc_model.specs.Voted.{next_copies}
use Rattle.lvdc_model.specs.Exchanges.{damages}
use Rattle.lvdc_model.specs.Judging.{is_recoverable}
use Rattle.lvdc_laws_voted.specs.Copies.{Agree}
use Rattle.lvdc_laws_voted.specs.Cells.{StoresBefore, StoresDamaged, ReadsPlain}
use Rattle.lvdc_laws_voted.specs.Leaves.{LeavesByExchange}

-- where the copies that are not wrong are these states, the votes are the states
abbrev pub VotesLaw : Type 0
VotesLaw = (wrong : ℕ → ℕ → Bool) (m : ℕ) (copies : List Copies) (states : List (List ℕ)) → Agree wrong m copies states → map vote_of copies ≡ states

-- in a step in which no module has two wrong copies, those that are not wrong then latch the rows of the votes
abbrev pub CopiesLaw : Type 0
CopiesLaw =
    (script : List Event) (step : ℕ) (wrong : ℕ → ℕ → Bool) (copies : List Copies) (states : List (List ℕ)) (memory port : ℕ)
    → Fits rows states → wrong_module script step ≡ None → Agree wrong 1 copies states
    → Agree (is_wrong script step) 1 (next_copies script step 1 rows copies copies (bus_of (map vote_of copies) memory port)) (after_phase states memory port)

-- the damage of a step leaves the cells that it leaves by definition
abbrev pub DamageLaw : Type 0
DamageLaw = (o : Trial) (step : ℕ) (t : Twins) → StoresBefore o step t → StoresDamaged o step (damages step o.script t)

-- a read of a recoverable address gives the plain word, whichever twin is selected, and leaves the cells before the next step
abbrev pub ReadLaw : Type 0
ReadLaw =
    (o : Trial) (step : ℕ) (t : Twins) (at : Spot) → HasBank o.opening.banks at → StoresDamaged o step t
    → read_at o step ≡ Some at → store_at o step ≡ None → is_recoverable o step at ≡ true → word_at (plain_in o step).memory at < 2 ^ 26
    → ReadsPlain o step t at

-- what can be recovered is said by what the twins that hold the address show
abbrev pub HoldersLaw : Type 0
HoldersLaw =
    (banks : ℕ) (at : Spot) (w : ℕ) (x y : ℕ → ℕ) → HasBank banks at → ((twin : ℕ) → twin < 2 → holds banks twin at ≡ true → x twin ≡ y twin)
    → is_recovered banks at w x ≡ is_recovered banks at w y

-- a store leaves the cells before the next step
abbrev pub StoreLaw : Type 0
StoreLaw =
    (o : Trial) (step : ℕ) (t : Twins) (at : Spot) (w : ℕ) → StoresDamaged o step t
    → read_at o step ≡ None → store_at o step ≡ Some (record { at = at; word = w })
    → StoresBefore o (suc step) (after_store o step at w t)

-- so does a step that neither reads nor stores
abbrev pub IdleLaw : Type 0
IdleLaw =
    (o : Trial) (step : ℕ) (t : Twins) → read_at o step ≡ None → store_at o step ≡ None
    → StoresDamaged o step t → StoresBefore o (suc step) t

-- what a plain time leaves, it leaves by its one exchange
abbrev pub PortLaw : Type 0
PortLaw = (p : PlainState) (devices : List Device) → p.stop ≡ None → LeavesByExchange (made p.stop p.hold p) p devices (step p devices)

-- devices that hold words answer words, and hold words after an exchange and after one was taken away
pub record DeviceWords : Type 0 where
  pub answer : (request : PortRequest) (time : ℕ) (devices : List Device) → HoldWords devices → time < 2 ^ 26 → exchange_word request time devices < 2 ^ 26
  pub exchange : (request : PortRequest) (devices : List Device) → HoldWords devices → CarriesWord request → HoldWords (after_exchange request devices)
  pub unplug : (port : ℕ) (devices : List Device) → HoldWords devices → HoldWords (without (λ device. device) port devices)

-- the bank that the number of a module means is there
abbrev pub BankLaw : Type 0
BankLaw = (banks number : ℕ) (at : Spot) → number < 8 → at.pair ≡ bank_of banks number → HasBank banks at

-- a plain run that has stopped stays where it is
abbrev pub StopLaw : Type 0
StopLaw = (o : Opening) (times more : ℕ) (stop : Stop) → (run o times).plain.stop ≡ Some stop → run o (times + more) ≡ run o times

-- the laws of one step
pub record StepLaws (Stands : ℕ → List (List ℕ) → PlainState → Type 0) : Type 0 where
  pub votes : VotesLaw
  pub copies : CopiesLaw
  pub damage : DamageLaw
  pub read : ReadLaw
  pub holders : HoldersLaw
  pub store : StoreLaw
  pub idle : IdleLaw
  pub ports : PortLaw
  pub devices : DeviceWords
  pub banks : BankLaw
  pub stopped : StopLaw
  pub phases : PhaseLaw Stands
