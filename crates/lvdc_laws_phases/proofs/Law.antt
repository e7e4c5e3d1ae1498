-- The law of the three phases over a bus, by the exchange that is wished for.
use Rattle.std.proofs.Common.{◌≡◌, ℕ, ◌%◌, ◌^◌, true, List, refl, ap, ◌∙◌, arith, subst}
use Rattle.std.proofs.lemmas.Bool.{cond-true, false≢true}
use Rattle.std.specs.declared.option.Option.TheVariants.{None, Some}
use Rattle.lvdc_map.specs.declared.place.Place.{Place}
use Rattle.lvdc_map.specs.declared.place.Place.TheVariants.{Memory, Pq, Saver}
use Rattle.lvdc_isa.specs.Instr.{takes_operand}
use Rattle.lvdc_isa.specs.declared.op.Op.{Op}
use Rattle.lvdc_isa.specs.declared.op.Op.TheVariants.{Pio}
use Rattle.lvdc_port.specs.Device.{Device}
use Rattle.lvdc_port.specs.Devices.{exchange_word}
use Rattle.lvdc_port.specs.declared.requests.PortRequest.TheVariants.{Read}
use Rattle.lvdc_plain.specs.Plain.{PlainState}
use Rattle.lvdc_plain.specs.Table.{fetched_instr, operand_place, device_time}
use Rattle.lvdc_map.specs.Hop.{fetch_of}
use Rattle.lvdc_plain.specs.Accesses.{address_of_place, accessed, operand_of}
use Rattle.lvdc_modules.specs.declared.bus.Bus.{Bus}
use Rattle.lvdc_modules.specs.declared.wanted.Wanted.{Wanted}
use Rattle.lvdc_modules.specs.declared.wanted.Wanted.TheVariants.{Fetch, Operand}
use Rattle.lvdc_modules.specs.Wish.{wish}
use Rattle.lvdc_laws_phases.specs.Exchanges.{read_wish, made_by, made, IsAnswered}
use Rattle.lvdc_laws_phases.specs.Standing.{FirstLaw, SecondLaw, ThirdLaw}
use Rattle.lvdc_laws_phases.specs.Work.{UnitIsRight}
use Rattle.lvdc_laws_phases.proofs.ByOperation.{reads_port}
use Rattle.lvdc_laws_phases.proofs.Before.{IsFound, first_by, second_by}
use Rattle.lvdc_laws_phases.proofs.Executes.{third_by}
use Rattle.lvdc_laws_phases.proofs.Wishes.{wishes}

-- the answer to one wish is that to another which is the same
pub answers : (x y : Wanted) (b : Bus) (p : PlainState) (devices : List Device) → x ≡ y → IsAnswered x b p devices → IsAnswered y b p devices
answers x y b p devices e = subst (λ (w : Wanted). IsAnswered w b p devices) e

-- phase A of the law: with the word that the fetch brings
pub first_law : UnitIsRight → FirstLaw
first_law right b p devices memory port stop s words answered =
    first_by right p.hold b p memory port refl s words
    (λ z. answers (wish b p.banks) (read_wish Fetch (accessed None 0 (Some (fetch_of p.banks p.place)))) b p devices
    (wishes 0 b p (omega arith) stop s ∙ (λ i. read_wish Fetch (accessed (stop i) (z i) (Some (fetch_of p.banks p.place))))) answered)

-- the operand that is answered is found
found : (place : Place) (b : Bus) (p : PlainState) (devices : List Device) → IsAnswered (read_wish Operand (address_of_place place)) b p devices → IsFound place b p
found (Memory at) b p devices h = h
found (Saver at) b p devices h = h
found Pq b p devices h = tt

-- phase B of the law: with the word that the operand brings
pub second_law : UnitIsRight → SecondLaw
second_law right b p devices memory port stop s answered =
    second_by right p.hold b p memory port refl s
    (λ z t. found (operand_place p (fetched_instr p).address) b p devices
    (answers (wish b p.banks) (read_wish Operand (address_of_place (operand_place p (fetched_instr p).address))) b p devices
    (wishes 1 b p (omega arith) stop s ∙ (λ i. read_wish Operand (accessed (stop i) (z i) (operand_of p (fetched_instr p))))
    ∙ ap (read_wish Operand) (cond-true (takes_operand (fetched_instr p).op) (address_of_place (operand_place p (fetched_instr p).address)) None t)) answered))

-- what a port read answers
read_there : (op : Op) (b : Bus) (p : PlainState) (devices : List Device) (address : ℕ) → reads_port op address ≡ true
    → IsAnswered (made_by op p address) b p devices → b.port ≡ exchange_word (Read (address % 2 ^ 8)) (device_time p) devices
read_there Pio b p devices address t h = rw t at h
read_there _ b p devices address t h = absurd (false≢true t)

-- phase C of the law: the time is made
pub third_law : UnitIsRight → ThirdLaw
third_law right b p devices memory port stop s words answered =
    third_by right b p devices memory port stop s words
    (λ z t. read_there (fetched_instr p).op b p devices (fetched_instr p).address t
    (answers (wish b p.banks) (made_by (fetched_instr p).op p (fetched_instr p).address) b p devices
    (wishes 2 b p (omega arith) stop s ∙ (λ i. made (stop i) (z i) p)) answered))
