-- The modules wish for the exchanges of the plain machine's time.
use Rattle.std.proofs.Common.{rules, ◌≡◌, ℕ, zero, suc, ◌+◌, ◌%◌, ◌^◌, ◌<◌, ◌==◌, ◌≢◌, Bool, true, false, if◌then◌else◌, refl, ap, sym, ◌∙◌, arith}
use Rattle.std.proofs.lemmas.Bool.{cond_both, cond-true, cond-false, ne_eqb, eq-eqb}
use Rattle.std.specs.declared.option.Option.TheVariants.{None, Some}
use Rattle.lvdc_map.specs.Hop.{HopConstant, IsHopConstant, fetch_of}
use Rattle.lvdc_map.specs.Place.{a9, operand_kind, place_of}
use Rattle.lvdc_map.specs.declared.operand.OperandKind.{OperandKind}
use Rattle.lvdc_map.specs.declared.operand.OperandKind.TheVariants as kinds
use Rattle.lvdc_map.specs.declared.place.Place.{Place}
use Rattle.lvdc_map.specs.declared.place.Place.TheVariants as places
use Rattle.lvdc_isa.specs.Instr.{takes_operand}
use Rattle.lvdc_isa.specs.declared.instr.Instr.{Instr}
use Rattle.lvdc_isa.specs.declared.op.Op.{Op}
use Rattle.lvdc_isa.specs.declared.op.Op.TheVariants.{Pio, Sto}
use Rattle.lvdc_plain.specs.Plain.{PlainState}
use Rattle.lvdc_plain.specs.Table.{fetched_instr, operand_place}
use Rattle.lvdc_plain.specs.Accesses.{address_of_place, accessed, operand_of}
use Rattle.lvdc_modules.specs.declared.bus.Bus.{Bus}
use Rattle.lvdc_modules.specs.declared.request.Request.{Request}
use Rattle.lvdc_modules.specs.declared.request.Request.TheVariants as requests
use Rattle.lvdc_modules.specs.declared.request.Destination.{Destination}
use Rattle.lvdc_modules.specs.declared.wanted.Wanted.{Wanted}
use Rattle.lvdc_modules.specs.declared.wanted.Wanted.TheVariants.{Nothing, Fetch, Operand}
use Rattle.lvdc_modules.specs.Seen.{here, instruction, hold, phase_of}
use Rattle.lvdc_modules.specs.Request.{destination, destination_bits, destination_in, port_in, word_of_request, request_of, IsDestination, IsRequest}
use Rattle.lvdc_modules.specs.Exchange.{store_request, requested}
use Rattle.lvdc_modules.specs.Wish.{operand_wish, request_wish, instruction_wish, wish_in, wish}
use Rattle.lvdc_laws_phases.specs.Phase.{IsPhase, fetched_syllable, request_due}
use Rattle.lvdc_laws_phases.specs.Exchanges.{read_wish, made_by, made, exchange_in}
use Rattle.lvdc_laws_phases.proofs.Seen.{here-is, instruction-is, held}

-- ---- a request is read back from its word

-- a destination is read back from its bits, whatever the kind beside them
destination_again : (k : ℕ) (t : Destination) → k < 8 → IsDestination t → destination_in (destination_bits t + k) ≡ t
destination_again k t small ok =
    let dmod : (destination_in (destination_bits t + k)).dmod ≡ t.dmod = omega (arith, ok.dmod, ok.sector, ok.loc) in
    let sector : (destination_in (destination_bits t + k)).sector ≡ t.sector = omega (arith, ok.dmod, ok.sector, ok.loc) in
    let loc : (destination_in (destination_bits t + k)).loc ≡ t.loc = omega (arith, ok.dmod, ok.sector, ok.loc) in
    λ i. record { dmod = dmod i; sector = sector i; loc = loc i }

-- a request is read back from its word
request_again : (r : Request) → IsRequest r → request_of (word_of_request r) ≡ r
request_again requests.Nothing ok = refl
request_again (requests.StoreA t) ok =
    let k : word_of_request (requests.StoreA t) % 8 ≡ 1 = omega arith in
    rw k (ap requests.StoreA (destination_again 1 t (omega arith) ok))
request_again (requests.StoreSaver t) ok =
    let k : word_of_request (requests.StoreSaver t) % 8 ≡ 2 = omega arith in
    rw k (ap requests.StoreSaver (destination_again 2 t (omega arith) ok))
request_again (requests.PortWrite port) ok =
    let k : word_of_request (requests.PortWrite port) % 8 ≡ 3 = omega arith in
    let e : port_in (word_of_request (requests.PortWrite port)) ≡ port = omega (arith, ok) in
    rw k (ap requests.PortWrite e)
request_again (requests.PortRead port) ok =
    let k : word_of_request (requests.PortRead port) % 8 ≡ 4 = omega arith in
    let e : port_in (word_of_request (requests.PortRead port)) ≡ port = omega (arith, ok) in
    rw k (ap requests.PortRead e)

-- ---- what an instruction requests is the plain exchange

destination_fits : (h : HopConstant) (address : ℕ) → IsHopConstant h → IsDestination (destination h address)
destination_fits h address ok =
    record {
      dmod = ok.dmod;
      sector = cond_both (a9 address) 15 h.dsec (λ x. x < 16) (λ _. omega arith) (λ _. ok.dsec);
      loc = omega arith;
    }

-- what an operation requests has its numbers in their ranges
store_fits : (k : OperandKind) (h : HopConstant) (address : ℕ) → IsHopConstant h → IsRequest (store_request k h address)
store_fits kinds.Memory h address ok = destination_fits h address ok
store_fits kinds.Pq h address ok = tt
store_fits kinds.Saver h address ok = destination_fits h address ok

requested_fits : (op : Op) (h : HopConstant) (address : ℕ) → IsHopConstant h → IsRequest (requested op h address)
requested_fits Sto h address ok = store_fits (operand_kind address) h address ok
requested_fits Pio h address ok =
    cond_both (a9 address) (requests.PortRead (address % 2 ^ 8)) (requests.PortWrite (address % 2 ^ 8)) IsRequest (λ _. omega arith) (λ _. omega arith)
requested_fits _ h address ok = tt

-- the bus has A and SAVER of the plain state
wish_made : (op : Op) (b : Bus) (p : PlainState) (address : ℕ) → b.accumulator.a ≡ p.a → b.locator.saver ≡ p.saver
    → request_wish (requested op p.place address) b p.banks ≡ made_by op p address
wish_made op b p address a saver = search rules

-- ---- the operand

-- the wish for an operand is a read where it stands in memory
wish_taken : (place : Place) → operand_wish place ≡ read_wish Operand (address_of_place place)
wish_taken (places.Memory at) = refl
wish_taken places.Pq = refl
wish_taken (places.Saver at) = refl

-- the same, by whether the operation takes an operand
wish_operand : (takes : Bool) (place : Place)
    → (if takes then operand_wish place else Nothing) ≡ read_wish Operand (if takes then address_of_place place else None)
wish_operand true place = wish_taken place
wish_operand false place = refl

-- ---- by phase and hold

-- nothing is wished for while a hold is left
waits_for : (n : ℕ) (b : Bus) (p : PlainState) (x : Wanted) → p.hold ≡ suc n → p.hold < 5 → b.timer.hold ≡ p.hold
    → (if hold b == 0 then x else Nothing) ≡ Nothing
waits_for n b p x e few h =
    let some : hold b ≢ 0 = omega (arith, held b n (h ∙ e) (omega (arith, e, few))) in
    cond-false (hold b == 0) x Nothing (ne_eqb _ _ some)

-- no hold is left
goes_for : (b : Bus) (p : PlainState) (x : Wanted) → p.hold ≡ 0 → b.timer.hold ≡ p.hold → (if hold b == 0 then x else Nothing) ≡ x
goes_for b p x z h =
    let none : hold b ≡ 0 = omega (arith, h, z) in
    cond-true (hold b == 0) x Nothing (eq-eqb _ _ none)

-- phase A wishes for the fetch, B for the operand, C for what was requested
wish_first : (h : ℕ) (b : Bus) (p : PlainState) → p.hold ≡ h → p.stop ≡ None → IsPhase 0 b p → wish b p.banks ≡ exchange_in 0 p
wish_first zero b p z stop s =
    (λ i. wish_in (phase_of (s.phase_is i)) b p.banks)
    ∙ goes_for b p (Fetch (fetch_of p.banks (here b))) z s.hold
    ∙ ap (λ (x : HopConstant). Fetch (fetch_of p.banks x)) (here-is b p.place s.in_range s.place s.data_place)
    ∙ (λ i. read_wish Fetch (accessed (sym stop i) (sym z i) (Some (fetch_of p.banks p.place))))
wish_first (suc n) b p e stop s =
    (λ i. wish_in (phase_of (s.phase_is i)) b p.banks)
    ∙ waits_for n b p (Fetch (fetch_of p.banks (here b))) e s.few s.hold
    ∙ (λ i. read_wish Fetch (accessed (sym stop i) (sym e i) (Some (fetch_of p.banks p.place))))

wish_second : (h : ℕ) (b : Bus) (p : PlainState) → p.hold ≡ h → p.stop ≡ None → IsPhase 1 b p → wish b p.banks ≡ exchange_in 1 p
wish_second zero b p z stop s =
    let h : here b ≡ p.place = here-is b p.place s.in_range s.place s.data_place in
    let i : instruction b ≡ fetched_instr p = instruction-is b (fetched_syllable p) (s.fetched (omega arith) z) s.syllable in
    (λ j. wish_in (phase_of (s.phase_is j)) b p.banks)
    ∙ goes_for b p (instruction_wish (instruction b) b p.banks) z s.hold
    ∙ (λ j. if takes_operand (i j).op then operand_wish (place_of p.banks (h j) (i j).address) else Nothing)
    ∙ wish_operand (takes_operand (fetched_instr p).op) (operand_place p (fetched_instr p).address)
    ∙ (λ j. read_wish Operand (accessed (sym stop j) (sym z j) (operand_of p (fetched_instr p))))
wish_second (suc n) b p e stop s =
    (λ i. wish_in (phase_of (s.phase_is i)) b p.banks)
    ∙ waits_for n b p (instruction_wish (instruction b) b p.banks) e s.few s.hold
    ∙ (λ i. read_wish Operand (accessed (sym stop i) (sym e i) (operand_of p (fetched_instr p))))

wish_third : (h : ℕ) (b : Bus) (p : PlainState) → p.hold ≡ h → p.stop ≡ None → IsPhase 2 b p → wish b p.banks ≡ exchange_in 2 p
wish_third zero b p z stop s =
    let n : Instr = fetched_instr p in
    (λ i. wish_in (phase_of (s.phase_is i)) b p.banks)
    ∙ (λ i. request_wish (request_of (s.request i)) b p.banks)
    ∙ (λ i. request_wish (request_of (request_due 2 (z i) p)) b p.banks)
    ∙ ap (λ (r : Request). request_wish r b p.banks) (request_again (requested n.op p.place n.address) (requested_fits n.op p.place n.address s.in_range))
    ∙ wish_made n.op b p n.address s.a s.saver
    ∙ (λ i. made (sym stop i) (sym z i) p)
wish_third (suc n) b p e stop s =
    (λ i. wish_in (phase_of (s.phase_is i)) b p.banks)
    ∙ (λ i. request_wish (request_of (s.request i)) b p.banks)
    ∙ (λ i. request_wish (request_of (request_due 2 (e i) p)) b p.banks)
    ∙ (λ i. made (sym stop i) (sym e i) p)

-- in each phase the wish is the exchange of the plain machine
pub wishes : (n : ℕ) (b : Bus) (p : PlainState) → n < 3 → p.stop ≡ None → IsPhase n b p → wish b p.banks ≡ exchange_in n p
wishes zero b p small stop s = wish_first p.hold b p refl stop s
wishes (suc zero) b p small stop s = wish_second p.hold b p refl stop s
wishes (suc (suc zero)) b p small stop s = wish_third p.hold b p refl stop s
wishes (suc (suc (suc n))) b p small stop s = absurd (omega (arith, small))
