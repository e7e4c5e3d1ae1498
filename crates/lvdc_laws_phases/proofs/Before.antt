-- The first two phases of an instruction time.
use Rattle.std.proofs.Common.{rules, ◌≡◌, ℕ, zero, suc, ◌/◌, ◌%◌, ◌^◌, ◌<◌, ◌==◌, true, ap, sym, ◌∙◌, arith, subst}
use Rattle.std.proofs.lemmas.Bool.{cond_both, cond-true}
use Rattle.std.specs.declared.option.Option.{Option}
use Rattle.std.specs.declared.option.Option.TheVariants.{None}
use Rattle.lvdc_map.specs.Hop.{HopConstant, fetch_of, syllable_at}
use Rattle.lvdc_map.specs.Memory.{word_at}
use Rattle.lvdc_map.specs.declared.place.Place.{Place}
use Rattle.lvdc_map.specs.declared.place.Place.TheVariants.{Memory, Pq, Saver}
use Rattle.lvdc_isa.specs.Instr.{takes_operand}
use Rattle.lvdc_mul.specs.Latches.{Latches}
use Rattle.lvdc_mul.specs.Unit.{kind}
use Rattle.lvdc_plain.specs.Plain.{PlainState}
use Rattle.lvdc_plain.specs.Table.{fetched_instr, operand_place, word_of_place}
use Rattle.lvdc_modules.specs.declared.bus.Bus.{Bus}
use Rattle.lvdc_modules.specs.declared.locator.LocatorState.{LocatorState}
use Rattle.lvdc_modules.specs.declared.decoder.DecoderState.{DecoderState}
use Rattle.lvdc_modules.specs.declared.selector.SelectorState.{SelectorState}
use Rattle.lvdc_modules.specs.declared.seen.Doing.{Doing}
use Rattle.lvdc_modules.specs.declared.seen.Doing.TheVariants.{Fetching, Taking, Waiting}
use Rattle.lvdc_modules.specs.Seen.{doing, here, instruction, phase_of}
use Rattle.lvdc_modules.specs.Timer.{phase_after, hold_after}
use Rattle.lvdc_modules.specs.Locator.{place_fields, locator}
use Rattle.lvdc_modules.specs.Decoder.{decoder, decoder_by}
use Rattle.lvdc_modules.specs.Selector.{data_fields, selector}
use Rattle.lvdc_map.specs.Place.{operand_kind}
use Rattle.lvdc_modules.specs.Accumulator.{accumulator, a_landed, operand_by, operand_from}
use Rattle.lvdc_modules.specs.Multiplier.{pq_by, working_by, working, landing, pq_landed}
use Rattle.lvdc_modules.specs.Exchange.{request_by}
use Rattle.lvdc_laws_phases.specs.Work.{IsWork}
use Rattle.lvdc_laws_phases.specs.Phase.{IsPhase, CarriesWords, after, fetched_syllable, request_due}
use Rattle.lvdc_laws_phases.proofs.Quiet.{Keeps, keeps}
use Rattle.lvdc_laws_phases.proofs.Seen.{here-is, fetches, takes, waits, instruction-is}
use Rattle.lvdc_laws_phases.specs.Work.{UnitIsRight}
use Rattle.lvdc_laws_phases.proofs.UnitLands.{goes_on, a_stays}

-- what both phases keep of the relation
record Still (t : ℕ) (b : Bus) (p : PlainState) : Type 0 where
  place : (locator b).place ≡ place_fields p.place
  data_place : (selector b).hold_place ≡ data_fields p.place
  saver : (locator b).saver ≡ p.saver
  a : (accumulator b).a ≡ p.a
  pq : pq_by (doing b) b (instruction b) ≡ p.pq
  work : IsWork p.pending (suc t) (working_by (doing b) b (instruction b))

-- where nothing is executed the registers stay, and the unit works on
still : UnitIsRight → (t : ℕ) (b : Bus) (p : PlainState) → t < 2 → IsPhase t b p → Keeps (doing b) b → Still t b p
still right t b p small s k =
    let w = goes_on right p.pending t b small s.work in
    let nothing : landing b ≡ None = w.0 in
    record {
      place = ap (λ (l : LocatorState). l.place) k.locator ∙ s.place;
      data_place = ap (λ (l : SelectorState). l.hold_place) k.selector ∙ s.data_place;
      saver = ap (λ (l : LocatorState). l.saver) k.locator ∙ s.saver;
      a = (λ i. a_landed (kind (working b)) (nothing i) (k.a i)) ∙ a_stays (kind (working b)) b.accumulator.a ∙ s.a;
      pq = k.pq ∙ ap (λ (l : Option ℕ). pq_landed l b.multiplier.pq) nothing ∙ s.pq;
      work = subst (λ (u : Latches). IsWork p.pending (suc t) u) (sym k.working) w.1;
    }

syllable_small : (h : HopConstant) (w : ℕ) → w < 2 ^ 26 → syllable_at h w < 2 ^ 13
syllable_small h w small =
    cond_both (h.syl == 1) (w / 2 ^ 13) (w % 2 ^ 13) (λ x. x < 2 ^ 13) (λ e. omega arith) (λ e. omega arith)

-- ---- the first phase, with the latches that depend on what is done

-- phase A: the instruction fetched is in INSTR, and phase B is next
first : UnitIsRight → (b : Bus) (p : PlainState) (memory port : ℕ) → IsPhase 0 b p → Keeps (doing b) b
    → request_by (doing b) (here b) (instruction b) ≡ 0
    → (p.hold ≡ 0 → (decoder b).instr ≡ fetched_syllable p) → (decoder b).instr < 2 ^ 13
    → IsPhase 1 (after b memory port) p
first right b p memory port s k request fetched syllable =
    let l : Still 0 b p = still right 0 b p (omega arith) s k in
    record {
      phase_is = ap (λ (x : ℕ). phase_after (phase_of x)) s.phase_is;
      hold = ap (λ (x : ℕ). hold_after (phase_of x) b (instruction b).op) s.phase_is ∙ s.hold;
      place = l.place;
      data_place = l.data_place;
      saver = l.saver;
      a = l.a;
      pq = l.pq;
      work = l.work;
      stop = k.stop ∙ s.stop;
      request = request;
      fetched = λ _ e. fetched e;
      operand = λ one _ _. absurd (omega (arith, one));
      held = s.held;
      in_range = s.in_range;
      few = s.few;
      syllable = syllable;
    }

-- the same, by the hold: while one is left nothing is fetched
pub first_by : UnitIsRight → (h : ℕ) (b : Bus) (p : PlainState) (memory port : ℕ) → p.hold ≡ h → IsPhase 0 b p → CarriesWords b
    → (p.hold ≡ 0 → b.memory ≡ word_at p.memory (fetch_of p.banks p.place)) → IsPhase 1 (after b memory port) p
first_by right zero b p memory port e s words answered =
    let d : doing b ≡ Fetching = fetches b s.phase_is (s.hold ∙ e) in
    let h : here b ≡ p.place = here-is b p.place s.in_range s.place s.data_place in
    first right b p memory port s (keeps Fetching b d tt)
    (ap (λ (x : Doing). request_by x (here b) (instruction b)) d)
    (λ _. (λ i. (decoder_by (d i) b (h i)).instr) ∙ ap (syllable_at p.place) (answered e))
    (subst (λ (x : Doing). (decoder_by x b (here b)).instr < 2 ^ 13) (sym d) (syllable_small (here b) b.memory words.memory))
first_by right (suc n) b p memory port e s words answered =
    let d : doing b ≡ Waiting = waits b n (s.hold ∙ e) (omega (arith, s.few, e)) in
    first right b p memory port s (keeps Waiting b d tt)
    (ap (λ (x : Doing). request_by x (here b) (instruction b)) d)
    (λ z. absurd (omega (arith, e, z)))
    (subst (λ (x : Doing). (decoder_by x b (here b)).instr < 2 ^ 13) (sym d) s.syllable)

-- ---- the second phase

-- what is found at an operand place
abbrev pub IsFound : Place → Bus → PlainState → Type 0
IsFound (Memory at) b p = b.memory ≡ word_at p.memory at
IsFound (Saver at) b p = b.memory ≡ word_at p.memory at
IsFound Pq b p = Unit {0}

-- the word found at a place is what the plain machine reads there
found_at : (address : ℕ) (b : Bus) (p : PlainState) → b.multiplier.pq ≡ p.pq → IsFound (operand_place p address) b p
    → operand_from (operand_kind address) b ≡ word_of_place p (operand_place p address)
found_at address b p pq found = search rules

-- phase B: the operand is taken and the exchange asked for, and phase C is next
second : UnitIsRight → (b : Bus) (p : PlainState) (memory port : ℕ) → IsPhase 1 b p → Keeps (doing b) b
    → request_by (doing b) (here b) (instruction b) ≡ request_due 2 p.hold p
    → (p.hold ≡ 0 → takes_operand (fetched_instr p).op ≡ true
    → operand_by (doing b) b (instruction b) ≡ word_of_place p (operand_place p (fetched_instr p).address))
    → decoder b ≡ b.decoder
    → IsPhase 2 (after b memory port) p
second right b p memory port s k request operand decoded =
    let l : Still 1 b p = still right 1 b p (omega arith) s k in
    record {
      phase_is = ap (λ (x : ℕ). phase_after (phase_of x)) s.phase_is;
      hold = ap (λ (x : ℕ). hold_after (phase_of x) b (instruction b).op) s.phase_is ∙ s.hold;
      place = l.place;
      data_place = l.data_place;
      saver = l.saver;
      a = l.a;
      pq = l.pq;
      work = l.work;
      stop = k.stop ∙ s.stop;
      request = request;
      fetched = λ _ e. ap (λ (x : DecoderState). x.instr) decoded ∙ s.fetched (omega arith) e;
      operand = λ _ e t. operand e t;
      held = s.held;
      in_range = s.in_range;
      few = s.few;
      syllable = rw decoded s.syllable;
    }

-- the same, by the hold: while one is left no operand is taken
pub second_by : UnitIsRight → (h : ℕ) (b : Bus) (p : PlainState) (memory port : ℕ) → p.hold ≡ h → IsPhase 1 b p
    → (p.hold ≡ 0 → takes_operand (fetched_instr p).op ≡ true → IsFound (operand_place p (fetched_instr p).address) b p)
    → IsPhase 2 (after b memory port) p
second_by right zero b p memory port e s answered =
    let d : doing b ≡ Taking = takes b s.phase_is (s.hold ∙ e) in
    let h : here b ≡ p.place = here-is b p.place s.in_range s.place s.data_place in
    let i : instruction b ≡ fetched_instr p = instruction-is b (fetched_syllable p) (s.fetched (omega arith) e) s.syllable in
    second right b p memory port s (keeps Taking b d tt)
    ((λ j. request_by (d j) (h j) (i j)) ∙ (λ j. request_due 2 (sym e j) p))
    (λ _ t. (λ j. operand_by (d j) b (i j)) ∙ cond-true _ _ _ t ∙ found_at (fetched_instr p).address b p s.pq (answered e t))
    (ap (λ (x : Doing). decoder_by x b (here b)) d)
second_by right (suc n) b p memory port e s answered =
    let d : doing b ≡ Waiting = waits b n (s.hold ∙ e) (omega (arith, s.few, e)) in
    second right b p memory port s (keeps Waiting b d tt)
    ((λ j. request_by (d j) (here b) (instruction b)) ∙ (λ j. request_due 2 (sym e j) p))
    (λ z t. absurd (omega (arith, e, z)))
    (ap (λ (x : Doing). decoder_by x b (here b)) d)
