-- One instruction of the processor, from its parts.
use Rattle.std.proofs.Common.{◌≡◌, ℕ, ap, sym, ◌∙◌}
use Rattle.lvdc_isa.specs.declared.instr.Instr.{Instr}
use Rattle.lvdc_plain.specs.Plain.{PlainState}
use Rattle.lvdc_plain.specs.Processor.{Holds, LeavesResults}
use Rattle.lvdc_plain.specs.Table.{effect, landed_a, landed_pq, later, pq_after, pending_after, makes}
use Rattle.lvdc_plain.specs.declared.processor.Processor.{Processor}

-- the effect, then the landing, then what is issued
pub executed : (before made landed end : Processor) (i : Instr) (p : PlainState) (m : ℕ) →
    Holds before p → Holds made (effect i.op p i.address m) → LeavesResults before made →
    landed ≡ record made { a = landed_a made.pending made.a; pq = landed_pq made.pending made.pq; pending = later made.pending } →
    (p.banks ≡ landed.banks → p.place ≡ before.place → p.a ≡ before.a →
    end ≡ record landed { pq = pq_after i.op p i.address landed.pq; pending = pending_after i.op p i.address m landed.pending }) →
    Holds end (makes i p m)
executed before made landed end i p m h does leaves lands finishes =
    let same : p.banks ≡ landed.banks = sym h.banks ∙ sym leaves.banks ∙ sym (ap (λ (r : Processor). r.banks) lands) in
    let is : end ≡ record landed { pq = pq_after i.op p i.address landed.pq; pending = pending_after i.op p i.address m landed.pending } =
    finishes same (sym h.place) (sym h.a) in
    record {
      banks = ap (λ (r : Processor). r.banks) is ∙ ap (λ (r : Processor). r.banks) lands ∙ does.banks;
      place = ap (λ (r : Processor). r.place) is ∙ ap (λ (r : Processor). r.place) lands ∙ does.place;
      a = ap (λ (r : Processor). r.a) is ∙ ap (λ (r : Processor). r.a) lands ∙ ap (λ a. landed_a made.pending a) does.a
          ∙ ap (λ r. landed_a r (effect i.op p i.address m).a) (leaves.pending ∙ h.pending);
      pq = ap (λ (r : Processor). r.pq) is
          ∙ ap (λ pq. pq_after i.op p i.address pq) (ap (λ (r : Processor). r.pq) lands
          ∙ ap (λ pq. landed_pq made.pending pq) (leaves.pq ∙ h.pq) ∙ ap (λ r. landed_pq r p.pq) (leaves.pending ∙ h.pending));
      saver = ap (λ (r : Processor). r.saver) is ∙ ap (λ (r : Processor). r.saver) lands ∙ does.saver;
      pending = ap (λ (r : Processor). r.pending) is
          ∙ ap (λ r. pending_after i.op p i.address m r) (ap (λ (r : Processor). r.pending) lands
          ∙ ap (λ r. later r) (leaves.pending ∙ h.pending));
      hold = ap (λ (r : Processor). r.hold) is ∙ ap (λ (r : Processor). r.hold) lands ∙ does.hold;
      memory = rw (ap (λ (r : Processor). r.words) is ∙ ap (λ (r : Processor). r.words) lands) does.memory;
    }
