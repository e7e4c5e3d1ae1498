use Rattle.std.proofs.Common.{◌≡◌, refl, sym, ◌∙◌, ap, subst, bit_and, bit_xor, inl, inr, ◌%◌, ◌^◌}
use Rattle.std.proofs.lemmas.Nat.{and_mask}
use Rattle.std.specs.Bool.{if◌then◌else◌}
use Rattle.lvdc_isa.specs.Shift.{shifted}
use Rattle.lvdc_map.specs.Hop.{bit}
use Rattle.lvdc_plain.specs.Processor.{Holds}
use Rattle.lvdc_plain.specs.Table.{goes_on, takes, transfers}
use Rattle.lvdc_word.specs.Word.{sum, difference}
use Rattle.lvdc_plain.proofs.Effects.{by_row, goes_on_held, takes_held, goes_to_held, data_held, hold_held, unless_zero}
use Rattle.lvdc_plain.proofs.processor.Processor.make.Goals as goal
use Rattle.lvdc_plain.proofs.processor.Processor.make.Goals.{in-Hop, in-Mpy, in-Sub, in-Tnz, in-Mph, in-And, in-Add, in-Tra, in-Xor, in-Pio, then-is_a9, else-is_a9, in-Sto, in-Tmi, in-Rsu, in-Cds, in-Shf, in-Cla}

pub returns-clause-holds : goal.returns-clause-holds
returns-clause-holds c = λ p h.
    let address = c.args.instr.address in
    let m = c.args.m in
    elim c.match-instr.branch [
      | in-Hop w ↦ by_row p address m w.in-Hop.is w.self-is (goes_to_held h w.go_to.ensures w.of.ensures)
      | in-Mpy w ↦ elim w.in-Mpy.is [
        | inl is ↦ by_row p address m is w.self-is (goes_on_held h w.go_on.ensures)
        | inr is ↦ by_row p address m is w.self-is (goes_on_held h w.go_on.ensures)
      ]
      | in-Sub w ↦ by_row p address m w.in-Sub.is w.self-is (takes_held h w.take.ensures (w.minus.ensures ∙ ap (λ a. difference a m) h.a))
      | in-Tnz w ↦ by_row p address m w.in-Tnz.is w.self-is
          (unless_zero w.value.result p.a (transfers p address) (goes_on p) (w.value.ensures.value ∙ h.a) (w.transfer_where.ensures.holds p h))
      | in-Mph w ↦ by_row p address m w.in-Mph.is w.self-is (hold_held 4 (goes_on_held h w.go_on-in-Mph.ensures))
      | in-And w ↦ by_row p address m w.in-And.is w.self-is (takes_held h w.take-in-And.ensures (w.both.ensures ∙ ap (λ a. bit_and a m) h.a))
      | in-Add w ↦ by_row p address m w.in-Add.is w.self-is (takes_held h w.take-in-Add.ensures (w.plus.ensures ∙ ap (λ a. sum a m) h.a))
      | in-Tra w ↦ by_row p address m w.in-Tra.is w.self-is (w.transfer.ensures.holds p h)
      | in-Xor w ↦ by_row p address m w.in-Xor.is w.self-is (takes_held h w.take-in-Xor.ensures (w.differ.ensures ∙ ap (λ a. bit_xor a m) h.a))
      | in-Pio w ↦ by_row p address m w.in-Pio.is w.self-is
          (elim w.if-is_a9.branch [
            | then-is_a9 v ↦ subst (λ t. Holds w.take-in-Pio.new.self (if t then takes p m else goes_on p)) (sym v.if-is_a9.true ∙ w.is_a9.ensures) (takes_held h w.take-in-Pio.ensures v.take-is)
            | else-is_a9 v ↦ subst (λ t. Holds w.take-in-Pio.new.self (if t then takes p m else goes_on p)) (sym v.if-is_a9.false ∙ w.is_a9.ensures) (takes_held h w.take-in-Pio.ensures (v.take-is ∙ h.a))
          ])
      | in-Sto w ↦ by_row p address m w.in-Sto.is w.self-is (w.store.ensures.holds p h)
      | in-Tmi w ↦ by_row p address m w.in-Tmi.is w.self-is
          (subst (λ t. Holds w.transfer_where-in-Tmi.new.self (if t then transfers p address else goes_on p)) (w.is_negative.ensures.bit ∙ ap (λ a. bit a 25) h.a)
          (w.transfer_where-in-Tmi.ensures.holds p h))
      | in-Rsu w ↦ by_row p address m w.in-Rsu.is w.self-is (takes_held h w.take-in-Rsu.ensures (w.minus-in-Rsu.ensures ∙ ap (λ a. difference m a) h.a))
      | in-Cds w ↦ by_row p address m w.in-Cds.is w.self-is (data_held address h w.set_data.ensures)
      | in-Shf w ↦
          let places : bit_and address 127 ≡ address % 2 ^ 7 = and_mask address 7 in
          by_row p address m w.in-Shf.is w.self-is (takes_held h w.take-in-Shf.ensures (w.shifted.ensures ∙ (λ x. shifted (h.a x) (places x))))
      | in-Cla w ↦ by_row p address m w.in-Cla.is w.self-is (takes_held h w.take-in-Cla.ensures refl)
    ]
