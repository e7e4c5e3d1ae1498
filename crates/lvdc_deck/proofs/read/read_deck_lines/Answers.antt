use Rattle.std.proofs.Common.{◌+◌, List, map, length, get_or, drop, sym, ap, ◌∙◌}
use Rattle.std.proofs.lemmas.List.{take_rest}
use Rattle.std.proofs.lemmas.Result.{IfOk-weaker, IfErr-weaker}
use Rattle.lvdc_text.specs.Lines.{part_of}
use Rattle.lvdc_text.specs.declared.cutting.Line.{Line}
use Rattle.lvdc_deck.specs.Deck.{end_of, opening_of, deck_from}
use Rattle.lvdc_deck.specs.declared.section.Opening.TheVariants as opening
use Rattle.lvdc_deck.proofs.Steps.{no_line, deck-by, deck-program, deck-none}
use Rattle.lvdc_deck.proofs.Ends.{further-behind, further-back, skipped-other, program-other, end-over, end-first}
use Rattle.lvdc_deck.proofs.read.read_deck_lines.Goals as goal

pub returns-in-Long-clause-refusal : goal.returns-in-Long-clause-refusal
returns-in-Long-clause-refusal g c = λ known. sym (deck-by (map (λ b. (goal.PortDevice-dyn g (b.vtable, b.value)).device_of b.value) c.args.devices.now.items) c.args.debugging c.args.bytes.now _ c.args.lines.now c.loop-at.at no_line _ c.loop-at.invariant.so_far c.loop-at-test.true opening.Long (sym c.in-Long.is ∙ c.opening_of.ensures ∙ ap opening_of c.part.ensures))

pub returns-in-Other-clause-refusal : goal.returns-in-Other-clause-refusal
returns-in-Other-clause-refusal g c = λ known. sym (deck-by (map (λ b. (goal.PortDevice-dyn g (b.vtable, b.value)).device_of b.value) c.args.devices.now.items) c.args.debugging c.args.bytes.now _ c.args.lines.now c.loop-at.at no_line _ c.loop-at.invariant.so_far c.loop-at-test.true opening.Other (sym c.in-Other.is ∙ c.opening_of.ensures ∙ ap opening_of c.part.ensures))

pub returns-in-Program-clause-deck : goal.returns-in-Program-clause-deck
returns-in-Program-clause-deck g c =
    IfOk-weaker c.read_program.result _ _ (λ deck is. sym (deck-program (map (λ b. (goal.PortDevice-dyn g (b.vtable, b.value)).device_of b.value) c.args.devices.now.items) c.args.debugging c.args.bytes.now _ c.args.lines.now c.loop-at.at no_line _ c.loop-at.invariant.so_far c.loop-at-test.true c.in-Program.kind (sym c.in-Program.is ∙ c.opening_of.ensures ∙ ap opening_of c.part.ensures) _ (take_rest c.args.lines.now (c.loop-at.at + 1))) ∙ is) c.read_program.ensures.deck

pub returns-in-Program-clause-refusal : goal.returns-in-Program-clause-refusal
returns-in-Program-clause-refusal g c =
    IfErr-weaker c.read_program.result _ _ (λ fault is known. sym (deck-program (map (λ b. (goal.PortDevice-dyn g (b.vtable, b.value)).device_of b.value) c.args.devices.now.items) c.args.debugging c.args.bytes.now _ c.args.lines.now c.loop-at.at no_line _ c.loop-at.invariant.so_far c.loop-at-test.true c.in-Program.kind (sym c.in-Program.is ∙ c.opening_of.ensures ∙ ap opening_of c.part.ensures) _ (take_rest c.args.lines.now (c.loop-at.at + 1))) ∙ is known) c.read_program.ensures.refusal

pub loop-at-init : goal.loop-at-init
loop-at-init g c = record {
  so_far = ap (λ (ls : List Line). deck_from (map (λ b. (goal.PortDevice-dyn g (b.vtable, b.value)).device_of b.value) c.args.devices.now.items) c.args.debugging c.args.bytes.now (length ls + 1) ls) c.requires.lines;
  ended = end-first c.args.bytes.now c.args.lines.now c.args.end c.requires.end;
}

pub loop-at-preserved : goal.loop-at-preserved
loop-at-preserved g c = record {
  so_far = deck-by (map (λ b. (goal.PortDevice-dyn g (b.vtable, b.value)).device_of b.value) c.args.devices.now.items) c.args.debugging c.args.bytes.now _ c.args.lines.now c.loop-at.at no_line _ c.loop-at.invariant.so_far c.loop-at-test.true opening.Skipped (sym c.in-Skipped.is ∙ c.opening_of.ensures ∙ ap opening_of c.part.ensures);
  ended = end-over c.args.bytes.now c.args.lines.now c.loop-at.at no_line c.args.end c.loop-at-test.true c.loop-at.invariant.ended
      (skipped-other (part_of c.args.bytes.now (get_or c.args.lines.now c.loop-at.at no_line)) (sym c.in-Skipped.is ∙ c.opening_of.ensures ∙ ap opening_of c.part.ensures));
}

pub returns-clause-refusal : goal.returns-clause-refusal
returns-clause-refusal g c =
    λ known. deck-none (map (λ b. (goal.PortDevice-dyn g (b.vtable, b.value)).device_of b.value) c.args.devices.now.items) c.args.debugging c.args.bytes.now _ c.args.lines.now c.loop-at.at no_line _ c.loop-at.invariant.so_far c.loop-at-test.false

pub returns-in-Program-clause-count : goal.returns-in-Program-clause-count
returns-in-Program-clause-count g c = c.read_program.ensures.count

pub returns-in-Program-clause-rising : goal.returns-in-Program-clause-rising
returns-in-Program-clause-rising g c = c.read_program.ensures.rising

pub returns-in-Program-clause-there : goal.returns-in-Program-clause-there
returns-in-Program-clause-there g c = c.read_program.ensures.there

pub returns-in-Program-clause-few : goal.returns-in-Program-clause-few
returns-in-Program-clause-few g c = c.read_program.ensures.few

pub returns-in-Program-clause-events : goal.returns-in-Program-clause-events
returns-in-Program-clause-events g c = c.read_program.ensures.events

pub returns-in-Program-clause-within : goal.returns-in-Program-clause-within
returns-in-Program-clause-within g c = c.read_program.ensures.within

pub returns-in-Program-clause-short : goal.returns-in-Program-clause-short
returns-in-Program-clause-short g c = c.read_program.ensures.short

pub place_after-requires : goal.place_after-requires
place_after-requires g c =
    further-behind c.loop-at.at (end_of c.args.bytes.now (drop (c.loop-at.at + 1) c.args.lines.now)) c.args.end
    (end-over c.args.bytes.now c.args.lines.now c.loop-at.at no_line c.args.end c.loop-at-test.true c.loop-at.invariant.ended
    (program-other (part_of c.args.bytes.now (get_or c.args.lines.now c.loop-at.at no_line)) c.in-Program.kind (sym c.in-Program.is ∙ c.opening_of.ensures ∙ ap opening_of c.part.ensures)))

pub read_program-requires-clause-end : goal.read_program-requires-clause-end
read_program-requires-clause-end g c =
    c.place_after.ensures
    ∙ further-back c.loop-at.at (end_of c.args.bytes.now (drop (c.loop-at.at + 1) c.args.lines.now)) c.args.end
    (end-over c.args.bytes.now c.args.lines.now c.loop-at.at no_line c.args.end c.loop-at-test.true c.loop-at.invariant.ended
    (program-other (part_of c.args.bytes.now (get_or c.args.lines.now c.loop-at.at no_line)) c.in-Program.kind (sym c.in-Program.is ∙ c.opening_of.ensures ∙ ap opening_of c.part.ensures)))
    ∙ ap (end_of c.args.bytes.now) (sym (take_rest c.args.lines.now (c.loop-at.at + 1)))
