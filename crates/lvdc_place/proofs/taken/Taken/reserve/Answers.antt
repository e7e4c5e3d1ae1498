-- One more pair.
use Rattle.std.proofs.Common.{◌≡◌, [], ◌∷◌, sym, ap, ◌∙◌, arith}
use Rattle.lvdc_place.specs.Slot.{Slot, with_syllable}
use Rattle.lvdc_place.specs.Slots.{Slots, set_of, with_slots}
use Rattle.lvdc_place.proofs.Reserved.{with_reserved, with_reserved-more, with_reserved-all, with_reserved-none, word_there}
use Rattle.lvdc_place.proofs.taken.Taken.reserve.Goals as goal

pub loop-pair-init : goal.loop-pair-init
loop-pair-init c = sym (with_reserved-none (set_of c.args.self.now) c.args.loc)

pub loop-pair-preserved : goal.loop-pair-preserved
loop-pair-preserved c =
    c.take_location.ensures
    ∙ ap (λ (slot : Slot). with_slots (set_of c.loop-pair.self) (with_syllable slot 0 ∷ with_syllable slot 1 ∷ [])) c.in_sector-word.ensures
    ∙ ap (λ (taken : Slots). with_slots taken (with_syllable (word_there c.loop-pair.pair c.args.loc) 0 ∷ with_syllable (word_there c.loop-pair.pair c.args.loc) 1 ∷ [])) c.loop-pair.invariant
    ∙ with_reserved-more c.args.self.now c.args.loc c.loop-pair.pair

pub returns : goal.returns
returns c =
    let end : c.loop-pair.pair ≡ 4 = omega arith in
    c.loop-pair.invariant ∙ ap (with_reserved (set_of c.args.self.now) c.args.loc) end ∙ with_reserved-all c.args.self.now c.args.loc
