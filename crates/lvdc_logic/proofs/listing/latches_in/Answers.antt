-- The latches of one module after another.
use Rattle.std.proofs.Common.{◌≡◌, [], ◌∷◌, ◌++◌, refl, ap, ◌∙◌}
use Rattle.lvdc_model.specs.Listing.{copies_of}
use Rattle.lvdc_logic.specs.Latching.{copies_in}
use Rattle.lvdc_logic.proofs.Listed.{words_of, AreSized, NoneSized, MoreSized, copies-back, seven-appended}
use Rattle.lvdc_logic.proofs.listing.latches_in.Goals as goal

pub returns-clause-copies : goal.returns-clause-copies
returns-clause-copies c =
    let t = c.args.triples.now in
    let fresh = c.requires.fresh in
    let size = c.requires.sized in
    let sized : AreSized (2 ∷ 2 ∷ 1 ∷ 1 ∷ 2 ∷ 5 ∷ 2 ∷ []) (copies_in t) =
    MoreSized size.timer fresh.timer (MoreSized size.locator fresh.locator (MoreSized size.decoder fresh.decoder (MoreSized size.selector fresh.selector
    (MoreSized size.accumulator fresh.accumulator (MoreSized size.multiplier fresh.multiplier (MoreSized size.exchange fresh.exchange NoneSized)))))) in
    let items : c.extend_from_slice-7.new.self.items ≡ words_of (copies_in t) =
    rw (
      c.in_ok-extend_from_slice-7.ensures.items,
      c.in_ok-extend_from_slice-6.ensures.items,
      c.in_ok-extend_from_slice-5.ensures.items,
      c.in_ok-extend_from_slice-4.ensures.items,
      c.in_ok-extend_from_slice-3.ensures.items,
      c.in_ok-extend_from_slice-2.ensures.items,
      c.in_ok-extend_from_slice.ensures.items,
      c.in_ok-latches.ensures.items,
      c.timer_words.ensures,
      c.locator_words.ensures,
      c.decoder_words.ensures,
      c.selector_words.ensures,
      c.accumulator_words.ensures,
      c.multiplier_words.ensures,
      c.exchange_words.ensures,
    ) (seven-appended (t.timer.one ++ t.timer.two ++ t.timer.three) (t.locator.one ++ t.locator.two ++ t.locator.three)
    (t.decoder.one ++ t.decoder.two ++ t.decoder.three) (t.selector.one ++ t.selector.two ++ t.selector.three)
    (t.accumulator.one ++ t.accumulator.two ++ t.accumulator.three) (t.multiplier.one ++ t.multiplier.two ++ t.multiplier.three)
    (t.exchange.one ++ t.exchange.two ++ t.exchange.three)) in
    ap copies_of items ∙ copies-back (2 ∷ 2 ∷ 1 ∷ 1 ∷ 2 ∷ 5 ∷ 2 ∷ []) (copies_in t) [] 0 sized refl
