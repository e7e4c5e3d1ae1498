use Rattle.std.proofs.Common.{◌≡◌, ◌<◌, ◌≤◌, List, [], ◌∷◌, ◌++◌, length, get_or, sym, ap, ◌∙◌, subst}
use Rattle.lvdc_asm.specs.declared.location.Location.{Location}
use Rattle.lvdc_map.specs.Address.{Spot}
use Rattle.lvdc_asm.specs.Locations.{word_in, words_of}
use Rattle.lvdc_asm.proofs.Imaging.{words_from-rising, words_from-there}
use Rattle.lvdc_asm.proofs.Tables.{words_from-none, words_from-some, words-done}
use Rattle.lvdc_asm.proofs.table.Table.words.Goals as goal

pub returns-clause-rising : goal.returns-clause-rising
returns-clause-rising c =
    let past : length c.args.self.now ≤ c.loop-place.place = subst (λ (ls : List Location). length ls ≤ c.loop-place.place) (c.deref-location-items.ensures.value ∙ c.self.view_is) c.loop-place-test.false in
    words_from-rising c.args.self.now c.loop-place.words.items
    (words-done c.loop-place.words.items c.args.self.now c.loop-place.place (words_of c.args.self.now) past c.loop-place.invariant)

pub returns-clause-there : goal.returns-clause-there
returns-clause-there c =
    let past : length c.args.self.now ≤ c.loop-place.place = subst (λ (ls : List Location). length ls ≤ c.loop-place.place) (c.deref-location-items.ensures.value ∙ c.self.view_is) c.loop-place-test.false in
    words_from-there c.args.self.now c.loop-place.words.items
    (subst (λ (ls : List Location). length ls ≡ 16384) c.self.view_is c.self.invariant)
    (words-done c.loop-place.words.items c.args.self.now c.loop-place.place (words_of c.args.self.now) past c.loop-place.invariant)

pub loop-place-preserved-in-None : goal.loop-place-preserved-in-None
loop-place-preserved-in-None c =
    let locations = c.args.self.now in
    let i = c.loop-place.place in
    let here = c.location-item.result in
    let same = c.deref-location-items.ensures.value ∙ c.self.view_is in
    let within : i < length locations = subst (λ (ls : List Location). i < length ls) same c.loop-place-test.true in
    let none = ap (λ (ls : List Location). word_in (get_or ls i here)) (sym same) ∙ ap word_in (sym c.location-item.is) ∙ sym c.word.ensures ∙ c.in-None.is in
    words_from-none c.loop-place.words.items locations i here within none ∙ c.loop-place.invariant

pub loop-place-preserved : goal.loop-place-preserved
loop-place-preserved c =
    let out = c.loop-place.words.items in
    let locations = c.args.self.now in
    let i = c.loop-place.place in
    let here = c.location-item.result in
    let word = c.in-Some.word in
    let same = c.deref-location-items.ensures.value ∙ c.self.view_is in
    let within : i < length locations = subst (λ (ls : List Location). i < length ls) same c.loop-place-test.true in
    let some = ap (λ (ls : List Location). word_in (get_or ls i here)) (sym same) ∙ ap word_in (sym c.location-item.is) ∙ sym c.word.ensures ∙ c.in-Some.is in
    let pushed = c.in_ok-push.ensures.items ∙ ap (λ (at : Spot). out ++ record { at = at; word = word } ∷ []) c.numbered-at.ensures in
    words_from-some out c.push.new.self.items locations i here word within some pushed ∙ c.loop-place.invariant
