-- What the image of a source holds for each line, for each pooled word, and where there is neither.
use Rattle.std.proofs.Common.{◌≡◌, ℕ, zero, suc, ◌<◌, true, false, List, [], ◌∷◌, take, slice_get, slice_index_or, Option, None, Some, IfSome, is_some, unwrap_or, refl, sym, ap, ◌∙◌, subst, arith}
use Rattle.std.specs.Prelude.{◌==◌, ◌&&◌}
use Rattle.std.specs.Option.{option_map}
use Rattle.std.proofs.lemmas.Bool.{true≢false, and_parts, and_from, or_from, eq-eqb, eqb-true, false_from_ne_true}
use Rattle.std.proofs.lemmas.Option.{IfSome_then}
use Rattle.lvdc_map.specs.Address.{Spot, is_same}
use Rattle.lvdc_map.specs.Hop.{HopConstant, fetch_of, syllable_at}
use Rattle.lvdc_isa.specs.Instr.{instr, syllable_of}
use Rattle.lvdc_isa.specs.declared.instr.Instr.{Instr}
use Rattle.lvdc_isa.specs.declared.op.Op.{Op}
use Rattle.lvdc_isa.specs.declared.op.Op.TheVariants.{Shf}
use Rattle.lvdc_isa.proofs.CodecLaws.{instr-syllable_of}
use Rattle.lvdc_source.specs.declared.block.Block.TheVariants as kind
use Rattle.lvdc_source.specs.declared.item.Body.{Body}
use Rattle.lvdc_source.specs.declared.item.Body.TheVariants as says
use Rattle.lvdc_source.specs.declared.item.Constant.{Constant}
use Rattle.lvdc_source.specs.declared.item.Item.{Item}
use Rattle.lvdc_source.specs.declared.item.Operand.{Operand}
use Rattle.lvdc_source.specs.declared.item.Operand.TheVariants.{Number, Pair, Name, Literal}
use Rattle.lvdc_place.specs.Slot.{Slot, IsSlot, is_slot, is_same as is_same_slot, slot_of, address_of}
use Rattle.lvdc_place.specs.Apart.{is_in, line_slots, program_slots, StandsAs, StandAs}
use Rattle.lvdc_place.specs.Placement.{takes_place}
use Rattle.lvdc_place.specs.declared.spot.Spot.{Spot as Place}
use Rattle.lvdc_place.proofs.Distinct.{same-slot, is_in-append, in-left, in-right}
use Rattle.lvdc_place.proofs.Tables.{is_slot-true, is_slot-from}
use Rattle.lvdc_asm.specs.Assembly.{Assembled}
use Rattle.lvdc_asm.specs.Data.{data_after}
use Rattle.lvdc_asm.specs.DataPlace.{DataPlace, first_data}
use Rattle.lvdc_asm.specs.Hop.{Plan, hop_at}
use Rattle.lvdc_asm.specs.Operands.{number_address}
use Rattle.lvdc_asm.specs.Pool.{Progress, is_same_literal, literal_of}
use Rattle.lvdc_laws_assembly.specs.Holds.{HoldsCode, HoldsLine, NamesLiteral, IsAddressOf}
use Rattle.lvdc_laws_assembly.specs.Images.{half_of, word_at}
use Rattle.lvdc_laws_assembly.specs.Lines.{IsLine, fills, IsBare}
use Rattle.lvdc_laws_assembly.proofs.Uses.{after_all, same-after}
use Rattle.lvdc_laws_assembly.proofs.Assemblies.{IsWalked}
use Rattle.lvdc_laws_assembly.proofs.Held.{held, held-nothing}
use Rattle.lvdc_laws_assembly.proofs.Lines.{IsStored, IsAddressOf as HasAddress, CodeHolds, ItemHolds, AllHold, fill_slots, program_fills}
use Rattle.lvdc_laws_assembly.proofs.Meanings.{even-bank, AreKnown, name-reaches, location-names, pair-sets, word-says}
use Rattle.lvdc_laws_assembly.proofs.Operands.{shift-parts, nine-parts}
use Rattle.lvdc_laws_assembly.proofs.Pools.{lookup-each, each-both, spot-self, in-one, in-word, off-word}
use Rattle.lvdc_laws_assembly.proofs.Ranges.{IsPlace, line-place, HasForm, item-form, target-place}
use Rattle.lvdc_laws_assembly.proofs.Steps.{IsPooled, Sound}
use Rattle.lvdc_laws_assembly.proofs.Words.{IsWord, half-is, word-is, none-is, empty-half}

-- ---- lines by their numbers

held-at : (plan : Plan) (done : Progress) (assumed : DataPlace) (items : List Item) (spots : List (Option Place)) (number : ℕ) (item : Item) (here : Place) → AllHold plan done assumed items spots
    → slice_get items number ≡ Some item → slice_get spots number ≡ Some (Some here) → ItemHolds plan done (after_all assumed (take number items)) item (Some here)
held-at plan done assumed [] spots number item here hold says stands = absurd (cc)
held-at plan done assumed (first ∷ items) [] number item here hold says stands = absurd hold
held-at plan done assumed (first ∷ items) (spot ∷ spots) zero item here hold says stands =
    let a : first ≡ item = cc in
    let b : spot ≡ Some here = cc in
    subst (λ (it : Item). ItemHolds plan done assumed it (Some here)) a (subst (λ (s : Option Place). ItemHolds plan done assumed first s) b hold.0)
held-at plan done assumed (first ∷ items) (spot ∷ spots) (suc number) item here hold says stands =
    held-at plan done (data_after assumed first.body) items spots number item here hold.1 says stands

-- where a line stands
pub record LineStands (body : Body) (here : Place) : Type 0 where
  pub form : StandsAs body (Some here)
  pub inside : (slot : Slot) → is_in slot (line_slots body (Some here)) ≡ true → is_slot slot ≡ true

stands-at : (items : List Item) (spots : List (Option Place)) (number : ℕ) (item : Item) (here : Place) → StandAs items spots
    → ((slot : Slot) → is_in slot (program_slots items spots) ≡ true → is_slot slot ≡ true) → slice_get items number ≡ Some item → slice_get spots number ≡ Some (Some here) → LineStands item.body here
stands-at [] spots number item here stand inside says stands = absurd (cc)
stands-at (first ∷ items) [] number item here stand inside says stands = absurd stand
stands-at (first ∷ items) (spot ∷ spots) zero item here stand inside says stands =
    let a : first ≡ item = cc in
    let b : spot ≡ Some here = cc in
    subst (λ (it : Item). LineStands it.body here) a (record {
      form = subst (StandsAs first.body) b stand.0;
      inside = λ slot h. inside slot (in-left slot (line_slots first.body spot) (program_slots items spots) (ap (λ (s : Option Place). is_in slot (line_slots first.body s)) b ∙ h));
    })
stands-at (first ∷ items) (spot ∷ spots) (suc number) item here stand inside says stands =
    stands-at items spots number item here stand.1 (λ slot h. inside slot (in-right slot (line_slots first.body spot) (program_slots items spots) h)) says stands

-- ---- what is known of an assembly

known : (a : Assembled) → IsWalked a → AreKnown a.plan
known a is name target e = (is.slots name target e, target-place a.items a.plan name target is.program is.parts.names_are e)

-- the word of a literal that is stored
stored-holds : (a : Assembled) (is : IsWalked a) (line : ℕ) (here : Spot) (syl : ℕ) (assumed : DataPlace) (constant : Constant) (address : ℕ) → IsPlace assumed
    → IsStored a.plan is.parts.done line assumed constant address → NamesLiteral a (hop_at here syl assumed) constant address
stored-holds a is line here syl assumed constant address place stored =
    let done : Progress = is.parts.done in
    let whole : List Slot = program_slots a.items a.plan.spots in
    let sound : Sound whole done = is.walked.stepped.sound in
    let found = lookup-each (is_same_literal (literal_of assumed stored.word)) done.pool
    (λ e. IsPooled whole done e.0.word e.1 × (e.0.sector < 16 → (e.1.pair ≡ e.0.pair) × (e.1.sector ≡ e.0.sector))) stored.at
    (each-both done.pool (λ e. IsPooled whole done e.0.word e.1) (λ e. e.0.sector < 16 → (e.1.pair ≡ e.0.pair) × (e.1.sector ≡ e.0.sector)) sound.pooled sound.home) stored.stored in
    let one = and_parts (assumed.pair == found.0.pair) (assumed.sector == found.0.sector && stored.word == found.0.word) found.1 in
    let two = and_parts (assumed.sector == found.0.sector) (stored.word == found.0.word) one.1 in
    let pair : assumed.pair ≡ found.0.pair = eqb-true assumed.pair found.0.pair one.0 in
    let sector : assumed.sector ≡ found.0.sector = eqb-true assumed.sector found.0.sector two.0 in
    let word : stored.word ≡ found.0.word = eqb-true stored.word found.0.word two.1 in
    let pooled : IsPooled whole done found.0.word stored.at = found.2.0 in
    let home = found.2.1 (subst (λ (n : ℕ). n < 16) sector place.sixteen_sectors) in
    let low : 0 < 2 = omega arith in
    let high : 1 < 2 = omega arith in
    let slot : IsSlot (slot_of stored.at 0) = is_slot-true (slot_of stored.at 0) (pooled.inside 0 low) in
    record {
      at = stored.at;
      names = location-names here syl assumed stored.at address place slot.loc (home.0 ∙ sym pair) (home.1 ∙ sym sector) stored.loc;
      holds = record {
        word = stored.word;
        there = ap (λ words. word_at words stored.at) is.parts.words_are
            ∙ word-is done.locations stored.at found.0.word sound.size (pooled.inside 0 low) (pooled.kept 1 high) (pooled.kept 0 low)
            ∙ ap (λ (n : ℕ). Some n) (sym word);
        value = word-says a.plan line constant stored.word (known a is) stored.value;
      };
    }

-- ---- addresses

number-is : (a : Assembled) (hop : HopConstant) (op : Op) (n address : ℕ) → number_address op n ≡ Some address → IsAddressOf a hop op (Number n) address
number-is a hop Shf n address h = let parts = shift-parts n address h in omega (arith, parts.0, parts.1)
number-is a hop _ n address h = (nine-parts n address h).0

address-is : (a : Assembled) (is : IsWalked a) (line : ℕ) (op : Op) (here : Spot) (syl : ℕ) (assumed : DataPlace) (operand : Operand) (address : ℕ) → here.pair < 4 → IsPlace assumed
    → HasAddress a.plan is.parts.done line op here assumed operand address → IsAddressOf a (hop_at here syl assumed) op operand address
address-is a is line op here syl assumed (Number n) address four place h = number-is a (hop_at here syl assumed) op n address h
address-is a is line op here syl assumed (Pair pair sector) address four place h = pair-sets (hop_at here syl assumed) pair sector address h
address-is a is line op here syl assumed (Name name offset) address four place h =
    name-reaches a.plan line op here syl assumed name offset address four place
    (λ target e. IfSome_then target.syl (is.slots name target e) (λ half inside. (is_slot-true (slot_of target.at half) inside).syl)) h
address-is a is line op here syl assumed (Literal constant) address four place h = stored-holds a is line here syl assumed constant address place h

-- ---- lines

code-at : (a : Assembled) (is : IsWalked a) (line : ℕ) (op : Op) (operand : Operand) (here : Place) (assumed : DataPlace) (syl : ℕ) → here.syl ≡ Some syl → is_slot (slot_of here.at syl) ≡ true
    → IsPlace assumed → HasForm (says.Instruction op operand) → CodeHolds a.plan is.parts.done line op here assumed operand → HoldsCode a here assumed op operand
code-at a is line op operand here assumed syl stands inside place form holds =
    let done : Progress = is.parts.done in
    let sound : Sound (program_slots a.items a.plan.spots) done = is.walked.stepped.sound in
    let slot : IsSlot (slot_of here.at syl) = is_slot-true (slot_of here.at syl) inside in
    let zeroth : is_slot (slot_of here.at 0) ≡ true = is_slot-from (slot_of here.at 0) (record { pair = slot.pair; sector = slot.sector; syl = omega arith; loc = slot.loc }) in
    let i : Instr = record { op = op; address = holds.address } in
    let word : IsWord done.locations here.at syl (syllable_of (record { op = op; address = holds.address })) =
    half-is done.locations here.at syl (syllable_of (record { op = op; address = holds.address })) sound.size sound.small inside zeroth slot.syl
    (ap (λ (o : Option ℕ). held done.locations (slot_of here.at (unwrap_or o 0))) (sym stands) ∙ holds.held) in
    let spot : fetch_of 0 (hop_at here.at syl assumed) ≡ here.at = (let pair = even-bank here.at.pair slot.pair in λ i. record here.at { pair = pair i }) in
    record {
      syl = syl;
      stands = stands;
      address = holds.address;
      instruction =
          ap (λ (o : Option ℕ). option_map (λ w. instr (syllable_at (hop_at here.at syl assumed) w)) o)
          (ap (word_at a.words) spot ∙ ap (λ words. word_at words here.at) is.parts.words_are ∙ word.there)
          ∙ ap (λ (s : ℕ). Some (instr s)) word.is
          ∙ ap (λ (x : Instr). Some x) (instr-syllable_of (record { op = op; address = holds.address }) (record { nine_bits = holds.small; meant = holds.meant form }));
      bits = address-is a is line op here.at syl assumed operand holds.address slot.pair place holds.means;
    }

pub some-syl : (o : Option ℕ) → is_some o ≡ true → (syl : ℕ) × (o ≡ Some syl)
some-syl None h = absurd (true≢false (sym h))
some-syl (Some syl) h = (syl, refl)

line-holds : (a : Assembled) (is : IsWalked a) (line : ℕ) (body : Body) (here : Place) (assumed : DataPlace) → LineStands body here → IsPlace assumed → HasForm body
    → ItemHolds a.plan is.parts.done assumed (record { line = line; label = []; body = body }) (Some here) → HoldsLine a here assumed body
line-holds a is line (says.Instruction op operand) here assumed stands place form holds =
    let syl = some-syl here.syl stands.form in
    code-at a is line op operand here assumed syl.0 syl.1
    (stands.inside (slot_of here.at syl.0) (ap (λ (o : Option ℕ). is_in (slot_of here.at syl.0) (line_slots (says.Instruction op operand) (Some (record here { syl = o })))) syl.1 ∙ in-one (slot_of here.at syl.0)))
    place form holds
line-holds a is line (says.Constant constant) here assumed stands place form holds =
    let low : 0 < 2 = omega arith in
    let high : 1 < 2 = omega arith in
    let inside : is_slot (slot_of here.at 0) ≡ true = stands.inside (slot_of here.at 0)
    (ap (λ (o : Option ℕ). is_in (slot_of here.at 0) (line_slots (says.Constant constant) (Some (record here { syl = o })))) stands.form ∙ in-word here.at 0 low) in
    record {
      word = holds.word;
      there = ap (λ words. word_at words here.at) is.parts.words_are
          ∙ word-is is.parts.done.locations here.at holds.word is.walked.stepped.sound.size inside (holds.held 1 high) (holds.held 0 low);
      value = word-says a.plan line constant holds.word (known a is) holds.value;
    }
line-holds a is line says.Code here assumed stands place form holds = tt
line-holds a is line (says.Org at syl) here assumed stands place form holds = tt
line-holds a is line (says.Words pair sector loc) here assumed stands place form holds = tt
line-holds a is line (says.Sector pair sector) here assumed stands place form holds = tt
line-holds a is line (says.Room count) here assumed stands place form holds = tt

-- a line that takes a place has one
has-place : (body : Body) (spot : Option Place) → StandsAs body spot → takes_place body ≡ true → is_some spot ≡ true
has-place body (Some here) stands takes = refl
has-place (says.Instruction op operand) None stands takes = absurd (true≢false stands.1)
has-place (says.Constant constant) None stands takes = absurd (true≢false stands.1)
has-place (says.Room count) None stands takes = absurd (true≢false stands.1)
has-place says.Code None stands takes = absurd (true≢false (sym takes))
has-place (says.Org at syl) None stands takes = absurd (true≢false (sym takes))
has-place (says.Words pair sector loc) None stands takes = absurd (true≢false (sym takes))
has-place (says.Sector pair sector) None stands takes = absurd (true≢false (sym takes))

have-places : (items : List Item) (spots : List (Option Place)) (number : ℕ) (item : Item) → StandAs items spots → slice_get items number ≡ Some item → takes_place item.body ≡ true
    → is_some (slice_index_or spots number None) ≡ true
have-places [] spots number item stand says takes = absurd (cc)
have-places (first ∷ items) [] number item stand says takes = absurd stand
have-places (first ∷ items) (spot ∷ spots) zero item stand says takes =
    let same : first ≡ item = cc in
    has-place first.body spot stand.0 (ap (λ (i : Item). takes_place i.body) same ∙ takes)
have-places (first ∷ items) (spot ∷ spots) (suc number) item stand says takes = have-places items spots number item stand.1 says takes

pub each-stands : (a : Assembled) → IsWalked a → (number : ℕ) (item : Item) → slice_get a.items number ≡ Some item → takes_place item.body ≡ true → is_some (slice_index_or a.plan.spots number None) ≡ true
each-stands a is number item says takes = have-places a.items a.plan.spots number item is.forms says takes

-- each line holds
pub each-holds : (a : Assembled) → IsWalked a → (number : ℕ) (item : Item) (here : Place) (assumed : DataPlace) → IsLine a number item here assumed → HoldsLine a here assumed item.body
each-holds a is number item here assumed line =
    let holds : ItemHolds a.plan is.parts.done (after_all first_data (take number a.items)) item (Some here) =
    held-at a.plan is.parts.done first_data a.items a.plan.spots number item here is.walked.hold line.says line.stands in
    subst (λ (place : DataPlace). HoldsLine a here place item.body) (same-after first_data (take number a.items) ∙ line.uses)
    (line-holds a is item.line item.body here (after_all first_data (take number a.items)) (stands-at a.items a.plan.spots number item here is.forms is.apart.inside line.says line.stands)
    (line-place a.items number is.program) (item-form kind.Nowhere a.items number item is.program line.says) holds)

-- ---- pooled words

pub pooled-at : {X : Type 0} (xs ys : List X) (index : ℕ) (P : X → Type 0) → xs ≡ ys → IfSome (slice_get ys index) P → IfSome (slice_get xs index) P
pooled-at xs ys index P same h = subst (λ zs. IfSome (slice_get zs index) P) (sym same) h

pub each-pooled : (a : Assembled) → IsWalked a → (index : ℕ) → IfSome (slice_get a.pool index) (λ pooled. word_at a.words pooled.1 ≡ Some pooled.0.word)
each-pooled a is index =
    let done : Progress = is.parts.done in
    let sound : Sound (program_slots a.items a.plan.spots) done = is.walked.stepped.sound in
    pooled-at a.pool done.pool index (λ e. word_at a.words e.1 ≡ Some e.0.word) is.parts.pool_is
    (IfSome_then (slice_get done.pool index) (sound.pooled index) (λ e pooled.
    ap (λ words. word_at words e.1) is.parts.words_are
    ∙ word-is done.locations e.1 e.0.word sound.size (pooled.inside 0 (omega arith)) (pooled.kept 1 (omega arith)) (pooled.kept 0 (omega arith))))

-- ---- empty slots

-- the slot of a line that fills it
fill-off : (body : Body) (here : Place) (at : Spot) (syl : ℕ) → syl < 2 → StandsAs body (Some here) → fills body here at syl ≡ false → is_in (slot_of at syl) (fill_slots body (Some here)) ≡ false
fill-off (says.Instruction op operand) here at syl small stands off =
    let which = some-syl here.syl stands in
    ap (λ (o : Option ℕ). is_in (slot_of at syl) (line_slots (says.Instruction op operand) (Some (record here { syl = o })))) which.1
    ∙ or_from (is_same_slot (slot_of at syl) (slot_of here.at which.0)) false
    (false_from_ne_true (is_same_slot (slot_of at syl) (slot_of here.at which.0)) (λ h.
    let same : slot_of at syl ≡ slot_of here.at which.0 = same-slot (slot_of at syl) (slot_of here.at which.0) h in
    true≢false (sym (and_from (is_same here.at at) (unwrap_or here.syl 0 == syl)
    (ap (λ (slot : Slot). is_same here.at (address_of slot)) same ∙ spot-self here.at)
    (eq-eqb (unwrap_or here.syl 0) syl (ap (λ (o : Option ℕ). unwrap_or o 0) which.1 ∙ sym (ap (λ (slot : Slot). slot.syl) same)))) ∙ off)))
    refl
fill-off (says.Constant constant) here at syl small words off =
    ap (λ (o : Option ℕ). is_in (slot_of at syl) (line_slots (says.Constant constant) (Some (record here { syl = o })))) words
    ∙ off-word here.at (slot_of at syl) off
fill-off (says.Room count) here at syl small stands off = refl
fill-off says.Code here at syl small stands off = absurd (true≢false stands.0)
fill-off (says.Org place half) here at syl small stands off = absurd (true≢false stands.0)
fill-off (says.Words pair sector loc) here at syl small stands off = absurd (true≢false stands.0)
fill-off (says.Sector pair sector) here at syl small stands off = absurd (true≢false stands.0)

fill-none : (body : Body) (slot : Slot) → is_in slot (fill_slots body None) ≡ false
fill-none (says.Instruction op operand) slot = refl
fill-none (says.Constant constant) slot = refl
fill-none (says.Room count) slot = refl
fill-none says.Code slot = refl
fill-none (says.Org place half) slot = refl
fill-none (says.Words pair sector loc) slot = refl
fill-none (says.Sector pair sector) slot = refl

fill-spot : (body : Body) (spot : Option Place) (at : Spot) (syl : ℕ) → syl < 2 → StandsAs body spot → ((here : Place) → spot ≡ Some here → fills body here at syl ≡ false)
    → is_in (slot_of at syl) (fill_slots body spot) ≡ false
fill-spot body None at syl small stands off = fill-none body (slot_of at syl)
fill-spot body (Some here) at syl small stands off = fill-off body here at syl small stands (off here refl)

fills-off : (items : List Item) (spots : List (Option Place)) (at : Spot) (syl : ℕ) → syl < 2 → StandAs items spots
    → ((number : ℕ) (item : Item) (here : Place) → slice_get items number ≡ Some item → slice_get spots number ≡ Some (Some here) → fills item.body here at syl ≡ false)
    → is_in (slot_of at syl) (program_fills items spots) ≡ false
fills-off [] spots at syl small stand off = refl
fills-off (item ∷ items) [] at syl small stand off = absurd stand
fills-off (item ∷ items) (spot ∷ spots) at syl small stand off =
    is_in-append (slot_of at syl) (fill_slots item.body spot) (program_fills items spots)
    ∙ or_from (is_in (slot_of at syl) (fill_slots item.body spot)) (is_in (slot_of at syl) (program_fills items spots))
    (fill-spot item.body spot at syl small stand.0 (λ here e. off 0 item here refl (ap (λ (s : Option Place). Some s) e)))
    (fills-off items spots at syl small stand.1 (λ number other here a b. off (suc number) other here a b))

-- a bare slot holds nothing
bare-held : (a : Assembled) (is : IsWalked a) (at : Spot) (syl : ℕ) → syl < 2 → IsBare a at syl → is_slot (slot_of at syl) ≡ true → held is.parts.done.locations (slot_of at syl) ≡ None
bare-held a is at syl small bare inside =
    is.walked.stepped.step.bare (slot_of at syl) inside (fills-off a.items a.plan.spots at syl small is.forms bare.lines)
    (λ index. pooled-at is.parts.done.pool a.pool index (λ e. is_same e.1 at ≡ false) (sym is.parts.pool_is) (bare.pool index))
    ∙ held-nothing (slot_of at syl) inside

-- an address with two of them has no word
pub bare-none : (a : Assembled) → IsWalked a → (at : Spot) → IsBare a at 0 → IsBare a at 1 → word_at a.words at ≡ None
bare-none a is at low high =
    ap (λ words. word_at words at) is.parts.words_are
    ∙ none-is is.parts.done.locations at is.walked.stepped.sound.size (bare-held a is at 1 (omega arith) high) (bare-held a is at 0 (omega arith) low)

-- and the half of a word at one of them is 0
pub bare-half : (a : Assembled) → IsWalked a → (at : Spot) (syl word : ℕ) → syl < 2 → IsBare a at syl → word_at a.words at ≡ Some word → half_of syl word ≡ 0
bare-half a is at syl word small bare there =
    empty-half is.parts.done.locations at syl word is.walked.stepped.sound.size is.walked.stepped.sound.small small (bare-held a is at syl small bare)
    (sym (ap (λ words. word_at words at) is.parts.words_are) ∙ there)
