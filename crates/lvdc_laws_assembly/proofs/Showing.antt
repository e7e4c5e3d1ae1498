-- A listing shows the image.
use Rattle.std.proofs.Common.{◌≡◌, ℕ, zero, suc, ◌^◌, ◌<◌, Bool, true, false, cond, ◌&&◌, List, [], ◌∷◌, ◌++◌, map, flat_map, slice_get, All, Option, None, Some, IfSome, unwrap_or, refl, sym, ap, ◌∙◌, subst, arith}
use Rattle.std.specs.Prelude.{◌==◌}
use Rattle.std.specs.Map.{values_of}
use Rattle.std.proofs.lemmas.Bool.{true≢false, and_parts, and_from, eqb-true, eq-eqb, false_from_ne_true}
use Rattle.std.proofs.lemmas.Option.{IfSome_then}
use Rattle.lvdc_word.specs.Word.{upper, lower, joined}
use Rattle.lvdc_isa.specs.Instr.{syllable_of}
use Rattle.lvdc_isa.specs.declared.op.Op.{Op}
use Rattle.lvdc_map.specs.Address.{Spot, is_same}
use Rattle.lvdc_map.specs.Memory.{Memory, memory_of}
use Rattle.lvdc_map.specs.Memory as memory
use Rattle.lvdc_map.specs.declared.placed.Placed.{Placed}
use Rattle.lvdc_map.proofs.Addresses.{same-spot}
use Rattle.lvdc_text.specs.Joined.{text_of}
use Rattle.lvdc_text.specs.Lines.{NumberedLine}
use Rattle.lvdc_text.proofs.Joining.{text_of-append}
use Rattle.lvdc_source.specs.Source.{Follow}
use Rattle.lvdc_source.specs.declared.item.Body.{Body}
use Rattle.lvdc_source.specs.declared.item.Body.TheVariants as says
use Rattle.lvdc_source.specs.declared.item.Item.{Item}
use Rattle.lvdc_source.specs.declared.item.Operand.{Operand}
use Rattle.lvdc_place.specs.Slot.{Slot, IsSlot, is_slot, slot_of}
use Rattle.lvdc_place.specs.Apart.{is_in, line_slots, program_slots, StandsAs, StandAs}
use Rattle.lvdc_place.specs.declared.spot.Spot.{Spot as Place}
use Rattle.lvdc_place.proofs.Distinct.{in-left, in-right}
use Rattle.lvdc_place.proofs.Tables.{is_slot-true, is_slot-from}
use Rattle.lvdc_asm.specs.Assembly.{Assembled}
use Rattle.lvdc_asm.specs.Data.{data_after}
use Rattle.lvdc_asm.specs.DataPlace.{DataPlace, first_data}
use Rattle.lvdc_asm.specs.Hop.{Plan}
use Rattle.lvdc_asm.specs.Locations.{words_of}
use Rattle.lvdc_asm.specs.Pool.{Progress}
use Rattle.lvdc_listing.specs.Listing.{placed_items, item_field, item_names, listing_text}
use Rattle.lvdc_listing.specs.Places.{syllable_in}
use Rattle.lvdc_listing.specs.Rows.{line_rows, pool_row}
use Rattle.lvdc_laws_assembly.specs.Images.{word_at, half_of}
use Rattle.lvdc_laws_assembly.specs.Lines.{fills, IsBare}
use Rattle.lvdc_laws_assembly.specs.Shown.{Shown, row_shown, text_shown, covers, part_shown, slot_shown, word_of_slots, word_shown, IsPrintable, ShowsImage}
use Rattle.lvdc_laws_assembly.proofs.Assemblies.{IsWalked}
use Rattle.lvdc_laws_assembly.proofs.Cutting.{front-rows, text-shown}
use Rattle.lvdc_laws_assembly.proofs.Fields.{IsIn}
use Rattle.lvdc_laws_assembly.proofs.Items.{LineStands, some-syl, pooled-at, bare-none, bare-half}
use Rattle.lvdc_laws_assembly.proofs.Held.{held}
use Rattle.lvdc_laws_assembly.proofs.Lines.{CodeHolds, LineHolds, ItemHolds, AllHold}
use Rattle.lvdc_laws_assembly.proofs.Words.{IsWord, half-is, word-is}
use Rattle.lvdc_laws_assembly.proofs.Memories.{memory-is, memory-small}
use Rattle.lvdc_laws_assembly.proofs.Pools.{in-one, in-word}
use Rattle.lvdc_laws_assembly.proofs.Reading.{IsReadable, line_entries, AllReadable, all_entries, AreShort, lines-shown, flat-append, pool_entry, AllIn, pool-rows}
use Rattle.lvdc_laws_assembly.proofs.Steps.{Sound}

-- ---- slots that are shown

-- what is shown of two lists
shown-front : (xs ys : List Shown) (at : Spot) (syl : ℕ) → slot_shown (xs ++ ys) at syl ≡ None → (slot_shown xs at syl ≡ None) × (slot_shown ys at syl ≡ None)
shown-front [] ys at syl h = (refl, h)
shown-front (x ∷ xs) ys at syl h = by (covers x at syl) h (shown-front xs ys at syl)
  where
    by : (b : Bool) → cond b (Some (part_shown x.syl syl x.value)) (slot_shown (xs ++ ys) at syl) ≡ None
        → (slot_shown (xs ++ ys) at syl ≡ None → (slot_shown xs at syl ≡ None) × (slot_shown ys at syl ≡ None))
        → (cond b (Some (part_shown x.syl syl x.value)) (slot_shown xs at syl) ≡ None) × (slot_shown ys at syl ≡ None)
    by true e later = absurd (cc)
    by false e later = later e

none-covers : (b : Bool) (x : ℕ) → ◌≡◌ {A = Option ℕ} (cond b (Some x) None) None → b ≡ false
none-covers true x h = absurd (cc)
none-covers false x h = refl

-- a word that isn't shown
word-off : (one at : Spot) (syl x : ℕ) → ◌≡◌ {A = Option ℕ} (cond (is_same one at && syl == syl) (Some x) None) None → is_same one at ≡ false
word-off one at syl x h = false_from_ne_true (is_same one at) (λ same. true≢false (sym (and_from (is_same one at) (syl == syl) same (eq-eqb syl syl refl)) ∙ none-covers (is_same one at && syl == syl) x h))

-- the value of what is shown, of the memory's word
abbrev value_in : Option ℕ → ℕ → ℕ
value_in None w = w
value_in (Some half) w = half_of half w

-- all that is shown is of the memory, at addresses that the image has
abbrev AllOf : List Placed → Memory → List Shown → Type 0
AllOf words m [] = Unit {0}
AllOf words m (one ∷ more) = ((one.value ≡ value_in one.syl (memory.word_at m one.at)) × (word_at words one.at ≡ Some (memory.word_at m one.at))) × AllOf words m more

all-append : (words : List Placed) (m : Memory) (xs ys : List Shown) → AllOf words m xs → AllOf words m ys → AllOf words m (xs ++ ys)
all-append words m [] ys p q = q
all-append words m (x ∷ xs) ys p q = (p.0, all-append words m xs ys p.1 q)

part-is : (o : Option ℕ) (syl value w : ℕ) → value ≡ value_in o w → (unwrap_or o syl == syl) ≡ true → part_shown o syl value ≡ half_of syl w
part-is None syl value w is same = ap (half_of syl) is
part-is (Some half) syl value w is same = is ∙ ap (λ (k : ℕ). half_of k w) (eqb-true half syl same)

-- so each slot that is shown has the half of its word
slot-value : (words : List Placed) (m : Memory) (shown : List Shown) (at : Spot) (syl v : ℕ) → AllOf words m shown → slot_shown shown at syl ≡ Some v
    → (v ≡ half_of syl (memory.word_at m at)) × (word_at words at ≡ Some (memory.word_at m at))
slot-value words m [] at syl v all h = absurd (cc)
slot-value words m (one ∷ more) at syl v all h = by (covers one at syl) refl h (slot-value words m more at syl v all.1)
  where
    by : (b : Bool) → covers one at syl ≡ b → cond b (Some (part_shown one.syl syl one.value)) (slot_shown more at syl) ≡ Some v
        → (slot_shown more at syl ≡ Some v → (v ≡ half_of syl (memory.word_at m at)) × (word_at words at ≡ Some (memory.word_at m at)))
        → (v ≡ half_of syl (memory.word_at m at)) × (word_at words at ≡ Some (memory.word_at m at))
    by true is e later =
        let both = and_parts (is_same one.at at) (unwrap_or one.syl syl == syl) is in
        let here : one.at ≡ at = same-spot one.at at both.0 in
        let value : part_shown one.syl syl one.value ≡ v = cc in (
          sym value ∙ part-is one.syl syl one.value (memory.word_at m one.at) all.0.0 both.1 ∙ ap (λ (a : Spot). half_of syl (memory.word_at m a)) here,
          subst (λ (a : Spot). word_at words a ≡ Some (memory.word_at m a)) here all.0.1,
        )
    by false is e later = later e

-- ---- lines

-- a memory of these words
record IsOf (words : List Placed) (m : Memory) : Type 0 where
  small : (at : Spot) → memory.word_at m at < 2 ^ 26
  same : (at : Spot) (w : ℕ) → word_at words at ≡ Some w → memory.word_at m at ≡ w

-- the row of a line can be read, and shows what is there
record IsSeen (words : List Placed) (m : Memory) (spot : Option Place) (body : Body) : Type 0 where
  readable : IsReadable m spot body
  entries : AllOf words m (line_entries m spot body)

in-range : (at : Spot) (syl : ℕ) → is_slot (slot_of at syl) ≡ true → IsIn at
in-range at syl inside = let slot : IsSlot (slot_of at syl) = is_slot-true (slot_of at syl) inside in record { pair = slot.pair; sector = slot.sector; loc = slot.loc }

code-seen : (whole : List Slot) (plan : Plan) (done : Progress) (assumed : DataPlace) (line : ℕ) (op : Op) (operand : Operand) (here : Place) (syl : ℕ) (m : Memory) → Sound whole done
    → IsOf (words_of done.locations) m → here.syl ≡ Some syl → is_slot (slot_of here.at syl) ≡ true → CodeHolds plan done line op here assumed operand
    → IsSeen (words_of done.locations) m (Some here) (says.Instruction op operand)
code-seen whole plan done assumed line op operand here syl m sound of stands inside holds =
    let slot : IsSlot (slot_of here.at syl) = is_slot-true (slot_of here.at syl) inside in
    let zeroth : is_slot (slot_of here.at 0) ≡ true = is_slot-from (slot_of here.at 0) (record { pair = slot.pair; sector = slot.sector; syl = omega arith; loc = slot.loc }) in
    let word : IsWord done.locations here.at syl (syllable_of (record { op = op; address = holds.address })) =
    half-is done.locations here.at syl (syllable_of (record { op = op; address = holds.address })) sound.size sound.small inside zeroth slot.syl
    (ap (λ (o : Option ℕ). held done.locations (slot_of here.at (unwrap_or o 0))) (sym stands) ∙ holds.held) in
    record {
      readable = record { syl = syl; stands = stands; half = slot.syl; near = in-range here.at syl inside; small = of.small here.at };
      entries = (
        (
          subst (λ (o : Option ℕ). syllable_in (memory.word_at m here.at) o ≡ value_in o (memory.word_at m here.at)) (sym stands) refl,
          word.there ∙ ap (λ (w : ℕ). Some w) (sym (of.same here.at word.word word.there)),
        ),
        tt,
      );
    }

body-seen : (whole : List Slot) (plan : Plan) (done : Progress) (assumed : DataPlace) (line : ℕ) (here : Place) (body : Body) (m : Memory) → Sound whole done → IsOf (words_of done.locations) m
    → LineStands body here → LineHolds plan done assumed line here body → IsSeen (words_of done.locations) m (Some here) body
body-seen whole plan done assumed line here (says.Instruction op operand) m sound of stands holds =
    let which = some-syl here.syl stands.form in
    code-seen whole plan done assumed line op operand here which.0 m sound of which.1 (stands.inside (slot_of here.at which.0)
    (ap (λ (o : Option ℕ). is_in (slot_of here.at which.0) (line_slots (says.Instruction op operand) (Some (record here { syl = o })))) which.1 ∙ in-one (slot_of here.at which.0))) holds
body-seen whole plan done assumed line here (says.Constant constant) m sound of stands holds =
    let low : 0 < 2 = omega arith in
    let high : 1 < 2 = omega arith in
    let inside : is_slot (slot_of here.at 0) ≡ true = stands.inside (slot_of here.at 0)
    (ap (λ (o : Option ℕ). is_in (slot_of here.at 0) (line_slots (says.Constant constant) (Some (record here { syl = o })))) stands.form ∙ in-word here.at 0 low) in
    let there : word_at (words_of done.locations) here.at ≡ Some holds.word = word-is done.locations here.at holds.word sound.size inside (holds.held 1 high) (holds.held 0 low) in
    record {
      readable = record { whole = stands.form; near = in-range here.at 0 inside; small = of.small here.at };
      entries = ((refl, there ∙ ap (λ (w : ℕ). Some w) (sym (of.same here.at holds.word there))), tt);
    }
body-seen whole plan done assumed line here (says.Room count) m sound of stands holds = record { readable = stands.form; entries = tt }
body-seen whole plan done assumed line here says.Code m sound of stands holds = absurd (true≢false stands.form.0)
body-seen whole plan done assumed line here (says.Org at syl) m sound of stands holds = absurd (true≢false stands.form.0)
body-seen whole plan done assumed line here (says.Words pair sector loc) m sound of stands holds = absurd (true≢false stands.form.0)
body-seen whole plan done assumed line here (says.Sector pair sector) m sound of stands holds = absurd (true≢false stands.form.0)

item-seen : (whole : List Slot) (plan : Plan) (done : Progress) (assumed : DataPlace) (item : Item) (spot : Option Place) (m : Memory) → Sound whole done → IsOf (words_of done.locations) m
    → StandsAs item.body spot → ((slot : Slot) → is_in slot (line_slots item.body spot) ≡ true → is_slot slot ≡ true) → ItemHolds plan done assumed item spot → IsSeen (words_of done.locations) m spot item.body
item-seen whole plan done assumed item None m sound of form inside holds = record { readable = tt; entries = tt }
item-seen whole plan done assumed item (Some here) m sound of form inside holds =
    body-seen whole plan done assumed item.line here item.body m sound of (record { form = form; inside = inside }) holds

-- all of them
record AllSeen (words : List Placed) (m : Memory) (items : List Item) (spots : List (Option Place)) : Type 0 where
  readable : AllReadable m items spots
  entries : AllOf words m (all_entries m items spots)

all-seen : (whole : List Slot) (plan : Plan) (done : Progress) (assumed : DataPlace) (items : List Item) (spots : List (Option Place)) (m : Memory) → Sound whole done → IsOf (words_of done.locations) m
    → StandAs items spots → ((slot : Slot) → is_in slot (program_slots items spots) ≡ true → is_slot slot ≡ true) → AllHold plan done assumed items spots → AllSeen (words_of done.locations) m items spots
all-seen whole plan done assumed [] spots m sound of stand inside hold = record { readable = tt; entries = tt }
all-seen whole plan done assumed (item ∷ items) [] m sound of stand inside hold = absurd stand
all-seen whole plan done assumed (item ∷ items) (spot ∷ spots) m sound of stand inside hold =
    let here : IsSeen (words_of done.locations) m spot item.body =
    item-seen whole plan done assumed item spot m sound of stand.0 (λ slot h. inside slot (in-left slot (line_slots item.body spot) (program_slots items spots) h)) hold.0 in
    let later : AllSeen (words_of done.locations) m items spots =
    all-seen whole plan done (data_after assumed item.body) items spots m sound of stand.1 (λ slot h. inside slot (in-right slot (line_slots item.body spot) (program_slots items spots) h)) hold.1 in
    record {
      readable = (here.readable, later.readable);
      entries = all-append (words_of done.locations) m (line_entries m spot item.body) (all_entries m items spots) here.entries later.entries;
    }

-- ---- pooled words

-- what is known of the place of one
abbrev IsStored : List Placed → Memory → Spot → Type 0
IsStored words m at = IsIn at × (memory.word_at m at < 2 ^ 26) × (word_at words at ≡ Some (memory.word_at m at))

pool-in : {K : Type 0} (words : List Placed) (m : Memory) (xs : List (K × Spot)) → ((i : ℕ) → IfSome (slice_get xs i) (λ e. IsStored words m e.1)) → AllIn m (values_of xs)
pool-in words m [] each = tt
pool-in words m (x ∷ xs) each = (((each 0).0, (each 0).1), pool-in words m xs (λ i. each (suc i)))

pool-of : {K : Type 0} (words : List Placed) (m : Memory) (xs : List (K × Spot)) → ((i : ℕ) → IfSome (slice_get xs i) (λ e. IsStored words m e.1)) → AllOf words m (map (pool_entry m) (values_of xs))
pool-of words m [] each = tt
pool-of words m (x ∷ xs) each = ((refl, (each 0).2), pool-of words m xs (λ i. each (suc i)))

pool-off : {K : Type 0} (m : Memory) (xs : List (K × Spot)) (at : Spot) (syl : ℕ) → slot_shown (map (pool_entry m) (values_of xs)) at syl ≡ None → (i : ℕ) → IfSome (slice_get xs i) (λ e. is_same e.1 at ≡ false)
pool-off m [] at syl h i = tt
pool-off {K} m (x ∷ xs) at syl h i = by i (shown-front (pool_entry m x.1 ∷ []) (map (pool_entry m) (values_of xs)) at syl h)
    (λ k e. pool-off m xs at syl e k)
  where
    by : (i : ℕ) → (slot_shown (pool_entry m x.1 ∷ []) at syl ≡ None) × (slot_shown (map (pool_entry m) (values_of xs)) at syl ≡ None)
        → ((k : ℕ) → slot_shown (map (pool_entry m) (values_of xs)) at syl ≡ None → IfSome (slice_get xs k) (λ e. is_same e.1 at ≡ false))
        → IfSome (slice_get (x ∷ xs) i) (λ e. is_same e.1 at ≡ false)
    by zero both later = word-off x.1 at syl (part_shown None syl (memory.word_at m x.1)) both.0
    by (suc k) both later = later k both.1

-- ---- what isn't shown is bare

entry-off : (m : Memory) (here : Place) (body : Body) (at : Spot) (syl : ℕ) → IsReadable m (Some here) body → slot_shown (line_entries m (Some here) body) at syl ≡ None → fills body here at syl ≡ false
entry-off m here (says.Instruction op operand) at syl is h =
    ap (λ (o : Option ℕ). is_same here.at at && unwrap_or o 0 == syl) is.stands
    ∙ sym (ap (λ (o : Option ℕ). is_same here.at at && unwrap_or o syl == syl) is.stands)
    ∙ none-covers (is_same here.at at && unwrap_or here.syl syl == syl) (part_shown here.syl syl (syllable_in (memory.word_at m here.at) here.syl)) h
entry-off m here (says.Constant constant) at syl is h = word-off here.at at syl (part_shown None syl (memory.word_at m here.at)) h
entry-off m here (says.Room count) at syl is h = refl
entry-off m here says.Code at syl is h = absurd is
entry-off m here (says.Org place half) at syl is h = absurd is
entry-off m here (says.Words pair sector loc) at syl is h = absurd is
entry-off m here (says.Sector pair sector) at syl is h = absurd is

lines-off : (m : Memory) (items : List Item) (spots : List (Option Place)) (at : Spot) (syl : ℕ) → AllReadable m items spots → slot_shown (all_entries m items spots) at syl ≡ None
    → (number : ℕ) (item : Item) (here : Place) → slice_get items number ≡ Some item → slice_get spots number ≡ Some (Some here) → fills item.body here at syl ≡ false
lines-off m [] spots at syl readable h number item here says stands = absurd (cc)
lines-off m (first ∷ items) [] at syl readable h number item here says stands = absurd readable
lines-off m (first ∷ items) (spot ∷ spots) at syl readable h zero item here says stands =
    let a : first ≡ item = cc in
    let b : spot ≡ Some here = cc in
    subst (λ (i : Item). fills i.body here at syl ≡ false) a
    (entry-off m here first.body at syl (subst (λ (s : Option Place). IsReadable m s first.body) b readable.0)
    (ap (λ (s : Option Place). slot_shown (line_entries m s first.body) at syl) (sym b) ∙ (shown-front (line_entries m spot first.body) (all_entries m items spots) at syl h).0))
lines-off m (first ∷ items) (spot ∷ spots) at syl readable h (suc number) item here says stands =
    lines-off m items spots at syl readable.1 (shown-front (line_entries m spot first.body) (all_entries m items spots) at syl h).1 number item here says stands

-- ---- the whole

-- all that a listing shows
abbrev entries : Assembled → Memory → List Shown
entries a m = all_entries m a.items a.plan.spots ++ map (pool_entry m) (values_of a.pool)

bare : (a : Assembled) (m : Memory) (at : Spot) (syl : ℕ) → AllReadable m a.items a.plan.spots → slot_shown (entries a m) at syl ≡ None → IsBare a at syl
bare a m at syl readable h =
    let both = shown-front (all_entries m a.items a.plan.spots) (map (pool_entry m) (values_of a.pool)) at syl h in
    record {
      lines = lines-off m a.items a.plan.spots at syl readable both.0;
      pool = pool-off m a.pool at syl both.1;
    }

-- the words of all addresses
words-shown : (a : Assembled) → IsWalked a → (m : Memory) (at : Spot) → AllReadable m a.items a.plan.spots → AllOf a.words m (entries a m) → word_shown (entries a m) at ≡ word_at a.words at
words-shown a is m at readable all = by (slot_shown (entries a m) at 1) (slot_shown (entries a m) at 0) refl refl
  where
    by : (one zeroth : Option ℕ) → slot_shown (entries a m) at 1 ≡ one → slot_shown (entries a m) at 0 ≡ zeroth → word_of_slots one zeroth ≡ word_at a.words at
    by None None p q = sym (bare-none a is at (bare a m at 0 readable q) (bare a m at 1 readable p))
    by (Some v) None p q =
        let high = slot-value a.words m (entries a m) at 1 v all p in
        let low : lower (memory.word_at m at) ≡ 0 = bare-half a is at 0 (memory.word_at m at) (omega arith) (bare a m at 0 readable q) high.1 in
        let whole : joined v 0 ≡ memory.word_at m at = omega (arith, high.0, low) in
        ap (λ (x : ℕ). Some x) whole ∙ sym high.1
    by None (Some v) p q =
        let low = slot-value a.words m (entries a m) at 0 v all q in
        let high : upper (memory.word_at m at) ≡ 0 = bare-half a is at 1 (memory.word_at m at) (omega arith) (bare a m at 1 readable p) low.1 in
        let whole : joined 0 v ≡ memory.word_at m at = omega (arith, low.0, high) in
        ap (λ (x : ℕ). Some x) whole ∙ sym low.1
    by (Some u) (Some v) p q =
        let high = slot-value a.words m (entries a m) at 1 u all p in
        let low = slot-value a.words m (entries a m) at 0 v all q in
        let whole : joined u v ≡ memory.word_at m at = omega (arith, high.0, low.0) in
        ap (λ (x : ℕ). Some x) whole ∙ sym low.1

-- the rows of lines and of pooled words
abbrev front : Assembled → List NumberedLine → List (List ℕ)
front a lines = line_rows (map (item_field (memory_of a.words)) (placed_items a)) lines ++ map (pool_row (memory_of a.words)) (values_of a.pool)

front-text : (a : Assembled) (lines : List NumberedLine) → listing_text a lines ≡ text_of (front a lines) ++ text_of (flat_map item_names (placed_items a))
unfolding listing_text
front-text a lines =
    ap (λ (text : List ℕ). text ++ text_of (flat_map item_names (placed_items a)))
    (sym (text_of-append (line_rows (map (item_field (memory_of a.words)) (placed_items a)) lines) (map (pool_row (memory_of a.words)) (values_of a.pool))))

front-shown : (a : Assembled) (lines : List NumberedLine) → AreShort lines → Follow a.items lines → AllReadable (memory_of a.words) a.items a.plan.spots → AllIn (memory_of a.words) (values_of a.pool)
    → flat_map row_shown (front a lines) ≡ entries a (memory_of a.words)
front-shown a lines short follow readable near =
    flat-append (line_rows (map (item_field (memory_of a.words)) (placed_items a)) lines) (map (pool_row (memory_of a.words)) (values_of a.pool))
    ∙ ap (λ (first : List Shown). first ++ flat_map row_shown (map (pool_row (memory_of a.words)) (values_of a.pool))) (lines-shown (memory_of a.words) a.items a.plan.spots lines short follow readable)
    ∙ ap (λ (last : List Shown). all_entries (memory_of a.words) a.items a.plan.spots ++ last) (pool-rows (memory_of a.words) (values_of a.pool) near)

memory-of : (a : Assembled) → All (λ (p : Placed). p.word < 2 ^ 26) a.words → (is : IsWalked a) → IsOf (words_of is.parts.done.locations) (memory_of a.words)
memory-of a words is = record {
  small = memory-small a.words words;
  same = λ at w h.
      ap (λ (ps : List Placed). memory_of ps at) is.parts.words_are ∙ memory-is is.parts.done.locations at ∙ ap (λ (o : Option ℕ). unwrap_or o 0) h;
}

-- a listing shows the image
pub listing-shows : (a : Assembled) (lines : List NumberedLine) → IsWalked a → Follow a.items lines → IsPrintable a lines → ShowsImage a (listing_text a lines)
listing-shows a lines is follow print =
    let done : Progress = is.parts.done in
    let whole : List Slot = program_slots a.items a.plan.spots in
    let sound : Sound whole done = is.walked.stepped.sound in
    let m : Memory = memory_of a.words in
    let of : IsOf (words_of done.locations) m = memory-of a print.words is in
    let seen : AllSeen (words_of done.locations) m a.items a.plan.spots = all-seen whole a.plan done first_data a.items a.plan.spots m sound of is.forms is.apart.inside is.walked.hold in
    let stored : (i : ℕ) → IfSome (slice_get a.pool i) (λ e. IsStored (words_of done.locations) m e.1) = λ i.
    pooled-at a.pool done.pool i (λ e. IsStored (words_of done.locations) m e.1) is.parts.pool_is
    (IfSome_then (slice_get done.pool i) (sound.pooled i) (λ e pooled.
    let there : word_at (words_of done.locations) e.1 ≡ Some e.0.word = word-is done.locations e.1 e.0.word sound.size (pooled.inside 0 (omega arith)) (pooled.kept 1 (omega arith)) (pooled.kept 0 (omega arith)) in
    (in-range e.1 0 (pooled.inside 0 (omega arith)), of.small e.1, there ∙ ap (λ (w : ℕ). Some w) (sym (of.same e.1 e.0.word there))))) in
    let all : AllOf (words_of done.locations) m (entries a m) =
    all-append (words_of done.locations) m (all_entries m a.items a.plan.spots) (map (pool_entry m) (values_of a.pool)) seen.entries (pool-of (words_of done.locations) m a.pool stored) in
    λ at.
    ap (λ (text : List ℕ). word_shown (text_shown text) at) (front-text a lines)
    ∙ ap (λ (shown : List Shown). word_shown shown at)
    (text-shown (front a lines) a.items a.plan.spots (front-rows (memory_of a.words) (placed_items a) lines (values_of a.pool) print.numbers print.texts)
    ∙ front-shown a lines print.numbers follow seen.readable (pool-in (words_of done.locations) m a.pool stored))
    ∙ words-shown a is m at seen.readable (subst (λ (words : List Placed). AllOf words m (entries a m)) (sym is.parts.words_are) all)
