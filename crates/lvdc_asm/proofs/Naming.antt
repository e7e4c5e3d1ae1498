-- Names in the order of their definition, looked up and added to.
use Rattle.std.proofs.Common.{◌≡◌, ◌==◌, true≢false, ℕ, zero, suc, ◌+◌, ◌<◌, Bool, true, false, cond, List, [], ◌∷◌, ◌++◌, length, get_or, drop, Option, Some, is_some, refl, sym, ap, ◌∙◌, append_assoc, append-nil, arith}
use Rattle.std.proofs.lemmas.List.{drop_more, map-append}
use Rattle.std.proofs.lemmas.Map.Made.{is_some-lookup}
use Rattle.std.specs.Map.{lookup, keys_of}
use Rattle.std.specs.Str.{bytes_eq}
use Rattle.lvdc_source.specs.Items.{AreItems, IsBody, block_after}
use Rattle.lvdc_source.specs.declared.block.Block.{Block}
use Rattle.lvdc_source.specs.declared.item.Body.{Body}
use Rattle.lvdc_source.specs.declared.item.Body.TheVariants as says
use Rattle.lvdc_source.specs.declared.item.Item.{Item}
use Rattle.lvdc_asm.specs.DataPlace.{DataPlace}
use Rattle.lvdc_asm.specs.Data.{data_after, SetsData}
use Rattle.lvdc_asm.specs.Names.{entry_of, names_from, is_among, label_of, repeat_after}
use Rattle.lvdc_asm.specs.declared.names.Definition.{Definition}

-- what a line defines gives its label as key
pub keys_of-entry_of : (names : List (List ℕ × Definition)) (label : List ℕ) (d : Definition) → keys_of (names ++ entry_of label d) ≡ keys_of names ++ label_of label
keys_of-entry_of names [] d = ap keys_of (append-nil names) ∙ sym (append-nil (keys_of names))
keys_of-entry_of names (c ∷ cs) d = map-append (λ (e : List ℕ × Definition). e.0) names ((c ∷ cs, d) ∷ [])

-- one line more
pub names_from-more : (names : List (List ℕ × Definition)) (items : List Item) (i : ℕ) (assumed : DataPlace) (d : Item) → i < length items →
    (names ++ entry_of (get_or items i d).label (record { item = i; assumed = assumed })) ++ names_from (i + 1) (data_after assumed (get_or items i d).body) (drop (i + 1) items)
    ≡ names ++ names_from i assumed (drop i items)
names_from-more names items i assumed d within =
    append_assoc names (entry_of (get_or items i d).label (record { item = i; assumed = assumed })) (names_from (i + 1) (data_after assumed (get_or items i d).body) (drop (i + 1) items))
    ∙ ap (λ (rest : List Item). names ++ names_from i assumed rest) (sym (drop_more items i d within))

-- one line more that defines nothing again
pub repeat_after-more : (names : List (List ℕ × Definition)) (items : List Item) (i : ℕ) (d : Item) (definition : Definition) → i < length items → is_among (keys_of names) (get_or items i d).label ≡ false →
    repeat_after (keys_of (names ++ entry_of (get_or items i d).label definition)) (drop (i + 1) items) ≡ repeat_after (keys_of names) (drop i items)
repeat_after-more names items i d definition within new =
    ap (λ (ks : List (List ℕ)). repeat_after ks (drop (i + 1) items)) (keys_of-entry_of names (get_or items i d).label definition)
    ∙ sym (ap (λ (b : Bool). cond b (Some (get_or items i d).line) (repeat_after (keys_of names ++ label_of (get_or items i d).label) (drop (i + 1) items))) new)
    ∙ ap (repeat_after (keys_of names)) (sym (drop_more items i d within))

-- a line that defines a name again
pub repeat_after-found : (names : List (List ℕ × Definition)) (items : List Item) (i : ℕ) (d : Item) → i < length items → is_among (keys_of names) (get_or items i d).label ≡ true →
    repeat_after (keys_of names) (drop i items) ≡ Some (get_or items i d).line
repeat_after-found names items i d within again =
    ap (repeat_after (keys_of names)) (drop_more items i d within)
    ∙ ap (λ (b : Bool). cond b (Some (get_or items i d).line) (repeat_after (keys_of names ++ label_of (get_or items i d).label) (drop (i + 1) items))) again

-- the data place that a line of a program sets is one
pub sets_data : (block : Block) (label : List ℕ) (body : Body) → IsBody block label body → SetsData body
sets_data block label says.Code h = tt
sets_data block label (says.Org at syl) h = tt
sets_data block label (says.Words pair sector loc) h = tt
sets_data block label (says.Sector pair sector) h = h.1
sets_data block label (says.Room count) h = tt
sets_data block label (says.Constant constant) h = tt
sets_data block label (says.Instruction op operand) h = tt

pub SetsData-item : (block : Block) (items : List Item) (i : ℕ) (d : Item) → AreItems block items → i < length items → SetsData (get_or items i d).body
unfolding AreItems
SetsData-item block [] i d h within = absurd (omega arith)
SetsData-item block (item ∷ items) zero d h within = sets_data block item.label item.body h.0
SetsData-item block (item ∷ items) (suc i) d h within = SetsData-item (block_after block item.body) items i d h.1 (omega arith)

-- a label that isn't empty defines itself
pub entry_of-some : (label : List ℕ) (d : Definition) → (length label == 0) ≡ false → (label, d) ∷ [] ≡ entry_of label d
entry_of-some [] d some = absurd (true≢false some)
entry_of-some (c ∷ cs) d some = refl

-- whether a label that isn't empty is among the names, by a look-up
pub is_among-found : (names : List (List ℕ × Definition)) (label : List ℕ) (old : Option Definition) → (length label == 0) ≡ false → old ≡ lookup (bytes_eq label) names
    → is_among (keys_of names) label ≡ is_some old
is_among-found names [] old some is = absurd (true≢false some)
is_among-found names (c ∷ cs) old some is = sym (is_some-lookup (bytes_eq (c ∷ cs)) names) ∙ ap is_some (sym is)
