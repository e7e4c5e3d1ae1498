-- A text names an operation where it is a mnemonic of one, and nothing elsewhere.
use Rattle.std.proofs.Common.{◌≡◌, ◌≢◌, ◌⊎◌, inl, inr, ℕ, Bool, true, List, [], ◌∷◌, refl, sym, ap, ◌∙◌}
use Rattle.std.specs.Prelude.{IfSome, IfNone}
use Rattle.std.specs.List.{find}
use Rattle.std.specs.Str.{bytes_eq}
use Rattle.std.specs.declared.option.Option.{Option}
use Rattle.std.specs.declared.option.Option.TheVariants.{None, Some}
use Rattle.std.proofs.lemmas.Bool.{cond_both}
use Rattle.std.proofs.lemmas.Option.{none-some, IfSome_then}
use Rattle.std.proofs.lemmas.Slice.Eq.{bytes_eq-Decides}
use Rattle.lvdc_isa.specs.declared.op.Op.{Op}
use Rattle.lvdc_isa.specs.declared.op.Op.TheVariants.{Hop, Mpy, Sub, Div, Tnz, Mph, And, Add, Tra, Xor, Pio, Sto, Tmi, Rsu, Cds, Shf, WrongShift, Exm, Cla}
use Rattle.lvdc_isa.specs.Mnemonics.{mnemonic_of, named_operations, operation_named}

-- what a search finds passes its test
IfSome-find : {X : Type 0} (test : X → Bool) (xs : List X) → IfSome (find test xs) (λ x. test x ≡ true)
IfSome-find test [] = tt
IfSome-find test (x ∷ xs) =
    cond_both (test x) (Some x) (find test xs) (λ r. IfSome r (λ y. test y ≡ true)) (λ passes. passes) (λ _. IfSome-find test xs)

-- a mnemonic names its operation; that of a wrong shift names another
names : (op : Op) → (operation_named (mnemonic_of op) ≡ Some op) ⊎ (op ≡ WrongShift)
names Hop = inl refl
names Mpy = inl refl
names Sub = inl refl
names Div = inl refl
names Tnz = inl refl
names Mph = inl refl
names And = inl refl
names Add = inl refl
names Tra = inl refl
names Xor = inl refl
names Pio = inl refl
names Sto = inl refl
names Tmi = inl refl
names Rsu = inl refl
names Cds = inl refl
names Shf = inl refl
names WrongShift = inr refl
names Exm = inl refl
names Cla = inl refl

-- what a text names has that text for its mnemonic
pub IfSome-operation_named : (text : List ℕ) → IfSome (operation_named text) (λ op. text ≡ mnemonic_of op)
IfSome-operation_named text =
    IfSome_then (operation_named text) (IfSome-find (λ op. bytes_eq text (mnemonic_of op)) named_operations)
    (λ op equal. (bytes_eq-Decides text (mnemonic_of op)).0 equal)

-- a text that names nothing is the mnemonic of nothing
unnamed : (text : List ℕ) (result : Option Op) → operation_named text ≡ result → IfNone result ((op : Op) → text ≢ mnemonic_of op)
unnamed text None none = λ op same. elim (names op) [
  | inl some ↦ none-some op (sym none ∙ ap operation_named same ∙ some)
  | inr wrong ↦ none-some Shf (sym none ∙ ap operation_named (same ∙ ap mnemonic_of wrong))
]
unnamed text (Some _) _ = tt

pub IfNone-operation_named : (text : List ℕ) → IfNone (operation_named text) ((op : Op) → text ≢ mnemonic_of op)
IfNone-operation_named text = unnamed text (operation_named text) refl

-- but for a wrong shift, a mnemonic names its operation
pub operation_named-mnemonic_of : (op : Op) → op ≢ WrongShift → operation_named (mnemonic_of op) ≡ Some op
operation_named-mnemonic_of op other = elim (names op) [
  | inl some ↦ some
  | inr wrong ↦ absurd (other wrong)
]
