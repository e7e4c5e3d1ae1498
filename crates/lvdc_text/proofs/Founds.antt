-- What is found by a name where an entry is added, in the order of adding and in that of the keys.
use Rattle.std.proofs.Common.{◌≡◌, true≢false, ℕ, Bool, true, false, cond, List, [], ◌∷◌, ◌++◌, map, Option, None, Some, is_some, refl, sym, ap, ◌∙◌}
use Rattle.std.proofs.lemmas.Cmp.{nat_list_cmp_total, tied_itself}
use Rattle.std.proofs.lemmas.Map.Lookups.{exact_bytes}
use Rattle.std.proofs.lemmas.Map.Text.{is_eq-slice_cmp}
use Rattle.std.proofs.lemmas.Slice.Eq.{bytes_eq-Decides}
use Rattle.std.specs.Cmp.Lexicographic.{slice_cmp}
use Rattle.std.specs.BTreeMap.{insert_entry}
use Rattle.std.specs.Map.{lookup}
use Rattle.std.specs.Ordering.{nat_cmp, is_eq, match_ordering}
use Rattle.std.specs.Str.{bytes_eq}
use Rattle.std.specs.declared.cmp.Ordering.{Ordering}
use Rattle.std.specs.declared.cmp.Ordering.TheVariants.{Less, Equal, Greater}
use Rattle.lvdc_text.specs.Lookups.{FindsSame}

-- a look-up among entries whose keys are seen by f
pub lookup-view : {K X : Type 0} (f : K → List ℕ) (test : List ℕ → Bool) (es : List (K × X)) → lookup test (map (λ e. (f e.0, e.1)) es) ≡ lookup (λ k. test (f k)) es
lookup-view f test [] = refl
lookup-view f test (e ∷ es) = ap (λ rest. cond (test (f e.0)) (Some e.1) rest) (lookup-view f test es)

-- a look-up by comparing is one by equality
pub lookup-compared : {K X : Type 0} (f : K → List ℕ) (name : List ℕ) (es : List (K × X)) → lookup (λ k. is_eq (slice_cmp nat_cmp name (f k))) es ≡ lookup (λ k. bytes_eq name (f k)) es
lookup-compared f name [] = refl
lookup-compared f name (e ∷ es) =
    ap (λ (b : Bool). cond b (Some e.1) (lookup (λ k. is_eq (slice_cmp nat_cmp name (f k))) es)) (is_eq-slice_cmp name (f e.0))
    ∙ ap (λ rest. cond (bytes_eq name (f e.0)) (Some e.1) rest) (lookup-compared f name es)

-- a new entry at the end
pub lookup-append : {K X : Type 0} (test : K → Bool) (es : List (K × X)) (k : K) (v : X) → (test k ≡ true → lookup test es ≡ None) → lookup test (es ++ (k, v) ∷ []) ≡ cond (test k) (Some v) (lookup test es)
lookup-append test [] k v new = refl
lookup-append test (e ∷ es) k v new = by (λ none. lookup-append test es k v none) (test e.0) (test k) refl refl
  where
    by : ((test k ≡ true → lookup test es ≡ None) → lookup test (es ++ (k, v) ∷ []) ≡ cond (test k) (Some v) (lookup test es)) → (b c : Bool) → test e.0 ≡ b → test k ≡ c → cond b (Some e.1) (lookup test (es ++ (k, v) ∷ [])) ≡ cond c (Some v) (cond b (Some e.1) (lookup test es))
    by later true true p q = absurd (true≢false (ap is_some (sym (ap (λ (b : Bool). cond b (Some e.1) (lookup test es)) p) ∙ new q)))
    by later true false p q = refl
    by later false c p q =
        later (λ t. sym (ap (λ (b : Bool). cond b (Some e.1) (lookup test es)) p) ∙ new t)
        ∙ ap (λ (b : Bool). cond b (Some v) (lookup test es)) q

module _ {K X : Type 0} (f : K → List ℕ) (name : List ℕ) (k : K) (v : X) where
  -- two keys of one name are equal as they are compared
  same-name : (q : K) → bytes_eq name (f k) ≡ true → bytes_eq name (f q) ≡ true → slice_cmp nat_cmp (f k) (f q) ≡ Equal
  same-name q a b =
      let is : f q ≡ f k = sym ((bytes_eq-Decides name (f q)).0 b) ∙ (bytes_eq-Decides name (f k)).0 a in
      ap (slice_cmp nat_cmp (f k)) is ∙ tied_itself nat_list_cmp_total (f k)

  -- what is found where an entry is put to its place in the order
  pub lookup-insert : (es : List (K × X)) → lookup (λ q. bytes_eq name (f q)) (insert_entry (λ a b. slice_cmp nat_cmp (f a) (f b)) es k v)
      ≡ cond (bytes_eq name (f k)) (Some v) (lookup (λ q. bytes_eq name (f q)) es)
  lookup-insert [] = refl
  lookup-insert (e ∷ es) = by (lookup-insert es) (slice_cmp nat_cmp (f k) (f e.0)) refl
    where
      equal : (rest : Option X) (a b : Bool) → a ≡ b → cond b (Some v) rest ≡ cond a (Some v) (cond b (Some e.1) rest)
      equal rest true true h = refl
      equal rest false false h = refl
      equal rest true false h = absurd (true≢false h)
      equal rest false true h = absurd (true≢false (sym h))

      greater : slice_cmp nat_cmp (f k) (f e.0) ≡ Greater → (put rest : Option X) → put ≡ cond (bytes_eq name (f k)) (Some v) rest → (a b : Bool) → bytes_eq name (f k) ≡ a → bytes_eq name (f e.0) ≡ b
          → cond b (Some e.1) put ≡ cond a (Some v) (cond b (Some e.1) rest)
      greater o put rest later true true p q = absurd (true≢false (sym (ap is_eq (sym o ∙ same-name e.0 p q))))
      greater o put rest later true false p q = later ∙ ap (λ (c : Bool). cond c (Some v) rest) p
      greater o put rest later false true p q = refl
      greater o put rest later false false p q = later ∙ ap (λ (c : Bool). cond c (Some v) rest) p

      by : lookup (λ q. bytes_eq name (f q)) (insert_entry (λ a b. slice_cmp nat_cmp (f a) (f b)) es k v) ≡ cond (bytes_eq name (f k)) (Some v) (lookup (λ q. bytes_eq name (f q)) es)
          → (o : Ordering) → slice_cmp nat_cmp (f k) (f e.0) ≡ o
          → lookup (λ q. bytes_eq name (f q)) (match_ordering o ((k, v) ∷ e ∷ es) ((e.0, v) ∷ es) (e ∷ insert_entry (λ a b. slice_cmp nat_cmp (f a) (f b)) es k v))
          ≡ cond (bytes_eq name (f k)) (Some v) (lookup (λ q. bytes_eq name (f q)) (e ∷ es))
      by later Less o = refl
      by later Equal o = equal (lookup (λ q. bytes_eq name (f q)) es) (bytes_eq name (f k)) (bytes_eq name (f e.0)) (ap (bytes_eq name) (exact_bytes (f k) (f e.0) o))
      by later Greater o =
          greater o (lookup (λ q. bytes_eq name (f q)) (insert_entry (λ a b. slice_cmp nat_cmp (f a) (f b)) es k v)) (lookup (λ q. bytes_eq name (f q)) es) later (bytes_eq name (f k)) (bytes_eq name (f e.0)) refl refl

-- an entry of a new name, added at the end and put to its place in the order
pub finds-more : {K X : Type 0} (f : K → List ℕ) (es ps qs : List (K × X)) (k l : K) (v : X) → f k ≡ f l → FindsSame f ps es → lookup (λ q. bytes_eq (f l) (f q)) es ≡ None
    → qs ≡ insert_entry (λ a b. slice_cmp nat_cmp (f a) (f b)) ps k v → FindsSame f qs (es ++ (l, v) ∷ [])
finds-more f es ps qs k l v same finds new put = λ name.
    ap (lookup (λ q. bytes_eq name (f q))) put ∙ lookup-insert f name k v ps
    ∙ ap (λ (n : List ℕ). cond (bytes_eq name n) (Some v) (lookup (λ q. bytes_eq name (f q)) ps)) same
    ∙ ap (cond (bytes_eq name (f l)) (Some v)) (finds name)
    ∙ sym (lookup-append (λ q. bytes_eq name (f q)) es l v
    (λ is. ap (λ (n : List ℕ). lookup (λ q. bytes_eq n (f q)) es) ((bytes_eq-Decides name (f l)).0 is) ∙ new))
