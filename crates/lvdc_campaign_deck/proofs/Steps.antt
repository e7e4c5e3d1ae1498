-- Lines one after the other: the line CAMPAIGN, and the scripts that lines tell.
use Rattle.std.proofs.Common.{◌≡◌, ℕ, ◌+◌, ◌<◌, ◌≤◌, Bool, true, false, nat_le, ◌&&◌, ◌||◌, is_some, refl, true≢false, List, [], ◌∷◌, ◌++◌, length, get_or, drop, map, Option, None, Some, Result, Ok, Err, sym, ap, ◌∙◌, arith}
use Rattle.std.specs.Bool.{if◌then◌else◌}
use Rattle.std.proofs.lemmas.List.{drop_more, drop_all, map-append}
use Rattle.std.proofs.lemmas.Map.Made.{is_some-lookup}
use Rattle.std.specs.Map.{lookup, keys_of}
use Rattle.lvdc_text.specs.declared.cutting.Line.{Line}
use Rattle.lvdc_text.specs.Lines.{part_of}
use Rattle.std.specs.List.{list_all, list_any}
use Rattle.std.specs.Str.{bytes_eq}
use Rattle.std.proofs.lemmas.Bool.{and_parts}
use Rattle.std.proofs.lemmas.Bool.Decides.{nat_tests}
use Rattle.lvdc_source.specs.Names.{is_capital, is_of_name, is_name}
use Rattle.lvdc_fault.specs.declared.named.Named.{Named}
use Rattle.lvdc_campaign_deck.specs.declared.fault.CampaignFault.{CampaignFault}
use Rattle.lvdc_campaign_deck.specs.Campaign.{is_campaign, from_campaign}
use Rattle.lvdc_campaign_deck.specs.Scripts.{and_then, Scripts, is_taken, all_scripts, after_line, scripts_from}

-- what an index past the end reads
abbrev pub no_line : Line
no_line = record { number = 0; start = 0; end = 0 }

-- ---- the line CAMPAIGN

module _ (bytes : List ℕ) (lines : List Line) (i : ℕ) (total : List Line) (so_far : from_campaign bytes (drop i lines) ≡ total) where
  by_campaign : i < length lines → (is : Bool) → is_campaign (part_of bytes (get_or lines i no_line)) ≡ is
      → (if is then get_or lines i no_line ∷ drop (i + 1) lines else from_campaign bytes (drop (i + 1) lines)) ≡ total
  unfolding from_campaign
  by_campaign within is e =
      ap (λ (b : Bool). if b then get_or lines i no_line ∷ drop (i + 1) lines else from_campaign bytes (drop (i + 1) lines)) (sym e)
      ∙ ap (from_campaign bytes) (sym (drop_more lines i no_line within)) ∙ so_far

  pub campaign-here : i < length lines → is_campaign (part_of bytes (get_or lines i no_line)) ≡ true → drop i lines ≡ total
  campaign-here within is = drop_more lines i no_line within ∙ by_campaign within true is

  pub campaign-more : i < length lines → is_campaign (part_of bytes (get_or lines i no_line)) ≡ false → from_campaign bytes (drop (i + 1) lines) ≡ total
  campaign-more within is = by_campaign within false is

  pub campaign-none : length lines ≤ i → [] ≡ total
  unfolding from_campaign
  campaign-none all = sym (ap (from_campaign bytes) (drop_all i lines all)) ∙ so_far

-- ---- the scripts

module _ (bytes : List ℕ) (s : Scripts) (lines : List Line) (i : ℕ) (total : Result (List Named) CampaignFault)
    (so_far : scripts_from bytes s (drop i lines) ≡ total) where
  by_after : i < length lines → (after : Result Scripts CampaignFault)
      → after_line s (get_or lines i no_line).number (part_of bytes (get_or lines i no_line)) ≡ after
      → and_then after (λ t. scripts_from bytes t (drop (i + 1) lines)) ≡ total
  unfolding scripts_from
  by_after within after is =
      ap (λ (r : Result Scripts CampaignFault). and_then r (λ t. scripts_from bytes t (drop (i + 1) lines))) (sym is)
      ∙ ap (scripts_from bytes s) (sym (drop_more lines i no_line within)) ∙ so_far

  pub scripts-more : i < length lines → (t : Scripts) → after_line s (get_or lines i no_line).number (part_of bytes (get_or lines i no_line)) ≡ Ok t
      → scripts_from bytes t (drop (i + 1) lines) ≡ total
  scripts-more within t is = by_after within (Ok t) is

  pub scripts-bad : i < length lines → (fault : CampaignFault)
      → after_line s (get_or lines i no_line).number (part_of bytes (get_or lines i no_line)) ≡ Err fault → total ≡ Err fault
  scripts-bad within fault is = sym (by_after within (Err fault) is)

  pub scripts-done : length lines ≤ i → total ≡ Ok (all_scripts s)
  unfolding scripts_from
  scripts-done all = sym so_far ∙ ap (scripts_from bytes s) (drop_all i lines all)

-- ---- scripts by their names

has-any : (name : List ℕ) (scripts : List Named) → list_any (bytes_eq name) (map (λ (script : Named). script.name) scripts) ≡ is_taken name scripts
has-any name [] = refl
has-any name (script ∷ scripts) = ap (λ rest. bytes_eq name script.name || rest) (has-any name scripts)

-- a look-up finds a name where it is taken
pub taken-found : {X : Type 0} (name : List ℕ) (names : List (List ℕ × X)) (scripts : List Named) (found : Option X) → found ≡ lookup (bytes_eq name) names
    → keys_of names ≡ map (λ (script : Named). script.name) scripts → is_some found ≡ is_taken name scripts
taken-found name names scripts found is keys =
    ap is_some is ∙ is_some-lookup (bytes_eq name) names ∙ ap (list_any (bytes_eq name)) keys ∙ has-any name scripts

-- a name that isn't taken isn't found
pub none-taken : {X : Type 0} (name : List ℕ) (names : List (List ℕ × X)) (scripts : List Named)
    → keys_of names ≡ map (λ (script : Named). script.name) scripts → is_taken name scripts ≡ false → lookup (bytes_eq name) names ≡ None
none-taken {X} name names scripts keys new = by (lookup (bytes_eq name) names) refl
  where
    by : (found : Option X) → lookup (bytes_eq name) names ≡ found → lookup (bytes_eq name) names ≡ None
    by None is = is
    by (Some x) is = absurd (true≢false (taken-found name names scripts (Some x) (sym is) keys ∙ new))

-- a script more, and its name
pub names-more : {X : Type 0} (names after : List (List ℕ × X)) (x : X) (scripts more : List Named) (script : Named) → keys_of names ≡ map (λ (s : Named). s.name) scripts
    → after ≡ names ++ (script.name, x) ∷ [] → more ≡ scripts ++ script ∷ [] → keys_of after ≡ map (λ (s : Named). s.name) more
names-more {X} names after x scripts more script keys is made =
    ap keys_of is ∙ map-append (λ (e : List ℕ × X). e.0) names ((script.name, x) ∷ []) ∙ ap (λ (ks : List (List ℕ)). ks ++ script.name ∷ []) keys
    ∙ sym (map-append (λ (s : Named). s.name) scripts (script ∷ [])) ∙ ap (map (λ (s : Named). s.name)) (sym made)

-- ---- names

-- a name has at most eight characters
pub name-short : (text : List ℕ) → is_name text ≡ true → length text ≤ 8
unfolding is_name
name-short [] is = omega arith
name-short (b ∷ bs) is =
    let both = and_parts (is_capital b && nat_le (length bs) 7) (list_all is_of_name bs) is in
    let few = (and_parts (is_capital b) (nat_le (length bs) 7) both.0).1 in
    let less : length bs ≤ 7 = grind (arith, nat_tests) in
    omega (arith, less)
