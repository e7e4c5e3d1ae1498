-- Lines that are sent one after another, and the lines of their answers.
use Rattle.std.proofs.Common.{◌≡◌, ℕ, ◌+◌, ◌<◌, ◌≤◌, List, [], ◌∷◌, ◌++◌, length, map, get_or, drop, sym, ap, ◌∙◌, append_assoc, append-nil}
use Rattle.std.specs.Prelude.{codes}
use Rattle.std.proofs.lemmas.List.{drop_more, drop_all}
use Rattle.lvdc_text.specs.Lines.{part_of}
use Rattle.lvdc_text.specs.declared.cutting.Line.{Line}
use Rattle.lvdc_uplink.specs.Link.{Link, after_text}
use Rattle.lvdc_uplink.specs.History.{answers_from, link_after}
use Rattle.lvdc_uplink.specs.Answers.{answer_line, answers_text}

module _ (bytes : List ℕ) (lines : List Line) (i : ℕ) where
  -- the texts from this line on
  abbrev texts_from : ℕ → List (List ℕ)
  texts_from from = map (part_of bytes) (drop from lines)

  module _ (d : Line) (text : List ℕ) (within : i < length lines) (is : text ≡ part_of bytes (get_or lines i d)) (link now : Link)
      (step : now ≡ (after_text link text).link) where
    here : texts_from i ≡ text ∷ texts_from (i + 1)
    here = ap (map (part_of bytes)) (drop_more lines i d within) ∙ ap (λ (t : List ℕ). t ∷ texts_from (i + 1)) (sym is)

    pub link-sent : (total : Link) → link_after link (texts_from i) ≡ total → link_after now (texts_from (i + 1)) ≡ total
    link-sent total so_far =
        ap (λ (l : Link). link_after l (texts_from (i + 1))) step ∙ ap (link_after link) (sym here) ∙ so_far

    pub text-sent : (before out total : List ℕ) → out ≡ before ++ (answer_line (after_text link text).answer ++ codes "\n")
        → before ++ answers_text (answers_from link (texts_from i)) ≡ total → out ++ answers_text (answers_from now (texts_from (i + 1))) ≡ total
    text-sent before out total told so_far =
        let line : List ℕ = answer_line (after_text link text).answer in
        let more : List ℕ = answers_text (answers_from (after_text link text).link (texts_from (i + 1))) in
        ap (λ (o : List ℕ). o ++ answers_text (answers_from now (texts_from (i + 1)))) told
        ∙ ap (λ (l : Link). (before ++ (line ++ codes "\n")) ++ answers_text (answers_from l (texts_from (i + 1)))) step
        ∙ append_assoc before (line ++ codes "\n") more
        ∙ ap (λ (o : List ℕ). before ++ o) (append_assoc line (codes "\n") more)
        ∙ ap (λ (texts : List (List ℕ)). before ++ answers_text (answers_from link texts)) (sym here) ∙ so_far

  module _ (all : length lines ≤ i) where
    nothing : texts_from i ≡ []
    nothing = ap (map (part_of bytes)) (drop_all i lines all)

    pub link-done : (link total : Link) → link_after link (texts_from i) ≡ total → link ≡ total
    link-done link total so_far = ap (link_after link) (sym nothing) ∙ so_far

    pub text-done : (link : Link) (out total : List ℕ) → out ++ answers_text (answers_from link (texts_from i)) ≡ total → out ≡ total
    text-done link out total so_far =
        sym (append-nil out) ∙ ap (λ (texts : List (List ℕ)). out ++ answers_text (answers_from link texts)) (sym nothing) ∙ so_far
