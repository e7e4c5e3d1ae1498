-- The entries of a session, one after the other.
use Rattle.std.proofs.Common.{◌≡◌, ℕ, ◌+◌, ◌<◌, Bool, List, [], ◌∷◌, ◌++◌, take, length, get_or, fold, Some, refl, sym, ap, ◌∙◌, append_assoc, add-one}
use Rattle.std.proofs.lemmas.List.{append-nil}
use Rattle.std.proofs.lemmas.List.Sums.{fold-append}
use Rattle.std.proofs.Math.Seq.{take-suc}
use Rattle.lvdc_text.specs.Lines.{token_texts_of}
use Rattle.lvdc_model.specs.Trial.{Trial}
use Rattle.lvdc_model.specs.Voted.{Voted}
use Rattle.lvdc_debug.specs.declared.command.Command.{Command}
use Rattle.lvdc_debug.specs.declared.course.Course.{Course}
use Rattle.lvdc_debug.specs.Commands.{command_in}
use Rattle.lvdc_debug.specs.Session.{Subject, at_start, asked_by, after_command, does_all, answer_text, answer, line_answer, after_line, echo_line, entry, entries}

-- the entry of a line that is a command
pub entry_is : (o : Trial) (s : Subject) (c d : Course) (text : List ℕ) (command : Command) (all : Bool) (v : Voted) (out echoed after : List ℕ)
    → command_in (token_texts_of text) ≡ Some command → (d ≡ after_command s c command) × (all ≡ does_all s c command) → s.trial ≡ o → s.state d.asked ≡ v
    → echoed ≡ out ++ echo_line text → after ≡ echoed ++ answer_text o v d.breaks all command → after ≡ out ++ entry s c text
entry_is o s c d text command all v out echoed after is went trial state echo told =
    let asked = ap (λ (x : Course). x.asked) went.0 in
    let breaks = ap (λ (x : Course). x.breaks) went.0 in
    let does = went.1 in
    let shown : v ≡ s.state (asked_by s c command) = sym state ∙ ap s.state asked in
    let same : answer_text o v d.breaks all command ≡ answer s c command = λ i. answer_text (sym trial i) (shown i) (breaks i) (does i) command in
    told ∙ ap (λ (front : List ℕ). front ++ answer_text o v d.breaks all command) echo
    ∙ append_assoc out (echo_line text) (answer_text o v d.breaks all command)
    ∙ ap (λ (rest : List ℕ). out ++ (echo_line text ++ rest)) (same ∙ sym (ap (line_answer s c) is))

entries-append : (s : Subject) (c : Course) (xs ys : List (List ℕ)) → entries s c (xs ++ ys) ≡ entries s c xs ++ entries s (fold (after_line s) c xs) ys
unfolding entries
entries-append s c [] ys = refl
entries-append s c (x ∷ xs) ys =
    ap (λ rest. entry s c x ++ rest) (entries-append s (after_line s c x) xs ys)
    ∙ sym (append_assoc (entry s c x) (entries s (after_line s c x) xs) (entries s (fold (after_line s) (after_line s c x) xs) ys))

entries-one : (s : Subject) (c : Course) (text : List ℕ) → entries s c (text ∷ []) ≡ entry s c text
unfolding entries
entries-one s c text = append-nil (entry s c text)

-- one line more
module _ (s : Subject) (texts : List (List ℕ)) (index : ℕ) (text : List ℕ) (course : Course) (within : index < length texts) (is : text ≡ get_or texts index [])
    (so_far : course ≡ fold (after_line s) at_start (take index texts)) where
  longer : take (index + 1) texts ≡ take index texts ++ (text ∷ [])
  longer = rw add-one (take-suc texts index [] within ∙ ap (λ (x : List ℕ). take index texts ++ (x ∷ [])) (sym is))

  pub course_more : (next : Course) → next ≡ after_line s course text → next ≡ fold (after_line s) at_start (take (index + 1) texts)
  course_more next e =
      e ∙ ap (λ (c : Course). after_line s c text) so_far
      ∙ sym (fold-append (after_line s) at_start (take index texts) (text ∷ []))
      ∙ sym (ap (fold (after_line s) at_start) longer)

  pub entries_more : (front out next : List ℕ) → out ≡ front ++ entries s at_start (take index texts) → next ≡ out ++ entry s course text
      → next ≡ front ++ entries s at_start (take (index + 1) texts)
  entries_more front out next before e =
      e ∙ ap (λ (x : List ℕ). x ++ entry s course text) before
      ∙ append_assoc front (entries s at_start (take index texts)) (entry s course text)
      ∙ ap (λ (x : List ℕ). front ++ x)
      (ap (λ (c : Course). entries s at_start (take index texts) ++ entry s c text) so_far
      ∙ sym (ap (λ (x : List ℕ). entries s at_start (take index texts) ++ x) (entries-one s (fold (after_line s) at_start (take index texts)) text))
      ∙ sym (entries-append s at_start (take index texts) (text ∷ [])) ∙ sym (ap (entries s at_start) longer))

-- no line
pub entries_none : (s : Subject) (front : List ℕ) {text : List ℕ} → text ≡ [] → text ++ front ≡ front ++ entries s at_start []
unfolding entries
entries_none s front {text} is = ap (λ (x : List ℕ). x ++ front) is ∙ sym (append-nil front)
