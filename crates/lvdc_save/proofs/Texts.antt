-- Texts that grow by the line of one entry after the other.
use Rattle.std.proofs.Common.{◌≡◌, ℕ, ◌+◌, ◌<◌, ◌≤◌, List, [], ◌∷◌, ◌++◌, map, length, get_or, drop, sym, ap, ◌∙◌, append_assoc}
use Rattle.std.proofs.lemmas.List.{append-nil}
use Rattle.lvdc_lines.specs.Noted.{lines_of}
use Rattle.lvdc_lines.proofs.LineLists.{lines_of_more, lines_of_done, lines_of-append, lines_of-map}
use Rattle.lvdc_save.specs.declared.entry.Entry.{Entry}
use Rattle.lvdc_save.specs.Lines.{entry_line}

-- the lines of the entries of items
pub entries_more : {A : Type 0} (says : A → Entry) (index : ℕ) (items : List A) (item : A) (text next all : List ℕ) → index < length items
    → item ≡ get_or items index item → next ≡ text ++ entry_line (says item) → text ++ lines_of entry_line (map says (drop index items)) ≡ all
    → next ++ lines_of entry_line (map says (drop (index + 1) items)) ≡ all
entries_more says index items item text next all l is n e =
    ap (λ rest. next ++ rest) (lines_of-map entry_line says (drop (index + 1) items))
    ∙ lines_of_more (λ a. entry_line (says a)) index items item text next all l is n
    (ap (λ rest. text ++ rest) (sym (lines_of-map entry_line says (drop index items))) ∙ e)

pub entries_done : {A : Type 0} (says : A → Entry) (index : ℕ) (items : List A) (text all : List ℕ) → length items ≤ index
    → text ++ lines_of entry_line (map says (drop index items)) ≡ all → text ≡ all
entries_done says index items text all l e =
    lines_of_done (λ a. entry_line (says a)) index items text all l
    (ap (λ rest. text ++ rest) (sym (lines_of-map entry_line says (drop index items))) ∙ e)

-- what follows a list of lines, and then the lines of more
pub list_before : (xs ys : List Entry) (front text all : List ℕ) → text ≡ front ++ lines_of entry_line xs → all ≡ text ++ lines_of entry_line ys
    → all ≡ front ++ lines_of entry_line (xs ++ ys)
list_before xs ys front text all e f =
    f ∙ ap (λ t. t ++ lines_of entry_line ys) e ∙ append_assoc front (lines_of entry_line xs) (lines_of entry_line ys)
    ∙ ap (λ t. front ++ t) (sym (lines_of-append entry_line xs ys))

-- the lines of a list, and then those of another
pub list_after : (xs ys : List Entry) (text all : List ℕ) → text ≡ lines_of entry_line xs → all ≡ text ++ lines_of entry_line ys
    → all ≡ lines_of entry_line (xs ++ ys)
list_after xs ys text all e f = f ∙ ap (λ t. t ++ lines_of entry_line ys) e ∙ sym (lines_of-append entry_line xs ys)

-- what follows a line, and then the lines of more
pub line_before : (x : Entry) (ys : List Entry) (front text all : List ℕ) → text ≡ front ++ entry_line x → all ≡ text ++ lines_of entry_line ys
    → all ≡ front ++ lines_of entry_line (x ∷ ys)
unfolding lines_of
line_before x ys front text all e f =
    f ∙ ap (λ t. t ++ lines_of entry_line ys) e ∙ append_assoc front (entry_line x) (lines_of entry_line ys)

-- the last line
pub last_line : (x : Entry) (front all : List ℕ) → all ≡ front ++ entry_line x → all ≡ front ++ lines_of entry_line (x ∷ [])
unfolding lines_of
last_line x front all e = e ∙ ap (λ t. front ++ t) (sym (append-nil (entry_line x)))
