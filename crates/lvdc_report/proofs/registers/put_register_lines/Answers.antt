use Rattle.std.proofs.Common.{◌≡◌, ℕ, List, ◌++◌, codes, decimal, ◌∙◌, append_assoc}
use Rattle.lvdc_text.specs.Numbers.{octal_text}
use Rattle.lvdc_report.specs.Report.{times_line, place_line, data_line, dup_line, word_line}
use Rattle.lvdc_report.proofs.registers.put_register_lines.Goals as goal

-- seven lines, each after the one before it
seven_lines : (out times place data_place dup a pq saver l1 l2 l3 l4 l5 l6 l7 : List ℕ) → l1 ≡ out ++ times → l2 ≡ l1 ++ place → l3 ≡ l2 ++ data_place → l4 ≡ l3 ++ dup
    → l5 ≡ l4 ++ a → l6 ≡ l5 ++ pq → l7 ≡ l6 ++ saver → l7 ≡ out ++ (times ++ place ++ data_place ++ dup ++ a ++ pq ++ saver)
seven_lines out times place data_place dup a pq saver l1 l2 l3 l4 l5 l6 l7 e1 e2 e3 e4 e5 e6 e7 = rw (e7, e6, e5, e4, e3, e2, e1) (simp append_assoc)

-- the line of a word, as its name and what is behind it
word_behind : (out name line : List ℕ) (word : ℕ) → line ≡ out ++ name ++ (codes " " ++ (octal_text 9 word ++ codes "\n"))
    → line ≡ out ++ (name ++ (codes " " ++ (octal_text 9 word ++ codes "\n")))
word_behind out name line word e = e ∙ append_assoc out name (codes " " ++ (octal_text 9 word ++ codes "\n"))

pub returns-clause-text : goal.returns-clause-text
returns-clause-text c =
    let v = c.args.visible.now in
    seven_lines _ (times_line v.times) (place_line v.place) (data_line v.place) (dup_line v.place) (word_line (codes "A") v.a) (word_line (codes "PQ") v.pq)
    (word_line (codes "SAVER") v.saver) _ _ _ _ _ _ _
    (c.in_ok-put_line.ensures.text ∙ append_assoc c.args.out.now.items (codes "TIMES") (codes " " ++ (decimal v.times ++ codes "\n")))
    c.in_ok-put_place_line.ensures.text c.in_ok-put_data_line.ensures.text c.in_ok-put_dup_line.ensures.text
    (word_behind _ (codes "A") _ v.a c.in_ok-put_line-2.ensures.text) (word_behind _ (codes "PQ") _ v.pq c.in_ok-put_line-3.ensures.text)
    (word_behind _ (codes "SAVER") _ v.saver c.in_ok-put_line-4.ensures.text)
