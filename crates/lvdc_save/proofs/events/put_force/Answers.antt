use Rattle.std.proofs.Common.{◌≡◌, ℕ, List, ◌++◌, codes, decimal, append_assoc, ◌∙◌}
use Rattle.std.proofs.lemmas.Result.{on_ok_weaker}
use Rattle.lvdc_text.specs.Numbers.{octal_text}
use Rattle.lvdc_save.proofs.events.put_force.Goals as goal

-- seven fields one after the other, and by parts
line : (out name blank number copy first last index mask value end : List ℕ)
    → out ++ name ++ (blank ++ number ++ (blank ++ copy ++ (blank ++ first ++ (blank ++ last ++ (blank ++ index ++ (blank ++ mask ++ (blank ++ value ++ end)))))))
    ≡ out ++ (name ++ (blank ++ number ++ (blank ++ copy) ++ (blank ++ first) ++ (blank ++ last)) ++ (blank ++ index) ++ (blank ++ mask) ++ (blank ++ value) ++ end)
line out name blank number copy first last index mask value end = simp append_assoc

pub returns : goal.returns
returns c =
    on_ok_weaker c.put_line.result
    (λ text. text ∙ line c.args.out.now.items (codes "FORCE") (codes " ") (decimal c.args.number) (decimal c.args.copy) (decimal c.args.first) (decimal c.args.last) (decimal c.args.index) (octal_text 9 c.args.mask) (octal_text 9 c.args.value) (codes "\n"))
    c.put_line.ensures.text
