-- What a list of messages comes to.
use Rattle.std.specs.Prelude.{ℕ, ◌<◌, List, [], ◌∷◌, ◌++◌, option_to_list, if◌then◌else◌}
use Rattle.lvdc_uplink.specs.Frames.{Load}
use Rattle.lvdc_uplink.specs.Link.{Link, after_text, is_applying}
use Rattle.lvdc_uplink.specs.declared.answer.Answer.{Answer}

-- the answers to these lines, one after another
abbrev pub answers_from : Link → List (List ℕ) → List Answer
answers_from link [] = []
answers_from link (text ∷ texts) = (after_text link text).answer ∷ answers_from (after_text link text).link texts

-- the link after these lines
abbrev pub link_after : Link → List (List ℕ) → Link
link_after link [] = link
link_after link (text ∷ texts) = link_after (after_text link text).link texts

-- the load that a line commits, alone in a list
abbrev pub committed_by : Link → List ℕ → List Load
committed_by link text = if is_applying link (after_text link text) then option_to_list link.load else []

-- the loads that these lines commit, in the order of their commits
abbrev pub committed_from : Link → List (List ℕ) → List Load
committed_from link [] = []
committed_from link (text ∷ texts) = committed_by link text ++ committed_from (after_text link text).link texts

-- the ids of the loads rise strictly, above this one
abbrev pub AreAbove : ℕ → List Load → Type 0
AreAbove last [] = Unit {0}
AreAbove last (load ∷ loads) = (last < load.id) × AreAbove load.id loads
