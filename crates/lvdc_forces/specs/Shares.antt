-- What the events of a part of a script do to one copy in a step, and what two parts do, one after the other.
use Rattle.std.specs.Prelude.{ℕ, ◌+◌, ◌/◌, ◌%◌, Bool, false, ◌||◌, List, [], ◌∷◌, replicate, slice_index_or}
use Rattle.lvdc_vote.specs.Harms.{no_patch, patch_and_flip, patch_and_force, harm_after, harm_of}
use Rattle.lvdc_vote.specs.declared.harm.Harm.{Harm}
use Rattle.lvdc_vote.specs.declared.harm.Patch.{Patch}
use Rattle.lvdc_fault.specs.Script.{makes_wrong, is_wrong, deafens, is_deaf}
use Rattle.lvdc_fault.specs.declared.event.Event.{Event}
use Rattle.lvdc_fault.specs.Hurts.{hurts_by, hurts_on}
use Rattle.lvdc_forces.specs.declared.shares.Share.{Share}

-- nothing is done to a copy
abbrev pub no_share : Share
no_share = record { named = false; deaf = false; lags = false; patches = replicate 5 no_patch }

-- what is wrong with a copy as it latches
abbrev pub harm_in : Share → Harm
harm_in s = record { lags = s.lags; patches = s.patches }

-- what is done to a copy: whether it is named, whether it is deaf, and what is wrong with it as it latches
abbrev pub share_with : Bool → Bool → Harm → Share
share_with named deaf h = record { named = named; deaf = deaf; lags = h.lags; patches = h.patches }

-- what a list of events does to copy c of module m in a step
abbrev pub share_on : List Event → ℕ → ℕ → ℕ → Share
share_on es step m c = share_with (is_wrong es step m c) (is_deaf es step m c) (harm_of (hurts_on step m c es))

-- the same of copy n % 3 of module n / 3, both counted from 0
abbrev pub share_of : List Event → ℕ → ℕ → Share
share_of es step n = share_on es step (n / 3 + 1) (n % 3 + 1)

-- what was done to a copy, and what one event more does
abbrev pub share_next : ℕ → ℕ → ℕ → Share → Event → Share
share_next step m c s e = share_with (s.named || makes_wrong step m c e) (s.deaf || deafens step m c e) (harm_after (harm_in s) (hurts_by step m c e))

-- a patch after another
abbrev pub patch_join : Patch → Patch → Patch
patch_join p q = patch_and_force (patch_and_flip p q.value) q.mask q.value

-- each patch of a list after that of another
abbrev pub patches_join : List Patch → List Patch → List Patch
patches_join [] qs = []
patches_join (p ∷ ps) [] = p ∷ ps
patches_join (p ∷ ps) (q ∷ qs) = patch_join p q ∷ patches_join ps qs

-- what is done to a copy by what comes first and by what comes after it
abbrev pub share_join : Share → Share → Share
share_join a b =
    record { named = a.named || b.named; deaf = a.deaf || b.deaf; lags = a.lags || b.lags; patches = patches_join a.patches b.patches }

-- what is done to a copy, by its number
abbrev pub share_at : List Share → ℕ → Share
share_at shares n = slice_index_or shares n no_share
