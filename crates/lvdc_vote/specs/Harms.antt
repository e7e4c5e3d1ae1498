-- What many hurts of one copy come to: whether it lags, and one patch for each latch.
use Rattle.std.specs.Prelude.{ℕ, Option, Some, None, List, [], ◌∷◌, true, false, if◌then◌else◌, replicate, slice_index, slice_index_or, slice_set}
use Rattle.lvdc_vote.specs.Bits.{flipped, forced}
use Rattle.lvdc_vote.specs.declared.harm.Patch.{Patch}
use Rattle.lvdc_vote.specs.declared.harm.Harm.{Harm}
use Rattle.lvdc_vote.specs.declared.hurt.Hurt.{Hurt}
use Rattle.lvdc_vote.specs.declared.hurt.Hurt.TheVariants.{Lag, Flip, Force}

-- the word whose bits under the mask are those of the value, and whose other bits are turned over where the value has a one
unfoldable pub patched : Patch → ℕ → ℕ
patched p word = forced (flipped word p.value) p.mask p.value

-- the list whose word at the index has a patch
abbrev pub patched_at : List ℕ → ℕ → Patch → List ℕ
patched_at words index p = slice_set words index (patched p (slice_index words index))

-- words of which each has its patch
abbrev pub patched_all : List Patch → List ℕ → List ℕ
patched_all [] words = words
patched_all (p ∷ ps) [] = []
patched_all (p ∷ ps) (word ∷ words) = patched p word ∷ patched_all ps words

-- a patch under which each word stays
abbrev pub no_patch : Patch
no_patch = record { mask = 0; value = 0 }

-- a patch, after which the bits under the mask are turned over
abbrev pub patch_and_flip : Patch → ℕ → Patch
patch_and_flip p mask = record { mask = p.mask; value = flipped p.value mask }

-- a patch, after which the bits under the mask are those of the value
abbrev pub patch_and_force : Patch → ℕ → ℕ → Patch
patch_and_force p mask value = record { mask = forced p.mask mask mask; value = forced p.value mask value }

-- nothing is wrong with a copy
abbrev pub no_harm : Harm
no_harm = record { lags = false; patches = replicate 5 no_patch }

-- what is wrong with a copy, and one hurt more
abbrev pub harm_and : Harm → Hurt → Harm
harm_and h Lag = record h { lags = true }
harm_and h (Flip index mask) =
    record h { patches = slice_set h.patches index (patch_and_flip (slice_index_or h.patches index no_patch) mask) }
harm_and h (Force index mask value) =
    record h { patches = slice_set h.patches index (patch_and_force (slice_index_or h.patches index no_patch) mask value) }

-- and all the hurts of a list, in order
abbrev pub harm_after : Harm → List Hurt → Harm
harm_after h [] = h
harm_after h (hurt ∷ hurts) = harm_after (harm_and h hurt) hurts

-- what the hurts of a list come to
abbrev pub harm_of : List Hurt → Harm
harm_of hurts = harm_after no_harm hurts

-- what a copy latches: the next latches, or where it lags its old ones, each with its patch
abbrev pub harmed : List ℕ → List ℕ → Harm → List ℕ
harmed old next h = patched_all h.patches (if h.lags then old else next)

-- the same of a copy that latches by itself, or with the others: then it latches the next latches
abbrev pub harmed_by : Option Harm → List ℕ → List ℕ → List ℕ
harmed_by (Some h) old next = harmed old next h
harmed_by None old next = next
