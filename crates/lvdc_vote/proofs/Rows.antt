-- Worked values of the definitions.
use Rattle.std.proofs.Common.{◌≡◌, refl, [], ◌∷◌, true, false}
use Rattle.lvdc_vote.specs.Bits.{majority, flipped, forced}
use Rattle.lvdc_vote.specs.Harms.{harm_of, patched, no_patch}
use Rattle.lvdc_vote.specs.Latches.{latched_by}
use Rattle.lvdc_vote.specs.Copies.{settled, after_latch, after_settle, vote_of, differs_of, copy_of}
use Rattle.lvdc_vote.specs.declared.hurt.Hurt.TheVariants.{Lag, Flip, Force}

each_bit_is_what_two_have : majority 3 5 6 ≡ 7
unfolding majority
each_bit_is_what_two_have = refl

flipped_bits : flipped 0o17 0o21 ≡ 0o36
unfolding flipped
flipped_bits = refl

forced_bits : forced 0o17 0o70 0o52 ≡ 0o57
unfolding forced
forced_bits = refl

no_hurt : latched_by (3 ∷ 7 ∷ []) (0o17 ∷ 5 ∷ []) [] ≡ 0o17 ∷ 5 ∷ []
no_hurt = refl

lag_before_flip : latched_by (3 ∷ 7 ∷ []) (0o17 ∷ 5 ∷ []) (Flip 0 1 ∷ Lag ∷ []) ≡ 2 ∷ 7 ∷ []
unfolding flipped
lag_before_flip = refl

force_then_flip : latched_by (3 ∷ 7 ∷ []) (0o17 ∷ 5 ∷ []) (Force 0 1 0 ∷ Flip 0 1 ∷ []) ≡ 0o17 ∷ 5 ∷ []
unfolding flipped forced
force_then_flip = refl

-- a bit that is set and turned over, a bit that is turned over, and a lag, in one patch and a mark
hurts_in_one_patch : harm_of (Force 0 1 0 ∷ Flip 0 3 ∷ Lag ∷ []) ≡ record { lags = true; patches = record { mask = 1; value = 3 } ∷ no_patch ∷ no_patch ∷ no_patch ∷ no_patch ∷ [] }
unfolding flipped forced
hurts_in_one_patch = refl

patched_bits : patched (record { mask = 1; value = 3 }) 0o14 ≡ 0o17
unfolding patched flipped forced
patched_bits = refl

one_wrong_copy_is_outvoted : vote_of (settled (1 ∷ 2 ∷ []) (1 ∷ 3 ∷ []) (1 ∷ 2 ∷ [])) ≡ 1 ∷ 2 ∷ []
unfolding majority
one_wrong_copy_is_outvoted = refl

the_wrong_copy_differs : differs_of (settled (1 ∷ 2 ∷ []) (1 ∷ 3 ∷ []) (1 ∷ 2 ∷ [])) 1 ≡ true
unfolding majority
the_wrong_copy_differs = refl

a_right_copy_does_not : differs_of (settled (1 ∷ 2 ∷ []) (1 ∷ 3 ∷ []) (1 ∷ 2 ∷ [])) 0 ≡ false
unfolding majority
a_right_copy_does_not = refl

a_copy_stays_until_it_is_settled : copy_of (after_latch (settled (1 ∷ []) (1 ∷ []) (1 ∷ [])) 2 (4 ∷ [])) 2 ≡ 1 ∷ []
a_copy_stays_until_it_is_settled = refl

each_copy_is_what_it_latched : after_settle (after_latch (after_latch (after_latch (settled (1 ∷ []) (1 ∷ []) (1 ∷ [])) 2 (4 ∷ [])) 0 (5 ∷ [])) 1 (6 ∷ [])) (7 ∷ []) ≡ settled (5 ∷ []) (6 ∷ []) (4 ∷ [])
each_copy_is_what_it_latched = refl

the_others_have_the_next_state : after_settle (after_latch (settled (1 ∷ []) (1 ∷ []) (1 ∷ [])) 1 (4 ∷ [])) (7 ∷ []) ≡ settled (7 ∷ []) (4 ∷ []) (7 ∷ [])
the_others_have_the_next_state = refl
