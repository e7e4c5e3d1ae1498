-- In a step the copies that are not wrong latch the rows of the votes.
use Rattle.std.proofs.Common.{◌≡◌, ℕ, ◌+◌, ◌<◌, ◌≤◌, Bool, false, List, [], ◌∷◌, length, map, refl, sym, ◌∙◌, arith}
use Rattle.std.specs.declared.option.Option.TheVariants.{None}
use Rattle.lvdc_vote.specs.Bits.{TwoAre}
use Rattle.lvdc_vote.specs.Copies.{Copies, vote_of}
use Rattle.lvdc_vote.specs.Latches.{majority_of}
use Rattle.lvdc_modules.specs.Rows.{rows}
use Rattle.lvdc_modules.specs.declared.bus.Bus.{Bus}
use Rattle.lvdc_fault.specs.Script.{is_wrong, two_wrong, wrong_module, NoneWrong}
use Rattle.lvdc_fault.specs.declared.event.Event.{Event}
use Rattle.lvdc_laws_phases.specs.States.{Fits, next_of, next_states}
use Rattle.lvdc_model.proofs.Latching.{two_by, right_copy, length-next_copy}
use Rattle.lvdc_model.specs.Voted.{next_copies}
use Rattle.lvdc_laws_voted.specs.Copies.{ModuleAgrees, Agree}

-- two equal states of three are the vote
abbrev pub TwoVote : Type 0
TwoVote = (one two three state : List ℕ) → length one ≡ length state → length two ≡ length state → length three ≡ length state
    → TwoAre one two three state → majority_of one two three ≡ state

-- where no module is named, none has two wrong copies
abbrev pub NamedLaw : Type 0
NamedLaw = (script : List Event) (step : ℕ) → wrong_module script step ≡ None → NoneWrong script step

-- ---- the votes

-- where two copies have a state the vote is that state
vote-state : TwoVote → (wrong : ℕ → Bool) (t : Copies) (s : List ℕ) → ModuleAgrees wrong t s → vote_of t ≡ s
vote-state law wrong t s g =
    law t.one t.two t.three s g.sized.one g.sized.two g.sized.three
    (two_by (wrong 1) (wrong 2) (wrong 3) t.one t.two t.three s g.two g.first g.second g.third)

-- the same of all seven modules
pub votes-states : TwoVote → (wrong : ℕ → ℕ → Bool) (m : ℕ) (copies : List Copies) (states : List (List ℕ)) → Agree wrong m copies states → map vote_of copies ≡ states
votes-states law wrong m [] [] g = refl
votes-states law wrong m [] (s ∷ ss) g = absurd g
votes-states law wrong m (t ∷ ts) [] g = absurd g
votes-states law wrong m (t ∷ ts) (s ∷ ss) g = rw (vote-state law (wrong m) t s g.0, votes-states law wrong (m + 1) ts ss g.1) refl

-- ---- one step

-- of the modules from m on none has two wrong copies
next-agrees : (script : List Event) (step m : ℕ) (rs : List (Bus → List ℕ)) (mine : List Copies) (wrong : ℕ → ℕ → Bool) (states : List (List ℕ))
    (copies : List Copies) (bus : Bus) → Fits rs states → ((j : ℕ) → m ≤ j → j < m + length rs → two_wrong script step j ≡ false) → Agree wrong m mine states
    → Agree (is_wrong script step) m (next_copies script step m rs mine copies bus) (next_of rs bus)
next-agrees script step m [] mine wrong states copies bus fits two g = tt
next-agrees script step m (r ∷ rs) mine wrong [] copies bus fits two g = absurd fits
next-agrees script step m (r ∷ rs) [] wrong (s ∷ ss) copies bus fits two g = absurd g
next-agrees script step m (r ∷ rs) (t ∷ mine) wrong (s ∷ ss) copies bus fits two g = (
  record {
    two = two m (omega arith) (omega arith);
    first = λ h. right_copy script step m 1 r t.one copies bus h;
    second = λ h. right_copy script step m 2 r t.two copies bus h;
    third = λ h. right_copy script step m 3 r t.three copies bus h;
    sized = record {
      one = length-next_copy script step m 1 (length s) r t.one copies bus fits.0 g.0.sized.one ∙ sym (fits.0 bus);
      two = length-next_copy script step m 2 (length s) r t.two copies bus fits.0 g.0.sized.two ∙ sym (fits.0 bus);
      three = length-next_copy script step m 3 (length s) r t.three copies bus fits.0 g.0.sized.three ∙ sym (fits.0 bus);
    };
  },
  next-agrees script step (m + 1) rs mine wrong ss copies bus fits.1 (λ j low high. two j (omega arith) (omega arith)) g.1,
)

-- after a step with no module named all copies but the wrong ones have the next state
pub step-agrees : NamedLaw → (script : List Event) (step : ℕ) (wrong : ℕ → ℕ → Bool) (copies : List Copies) (states : List (List ℕ)) (bus : Bus)
    → Fits rows states → wrong_module script step ≡ None → Agree wrong 1 copies states
    → Agree (is_wrong script step) 1 (next_copies script step 1 rows copies copies bus) (next_states bus)
step-agrees law script step wrong copies states bus fits h g =
    next-agrees script step 1 rows copies wrong states copies bus fits (λ j low high. law script step h j low (omega arith)) g
