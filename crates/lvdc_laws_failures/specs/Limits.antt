-- Where masking ends: two failing copies of a module, and voters of the exchange that fail; and a disagreement that no count shows.
use Rattle.std.specs.Prelude.{◌≡◌, ℕ, ◌-◌, Bool, not, ◌==◌, ◌&&◌, List, [], ◌∷◌, slice_index, slice_index_or}
use Rattle.lvdc_vote.specs.Copies.{copy_of}
use Rattle.lvdc_modules.specs.Request.{word_of_request}
use Rattle.lvdc_modules.specs.Rows.{rows, bus_of}
use Rattle.lvdc_modules.specs.Timer.{timer_row}
use Rattle.lvdc_modules.specs.Wish.{wish}
use Rattle.lvdc_modules.specs.declared.request.Destination.{Destination}
use Rattle.lvdc_modules.specs.declared.request.Request.TheVariants.{StoreA}
use Rattle.lvdc_model.specs.Trial.{Trial}
use Rattle.lvdc_model.specs.Voted.{Voted, voted_bus}
use Rattle.lvdc_model.specs.Exchanges.{begin_step, exchanges, wished}
use Rattle.lvdc_laws_failures.specs.Listeners.{Listener, Copy, Exchange, Three, told_by_three, heard}
use Rattle.lvdc_laws_failures.specs.Split.{Run, Adversary}
use Rattle.lvdc_laws_failures.specs.Steps.{all_sound, memory_word, answer_word, copies_after}

-- the copies of a module, counted from 1
abbrev pub three_of : List Three → ℕ → Three
three_of copies m = slice_index_or copies (m - 1) (all_sound [])

-- two copies of a module, all but this one, fail in each step, and together tell each listener what they like
abbrev pub liars : ℕ → ℕ → (Run → Listener → ℕ → ℕ) → Adversary
liars number honest likes =
    record {
      fails = λ run m c. (m == number) && not (c == honest);
      says = λ run m c listener index. likes run listener index;
    }

-- the step that is made where the voters of the exchange fail and give it these votes, whatever it is told
abbrev pub deceived : Trial → Voted → List (List ℕ) → Voted
deceived o v given = exchanges o v (wish (bus_of given 0 0) o.opening.banks)

-- votes by which the exchange stores a word at a destination: PHASE is that of stores, A the word, and REQUEST names the store
abbrev pub store_votes : Destination → ℕ → List (List ℕ)
store_votes t word =
    (2 ∷ 0 ∷ []) ∷ (0 ∷ 0 ∷ []) ∷ (0 ∷ []) ∷ (0 ∷ []) ∷ (word ∷ 0 ∷ []) ∷ (0 ∷ 0 ∷ 0 ∷ 0 ∷ 0 ∷ []) ∷ (0 ∷ word_of_request (StoreA t) ∷ []) ∷ []

-- the word that a sound copy of a module latches in the step that comes, where it hears what the exchange hears
abbrev pub sound_word : Trial → Run → ℕ → ℕ → ℕ
sound_word o run m index =
    let begun = begin_step o run.now.voted in
    let wanted = wished o begun in
    slice_index (slice_index_or rows (m - 1) timer_row (voted_bus begun (memory_word o begun wanted) (answer_word begun wanted))) index

-- to the exchange the word that a sound copy would tell it, to a copy what one likes
abbrev pub face_for : Listener → ℕ → (ℕ → ℕ → ℕ) → ℕ
face_for Exchange right likes = right
face_for (Copy m c) right likes = likes m c

-- copies that fail tell the exchange what a sound copy would, and other copies what they like
abbrev pub two_faced : Trial → (Run → ℕ → ℕ → Bool) → (Run → ℕ → ℕ → ℕ → ℕ → ℕ → ℕ) → Adversary
two_faced o fails likes =
    record {
      fails = fails;
      says = λ run m c listener index. face_for listener (sound_word o run m index) (λ number copy. likes run m c index number copy);
    }

-- a copy tells the exchange what the exchange then hears of its module
abbrev pub TellsTheVote : Trial → Adversary → ℕ → ℕ → ℕ → Type 0
TellsTheVote o a n m c =
    copy_of (told_by_three Exchange (three_of (copies_after o a n) m)) (c - 1) ≡ heard Exchange (three_of (copies_after o a n) m)
