-- The fault script: what is active at a step, which copies are wrong then, and which are deaf.
use Rattle.std.specs.Prelude.{◌≡◌, ◌≤◌, ℕ, Bool, true, false, ◌==◌, ◌&&◌, ◌||◌, nat_le, List, [], ◌∷◌, Option, None, Some, find, filter}
use Rattle.std.specs.List.{list_any}
use Rattle.lvdc_fault.specs.declared.event.Event.{Event}
use Rattle.lvdc_fault.specs.declared.event.Event.TheVariants.{Flip, Force, Lag, Deaf, Damage, Stick, Dead}
use Rattle.lvdc_fault.specs.declared.span.Span.{Span}

-- does a step lie from the first to the last?
abbrev pub is_within : ℕ → ℕ → ℕ → Bool
is_within first last step = nat_le first step && nat_le step last

-- ---- wrong copies

-- is it this copy of this module, at a step from the first to the last?
abbrev pub acts_on : ℕ → ℕ → ℕ → ℕ → ℕ → ℕ → ℕ → Bool
acts_on number copy first last step m c = number == m && copy == c && is_within first last step

-- does an event make a copy of a module wrong at a step?
abbrev pub makes_wrong : ℕ → ℕ → ℕ → Event → Bool
makes_wrong step m c (Flip number copy first last index mask) = acts_on number copy first last step m c
makes_wrong step m c (Force number copy first last index mask value) = acts_on number copy first last step m c
makes_wrong step m c (Lag number copy first last) = acts_on number copy first last step m c
makes_wrong step m c (Deaf number copy first last) = acts_on number copy first last step m c
makes_wrong step m c _ = false

-- a copy is wrong at a step where an event acts on it
abbrev pub is_wrong : List Event → ℕ → ℕ → ℕ → Bool
is_wrong script step m c = list_any (makes_wrong step m c) script

-- are two of the three copies wrong?
abbrev pub are_two : (ℕ → Bool) → Bool
are_two wrong = (wrong 1 && wrong 2) || (wrong 1 && wrong 3) || (wrong 2 && wrong 3)

-- does a module have two wrong copies?
abbrev pub two_wrong : List Event → ℕ → ℕ → Bool
two_wrong script step m = are_two (is_wrong script step m)

-- the lowest module with two wrong copies
abbrev pub wrong_module : List Event → ℕ → Option ℕ
wrong_module script step = find (λ m. are_two (is_wrong script step m)) (1 ∷ 2 ∷ 3 ∷ 4 ∷ 5 ∷ 6 ∷ 7 ∷ [])

-- is a number, if there is one, this one?
abbrev pub is_number : ℕ → Option ℕ → Bool
is_number n None = false
is_number n (Some m) = m == n

-- no module has two wrong copies
abbrev pub NoneWrong : List Event → ℕ → Type 0
NoneWrong script step = (m : ℕ) → 1 ≤ m → m ≤ 7 → two_wrong script step m ≡ false

-- does an event make a copy of a module deaf at a step?
abbrev pub deafens : ℕ → ℕ → ℕ → Event → Bool
deafens step m c (Deaf number copy first last) = acts_on number copy first last step m c
deafens step m c _ = false

-- a deaf copy of a module follows the copies of its own number in place of the votes
abbrev pub is_deaf : List Event → ℕ → ℕ → ℕ → Bool
is_deaf script step m c = list_any (deafens step m c) script

-- ---- what is active

-- the steps of an event: damage is at its step alone
abbrev pub span_of : Event → Span
span_of (Flip number copy first last index mask) = record { first = first; last = last }
span_of (Force number copy first last index mask value) = record { first = first; last = last }
span_of (Lag number copy first last) = record { first = first; last = last }
span_of (Deaf number copy first last) = record { first = first; last = last }
span_of (Damage twin at t mask) = record { first = t; last = t }
span_of (Stick twin at first last mask value) = record { first = first; last = last }
span_of (Dead twin pair first last) = record { first = first; last = last }

-- is an event on memory, and not on a copy?
abbrev pub is_on_memory : Event → Bool
is_on_memory (Damage twin at step mask) = true
is_on_memory (Stick twin at first last mask value) = true
is_on_memory (Dead twin pair first last) = true
is_on_memory _ = false

-- is an event active at a step?
abbrev pub is_active : ℕ → Event → Bool
is_active step (Damage twin at t mask) = t == step
is_active step e = is_within (span_of e).first (span_of e).last step

-- the first step of an event
abbrev pub first_of : Event → ℕ
first_of e = (span_of e).first

-- the events active at a step, in the order of the script
abbrev pub active_events : List Event → ℕ → List Event
active_events script step = filter (is_active step) script
