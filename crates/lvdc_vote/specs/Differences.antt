-- What a triple keeps: differences from the vote and from the first shadow.
use Rattle.std.specs.Prelude.{◌≡◌, ◌≢◌, ℕ, List, [], Bool, true, Option, Some, None, unwrap_or, if◌then◌else◌, IsSome}
use Rattle.lvdc_vote.specs.Latches.{majority_of, same_words}
use Rattle.lvdc_vote.specs.Copies.{Copies}

-- what is kept: the vote and of each copy what differs from it; the shadow that was latched first and of each shadow what differs from that; and a mark for each copy that has latched
pub record TripleView : Type 0 where
  pub voted : List ℕ
  pub one : Option (List ℕ)
  pub two : Option (List ℕ)
  pub three : Option (List ℕ)
  pub first : Option (List ℕ)
  pub shadow_one : Option (List ℕ)
  pub shadow_two : Option (List ℕ)
  pub shadow_three : Option (List ℕ)
  pub latched_one : Bool
  pub latched_two : Bool
  pub latched_three : Bool

-- what is kept of a list beside a base: nothing where they are equal
abbrev pub kept_of : List ℕ → List ℕ → Option (List ℕ)
kept_of words base = if same_words words base then None else Some words

-- the shadow of a copy: of one that is marked its difference, or else the base of all three
abbrev pub shadow_by : Bool → Option (List ℕ) → Option (List ℕ) → Option (List ℕ)
shadow_by mark own base = if mark then Some (unwrap_or own (unwrap_or base [])) else None

-- the three whole copies that are meant
abbrev pub copies_by : TripleView → Copies
copies_by k =
    record {
      one = unwrap_or k.one k.voted;
      two = unwrap_or k.two k.voted;
      three = unwrap_or k.three k.voted;
      shadow_one = shadow_by k.latched_one k.shadow_one k.first;
      shadow_two = shadow_by k.latched_two k.shadow_two k.first;
      shadow_three = shadow_by k.latched_three k.shadow_three k.first;
    }

-- a list is kept only where it differs from the base
abbrev pub OnlyDifferent : Option (List ℕ) → List ℕ → Type 0
OnlyDifferent own base = (words : List ℕ) → own ≡ Some words → words ≢ base

-- the vote is the vote of what is meant, only what differs is kept, and where a copy is marked some shadow was the first
pub record IsSound (k : TripleView) : Type 0 where
  pub vote : k.voted ≡ majority_of (unwrap_or k.one k.voted) (unwrap_or k.two k.voted) (unwrap_or k.three k.voted)
  pub different_one : OnlyDifferent k.one k.voted
  pub different_two : OnlyDifferent k.two k.voted
  pub different_three : OnlyDifferent k.three k.voted
  pub marked_one : k.latched_one ≡ true → IsSome k.first
  pub marked_two : k.latched_two ≡ true → IsSome k.first
  pub marked_three : k.latched_three ≡ true → IsSome k.first
  pub shadow_one : k.latched_one ≡ true → OnlyDifferent k.shadow_one (unwrap_or k.first [])
  pub shadow_two : k.latched_two ≡ true → OnlyDifferent k.shadow_two (unwrap_or k.first [])
  pub shadow_three : k.latched_three ≡ true → OnlyDifferent k.shadow_three (unwrap_or k.first [])

-- these are kept beside a vote: it is the vote of what they mean, and only what differs from it is kept
pub record IsKept (voted : List ℕ) (one two three : Option (List ℕ)) : Type 0 where
  pub vote : voted ≡ majority_of (unwrap_or one voted) (unwrap_or two voted) (unwrap_or three voted)
  pub different_one : OnlyDifferent one voted
  pub different_two : OnlyDifferent two voted
  pub different_three : OnlyDifferent three voted
