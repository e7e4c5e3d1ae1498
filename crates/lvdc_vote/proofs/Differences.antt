-- What is kept of the differences gives the three whole copies back.
use Rattle.std.proofs.Common.{◌≡◌, ℕ, List, [], length, refl, sym, ◌∙◌, ap, Bool, true, false, not, Some, None, Option}
use Rattle.std.specs.Prelude.{if◌then◌else◌, ◌==◌, is_some, unwrap_or, IsSome}
use Rattle.std.specs.Bool.{Decides}
use Rattle.std.proofs.lemmas.Bool.{false≢true}
use Rattle.lvdc_vote.specs.Latches.{same_words, majority_of}
use Rattle.lvdc_vote.proofs.Votes.{same_words-Decides, same_tests, majority_of-first, majority_of-ends, majority_of-last}
use Rattle.std.specs.Option.{option_map}
use Rattle.lvdc_vote.specs.Copies.{differs_of, after_latch, settled}
use Rattle.lvdc_vote.specs.Differences.{TripleView, kept_of, shadow_by, copies_by, OnlyDifferent, IsSound, IsKept}

-- what is kept, by any test that decides whether the lists are equal
pub kept_by : (test : Bool) (words base : List ℕ) → Decides test (words ≡ base) → kept_of words base ≡ (if test then None else Some words)
kept_by test words base d =
    let none : Option (List ℕ) = None in
    ap (λ (b : Bool). if b then none else Some words) (same_tests (same_words words base) test (same_words-Decides words base) d)

-- a copy differs where something is kept of it
pub differs_kept : (own : Option (List ℕ)) (base : List ℕ) → OnlyDifferent own base → not (same_words (unwrap_or own base) base) ≡ is_some own
differs_kept None base h = ap not ((same_words-Decides base base).1 refl)
differs_kept (Some words) base h = ap not (at (same_words words base) (same_words-Decides words base)) where
  at : (b : Bool) → Decides b (words ≡ base) → b ≡ false
  at true d = absurd (h words refl (d.0 refl))
  at false d = refl

-- which copies differ from the vote
pub differs_one : (k : TripleView) → IsSound k → is_some k.one ≡ differs_of (copies_by k) 0
differs_one k sound = rw (← sound.vote) (sym (differs_kept k.one k.voted sound.different_one))

pub differs_two : (k : TripleView) → IsSound k → is_some k.two ≡ differs_of (copies_by k) 1
differs_two k sound = rw (← sound.vote) (sym (differs_kept k.two k.voted sound.different_two))

pub differs_three : (k : TripleView) → IsSound k → is_some k.three ≡ differs_of (copies_by k) 2
differs_three k sound = rw (← sound.vote) (sym (differs_kept k.three k.voted sound.different_three))

-- a value is there where its list is
pub is_some-map : {S : Type 0} (f : S → List ℕ) (o : Option S) → is_some o ≡ is_some (option_map f o)
is_some-map f None = refl
is_some-map f (Some s) = refl

-- what is meant is as long as each list is
pub sized_own : {S : Type 0} (f : S → List ℕ) (n : ℕ) → ((s : S) → length (f s) ≡ n) → (o : Option S) (v : S) → length (unwrap_or (option_map f o) (f v)) ≡ n
sized_own f n h None v = h v
sized_own f n h (Some s) v = h s

-- what is kept of a list gives that list back, and is kept only where it differs
pub meant_kept : (words base : List ℕ) → unwrap_or (kept_of words base) base ≡ words
meant_kept words base = at (same_words words base) (same_words-Decides words base) where
  at : (b : Bool) → Decides b (words ≡ base) → unwrap_or (if b then None else Some words) base ≡ words
  at true d = sym (d.0 refl)
  at false d = refl

kept_different : (words base : List ℕ) → OnlyDifferent (kept_of words base) base
kept_different words base = at (same_words words base) (same_words-Decides words base) where
  at : (b : Bool) → Decides b (words ≡ base) → OnlyDifferent (if b then None else Some words) base
  at true d = λ ws e. cc
  at false d = λ ws e f.
      let g : words ≡ ws = cc in
      false≢true (d.1 (g ∙ f))

-- a copy that latches leaves what another has latched
shadow_stays : (mark : Bool) (own first : Option (List ℕ)) (words : List ℕ) → (mark ≡ true → IsSome first) → shadow_by mark own (Some (unwrap_or first words)) ≡ shadow_by mark own first
shadow_stays false own first words h = refl
shadow_stays true own (Some base) words h = refl
shadow_stays true own None words h = absurd (false≢true (h refl))

different_stays : (mark : Bool) (own first : Option (List ℕ)) (words : List ℕ) → (mark ≡ true → IsSome first) → (mark ≡ true → OnlyDifferent own (unwrap_or first [])) → mark ≡ true → OnlyDifferent own (unwrap_or first words)
different_stays mark own (Some base) words h d e = d e
different_stays mark own None words h d e = absurd (false≢true (h e))

-- what is kept after a copy latched
abbrev pub noted_one : TripleView → List ℕ → TripleView
noted_one k words = record k { first = Some (unwrap_or k.first words); shadow_one = kept_of words (unwrap_or k.first words); latched_one = true }

abbrev pub noted_two : TripleView → List ℕ → TripleView
noted_two k words = record k { first = Some (unwrap_or k.first words); shadow_two = kept_of words (unwrap_or k.first words); latched_two = true }

abbrev pub noted_three : TripleView → List ℕ → TripleView
noted_three k words = record k { first = Some (unwrap_or k.first words); shadow_three = kept_of words (unwrap_or k.first words); latched_three = true }

pub view_one : (k : TripleView) (words : List ℕ) → IsSound k → copies_by (noted_one k words) ≡ after_latch (copies_by k) 0 words
view_one k words s =
    rw (meant_kept words (unwrap_or k.first words), shadow_stays k.latched_two k.shadow_two k.first words s.marked_two, shadow_stays k.latched_three k.shadow_three k.first words s.marked_three) refl

pub view_two : (k : TripleView) (words : List ℕ) → IsSound k → copies_by (noted_two k words) ≡ after_latch (copies_by k) 1 words
view_two k words s =
    rw (meant_kept words (unwrap_or k.first words), shadow_stays k.latched_one k.shadow_one k.first words s.marked_one, shadow_stays k.latched_three k.shadow_three k.first words s.marked_three) refl

pub view_three : (k : TripleView) (words : List ℕ) → IsSound k → copies_by (noted_three k words) ≡ after_latch (copies_by k) 2 words
view_three k words s =
    rw (meant_kept words (unwrap_or k.first words), shadow_stays k.latched_one k.shadow_one k.first words s.marked_one, shadow_stays k.latched_two k.shadow_two k.first words s.marked_two) refl

pub sound_one : (k : TripleView) (words : List ℕ) → IsSound k → IsSound (noted_one k words)
sound_one k words s =
    record {
      vote = s.vote;
      different_one = s.different_one;
      different_two = s.different_two;
      different_three = s.different_three;
      marked_one = λ e. refl;
      marked_two = λ e. refl;
      marked_three = λ e. refl;
      shadow_one = λ e. kept_different words (unwrap_or k.first words);
      shadow_two = different_stays k.latched_two k.shadow_two k.first words s.marked_two s.shadow_two;
      shadow_three = different_stays k.latched_three k.shadow_three k.first words s.marked_three s.shadow_three;
    }

pub sound_two : (k : TripleView) (words : List ℕ) → IsSound k → IsSound (noted_two k words)
sound_two k words s =
    record {
      vote = s.vote;
      different_one = s.different_one;
      different_two = s.different_two;
      different_three = s.different_three;
      marked_one = λ e. refl;
      marked_two = λ e. refl;
      marked_three = λ e. refl;
      shadow_one = different_stays k.latched_one k.shadow_one k.first words s.marked_one s.shadow_one;
      shadow_two = λ e. kept_different words (unwrap_or k.first words);
      shadow_three = different_stays k.latched_three k.shadow_three k.first words s.marked_three s.shadow_three;
    }

pub sound_three : (k : TripleView) (words : List ℕ) → IsSound k → IsSound (noted_three k words)
sound_three k words s =
    record {
      vote = s.vote;
      different_one = s.different_one;
      different_two = s.different_two;
      different_three = s.different_three;
      marked_one = λ e. refl;
      marked_two = λ e. refl;
      marked_three = λ e. refl;
      shadow_one = different_stays k.latched_one k.shadow_one k.first words s.marked_one s.shadow_one;
      shadow_two = different_stays k.latched_two k.shadow_two k.first words s.marked_two s.shadow_two;
      shadow_three = λ e. kept_different words (unwrap_or k.first words);
    }

-- what is kept of three lists and their vote, of which none has latched
abbrev pub nothing_latched : List ℕ → List ℕ → List ℕ → TripleView
nothing_latched xs ys zs =
    let vote = majority_of xs ys zs in
    record { voted = vote; one = kept_of xs vote; two = kept_of ys vote; three = kept_of zs vote; first = None; shadow_one = None; shadow_two = None; shadow_three = None; latched_one = false; latched_two = false; latched_three = false }

pub view_nothing_latched : (xs ys zs : List ℕ) → copies_by (nothing_latched xs ys zs) ≡ settled xs ys zs
view_nothing_latched xs ys zs = rw (meant_kept xs (majority_of xs ys zs), meant_kept ys (majority_of xs ys zs), meant_kept zs (majority_of xs ys zs)) refl

pub sound_nothing_latched : (xs ys zs : List ℕ) → IsSound (nothing_latched xs ys zs)
sound_nothing_latched xs ys zs =
    record {
      vote = rw (meant_kept xs (majority_of xs ys zs), meant_kept ys (majority_of xs ys zs), meant_kept zs (majority_of xs ys zs)) refl;
      different_one = kept_different xs (majority_of xs ys zs);
      different_two = kept_different ys (majority_of xs ys zs);
      different_three = kept_different zs (majority_of xs ys zs);
      marked_one = λ e. absurd (false≢true e);
      marked_two = λ e. absurd (false≢true e);
      marked_three = λ e. absurd (false≢true e);
      shadow_one = λ e. absurd (false≢true e);
      shadow_two = λ e. absurd (false≢true e);
      shadow_three = λ e. absurd (false≢true e);
    }

-- nothing is kept of the base itself
pub kept_same : (words : List ℕ) → None ≡ kept_of words words
kept_same words = let none : Option (List ℕ) = None in rw (kept_by true words words (λ e. refl, λ e. refl)) refl

-- nothing is kept beside the vote of three equal lists
pub sound_equal : (xs : List ℕ) → IsSound (record { voted = xs; one = None; two = None; three = None; first = None; shadow_one = None; shadow_two = None; shadow_three = None; latched_one = false; latched_two = false; latched_three = false })
sound_equal xs =
    record {
      vote = sym (majority_of-first xs xs refl);
      different_one = λ ws e. cc;
      different_two = λ ws e. cc;
      different_three = λ ws e. cc;
      marked_one = λ e. absurd (false≢true e);
      marked_two = λ e. absurd (false≢true e);
      marked_three = λ e. absurd (false≢true e);
      shadow_one = λ e. absurd (false≢true e);
      shadow_two = λ e. absurd (false≢true e);
      shadow_three = λ e. absurd (false≢true e);
    }

-- what is kept where all three copies become the same, and no shadow changes
pub sound_renewed : (k : TripleView) (words : List ℕ) → IsSound k → IsSound (record k { voted = words; one = None; two = None; three = None })
sound_renewed k words sound =
    record {
      vote = sym (majority_of-first words words refl);
      different_one = λ ws e. cc;
      different_two = λ ws e. cc;
      different_three = λ ws e. cc;
      marked_one = sound.marked_one;
      marked_two = sound.marked_two;
      marked_three = sound.marked_three;
      shadow_one = sound.shadow_one;
      shadow_two = sound.shadow_two;
      shadow_three = sound.shadow_three;
    }

-- of three equal copies none differs
pub none_differs : (words : List ℕ) (c : ℕ) → differs_of (settled words words words) c ≡ false
none_differs words c = rw (majority_of-first words words refl) (by (c == 0) (c == 1)) where
  same : not (same_words words words) ≡ false
  same = ap not ((same_words-Decides words words).1 refl)

  by : (a b : Bool) → not (same_words (if a then words else (if b then words else words)) words) ≡ false
  by true b = same
  by false true = same
  by false false = same

-- what a copy that is marked has latched
pub latched_words : (mark : Bool) (own first : Option (List ℕ)) (words : List ℕ) → mark ≡ true → IsSome first
    → unwrap_or (shadow_by mark own first) words ≡ unwrap_or own (unwrap_or first words)
latched_words true (Some own) first words e h = refl
latched_words true None (Some base) words e h = refl
latched_words true None None words e h = absurd (false≢true h)
latched_words false own first words e h = absurd (false≢true e)

-- and it is as long as each list is
pub sized_beside : {S : Type 0} (f : S → List ℕ) (n : ℕ) → ((s : S) → length (f s) ≡ n) → (own first : Option S) (state : S)
    → length (unwrap_or (option_map f own) (unwrap_or (option_map f first) (f state))) ≡ n
sized_beside f n h (Some own) first state = h own
sized_beside f n h None (Some base) state = h base
sized_beside f n h None None state = h state

-- where one of three differs from what the other two are, or none does, that is their vote
pub kept_one : (words own : List ℕ) → length own ≡ length words → IsKept words (kept_of own words) None None
kept_one words own size =
    record {
      vote = rw (meant_kept own words) (sym (majority_of-last own words size));
      different_one = kept_different own words;
      different_two = λ ws e. cc;
      different_three = λ ws e. cc;
    }

pub kept_two : (words own : List ℕ) → length own ≡ length words → IsKept words None (kept_of own words) None
kept_two words own size =
    record {
      vote = rw (meant_kept own words) (sym (majority_of-ends words own size));
      different_one = λ ws e. cc;
      different_two = kept_different own words;
      different_three = λ ws e. cc;
    }

pub kept_three : (words own : List ℕ) → length own ≡ length words → IsKept words None None (kept_of own words)
kept_three words own size =
    record {
      vote = rw (meant_kept own words) (sym (majority_of-first words own size));
      different_one = λ ws e. cc;
      different_two = λ ws e. cc;
      different_three = kept_different own words;
    }

pub kept_none : (words : List ℕ) → IsKept words None None None
kept_none words = record { vote = sym (majority_of-first words words refl); different_one = λ ws e. cc; different_two = λ ws e. cc; different_three = λ ws e. cc }

-- what is kept so is sound where the shadows stay
pub sound_beside : (k : TripleView) (words : List ℕ) (one two three : Option (List ℕ)) → IsKept words one two three → IsSound k
    → IsSound (record k { voted = words; one = one; two = two; three = three })
sound_beside k words one two three kept sound =
    record {
      vote = kept.vote;
      different_one = kept.different_one;
      different_two = kept.different_two;
      different_three = kept.different_three;
      marked_one = sound.marked_one;
      marked_two = sound.marked_two;
      marked_three = sound.marked_three;
      shadow_one = sound.shadow_one;
      shadow_two = sound.shadow_two;
      shadow_three = sound.shadow_three;
    }

-- what agrees with the vote doesn't differ from it
agrees : (words vote : List ℕ) → vote ≡ words → not (same_words words vote) ≡ false
agrees words vote is = rw is (ap not ((same_words-Decides words words).1 refl))

-- the two that have the vote
pub agree_beside_one : (own words : List ℕ) → length own ≡ length words
    → (differs_of (settled own words words) 1 ≡ false) × (differs_of (settled own words words) 2 ≡ false)
agree_beside_one own words size =
    let vote = majority_of-last own words size in
    (agrees words _ vote, agrees words _ vote)

pub agree_beside_two : (own words : List ℕ) → length own ≡ length words
    → (differs_of (settled words own words) 0 ≡ false) × (differs_of (settled words own words) 2 ≡ false)
agree_beside_two own words size =
    let vote = majority_of-ends words own size in
    (agrees words _ vote, agrees words _ vote)

pub agree_beside_three : (own words : List ℕ) → length own ≡ length words
    → (differs_of (settled words words own) 0 ≡ false) × (differs_of (settled words words own) 1 ≡ false)
agree_beside_three own words size =
    let vote = majority_of-first words own size in
    (agrees words _ vote, agrees words _ vote)
