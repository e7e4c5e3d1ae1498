-- Worked words of the worker's own requests: the limits of FIRST and COUNT, and the flag.
use Rattle.std.proofs.Common.{◌≡◌, ℕ, List, [], ◌∷◌, Option, Some, None, refl}
use Rattle.std.specs.Prelude.{codes}
use Rattle.lvdc_console.specs.Words.{first_of, count_of, inquiry_of, most_bytes}
use Rattle.lvdc_console.specs.declared.words.Inquiry.{Inquiry}
use Rattle.lvdc_console.specs.declared.words.Inquiry.TheVariants.{Trace, Form, Study}
use Rattle.lvdc_machine.specs.declared.mode.Mode.TheVariants.{Guarded, Through}

-- a trace of so many steps from this one on
asked : List ℕ → List ℕ → Option Inquiry
asked first count = inquiry_of (codes "trace" ∷ first ∷ count ∷ [])

-- ---- FIRST: 0 to 3,000,000

the_least_first : asked (codes "0") (codes "1") ≡ Some (Trace Guarded (record { first = 0; count = 1 }))
unfolding asked first_of count_of
the_least_first = refl

the_greatest_first : asked (codes "3000000") (codes "1") ≡ Some (Trace Guarded (record { first = 3000000; count = 1 }))
unfolding asked first_of count_of
the_greatest_first = refl

one_more_than_the_greatest_first : asked (codes "3000001") (codes "1") ≡ None
unfolding asked first_of count_of
one_more_than_the_greatest_first = refl

a_needless_zero_of_first : asked (codes "00") (codes "1") ≡ None
unfolding asked first_of count_of
a_needless_zero_of_first = refl

first_of_eight_digits : asked (codes "03000000") (codes "1") ≡ None
unfolding asked first_of count_of
first_of_eight_digits = refl

-- ---- COUNT: 1 to 100,000

count_0 : asked (codes "3") (codes "0") ≡ None
unfolding asked first_of count_of
count_0 = refl

the_greatest_count : asked (codes "3") (codes "100000") ≡ Some (Trace Guarded (record { first = 3; count = 100000 }))
unfolding asked first_of count_of
the_greatest_count = refl

one_more_than_the_greatest_count : asked (codes "3") (codes "100001") ≡ None
unfolding asked first_of count_of
one_more_than_the_greatest_count = refl

a_needless_zero_of_count : asked (codes "3") (codes "01") ≡ None
unfolding asked first_of count_of
a_needless_zero_of_count = refl

no_number : asked (codes "3") (codes "x") ≡ None
unfolding asked first_of count_of
no_number = refl

-- ---- the flag, and other words

through : inquiry_of (codes "trace" ∷ codes "--through" ∷ codes "5" ∷ codes "2" ∷ []) ≡ Some (Trace Through (record { first = 5; count = 2 }))
unfolding first_of count_of
through = refl

the_flag_behind : inquiry_of (codes "trace" ∷ codes "5" ∷ codes "2" ∷ codes "--through" ∷ []) ≡ None
unfolding first_of count_of
the_flag_behind = refl

the_flag_in_the_place_of_first : inquiry_of (codes "trace" ∷ codes "--through" ∷ codes "5" ∷ []) ≡ None
unfolding first_of count_of
the_flag_in_the_place_of_first = refl

another_flag : inquiry_of (codes "trace" ∷ codes "--plain" ∷ codes "5" ∷ codes "2" ∷ []) ≡ None
unfolding first_of count_of
another_flag = refl

trace_alone : inquiry_of (codes "trace" ∷ []) ≡ None
trace_alone = refl

a_form : inquiry_of (codes "form" ∷ []) ≡ Some Form
a_form = refl

a_study : inquiry_of (codes "study" ∷ []) ≡ Some Study
a_study = refl

a_form_with_a_word : inquiry_of (codes "form" ∷ codes "3" ∷ codes "1" ∷ []) ≡ None
unfolding first_of count_of
a_form_with_a_word = refl

no_words : inquiry_of [] ≡ None
no_words = refl

-- ---- the most bytes of an input

bytes_of_each : most_bytes (Trace Through (record { first = 0; count = 1 })) ∷ most_bytes Form ∷ most_bytes Study ∷ [] ≡ 1048576 ∷ 1048576 ∷ 1048576 ∷ []
bytes_of_each = refl
