-- Worked orders of the 21 copies.
use Rattle.std.proofs.Common.{◌≡◌, ℕ, List, [], ◌∷◌, Some, None, refl}
use Rattle.lvdc_orders.specs.Orders.{order_of, orders_of, order_at}

-- from the last copy to the first
backwards : List ℕ
backwards = 20 ∷ 19 ∷ 18 ∷ 17 ∷ 16 ∷ 15 ∷ 14 ∷ 13 ∷ 12 ∷ 11 ∷ 10 ∷ 9 ∷ 8 ∷ 7 ∷ 6 ∷ 5 ∷ 4 ∷ 3 ∷ 2 ∷ 1 ∷ 0 ∷ []

-- from the first copy to the last
forwards : List ℕ
forwards = 0 ∷ 1 ∷ 2 ∷ 3 ∷ 4 ∷ 5 ∷ 6 ∷ 7 ∷ 8 ∷ 9 ∷ 10 ∷ 11 ∷ 12 ∷ 13 ∷ 14 ∷ 15 ∷ 16 ∷ 17 ∷ 18 ∷ 19 ∷ 20 ∷ []

-- the last copy first
last_first : List ℕ
last_first = 20 ∷ 0 ∷ 1 ∷ 2 ∷ 3 ∷ 4 ∷ 5 ∷ 6 ∷ 7 ∷ 8 ∷ 9 ∷ 10 ∷ 11 ∷ 12 ∷ 13 ∷ 14 ∷ 15 ∷ 16 ∷ 17 ∷ 18 ∷ 19 ∷ []

-- each copy once
each_once : order_of backwards ≡ Some backwards
unfolding backwards
each_once = refl

-- copy 19 twice, and no copy 0
one_twice : order_of (20 ∷ 19 ∷ 18 ∷ 17 ∷ 16 ∷ 15 ∷ 14 ∷ 13 ∷ 12 ∷ 11 ∷ 10 ∷ 9 ∷ 8 ∷ 7 ∷ 6 ∷ 5 ∷ 4 ∷ 3 ∷ 2 ∷ 1 ∷ 19 ∷ []) ≡ None
one_twice = refl

-- there is no copy 21
copy_21 : order_of (21 ∷ 19 ∷ 18 ∷ 17 ∷ 16 ∷ 15 ∷ 14 ∷ 13 ∷ 12 ∷ 11 ∷ 10 ∷ 9 ∷ 8 ∷ 7 ∷ 6 ∷ 5 ∷ 4 ∷ 3 ∷ 2 ∷ 1 ∷ 0 ∷ []) ≡ None
copy_21 = refl

-- a copy too few, one too many
twenty : order_of (19 ∷ 18 ∷ 17 ∷ 16 ∷ 15 ∷ 14 ∷ 13 ∷ 12 ∷ 11 ∷ 10 ∷ 9 ∷ 8 ∷ 7 ∷ 6 ∷ 5 ∷ 4 ∷ 3 ∷ 2 ∷ 1 ∷ 0 ∷ []) ≡ None
twenty = refl

twenty_two : order_of (0 ∷ backwards) ≡ None
unfolding backwards
twenty_two = refl

-- where none was added the plain one is in force at each step
none_added : order_at [] 5 ≡ forwards
unfolding forwards
none_added = refl

-- the first one that is added takes its place
one_added : orders_of (backwards ∷ []) ≡ backwards ∷ []
unfolding backwards
one_added = refl

-- two take turns from the first on: it has the even steps
two_at_step_0 : order_at (backwards ∷ last_first ∷ []) 0 ≡ backwards
unfolding backwards last_first
two_at_step_0 = refl

two_at_step_1 : order_at (backwards ∷ last_first ∷ []) 1 ≡ last_first
unfolding backwards last_first
two_at_step_1 = refl

two_at_step_6 : order_at (backwards ∷ last_first ∷ []) 6 ≡ backwards
unfolding backwards last_first
two_at_step_6 = refl
