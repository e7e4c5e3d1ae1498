-- Orders in which the 21 copies latch: number 3 (m - 1) + (c - 1) is copy c of module m.
use Rattle.std.specs.Prelude.{ℕ, ◌%◌, Bool, true, not, ◌==◌, ◌&&◌, nat_lt, List, [], ◌∷◌, length, slice_index_or, if◌then◌else◌, Option, None, Some}
use Rattle.std.specs.List.{list_all, list_any, range_with_len}

-- how many copies there are: three of each of the seven modules
abbrev pub COPIES : ℕ
COPIES = 21

-- the most orders
abbrev pub ORDERS : ℕ
ORDERS = 16

-- no number stands twice in the list
abbrev pub names_once : List ℕ → Bool
names_once [] = true
names_once (c ∷ cs) = not (list_any (λ d. d == c) cs) && names_once cs

-- the list names each of the 21 copies once
abbrev pub is_order : List ℕ → Bool
is_order copies = length copies == 21 && list_all (λ c. nat_lt c 21) copies && names_once copies

-- the order of these numbers, where they name each copy once
abbrev pub order_of : List ℕ → Option (List ℕ)
order_of copies = if is_order copies then Some copies else None

-- from copy 1 of module 1 to copy 3 of module 7
abbrev pub plain_order : List ℕ
plain_order = range_with_len 0 21

-- the orders in force: those that were added, or else the plain one
abbrev pub orders_of : List (List ℕ) → List (List ℕ)
orders_of [] = plain_order ∷ []
orders_of (order ∷ orders) = order ∷ orders

-- the orders take turns, step by step
abbrev pub order_at : List (List ℕ) → ℕ → List ℕ
order_at added step = slice_index_or (orders_of added) (step % length (orders_of added)) plain_order
