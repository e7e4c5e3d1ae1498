-- Fault lines and order lines, by their tokens.
use Rattle.std.specs.Prelude.{ℕ, ◌-◌, nat_le, List, [], ◌∷◌, map, codes, if◌then◌else◌, Option, None, Some}
use Rattle.std.specs.List.{list_all}
use Rattle.std.specs.Str.{bytes_eq}
use Rattle.lvdc_map.specs.Address.{Spot}
use Rattle.lvdc_text.specs.Numbers.{word_in}
use Rattle.lvdc_fault.specs.declared.event.Event.{Event}
use Rattle.lvdc_fault.specs.declared.event.Event.TheVariants.{Flip, Force, Lag, Deaf, Damage, Stick, Dead}
use Rattle.lvdc_lines.specs.declared.fields.ModuleCopy.{ModuleCopy}
use Rattle.lvdc_lines.specs.declared.fields.Span.{Span}
use Rattle.lvdc_orders.specs.Orders.{order_of}
use Rattle.lvdc_lines.specs.Fields.{step_in, twin_in, pair_in, cell_in, module_copy_in, index_in, span_in, place_in}

-- ---- what happens to copies

-- the event of a FLIP line, where all its fields were found
abbrev pub flip_of : Option ModuleCopy → Option Span → Option ℕ → Option ℕ → Option Event
flip_of (Some named) (Some span) (Some index) (Some mask) = Some (Flip named.number named.copy span.first span.last index mask)
flip_of _ _ _ _ = None

-- FLIP m c f l i mask
abbrev pub flip_in : List (List ℕ) → Option Event
flip_in (m ∷ c ∷ f ∷ l ∷ i ∷ mask ∷ []) = flip_of (module_copy_in m c) (span_in f l) (index_in (module_copy_in m c) i) (word_in mask)
flip_in _ = None

-- the event of a FORCE line, where all its fields were found
abbrev pub force_of : Option ModuleCopy → Option Span → Option ℕ → Option ℕ → Option ℕ → Option Event
force_of (Some named) (Some span) (Some index) (Some mask) (Some value) = Some (Force named.number named.copy span.first span.last index mask value)
force_of _ _ _ _ _ = None

-- FORCE m c f l i mask value
abbrev pub force_in : List (List ℕ) → Option Event
force_in (m ∷ c ∷ f ∷ l ∷ i ∷ mask ∷ value ∷ []) = force_of (module_copy_in m c) (span_in f l) (index_in (module_copy_in m c) i) (word_in mask) (word_in value)
force_in _ = None

-- the event of a LAG line, where all its fields were found
abbrev pub lag_of : Option ModuleCopy → Option Span → Option Event
lag_of (Some named) (Some span) = Some (Lag named.number named.copy span.first span.last)
lag_of _ _ = None

-- LAG m c f l
abbrev pub lag_in : List (List ℕ) → Option Event
lag_in (m ∷ c ∷ f ∷ l ∷ []) = lag_of (module_copy_in m c) (span_in f l)
lag_in _ = None

-- the event of a DEAF line, where all its fields were found
abbrev pub deaf_of : Option ModuleCopy → Option Span → Option Event
deaf_of (Some named) (Some span) = Some (Deaf named.number named.copy span.first span.last)
deaf_of _ _ = None

-- DEAF m c f l
abbrev pub deaf_in : List (List ℕ) → Option Event
deaf_in (m ∷ c ∷ f ∷ l ∷ []) = deaf_of (module_copy_in m c) (span_in f l)
deaf_in _ = None

-- ---- what happens to memory

-- the event of a DAMAGE line, where all its fields were found
abbrev pub damage_of : Option ℕ → Option Spot → Option ℕ → Option ℕ → Option Event
damage_of (Some twin) (Some at) (Some step) (Some mask) = Some (Damage twin at step mask)
damage_of _ _ _ _ = None

-- DAMAGE w p ss lll t mask
abbrev pub damage_in : List (List ℕ) → Option Event
damage_in (w ∷ p ∷ s ∷ loc ∷ t ∷ mask ∷ []) = damage_of (twin_in w) (place_in p s loc) (step_in t) (cell_in mask)
damage_in _ = None

-- the event of a STICK line, where all its fields were found
abbrev pub stick_of : Option ℕ → Option Spot → Option Span → Option ℕ → Option ℕ → Option Event
stick_of (Some twin) (Some at) (Some span) (Some mask) (Some value) = Some (Stick twin at span.first span.last mask value)
stick_of _ _ _ _ _ = None

-- STICK w p ss lll f l mask value
abbrev pub stick_in : List (List ℕ) → Option Event
stick_in (w ∷ p ∷ s ∷ loc ∷ f ∷ l ∷ mask ∷ value ∷ []) = stick_of (twin_in w) (place_in p s loc) (span_in f l) (cell_in mask) (cell_in value)
stick_in _ = None

-- the event of a DEAD line, where all its fields were found
abbrev pub dead_of : Option ℕ → Option ℕ → Option Span → Option Event
dead_of (Some twin) (Some pair) (Some span) = Some (Dead twin pair span.first span.last)
dead_of _ _ _ = None

-- DEAD w p f l
abbrev pub dead_in : List (List ℕ) → Option Event
dead_in (w ∷ p ∷ f ∷ l ∷ []) = dead_of (twin_in w) (pair_in p) (span_in f l)
dead_in _ = None

-- ---- lines

-- the event of a fault line
abbrev pub fault_in : List (List ℕ) → Option Event
fault_in [] = None
fault_in (word ∷ fields) =
    if bytes_eq word (codes "FLIP") then flip_in fields
    else (if bytes_eq word (codes "FORCE") then force_in fields
    else (if bytes_eq word (codes "LAG") then lag_in fields
    else (if bytes_eq word (codes "DEAF") then deaf_in fields
    else (if bytes_eq word (codes "DAMAGE") then damage_in fields
    else (if bytes_eq word (codes "STICK") then stick_in fields
    else (if bytes_eq word (codes "DEAD") then dead_in fields else None))))))

-- the order of an order line: letter A is copy 1 of module 1, letter U is copy 3 of module 7
abbrev pub order_in : List (List ℕ) → Option (List ℕ)
order_in (letters ∷ []) = if list_all (nat_le 65) letters then order_of (map (λ letter. letter - 65) letters) else None
order_in _ = None
