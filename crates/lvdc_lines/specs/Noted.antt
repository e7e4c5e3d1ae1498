-- Lines one after another, and those of what a run notes: its exchanges with devices, and its repairs. Each line ends with LF.
use Rattle.std.specs.Prelude.{ℕ, zero, suc, ◌<◌, ◌+◌, ◌^◌, Bool, List, [], ◌∷◌, ◌++◌, length, codes, decimal, if◌then◌else◌}
use Rattle.lvdc_plain.specs.declared.records.Exchange.{Exchange}
use Rattle.lvdc_model.specs.declared.repair.Repair.{Repair}
use Rattle.lvdc_text.specs.Numbers.{octal_text}
use Rattle.lvdc_image.specs.Image.{spot_text}

-- the lines of the items of a list, in its order
unfoldable pub lines_of : {A : Type 0} → (A → List ℕ) → List A → List ℕ
lines_of line [] = []
lines_of line (item ∷ items) = line item ++ lines_of line items

-- the lines of the first so many numbers, from 0
unfoldable pub lines_below : (ℕ → List ℕ) → ℕ → List ℕ
lines_below line zero = []
lines_below line (suc number) = lines_below line number ++ line number

-- whether a word was read or written
abbrev pub direction : Bool → List ℕ
direction reading = if reading then codes "IN " else codes "OUT "

-- an exchange: its time in decimal, its port and its word in octal
abbrev pub exchange_line : Exchange → List ℕ
exchange_line e =
    direction e.reading ++ decimal e.time ++ codes " " ++ octal_text 3 e.port ++ codes " " ++ octal_text 9 e.word ++ codes "\n"

-- the port and the word of an exchange are in their ranges
pub record IsInRange (e : Exchange) : Type 0 where
  pub port : e.port < 2 ^ 8
  pub word : e.word < 2 ^ 26

-- the lines of the log in its order
abbrev pub log_text : List Exchange → List ℕ
log_text log = lines_of exchange_line log

-- after a repair, whether the selection switched
abbrev pub switch_text : Bool → List ℕ
switch_text switched = if switched then codes " SWITCH" else []

-- a repair: its step and its twin are decimal
abbrev pub repair_line : Repair → List ℕ
repair_line r = codes "REPAIR " ++ decimal r.step ++ codes " " ++ spot_text r.at ++ codes " " ++ decimal r.twin ++ switch_text r.switched ++ codes "\n"

-- the lines of the repairs in their order
abbrev pub repairs_text : List Repair → List ℕ
repairs_text repairs = lines_of repair_line repairs

-- how many bytes the lines of a log and of repairs have
abbrev pub noted_size : List Exchange → List Repair → ℕ
noted_size log repairs = length (log_text log) + length (repairs_text repairs)
