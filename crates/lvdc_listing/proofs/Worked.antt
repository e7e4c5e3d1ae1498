-- Worked listings, computed.
use Rattle.std.proofs.Common.{◌≡◌, ℕ, List, [], ◌∷◌, Option, None, Some, codes, refl}
use Rattle.std.specs.Fmt.{digits}
use Rattle.std.specs.Prelude.{negsuc}
use Rattle.lvdc_isa.specs.declared.op.Op.TheVariants.{Cla, Add, Tra}
use Rattle.lvdc_map.specs.Address.{Spot}
use Rattle.lvdc_map.specs.declared.placed.Placed.{Placed}
use Rattle.lvdc_text.specs.Numbers.{octal_text}
use Rattle.lvdc_text.specs.Lines.{NumberedLine}
use Rattle.lvdc_source.specs.declared.item.Body.{Body}
use Rattle.lvdc_source.specs.declared.item.Body.TheVariants as says
use Rattle.lvdc_source.specs.declared.item.Constant.TheVariants.{Oct, Dec}
use Rattle.lvdc_source.specs.declared.item.Item.{Item}
use Rattle.lvdc_source.specs.declared.item.Operand.TheVariants.{Name, Literal}
use Rattle.lvdc_place.specs.declared.spot.Spot.{Spot as Place}
use Rattle.lvdc_asm.specs.Assembly.{Assembled}
use Rattle.lvdc_listing.specs.Listing.{listing_text}

line : ℕ → List ℕ → NumberedLine
line number text = record { number = number; text = text }

item : ℕ → List ℕ → Body → Item
item number label body = record { line = number; label = label; body = body }

at : ℕ → ℕ → ℕ → Spot
at pair sector loc = record { pair = pair; sector = sector; loc = loc }

code : ℕ → ℕ → ℕ → ℕ → Option Place
code pair sector syl loc = Some (record { at = record { pair = pair; sector = sector; loc = loc }; syl = Some syl })

word : ℕ → ℕ → ℕ → Option Place
word pair sector loc = Some (record { at = record { pair = pair; sector = sector; loc = loc }; syl = None })

holds : ℕ → ℕ → ℕ → ℕ → Placed
holds pair sector loc w = record { at = record { pair = pair; sector = sector; loc = loc }; word = w }

-- code, a pooled word, a constant and two names
short_source : Assembled
short_source =
    record {
      items = item 1 [] says.Code
          ∷ item 2 (codes "BEGIN") (says.Instruction Cla (Name (codes "X") 0))
          ∷ item 3 [] (says.Instruction Add (Literal (Oct 1)))
          ∷ item 4 [] (says.Instruction Tra (Name (codes "BEGIN") 0))
          ∷ item 5 [] (says.Words 0 1 None)
          ∷ item 6 (codes "X") (says.Constant (Oct 5)) ∷ [];
      plan = record { names = []; spots = None ∷ code 0 0 0 0 ∷ code 0 0 0 1 ∷ code 0 0 0 2 ∷ None ∷ word 0 1 0 ∷ [] };
      pool = (record { pair = 0; sector = 1; word = 1 }, at 0 1 1) ∷ [];
      words = holds 0 0 0 0o17000 ∷ holds 0 0 1 0o07001 ∷ holds 0 0 2 0o10000 ∷ holds 0 1 0 5 ∷ holds 0 1 1 1 ∷ [];
    }

short : listing_text short_source
    (line 1 (codes "        CODE") ∷ line 2 (codes "BEGIN   CLA   X") ∷ line 3 (codes "        ADD   =O1") ∷ line 4 (codes "        TRA   BEGIN")
    ∷ line 5 (codes "        WORDS 0,01") ∷ line 6 (codes "X       OCT   5") ∷ line 7 (codes "        END") ∷ [])
    ≡ codes "      1                              CODE\n      2 0 00 0 000 17000     BEGIN   CLA   X\n      3 0 00 0 001 07001             ADD   =O1\n      4 0 00 0 002 10000             TRA   BEGIN\n      5                              WORDS 0,01\n      6 0 01 - 000 000000005 X       OCT   5\n      7                              END\nPOOL 0 01 001 000000001\nNAME BEGIN 0 00 0 000\nNAME X 0 01 - 000\n"
unfolding listing_text octal_text digits short_source line item at code word holds
short = refl

-- the syllable of the upper slot is that of the word
upper_slot : listing_text (record {
  items = item 2 [] (says.Instruction Tra (Name (codes "BEGIN") 0)) ∷ [];
  plan = record { names = []; spots = code 0 2 1 0o377 ∷ [] };
  pool = [];
  words = holds 0 2 0o377 0o377760001 ∷ [];
}) (line 2 (codes " TRA BEGIN") ∷ [])
    ≡ codes "      2 0 02 1 377 17777      TRA BEGIN\n"
unfolding listing_text octal_text digits line item code holds
upper_slot = refl

-- room has no word, a comment and a blank line have no field, and what stands after END isn't listed
room_source : Assembled
room_source =
    record {
      items = item 4 [] (says.Words 1 15 (Some 8)) ∷ item 5 (codes "Y") (says.Room 4) ∷ item 6 [] (says.Constant (Dec (negsuc 0))) ∷ [];
      plan = record { names = []; spots = None ∷ word 1 15 0o10 ∷ word 1 15 0o14 ∷ [] };
      pool = [];
      words = holds 1 15 0o14 0o377777777 ∷ [];
    }

room : listing_text room_source
    (line 3 (codes "* ROOM") ∷ line 4 (codes "        WORDS 1,17,010") ∷ line 5 (codes "Y       BSS   4") ∷ line 6 (codes "        DEC   -1") ∷ line 7 []
    ∷ line 8 (codes "        END   OF IT") ∷ line 9 (codes "* AFTER IT") ∷ [])
    ≡ codes "      3                      * ROOM\n      4                              WORDS 1,17,010\n      5 1 17 - 010           Y       BSS   4\n      6 1 17 - 014 377777777         DEC   -1\n      7                      \n      8                              END   OF IT\nNAME Y 1 17 - 010\n"
unfolding listing_text octal_text digits room_source line item word holds
room = refl
