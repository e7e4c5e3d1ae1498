-- What the image of a source holds for a line: what a machine finds there.
use Rattle.std.specs.Prelude.{◌≡◌, ◌≢◌, ℕ, ◌+◌, ◌*◌, ◌%◌, ◌^◌, true, List, Option, Some}
use Rattle.lvdc_word.specs.Word.{signed}
use Rattle.lvdc_map.specs.Address.{Spot}
use Rattle.lvdc_map.specs.Hop.{HopConstant, hop_of, fetch_of}
use Rattle.lvdc_map.specs.Place.{operand_kind, data_spot, jumped, with_data}
use Rattle.lvdc_map.specs.declared.operand.OperandKind.TheVariants.{Pq}
use Rattle.lvdc_isa.specs.declared.op.Op.{Op}
use Rattle.lvdc_isa.specs.declared.op.Op.TheVariants.{Tra, Tnz, Tmi, Shf}
use Rattle.lvdc_source.specs.declared.item.Body.{Body}
use Rattle.lvdc_source.specs.declared.item.Body.TheVariants as says
use Rattle.lvdc_source.specs.declared.item.Constant.{Constant}
use Rattle.lvdc_source.specs.declared.item.Constant.TheVariants.{Oct, Dec, HopOf}
use Rattle.lvdc_source.specs.declared.item.Operand.{Operand}
use Rattle.lvdc_source.specs.declared.item.Operand.TheVariants.{Number, Pair, Name, Literal}
use Rattle.lvdc_place.specs.declared.spot.Spot.{Spot as Place}
use Rattle.lvdc_asm.specs.Assembly.{Assembled}
use Rattle.lvdc_asm.specs.DataPlace.{DataPlace}
use Rattle.lvdc_asm.specs.Hop.{Plan, hop_at, target_of, start_of}
use Rattle.lvdc_asm.specs.Target.{Target}
use Rattle.lvdc_laws_assembly.specs.Images.{word_at, fetched}

-- ---- words

-- a word is what a constant says: an octal number, a number with a sign, or the HOP constant of a line of code
abbrev pub IsWordOf : Plan → Constant → ℕ → Type 0
IsWordOf plan (Oct n) word = word ≡ n
IsWordOf plan (Dec z) word = signed word ≡ z
IsWordOf plan (HopOf name) word = start_of plan name ≡ Some (hop_of word)

-- an address of the image has such a word
pub record HoldsWord (assembled : Assembled) (constant : Constant) (at : Spot) : Type 0 where
  pub word : ℕ
  pub there : word_at assembled.words at ≡ Some word
  pub value : IsWordOf assembled.plan constant word

-- ---- addresses

-- where this HOP constant holds, an operand address names this address of memory
pub record NamesWord (hop : HopConstant) (address : ℕ) (at : Spot) : Type 0 where
  pub spot : data_spot 0 hop address ≡ at
  pub memory : operand_kind address ≢ Pq

-- a transfer by an address goes on at this address, in this syllable
pub record GoesTo (hop : HopConstant) (address : ℕ) (at : Spot) (syl : Option ℕ) : Type 0 where
  pub spot : fetch_of 0 (jumped hop address) ≡ at
  pub syllable : Some (jumped hop address).syl ≡ syl

-- TRA, TNZ and TMI go on at a place, and every other operation names a word
abbrev pub Comes : Op → HopConstant → ℕ → Spot → Option ℕ → Type 0
Comes Tra hop address at syl = GoesTo hop address at syl
Comes Tnz hop address at syl = GoesTo hop address at syl
Comes Tmi hop address at syl = GoesTo hop address at syl
Comes op hop address at syl = NamesWord hop address at

-- it comes to a place so many locations after the line of a name
pub record Reaches (plan : Plan) (hop : HopConstant) (op : Op) (name : List ℕ) (offset address : ℕ) : Type 0 where
  pub target : Target
  pub named : target_of plan name ≡ Some target
  pub comes : Comes op hop address (record target.at { loc = target.at.loc + offset }) target.syl

-- it names a word that is what a constant says
pub record NamesLiteral (assembled : Assembled) (hop : HopConstant) (constant : Constant) (address : ℕ) : Type 0 where
  pub at : Spot
  pub names : NamesWord hop address at
  pub holds : HoldsWord assembled constant at

-- the address of an instruction is that of its operand: a number as it is, or as the pattern of a shift; what sets this pair and
-- sector; what comes to the place of a name; what names a literal
abbrev pub IsAddressOf : Assembled → HopConstant → Op → Operand → ℕ → Type 0
IsAddressOf assembled hop Shf (Number n) address = address % 2 ^ 7 ≡ n
IsAddressOf assembled hop op (Number n) address = address ≡ n
IsAddressOf assembled hop op (Pair pair sector) address = with_data hop address ≡ record hop { dmod = pair * 2; dsec = sector; dupdn = true }
IsAddressOf assembled hop op (Name name offset) address = Reaches assembled.plan hop op name offset address
IsAddressOf assembled hop op (Literal constant) address = NamesLiteral assembled hop constant address

-- ---- lines

-- a machine at the HOP constant of the line fetches its operation, with the address of its operand
pub record HoldsCode (assembled : Assembled) (here : Place) (assumed : DataPlace) (op : Op) (operand : Operand) : Type 0 where
  pub syl : ℕ
  pub stands : here.syl ≡ Some syl
  pub address : ℕ
  pub instruction : fetched assembled.words (hop_at here.at syl assumed) ≡ Some (record { op = op; address = address })
  pub bits : IsAddressOf assembled (hop_at here.at syl assumed) op operand address

-- what the image holds for a line that stands here: an instruction, or a word
abbrev pub HoldsLine : Assembled → Place → DataPlace → Body → Type 0
HoldsLine assembled here assumed (says.Instruction op operand) = HoldsCode assembled here assumed op operand
HoldsLine assembled here assumed (says.Constant constant) = HoldsWord assembled constant here.at
HoldsLine assembled here assumed body = Unit {0}
