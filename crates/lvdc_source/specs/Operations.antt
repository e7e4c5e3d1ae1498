-- Operations: the machine's own, and the directives; where they may stand.
use Rattle.std.specs.Prelude.{ℕ, Bool, true, false, not, List, codes, if◌then◌else◌, Option, Some}
use Rattle.std.specs.Option.{option_map}
use Rattle.std.specs.Str.{bytes_eq}
use Rattle.lvdc_isa.specs.declared.op.Op.TheVariants.{Exm}
use Rattle.lvdc_isa.specs.Mnemonics.{operation_named}
use Rattle.lvdc_source.specs.declared.operation.Operation.{Operation}
use Rattle.lvdc_source.specs.declared.operation.Operation.TheVariants.{Machine, Oct, Dec, Hopc, Bss, Code, Org, Words, Use, End}
use Rattle.lvdc_source.specs.declared.block.Block.{Block}
use Rattle.lvdc_source.specs.declared.block.Block.TheVariants as kind

-- the operation that a text names
unfoldable pub operation_of : List ℕ → Option Operation
operation_of text =
    if bytes_eq text (codes "OCT") then Some Oct
    else (if bytes_eq text (codes "DEC") then Some Dec
    else (if bytes_eq text (codes "HOPC") then Some Hopc
    else (if bytes_eq text (codes "BSS") then Some Bss
    else (if bytes_eq text (codes "CODE") then Some Code
    else (if bytes_eq text (codes "ORG") then Some Org
    else (if bytes_eq text (codes "WORDS") then Some Words
    else (if bytes_eq text (codes "USE") then Some Use
    else (if bytes_eq text (codes "END") then Some End
    else option_map (λ op. Machine op) (operation_named text)))))))))

-- the directives that no label may stand on
abbrev pub is_unlabelled : Operation → Bool
is_unlabelled Code = true
is_unlabelled Org = true
is_unlabelled Words = true
is_unlabelled Use = true
is_unlabelled End = true
is_unlabelled operation = false

-- the operation that this profile leaves out
abbrev pub is_modified : Operation → Bool
is_modified (Machine Exm) = true
is_modified operation = false

-- a block of code is open
abbrev pub is_code : Block → Bool
is_code kind.Code = true
is_code other = false

-- a block of words is open
abbrev pub is_words : Block → Bool
is_words kind.Words = true
is_words other = false

-- an instruction outside a block of code, a constant or room outside a block of words
abbrev pub is_misplaced : Block → Operation → Bool
is_misplaced block (Machine op) = not (is_code block)
is_misplaced block Oct = not (is_words block)
is_misplaced block Dec = not (is_words block)
is_misplaced block Hopc = not (is_words block)
is_misplaced block Bss = not (is_words block)
is_misplaced block operation = false
