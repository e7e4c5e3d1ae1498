-- The image and the messages that bytes hold, or their first refusal.
use Rattle.std.specs.Prelude.{ℕ, ◌+◌, List, [], ◌∷◌, map, take, drop, length, codes, if◌then◌else◌, Option, None, Some, Result, Ok, Err}
use Rattle.lvdc_text.specs.Headings.{is_alone, place_of}
use Rattle.lvdc_text.specs.Lines.{lines_of, part_of, numbered, is_long, is_comment}
use Rattle.lvdc_text.specs.declared.cutting.Line.{Line}
use Rattle.lvdc_image.specs.Image.{Contents}
use Rattle.lvdc_image.specs.Reading.{image_of}
use Rattle.lvdc_image.specs.declared.fault.ImageFault.{ImageFault}
use Rattle.lvdc_uplink.specs.declared.fault.PatchFault.{PatchFault}
use Rattle.lvdc_uplink.specs.declared.fault.PatchFault.TheVariants as faults
use Rattle.lvdc_uplink.specs.declared.heading.Heading.{Heading}
use Rattle.lvdc_uplink.specs.declared.heading.Heading.TheVariants as headings
use Rattle.lvdc_uplink.specs.declared.heading.LineKind.{LineKind}
use Rattle.lvdc_uplink.specs.declared.heading.LineKind.TheVariants as kinds

-- goes on with what was found, or stays refused
abbrev pub and_then : {A B : Type 0} → Result A PatchFault → (A → Result B PatchFault) → Result B PatchFault
and_then (Ok a) f = f a
and_then (Err fault) f = Err fault

-- ---- headings

-- the word that stands alone on the line of a heading
abbrev pub word_of : Heading → List ℕ
word_of headings.Image = codes "IMAGE"
word_of headings.Uplink = codes "UPLINK"

-- the refusal where another line, or none, is in its place
abbrev pub missing : Heading → ℕ → PatchFault
missing headings.Image number = faults.NoProgram number
missing headings.Uplink number = faults.BadSection number

-- what a line is where a heading is due
abbrev pub kind_of : Heading → List ℕ → LineKind
kind_of heading text =
    if is_long text then kinds.Long
    else (if is_comment text then kinds.Skipped
    else (if is_alone (word_of heading) text then kinds.Due else kinds.Other))

-- by what the first of these lines is, and by what the later ones come to
abbrev pub by_kind : Heading → LineKind → Line → List Line → Result (List Line) PatchFault → Result (List Line) PatchFault
by_kind heading kinds.Long line lines later = Err (faults.BadLine line.number)
by_kind heading kinds.Skipped line lines later = later
by_kind heading kinds.Due line lines later = Ok (line ∷ lines)
by_kind heading kinds.Other line lines later = Err (missing heading line.number)

-- the lines from a heading on, which is to be the first that isn't skipped; next is one more than the last line
unfoldable pub from_heading : Heading → List ℕ → ℕ → List Line → Result (List Line) PatchFault
from_heading heading bytes next [] = Err (missing heading next)
from_heading heading bytes next (line ∷ lines) =
    by_kind heading (kind_of heading (part_of bytes line)) line lines (from_heading heading bytes next lines)

-- ---- the image

-- the place of the line that ends the image: the first that is END alone, but for outer blanks
abbrev pub end_of : List ℕ → List Line → Option ℕ
end_of bytes lines = place_of (codes "END") bytes lines

-- ---- the whole

-- the lines of the image, with its END, and those of the messages
pub record Parts : Type 0 where
  pub image : List Line
  pub messages : List Line

-- the lines after UPLINK are the messages
abbrev pub with_messages : List Line → Result (List Line) PatchFault → Result Parts PatchFault
with_messages image (Ok lines) = Ok (record { image = image; messages = drop 1 lines })
with_messages image (Err fault) = Err fault

-- by the place of END among the lines after IMAGE, whose own line has this number
abbrev pub by_end : List ℕ → ℕ → ℕ → List Line → Option ℕ → Result Parts PatchFault
by_end bytes next number lines None = Err (faults.BadSection number)
by_end bytes next number lines (Some at) =
    with_messages (take (at + 1) lines) (from_heading headings.Uplink bytes next (drop (at + 1) lines))

-- from the line IMAGE on
abbrev pub after_image : List ℕ → ℕ → List Line → Result Parts PatchFault
after_image bytes next [] = Err (faults.NoProgram next)
after_image bytes next (line ∷ lines) = by_end bytes next line.number lines (end_of bytes lines)

-- the parts of the lines
abbrev pub parts_of : List ℕ → List Line → Result Parts PatchFault
parts_of bytes lines =
    and_then (from_heading headings.Image bytes (length lines + 1) lines) (after_image bytes (length lines + 1))

-- an image, and the lines that are sent to it
pub record Request : Type 0 where
  pub image : Contents
  pub messages : List (List ℕ)

-- the image that was read, with the lines that are sent to it; or its refusal
abbrev pub with_image : List (List ℕ) → Result Contents ImageFault → Result Request PatchFault
with_image messages (Ok image) = Ok (record { image = image; messages = messages })
with_image messages (Err fault) = Err (faults.Image fault)

-- the image is read only where its lines and those of the messages were found
abbrev pub read_parts : List ℕ → Parts → Result Request PatchFault
read_parts bytes parts = with_image (map (part_of bytes) parts.messages) (image_of (numbered bytes parts.image))

-- what the bytes ask for, or their first refusal
abbrev pub request_of : List ℕ → Result Request PatchFault
request_of bytes = and_then (parts_of bytes (lines_of bytes)) (read_parts bytes)
