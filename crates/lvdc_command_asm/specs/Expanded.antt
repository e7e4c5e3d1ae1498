-- The answer to a source with macros: its expansion or the image of its expansion, or the first refusal.
use Rattle.std.specs.Prelude.{ℕ, ◌+◌, ◌-◌, List, length, slice_index_or, Result, Ok, Err, None}
use Rattle.lvdc_text.specs.Lines.{lines_of, numbered}
use Rattle.lvdc_port.specs.Device.{Device}
use Rattle.lvdc_image.specs.Image.{image_text}
use Rattle.lvdc_reply.specs.Answer.{Answer, answer_with, refusal_text}
use Rattle.lvdc_asm.specs.Assembly.{Assembled}
use Rattle.lvdc_asm.specs.Faults.{name_of, line_of}
use Rattle.lvdc_asm.specs.declared.fault.AsmFault.{AsmFault}
use Rattle.lvdc_command_asm.specs.Answers.{assembly_in, status_of}
use Rattle.lvdc_macro.specs.Expansion.{Written, expansion_of, bytes_of, origins_of}
use Rattle.lvdc_macro.specs.Faults as macros
use Rattle.lvdc_macro.specs.declared.fault.MacroFault.{MacroFault}
use Rattle.lvdc_command_asm.specs.declared.expand.Form.{Form}
use Rattle.lvdc_command_asm.specs.declared.expand.Form.TheVariants.{Source, Image}

-- the expansion of the source that the bytes are, or its first refusal
abbrev pub expansion_in : List ℕ → Result (List Written) MacroFault
expansion_in bytes = expansion_of (numbered bytes (lines_of bytes))

-- the source line that a line of the expansion came from; where the expansion has no such line, the next one
abbrev pub taken_back : List ℕ → ℕ → ℕ → ℕ
taken_back origins next line = slice_index_or origins (line - 1) next

-- the image of an expansion that is assembled so, or the refusal with its line taken back
abbrev pub assembled_text : List ℕ → ℕ → Result Assembled AsmFault → List ℕ
assembled_text origins next (Ok assembled) = image_text (record { words = assembled.words; start = None; banks = 0 })
assembled_text origins next (Err fault) = refusal_text (name_of fault) (taken_back origins next (line_of fault))

-- 3 where the source is refused, or its expansion where that is assembled
abbrev pub status_by : Form → Result (List Written) MacroFault → ℕ
status_by form (Err fault) = 3
status_by Source (Ok lines) = 0
status_by Image (Ok lines) = status_of (assembly_in (bytes_of lines))

-- what was asked for of the source in the bytes, or the refusal; the line after the source's last one is the next one
abbrev pub text_by : Form → List ℕ → Result (List Written) MacroFault → List ℕ
text_by form bytes (Err fault) = refusal_text (macros.name_of fault) (macros.line_of fault)
text_by Source bytes (Ok lines) = bytes_of lines
text_by Image bytes (Ok lines) = assembled_text (origins_of lines) (length (lines_of bytes) + 1) (assembly_in (bytes_of lines))

-- the answer to a source with macros, which has no use for devices
abbrev pub macro_answer : Form → List ℕ → List Device → Answer
macro_answer form bytes devices = answer_with (status_by form (expansion_in bytes)) (text_by form bytes (expansion_in bytes)) devices
