-- Worked answers of traces: of whole runs, and where a device fails; lines of the plain run; and copies of one module beside each other.
use Rattle.std.proofs.Common.{◌≡◌, ℕ, List, [], ◌∷◌, Result, Ok, Err, false, refl}
use Rattle.std.specs.Prelude.{codes}
use Rattle.std.specs.Fmt.{digits}
use Rattle.lvdc_word.specs.Cell.{with_stuck}
use Rattle.lvdc_vote.specs.Bits.{majority, flipped}
use Rattle.lvdc_text.specs.Lines.{lines_from, tokens_from}
use Rattle.lvdc_text.specs.Numbers.{octal_text, word_in}
use Rattle.lvdc_map.specs.Address.{Spot}
use Rattle.lvdc_map.specs.Hop.{hop_of}
use Rattle.lvdc_map.specs.Memory.{memory_of}
use Rattle.lvdc_map.specs.declared.placed.Placed.{Placed}
use Rattle.lvdc_port.specs.Device.{Device}
use Rattle.lvdc_port.specs.declared.device.Kind.TheVariants.{Tape, Recorder}
use Rattle.lvdc_modules.specs.declared.wanted.Wanted.TheVariants.{PortRead, PortWrite}
use Rattle.lvdc_plain.specs.Plain.{PlainState, started}
use Rattle.lvdc_fault.specs.declared.event.Event.{Event}
use Rattle.lvdc_fault.specs.declared.event.Event.TheVariants.{Flip}
use Rattle.lvdc_model.specs.Trial.{Trial}
use Rattle.lvdc_machine.specs.declared.mode.Mode.TheVariants.{Guarded, Through}
use Rattle.lvdc_lines.specs.Fields.{step_in, twin_in, pair_in, cell_in, module_copy_in, index_in, span_in, place_in}
use Rattle.lvdc_lines.specs.Noted.{lines_of, lines_below}
use Rattle.lvdc_reply.specs.Answer.{Answer, answer_with}
use Rattle.lvdc_save.specs.Reading.{told_from, saved_of}
use Rattle.lvdc_save.specs.declared.saved.Saved.{Saved}
use Rattle.lvdc_save.specs.declared.fault.SaveFault.{SaveFault}
use Rattle.lvdc_trace.specs.Answers.{whole_trace, failed_trace, broken_trace, is_saved}
use Rattle.lvdc_trace.specs.Plainly.{memory_line, memory_part}
use Rattle.lvdc_trace.specs.Steps.{fault_lines}
use Rattle.lvdc_trace.specs.Traces.{trace_text}

at : ℕ → ℕ → Spot
at sector loc = record { pair = 0; sector = sector; loc = loc }

holds : ℕ → ℕ → ℕ → Placed
holds sector loc word = record { at = at sector loc; word = word }

-- from location 000 of sector 00 on
trial : List Placed → List Device → List Event → Trial
trial image devices script =
    record { opening = record { image = image; banks = 0; start = hop_of 0o16; unplugs = []; devices = devices }; script = script }

-- ---- a word of the tape goes to the recorder

tape : List ℕ → Device
tape words = record { port = 0; kind = Tape; state = words }

recorder : List ℕ → Device
recorder words = record { port = 0o17; kind = Recorder; state = words }

ports : Trial
ports = trial (holds 0 0 0o12400 ∷ holds 0 1 0o12017 ∷ holds 0 2 0o10000 ∷ []) (tape (5 ∷ []) ∷ recorder [] ∷ []) []

the_second_time : whole_trace Guarded ports 2 (record { first = 3; count = 5 })
    ≡ answer_with 0 (codes "LVDC TRACE\nSTEP 3\nFETCH 0 00 001 000012017\nVOTE 1 000000001 000000000\nVOTE 2 000002004 000000000\nVOTE 3 000012017\nVOTE 4 000000012\nVOTE 5 000000005 000000000\nVOTE 6 000000000 000000000 000000000 000000000 000000000\nVOTE 7 000000000 000000000\nSTEP 4\nVOTE 1 000000002 000000000\nVOTE 7 000000000 000000173\nSTEP 5\nOUT 017 000000005\nVOTE 1 000000000 000000000\nVOTE 2 000004004 000000000\nVOTE 7 000000000 000000000\nEND DONE\n") (tape [] ∷ recorder (5 ∷ []) ∷ [])
unfolding ports trial holds at tape recorder digits octal_text lines_below with_stuck majority flipped
the_second_time = refl

-- the recorder fails in step 5, and the word was taken from the tape before
a_failed_write : failed_trace Guarded ports (record { first = 3; count = 5 }) 5 0o17
    ≡ answer_with 10 (codes "LVDC TRACE\nSTEP 3\nFETCH 0 00 001 000012017\nVOTE 1 000000001 000000000\nVOTE 2 000002004 000000000\nVOTE 3 000012017\nVOTE 4 000000012\nVOTE 5 000000005 000000000\nVOTE 6 000000000 000000000 000000000 000000000 000000000\nVOTE 7 000000000 000000000\nSTEP 4\nVOTE 1 000000002 000000000\nVOTE 7 000000000 000000173\nEND DEVICE 5 017\n") (tape [] ∷ recorder [] ∷ [])
unfolding ports trial holds at tape recorder digits octal_text lines_below with_stuck majority flipped
a_failed_write = refl

-- ---- the same run, saved after its first time

saved_text : List ℕ
saved_text = codes "LVDC SAVE 1\nSTEPS 3\nCOUNT 2\nCOPY 1 1 0 000000000 000000000\nCOPY 1 2 0 000000000 000000000\nCOPY 1 3 0 000000000 000000000\nCOPY 2 1 0 000002004 000000000\nCOPY 2 2 0 000002004 000000000\nCOPY 2 3 0 000002004 000000000\nCOPY 3 1 0 000012400\nCOPY 3 2 0 000012400\nCOPY 3 3 0 000012400\nCOPY 4 1 0 000000012\nCOPY 4 2 0 000000012\nCOPY 4 3 0 000000012\nCOPY 5 1 0 000000005 000000000\nCOPY 5 2 0 000000005 000000000\nCOPY 5 3 0 000000005 000000000\nCOPY 6 1 0 000000000 000000000 000000000 000000000 000000000\nCOPY 6 2 0 000000000 000000000 000000000 000000000 000000000\nCOPY 6 3 0 000000000 000000000 000000000 000000000 000000000\nCOPY 7 1 0 000000000 000000000\nCOPY 7 2 0 000000000 000000000\nCOPY 7 3 0 000000000 000000000\nSELECT 0 0 0 0\nCELL 0 0 00 000 1000012400\nCELL 0 0 00 001 1000032017\nCELL 0 0 00 002 1000010000\nCELL 1 0 00 000 1000012400\nCELL 1 0 00 001 1000032017\nCELL 1 0 00 002 1000010000\nWORD 0 00 000 000012400\nWORD 0 00 001 000012017\nWORD 0 00 002 000010000\nIN 0 000 000000005\nABCDEFGHIJKLMNOPQRSTU\nEND\n"

-- the trace of a text that is no refusal, where the recorder fails in step 5
broken : Result Saved SaveFault → Answer
broken (Ok s) = broken_trace Guarded (record { first = 4; count = 3 }) s (tape [] ∷ recorder [] ∷ []) 5 0o17
broken (Err fault) = answer_with 2 [] []

a_failed_write_after_a_save : broken (saved_of (tape [] ∷ recorder [] ∷ []) saved_text)
    ≡ answer_with 10 (codes "LVDC TRACE\nSTEP 4\nVOTE 1 000000002 000000000\nVOTE 2 000002004 000000000\nVOTE 3 000012017\nVOTE 4 000000012\nVOTE 5 000000005 000000000\nVOTE 6 000000000 000000000 000000000 000000000 000000000\nVOTE 7 000000000 000000173\nEND DEVICE 5 017\n") (tape [] ∷ recorder [] ∷ [])
unfolding broken saved_text tape recorder lines_from tokens_from octal_text word_in step_in twin_in pair_in cell_in module_copy_in index_in span_in place_in with_stuck majority flipped lines_of lines_below digits told_from
a_failed_write_after_a_save = refl

-- no bytes are no saved text
nothing : is_saved [] ≡ false
nothing = refl

-- ---- what the plain run does with memory: CLA 000 fetches and reads an operand, and STO 002 stores A

loading : PlainState
loading = started 0 (hop_of 0o16) (memory_of (holds 0 0 0o17000 ∷ holds 1 0 0o177777777 ∷ []))

storing : PlainState
storing = record (started 0 (hop_of 0o16) (memory_of (holds 0 0 0o13002 ∷ []))) { a = 0o177777777 }

of_the_plain_run : memory_line 0 loading ∷ memory_line 1 loading ∷ memory_line 2 loading ∷ memory_line 2 storing ∷ []
    ≡ codes "FETCH 0 00 000 000017000\n" ∷ codes "OPERAND 0 01 000 177777777\n" ∷ [] ∷ codes "STORE 0 01 002 177777777\n" ∷ []
unfolding loading storing holds at octal_text
of_the_plain_run = refl

no_exchange_with_memory : memory_part (PortRead 3) 5 ∷ memory_part (PortWrite 3 4) 5 ∷ [] ≡ [] ∷ [] ∷ []
no_exchange_with_memory = refl

-- ---- copies 2 and 3 of one module are wrong, and copy 3 of EXCHANGE

two_faults : fault_lines (Flip 3 3 4 4 0 2 ∷ Flip 3 2 4 4 0 1 ∷ []) 4 3 ≡ codes "FAULT 3 2\nFAULT 3 3\n"
unfolding digits
two_faults = refl

three_differing_copies : trace_text Through (trial (holds 0 0 0o17000 ∷ holds 0 1 0o07001 ∷ holds 1 0 0o177777777 ∷ holds 1 1 1 ∷ []) [] (Flip 3 3 4 4 0 2 ∷ Flip 3 2 4 4 0 1 ∷ Flip 7 3 4 4 0 1 ∷ [])) 2 (record { first = 4; count = 1 })
    ≡ codes "LVDC TRACE THROUGH\nSTEP 4\nOPERAND 0 01 001 000000001\nFAULT 3 2\nFAULT 3 3\nFAULT 7 3\nVOTE 1 000000002 000000000\nVOTE 2 000002004 000000000\nVOTE 3 000007001\nVOTE 4 000000012\nVOTE 5 177777777 000000001\nVOTE 6 000000000 000000000 000000000 000000000 000000000\nVOTE 7 000000000 000000000\nCOPY 3 2 000007000\nCOPY 3 3 000007003\nCOPY 7 3 000000001 000000000\nMORE\n"
unfolding trial holds at digits octal_text lines_below with_stuck majority flipped
three_differing_copies = refl
