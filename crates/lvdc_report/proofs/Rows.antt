-- Worked lines of a report.
use Rattle.std.proofs.Common.{◌≡◌, refl}
use Rattle.std.specs.Prelude.{true, false, [], ◌∷◌, ◌++◌, codes}
use Rattle.std.specs.Fmt.{digits}
use Rattle.std.specs.declared.option.Option.TheVariants.{Some}
use Rattle.lvdc_model.specs.Trial.{Trial}
use Rattle.lvdc_model.specs.Voted.{voted_start}
use Rattle.lvdc_map.specs.Hop.{hop_of}
use Rattle.lvdc_vote.specs.Bits.{majority}
use Rattle.lvdc_text.specs.Numbers.{octal_text}
use Rattle.lvdc_plain.specs.declared.records.Stop.TheVariants as stops
use Rattle.lvdc_fault.specs.declared.verdict.Verdict.TheVariants as verdicts
use Rattle.lvdc_model.specs.declared.outcome.Outcome.TheVariants.{Done, Stopped, Inadmissible, Device}
use Rattle.lvdc_lines.specs.Noted.{lines_of, log_text, repairs_text}
use Rattle.lvdc_report.specs.Report.{title_line, end_text, registers_text, told_line}
use Rattle.lvdc_report.specs.Voted.{wrong_lines, number_line, counts_below, soak_text}
use Rattle.lvdc_report.specs.declared.title.Title.TheVariants.{Run, Plain, Through}

titles : title_line Run ++ title_line Through ++ title_line Plain ≡ codes "LVDC RUN\nLVDC THROUGH\nLVDC PLAIN\n"
titles = refl

done : end_text Done ≡ codes "END DONE\n"
done = refl

stopped_by_a_shift : end_text (Stopped 2 stops.Shift) ≡ codes "END STOPPED 2 SHIFT\n"
unfolding digits
stopped_by_a_shift = refl

stopped_by_execute_modified : end_text (Stopped 2 stops.Exm) ≡ codes "END STOPPED 2 EXM\n"
unfolding digits
stopped_by_execute_modified = refl

stopped_by_memory : end_text (Stopped 1 (stops.Memory (record { pair = 0; sector = 1; loc = 0 }))) ≡ codes "END STOPPED 1 MEMORY 0 01 000\n"
unfolding digits octal_text
stopped_by_memory = refl

two_wrong_decoders : end_text (Inadmissible (verdicts.Logic 4 3)) ≡ codes "END INADMISSIBLE 4 LOGIC 3\n"
unfolding digits
two_wrong_decoders = refl

word_beyond_recovery :
    end_text (Inadmissible (verdicts.Memory 7 (record { pair = 0; sector = 1; loc = 2 }))) ≡ codes "END INADMISSIBLE 7 MEMORY 0 01 002\n"
unfolding digits octal_text
word_beyond_recovery = refl

failed_device : end_text (Device 11 0) ≡ codes "END DEVICE 11 000\n"
unfolding digits octal_text
failed_device = refl

-- after the sum: the data sector and both DUP bits are those of the start, place and times are those of the run
registers_of_the_sum :
    registers_text (record { place = record (hop_of 0o16) { loc = 3 }; a = 0o200000000; pq = 0; saver = 0; times = 3 })
    ≡ codes "TIMES 3\nPLACE 0 00 0 003\nDATA 0 01\nDUP 1 1\nA 200000000\nPQ 000000000\nSAVER 000000000\n"
unfolding digits octal_text
registers_of_the_sum = refl

-- DUPIN comes first
one_dup_bit :
    registers_text (record { place = record (hop_of 0) { dupin = true }; a = 1; pq = 2; saver = 0o10016; times = 0 })
    ≡ codes "TIMES 0\nPLACE 0 00 0 000\nDATA 0 00\nDUP 1 0\nA 000000001\nPQ 000000002\nSAVER 000010016\n"
unfolding digits octal_text
one_dup_bit = refl

telemetry :
    log_text (record { time = 0; port = 0; word = 8; reading = true } ∷ record { time = 15; port = 0o17; word = 4; reading = false } ∷ [])
    ≡ codes "IN 0 000 000000010\nOUT 15 017 000000004\n"
unfolding digits octal_text lines_of
telemetry = refl

word_told : told_line true (record { pair = 3; sector = 0o17; loc = 0o376 }) 0o12016 ≡ codes "MEM 3 17 376 000012016\n"
unfolding octal_text
word_told = refl

zero_not_told : told_line true (record { pair = 0; sector = 0; loc = 0 }) 0 ≡ []
zero_not_told = refl

question_mark : told_line false (record { pair = 0; sector = 1; loc = 7 }) 0 ≡ codes "MEM 0 01 007 ?\n"
unfolding octal_text
question_mark = refl

two_copies_differed : wrong_lines ((1 ∷ 0 ∷ 12 ∷ []) ∷ []) 1 ≡ codes "WRONG 1 1 1\nWRONG 1 3 12\n"
unfolding digits
two_copies_differed = refl

repairs_told :
    repairs_text (record { step = 1; at = record { pair = 0; sector = 1; loc = 0 }; twin = 0; switched = true }
    ∷ record { step = 7; at = record { pair = 0; sector = 1; loc = 0 }; twin = 1; switched = false } ∷ [])
    ≡ codes "REPAIR 1 0 01 000 0 SWITCH\nREPAIR 7 0 01 000 1\n"
unfolding digits octal_text lines_of
repairs_told = refl

soak_number : number_line (codes "LVDC SOAK") 1 ++ number_line (codes "REPAIRS") 1816 ≡ codes "LVDC SOAK 1\nREPAIRS 1816\n"
unfolding digits
soak_number = refl

-- the whole text of a soak run that has made no step, and that of one that has stopped
abbrev idle : Trial
idle = record { opening = record { image = []; banks = 0; start = hop_of 0o16; unplugs = []; devices = [] }; script = [] }

soak_of_no_step : soak_text 12 (voted_start idle) ≡ codes "LVDC SOAK 12\nEND DONE\nTIMES 0\nA 000000000\nWRONG 0\nREPAIRS 0\n"
unfolding digits octal_text counts_below majority
soak_of_no_step = refl

soak_that_stopped :
    soak_text 12 (record (voted_start idle) { end = Some (Stopped 8 stops.Shift); steps = 9; counts = (1 ∷ 0 ∷ 2 ∷ []) ∷ [] })
    ≡ codes "LVDC SOAK 12\nEND STOPPED 8 SHIFT\nTIMES 3\nA 000000000\nWRONG 3\nREPAIRS 0\n"
unfolding digits octal_text counts_below majority
soak_that_stopped = refl
