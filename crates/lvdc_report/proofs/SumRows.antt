-- The whole report of the sum that wraps, by the plain machine.
use Rattle.std.proofs.Common.{◌≡◌, ℕ, ◌+◌, List, [], ◌∷◌, ◌++◌, refl}
use Rattle.std.specs.Prelude.{codes}
use Rattle.std.specs.Fmt.{digits}
use Rattle.lvdc_map.specs.Hop.{hop_of}
use Rattle.lvdc_map.specs.declared.placed.Placed.{Placed}
use Rattle.lvdc_plain.specs.declared.records.PlainEnd.TheVariants as plain
use Rattle.lvdc_plain.specs.Run.{Opening, run}
use Rattle.lvdc_text.specs.Numbers.{octal_text}
use Rattle.lvdc_lines.specs.Noted.{lines_of, lines_below}
use Rattle.lvdc_report.specs.Report.{report_text}
use Rattle.lvdc_report.specs.declared.title.Title.TheVariants.{Plain}

-- words from a location of bank 0 and a sector on
abbrev placed : ℕ → ℕ → List ℕ → List Placed
placed sector loc [] = []
placed sector loc (w ∷ ws) = record { at = record { pair = 0; sector = sector; loc = loc }; word = w } ∷ placed sector (loc + 1) ws

-- CLA 000, ADD 001, STO 002, TRA 003 over the greatest word and 1
abbrev sum : Opening
sum =
    record {
      image = placed 0 0 (0o17000 ∷ 0o07001 ∷ 0o13002 ∷ 0o10003 ∷ []) ++ placed 1 0 (0o177777777 ∷ 1 ∷ []);
      banks = 0;
      start = hop_of 0o16;
      unplugs = [];
      devices = [];
    }

the_sum : report_text Plain plain.Done (run sum 3).plain ≡
    codes "LVDC PLAIN\nEND DONE\nTIMES 3\nPLACE 0 00 0 003\nDATA 0 01\nDUP 1 1\nA 200000000\nPQ 000000000\nSAVER 000000000\n"
    ++ codes "MEM 0 00 000 000017000\nMEM 0 00 001 000007001\nMEM 0 00 002 000013002\nMEM 0 00 003 000010003\n"
    ++ codes "MEM 0 01 000 177777777\nMEM 0 01 001 000000001\nMEM 0 01 002 200000000\n"
unfolding digits octal_text lines_of lines_below
the_sum = refl
