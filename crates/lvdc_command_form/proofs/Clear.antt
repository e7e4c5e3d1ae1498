-- Texts without a question mark: numbers, lines, and a report in which each word is told.
use Rattle.std.proofs.Common.{◌≡◌, ℕ, zero, suc, ◌+◌, ◌/◌, ◌%◌, ◌<◌, Bool, true, false, cond, ◌==◌, List, [], ◌∷◌, ◌++◌, codes, decimal, refl, ap, ◌∙◌, arith}
use Rattle.std.specs.Prelude.{if◌then◌else◌}
use Rattle.std.specs.Fmt.{digit_glyph, digits_onto, digits}
use Rattle.std.proofs.lemmas.Bool.{ne_eqb, lt-ltb, or_from}
use Rattle.std.proofs.lemmas.List.Folds.{list_any-append}
use Rattle.lvdc_map.specs.Address.{Spot, spot_at}
use Rattle.lvdc_map.specs.Banks.{is_there}
use Rattle.lvdc_map.specs.Hop.{HopConstant}
use Rattle.lvdc_map.specs.Memory.{Memory, word_at}
use Rattle.lvdc_text.specs.Numbers.{octal_text}
use Rattle.lvdc_text.proofs.Digits.{octal_text-zero, octal_text-suc}
use Rattle.lvdc_image.specs.Image.{spot_text}
use Rattle.lvdc_plain.specs.declared.records.Exchange.{Exchange}
use Rattle.lvdc_plain.specs.declared.records.PlainEnd.{PlainEnd}
use Rattle.lvdc_plain.specs.declared.records.PlainEnd.TheVariants.{Done, Stopped, Device}
use Rattle.lvdc_plain.specs.declared.records.Stop.{Stop}
use Rattle.lvdc_plain.specs.declared.records.Stop.TheVariants as stops
use Rattle.lvdc_plain.specs.declared.records.Visible.{Visible}
use Rattle.lvdc_model.specs.declared.repair.Repair.{Repair}
use Rattle.lvdc_model.specs.Voted.{count_of}
use Rattle.lvdc_lines.specs.Noted.{lines_of, lines_below, direction, exchange_line, log_text, switch_text, repair_line, repairs_text}
use Rattle.lvdc_report.specs.Report.{stop_text, end_text, outcome_of, place_line, bit_digit, word_line, registers_text, memory_line, line_at, memory_text, all_known}
use Rattle.lvdc_report.specs.Voted.{wrong_line, wrong_lines, wrong_text}
use Rattle.lvdc_command_form.specs.Plainly.{has_question_mark}

-- ---- texts

-- no question mark stands in it
pub record Clear (text : List ℕ) : Type 0 where
  pub is : has_question_mark text ≡ false

-- one text behind another
infixl 65 ◌&◌
pub ◌&◌ : {xs ys : List ℕ} → Clear xs → Clear ys → Clear (xs ++ ys)
◌&◌ {xs} {ys} a b = record { is = list_any-append (λ byte. byte == 63) xs ys ∙ or_from (has_question_mark xs) (has_question_mark ys) a.is b.is }

pub fixed : (xs : List ℕ) → has_question_mark xs ≡ false → Clear xs
fixed xs h = record { is = h }

where_it_is : (b : Bool) (xs : List ℕ) → Clear xs → Clear (cond b xs [])
where_it_is true xs h = h
where_it_is false xs h = fixed [] refl

where_it_is_not : (b : Bool) (xs : List ℕ) → Clear xs → Clear (cond b [] xs)
where_it_is_not true xs h = fixed [] refl
where_it_is_not false xs h = h

blank : Clear (codes " ")
blank = fixed (codes " ") refl

line_end : Clear (codes "\n")
line_end = fixed (codes "\n") refl

-- ---- numbers

digit : (d : ℕ) (rest : List ℕ) → d < 10 → Clear rest → Clear ((48 + d) ∷ rest)
digit d rest small h =
    fixed ((48 + d) ∷ rest) (or_from (48 + d == 63) (has_question_mark rest) (ne_eqb (48 + d) 63 (λ e. omega (arith, e, small))) h.is)

octal : (width n : ℕ) → Clear (octal_text width n)
octal zero n = fixed (octal_text zero n) (ap has_question_mark (octal_text-zero n))
octal (suc width) n =
    fixed (octal_text (suc width) n)
    (ap has_question_mark (octal_text-suc width n) ∙ (octal width (n / 8) & digit (n % 8) [] (omega arith) (fixed [] refl)).is)

onto : (k n : ℕ) (after : List ℕ) → Clear after → Clear (digits_onto k 10 false n after)
onto zero n after h = h
onto (suc k) n after h = by_last (n / 10 == 0) (onto k (n / 10) (digit_glyph false (n % 10) ∷ after) more)
  where
    glyph : digit_glyph false (n % 10) ≡ 48 + n % 10
    glyph = ap (λ (b : Bool). if b then 48 + n % 10 else 87 + n % 10) (lt-ltb (n % 10) 10 (omega arith))

    more : Clear (digit_glyph false (n % 10) ∷ after)
    more =
        fixed (digit_glyph false (n % 10) ∷ after)
        (ap (λ (d : ℕ). has_question_mark (d ∷ after)) glyph ∙ (digit (n % 10) after (omega arith) h).is)

    by_last : (b : Bool) → Clear (digits_onto k 10 false (n / 10) (digit_glyph false (n % 10) ∷ after))
        → Clear (if b then digit_glyph false (n % 10) ∷ after else digits_onto k 10 false (n / 10) (digit_glyph false (n % 10) ∷ after))
    by_last true later = more
    by_last false later = later

number : (n : ℕ) → Clear (decimal n)
unfolding digits
number n = onto 64 n [] (fixed [] refl)

-- ---- lines one after another

lines : {A : Type 0} (line : A → List ℕ) → ((a : A) → Clear (line a)) → (items : List A) → Clear (lines_of line items)
unfolding lines_of
lines line h [] = fixed [] refl
lines line h (item ∷ items) = h item & lines line h items

below : (line : ℕ → List ℕ) → ((k : ℕ) → Clear (line k)) → (n : ℕ) → Clear (lines_below line n)
unfolding lines_below
below line h zero = fixed [] refl
below line h (suc n) = below line h n & h n

-- ---- lines of a report

spot : (at : Spot) → Clear (spot_text at)
spot at = octal 1 at.pair & blank & octal 2 at.sector & blank & octal 3 at.loc

stop : (why : Stop) → Clear (stop_text why)
stop stops.Shift = fixed (codes "SHIFT") refl
stop stops.Exm = fixed (codes "EXM") refl
stop (stops.Memory at) = fixed (codes "MEMORY ") refl & spot at

end : (e : PlainEnd) → Clear (end_text (outcome_of e))
end Done = fixed (codes "END DONE\n") refl
end (Stopped step why) = fixed (codes "END STOPPED ") refl & number step & blank & stop why & line_end
end (Device step port) = fixed (codes "END DEVICE ") refl & number step & blank & octal 3 port & line_end

place : (h : HopConstant) → Clear (place_line h)
place h =
    fixed (codes "PLACE ") refl & octal 1 h.imod & blank & octal 2 h.isec & blank & octal 1 h.syl & blank & octal 3 h.loc & line_end

bit : (b : Bool) → Clear (bit_digit b)
bit true = fixed (codes "1") refl
bit false = fixed (codes "0") refl

word : (name : List ℕ) (w : ℕ) → Clear name → Clear (word_line name w)
word name w h = h & blank & octal 9 w & line_end

registers : (v : Visible) → Clear (registers_text v)
registers v =
    (fixed (codes "TIMES ") refl & number v.times & line_end) & place v.place
    & (fixed (codes "DATA ") refl & octal 1 v.place.dmod & blank & octal 2 v.place.dsec & line_end)
    & (fixed (codes "DUP ") refl & bit v.place.dupin & blank & bit v.place.dupdn & line_end)
    & word (codes "A") v.a (fixed (codes "A") refl) & word (codes "PQ") v.pq (fixed (codes "PQ") refl)
    & word (codes "SAVER") v.saver (fixed (codes "SAVER") refl)

way : (reading : Bool) → Clear (direction reading)
way true = fixed (codes "IN ") refl
way false = fixed (codes "OUT ") refl

exchange : (e : Exchange) → Clear (exchange_line e)
exchange e = way e.reading & number e.time & blank & octal 3 e.port & blank & octal 9 e.word & line_end

told_word : (banks : ℕ) (m : Memory) (at : Spot) → Clear (line_at banks m all_known at)
told_word banks m at =
    where_it_is (is_there banks at) _ (where_it_is_not (word_at m at == 0) (memory_line at (word_at m at))
    (fixed (codes "MEM ") refl & spot at & blank & octal 9 (word_at m at) & line_end))

wrong : (counts : List (List ℕ)) (m copy : ℕ) → Clear (wrong_line m copy (count_of counts m copy))
wrong counts m copy =
    where_it_is_not (count_of counts m copy == 0) _
    (fixed (codes "WRONG ") refl & number m & blank & number copy & blank & number (count_of counts m copy) & line_end)

switch : (switched : Bool) → Clear (switch_text switched)
switch true = fixed (codes " SWITCH") refl
switch false = fixed [] refl

repair : (r : Repair) → Clear (repair_line r)
repair r = fixed (codes "REPAIR ") refl & number r.step & blank & spot r.at & blank & number r.twin & switch r.switched & line_end

-- ---- the whole

-- the report of a plain run from its end on
pub report-clear : (e : PlainEnd) (v : Visible) (log : List Exchange) (banks : ℕ) (m : Memory)
    → Clear (end_text (outcome_of e) ++ registers_text v ++ log_text log ++ memory_text banks m all_known)
report-clear e v log banks m =
    end e & registers v & lines exchange_line exchange log
    & below (λ k. line_at banks m all_known (spot_at k)) (λ k. told_word banks m (spot_at k)) 32768

-- the lines of what the redundancy did
pub counts-clear : (counts : List (List ℕ)) → Clear (wrong_text counts)
counts-clear counts =
    below (λ before. wrong_lines counts (before + 1))
    (λ before. wrong counts (before + 1) 1 & wrong counts (before + 1) 2 & wrong counts (before + 1) 3) 7

pub repairs-clear : (repairs : List Repair) → Clear (repairs_text repairs)
repairs-clear repairs = lines repair_line repair repairs
