-- The lines of one step more, and of the whole.
use Rattle.std.proofs.Common.{◌≡◌, ℕ, zero, suc, ◌+◌, ◌-◌, ◌<◌, ◌≤◌, min, List, [], ◌++◌, Bool, IsSome, refl, sym, ap, subst, ◌∙◌, append_assoc, add-one, arith}
use Rattle.std.specs.Prelude.{◌==◌, nat_le}
use Rattle.std.specs.declared.option.Option.{Option}
use Rattle.std.specs.declared.option.Option.TheVariants.{None, Some}
use Rattle.std.proofs.lemmas.List.{append-nil}
use Rattle.lvdc_port.specs.Device as device
use Rattle.lvdc_model.specs.declared.outcome.Outcome.{Outcome}
use Rattle.lvdc_model.specs.declared.outcome.Outcome.TheVariants.{Done, Stopped, Inadmissible, Device}
use Rattle.lvdc_model.specs.Trial.{Trial}
use Rattle.lvdc_model.specs.Voted.{Voted}
use Rattle.lvdc_machine.specs.Made.{made_next, told_by}
use Rattle.lvdc_machine.specs.Resumed.{steps_after, steps_since, state_from, EndsFrom, StandsFrom}
use Rattle.lvdc_machine.specs.Steps.{run_from}
use Rattle.lvdc_machine.specs.View.{View}
use Rattle.lvdc_machine.specs.declared.made.Made.{Made}
use Rattle.lvdc_machine.specs.declared.mode.Mode.{Mode}
use Rattle.lvdc_lines.specs.Noted.{lines_below}
use Rattle.lvdc_report.specs.Report.{end_text}
use Rattle.lvdc_debug.proofs.Going.{fails_later}
use Rattle.lvdc_trace.specs.declared.window.Window.{Window}
use Rattle.lvdc_trace.specs.Traces.{block, step_block, blocks, title_line, last_line, steps_asked, steps_told, text_from, failed_from}
use Rattle.lvdc_trace.specs.Going.{count_by, text_by}
use Rattle.lvdc_trace.proofs.Making.{made-none}

-- ---- blocks

-- no step has no lines
blocks-none : (mode : Mode) (o : Trial) (begin : Voted) (from : ℕ) → blocks mode o begin from 0 ≡ []
unfolding lines_below
blocks-none mode o begin from = refl

-- one step more
blocks-more : (mode : Mode) (o : Trial) (begin : Voted) (from index : ℕ)
    → blocks mode o begin from (index + 1) ≡ blocks mode o begin from index ++ step_block (index == 0) mode o begin (from + index)
unfolding lines_below
blocks-more mode o begin from index = rw add-one refl

-- what wasn't made has no lines, whatever end is kept
nothing-made : (end : Option Outcome) → told_by end None ≡ None
nothing-made None = refl
nothing-made (Some Done) = refl
nothing-made (Some (Stopped step stop)) = refl
nothing-made (Some (Inadmissible verdict)) = refl
nothing-made (Some (Device step port)) = refl

-- the lines of a step after an end
block-none : (first : Bool) (end : Option Outcome) (mode : Mode) (o : Trial) (v after : Voted) (e : Outcome) → v.end ≡ Some e
    → block first (told_by end (made_next mode o v)) o v after ≡ []
block-none first end mode o v after e is =
    ap (λ (m : Option Made). block first (told_by end m) o v after) (made-none mode o v e is)
    ∙ ap (λ (m : Option Made). block first m o v after) (nothing-made end)

-- and by the definition of the run
step-none : (first : Bool) (mode : Mode) (o : Trial) (begin : Voted) (step : ℕ) (e : Outcome) → (run_from mode o begin step).end ≡ Some e → step_block first mode o begin step ≡ []
step-none first mode o begin step e is = block-none first None mode o (run_from mode o begin step) (run_from mode o begin (suc step)) e is

-- ---- one step more is told

-- before it there were so many, and it is one more
added : (front text next before more after : List ℕ) → text ≡ front ++ before → next ≡ text ++ more → after ≡ before ++ more → next ≡ front ++ after
added front text next before more after so_far e is =
    e ∙ ap (λ t. t ++ more) so_far ∙ append_assoc front before more ∙ ap (λ t. front ++ t) (sym is)

-- nothing was added, and nothing is due
same : (front text next more due : List ℕ) → text ≡ front ++ due → next ≡ text ++ more → more ≡ [] → next ≡ front ++ due
same front text next more due so_far e none = e ∙ ap (λ t. text ++ t) none ∙ append-nil text ∙ so_far

module _ (mode : Mode) (o : Trial) (begin : Voted) (from index : ℕ) (front text next : List ℕ) where
  -- after an end
  ended-more : (end : Outcome) (more : List ℕ) → (state_from (Some end) mode o begin (from + index)).end ≡ Some end
      → text ≡ front ++ blocks mode o begin from (count_by (Some end) begin.steps from index) → next ≡ text ++ more → more ≡ []
      → next ≡ front ++ blocks mode o begin from (count_by (Some end) begin.steps from (index + 1))
  ended-more (Device step port) more is so_far e none = same front text next more _ so_far e none
  ended-more Done more is so_far e none =
      added front text next (blocks mode o begin from index) more _ so_far e (blocks-more mode o begin from index ∙ ap (λ t. blocks mode o begin from index ++ t) (step-none (index == 0) mode o begin (from + index) _ is ∙ sym none))
  ended-more (Stopped step stop) more is so_far e none =
      added front text next (blocks mode o begin from index) more _ so_far e (blocks-more mode o begin from index ∙ ap (λ t. blocks mode o begin from index ++ t) (step-none (index == 0) mode o begin (from + index) _ is ∙ sym none))
  ended-more (Inadmissible verdict) more is so_far e none =
      added front text next (blocks mode o begin from index) more _ so_far e (blocks-more mode o begin from index ∙ ap (λ t. blocks mode o begin from index ++ t) (step-none (index == 0) mode o begin (from + index) _ is ∙ sym none))

  -- a step that no device failed in
  made-more : (first : Bool) → first ≡ (index == 0) → text ≡ front ++ blocks mode o begin from index
      → next ≡ text ++ block first (made_next mode o (run_from mode o begin (from + index))) o (run_from mode o begin (from + index)) (run_from mode o begin (from + index + 1))
      → next ≡ front ++ blocks mode o begin from (index + 1)
  made-more first is so_far e =
      let step : from + index + 1 ≡ suc (from + index) = omega arith in
      let due = ap (λ (f : Bool). block f (made_next mode o (run_from mode o begin (from + index))) o (run_from mode o begin (from + index)) (run_from mode o begin (from + index + 1))) is
      ∙ ap (λ (k : ℕ). block (index == 0) (made_next mode o (run_from mode o begin (from + index))) o (run_from mode o begin (from + index)) (run_from mode o begin k)) step in
      added front text next (blocks mode o begin from index) _ _ so_far (e ∙ ap (λ t. text ++ t) due) (blocks-more mode o begin from index)

  -- where no end had come
  going-more : (end : Option Outcome) (first : Bool) → first ≡ (index == 0) → ((step port : ℕ) → end ≡ Some (Device step port) → steps_since begin.steps step ≡ from + index)
      → text ≡ front ++ blocks mode o begin from index
      → next ≡ text ++ block first (told_by end (made_next mode o (run_from mode o begin (from + index)))) o (run_from mode o begin (from + index)) (state_from end mode o begin (from + index + 1))
      → next ≡ front ++ blocks mode o begin from (count_by end begin.steps from (index + 1))
  going-more (Some (Device step port)) first is fails so_far e =
      let at = fails step port refl in
      let count : steps_since begin.steps step - from ≡ index = omega (arith, at) in
      rw count (same front text next [] (blocks mode o begin from index) so_far e refl)
  going-more None first is fails so_far e = made-more first is so_far e
  going-more (Some Done) first is fails so_far e = made-more first is so_far e
  going-more (Some (Stopped step stop)) first is fails so_far e = made-more first is so_far e
  going-more (Some (Inadmissible verdict)) first is fails so_far e = made-more first is so_far e

-- a step that is no earlier than this one and no later
since-there : (behind step t : ℕ) → steps_after behind t ≤ step → step < steps_after behind (t + 1) → steps_since behind step ≡ t
since-there zero step t late early = omega (arith, late, early)
since-there (suc made) step t late early = omega (arith, late, early)

-- a device that failed in the step that was made next failed in that step
fails-there : (o : Trial) (begin : Voted) (t : ℕ) (m after : View) (ds later : List device.Device) → m.end ≡ None → StandsFrom o begin t m ds
    → ((o : Trial) (first : Voted) (n : ℕ) → StandsFrom o first n m ds → StandsFrom o first (n + 1) after later)
    → (step port : ℕ) → after.end ≡ Some (Device step port) → steps_since begin.steps step ≡ t
fails-there o begin t m after ds later going s resumes step port is =
    let late : steps_after begin.steps t ≤ step = fails_later o begin t 1 m after ds later going s resumes step port is in
    let there = resumes o begin t s in
    let ends = subst (λ (e : Option Outcome). EndsFrom e o begin (t + 1) after.mode after.steps) is there.ends in
    since-there begin.steps step t late ends.early

-- the lines of the step that is made next
pub told-more : (o : Trial) (begin : Voted) (mode : Mode) (from index : ℕ) (first : Bool) (m after : View) (ds later : List device.Device) (front text next : List ℕ)
    → first ≡ (index == 0) → m.mode ≡ mode → StandsFrom o begin (from + index) m ds
    → ((o : Trial) (v : Voted) (n : ℕ) → StandsFrom o v n m ds → StandsFrom o v (n + 1) after later)
    → (IsSome m.end → after ≡ m)
    → text ≡ front ++ blocks mode o begin from (count_by m.end begin.steps from index)
    → next ≡ text ++ block first (told_by after.end (made_next m.mode o (state_from m.end m.mode o begin (from + index)))) o (state_from m.end m.mode o begin (from + index)) (state_from after.end m.mode o begin (from + index + 1))
    → next ≡ front ++ blocks mode o begin from (count_by after.end begin.steps from (index + 1))
told-more o begin mode from index first m after ds later front text next is same_mode s resumes kept so_far e =
    by m.end refl (rw same_mode at s.shows.end) so_far (rw same_mode at e)
  where
    by : (end : Option Outcome) → m.end ≡ end → m.end ≡ (state_from m.end mode o begin (from + index)).end
        → text ≡ front ++ blocks mode o begin from (count_by m.end begin.steps from index)
        → next ≡ text ++ block first (told_by after.end (made_next mode o (state_from m.end mode o begin (from + index)))) o (state_from m.end mode o begin (from + index)) (state_from after.end mode o begin (from + index + 1))
        → next ≡ front ++ blocks mode o begin from (count_by after.end begin.steps from (index + 1))
    by None none ends so_far e =
        going-more mode o begin from index front text next after.end first is
        (fails-there o begin (from + index) m after ds later none s resumes)
        (so_far ∙ ap (λ (x : Option Outcome). front ++ blocks mode o begin from (count_by x begin.steps from index)) none)
        (e ∙ ap (λ (x : Option Outcome). text ++ block first (told_by after.end (made_next mode o (state_from x mode o begin (from + index)))) o (state_from x mode o begin (from + index)) (state_from after.end mode o begin (from + index + 1))) none)
    by (Some end) some ends so_far e =
        let there : (state_from (Some end) mode o begin (from + index)).end ≡ Some end = ap (λ (x : Option Outcome). (state_from x mode o begin (from + index)).end) (sym some) ∙ sym ends ∙ some in
        let after_end : after.end ≡ Some end = ap (λ (v : View). v.end) (kept (rw some refl)) ∙ some in
        let more = block first (told_by after.end (made_next mode o (state_from (Some end) mode o begin (from + index)))) o (state_from (Some end) mode o begin (from + index)) (state_from after.end mode o begin (from + index + 1)) in
        ended-more mode o begin from index front text next end more there
        (so_far ∙ ap (λ (x : Option Outcome). front ++ blocks mode o begin from (count_by x begin.steps from index)) some)
        (e ∙ ap (λ (x : Option Outcome). text ++ block first (told_by after.end (made_next mode o (state_from x mode o begin (from + index)))) o (state_from x mode o begin (from + index)) (state_from after.end mode o begin (from + index + 1))) some)
        (block-none first after.end mode o (state_from (Some end) mode o begin (from + index)) _ end there)
        ∙ ap (λ (x : Option Outcome). front ++ blocks mode o begin from (count_by x begin.steps from (index + 1))) (sym after_end)

-- where nothing is told yet
pub told-none : (o : Trial) (begin : Voted) (mode : Mode) (from : ℕ) (end : Option Outcome) (front : List ℕ)
    → ((step port : ℕ) → end ≡ Some (Device step port) → steps_since begin.steps step < from) → front ≡ front ++ blocks mode o begin from (count_by end begin.steps from 0)
told-none o begin mode from end front early = sym (ap (λ t. front ++ t) (none end early) ∙ append-nil front)
  where
    none : (end : Option Outcome) → ((step port : ℕ) → end ≡ Some (Device step port) → steps_since begin.steps step < from) → blocks mode o begin from (count_by end begin.steps from 0) ≡ []
    none None early = blocks-none mode o begin from
    none (Some Done) early = blocks-none mode o begin from
    none (Some (Stopped step stop)) early = blocks-none mode o begin from
    none (Some (Inadmissible verdict)) early = blocks-none mode o begin from
    none (Some (Device step port)) early =
        let e = early step port refl in
        let count : steps_since begin.steps step - from ≡ 0 = omega (arith, e) in
        rw count (blocks-none mode o begin from)

-- a step that is earlier than this one, and no earlier than the first
since-before : (behind step t : ℕ) → behind ≤ step → step < steps_after behind t → steps_since behind step < t
since-before zero step t later early = omega (arith, early)
since-before (suc made) step t later early = omega (arith, later, early)

-- a device that had failed failed in an earlier step
pub failed-before : (o : Trial) (begin : Voted) (t : ℕ) (m : View) (ds : List device.Device) → StandsFrom o begin t m ds
    → (step port : ℕ) → m.end ≡ Some (Device step port) → steps_since begin.steps step < t
failed-before o begin t m ds s step port is =
    let ends = subst (λ (e : Option Outcome). EndsFrom e o begin t m.mode m.steps) is s.ends in
    since-before begin.steps step t ends.later ends.early

-- ---- the whole

-- steps from two places on are the same where none is told, or the places are one
blocks-from : (mode : Mode) (o : Trial) (begin : Voted) (a b i j : ℕ) → i ≡ j → (0 < i → a ≡ b) → blocks mode o begin a i ≡ blocks mode o begin b j
blocks-from mode o begin a b zero j count place = blocks-none mode o begin a ∙ sym (rw (← count) (blocks-none mode o begin b))
blocks-from mode o begin a b (suc i) j count place =
    let at = place (omega arith) in ap (λ (k : ℕ). blocks mode o begin k (suc i)) at ∙ ap (λ (k : ℕ). blocks mode o begin b k) count

-- the lines of the whole, where the first step told is this one and so many are asked for
module _ (mode : Mode) (o : Trial) (begin : Voted) (left : ℕ) (w : Window) (from asked : ℕ) (all : Bool) (body out : List ℕ)
    (is_from : from ≡ min w.first left) (is_asked : asked ≡ steps_asked w left) (is_all : all ≡ nat_le left (w.first + w.count)) where
  -- where no device failed
  plain-text : (end : Option Outcome) → (run_from mode o begin asked).end ≡ end
      → body ≡ title_line mode ++ blocks mode o begin from (asked - from) → out ≡ body ++ last_line end all → out ≡ text_from mode o begin left w
  plain-text end is e f =
      let told : blocks mode o begin from (asked - from) ≡ blocks mode o begin w.first (steps_told w left) =
      blocks-from mode o begin from w.first (asked - from) (steps_told w left) (omega (arith, is_from, is_asked)) (λ some. omega (arith, is_from, is_asked, some)) in
      let last : last_line end all ≡ last_line (run_from mode o begin (steps_asked w left)).end (nat_le left (w.first + w.count)) =
      (λ i. last_line (sym is i) (is_all i)) ∙ ap (λ (k : ℕ). last_line (run_from mode o begin k).end (nat_le left (w.first + w.count))) is_asked in
      f ∙ ap (λ t. t ++ last_line end all) e ∙ (λ i. title_line mode ++ told i ++ last i)

  -- where one did
  broken-text : (step port since : ℕ) → steps_since begin.steps step ≡ since → since < asked
      → body ≡ title_line mode ++ blocks mode o begin from (since - from) → out ≡ body ++ end_text (Device step port) → out ≡ failed_from mode o begin w step port
  broken-text step port since is early e f =
      let told : blocks mode o begin from (since - from) ≡ blocks mode o begin w.first (since - w.first) =
      blocks-from mode o begin from w.first (since - from) (since - w.first) (omega (arith, is_from, is_asked, early)) (λ some. omega (arith, is_from, is_asked, early, some)) in
      f ∙ ap (λ t. t ++ end_text (Device step port)) e ∙ (λ i. title_line mode ++ told i ++ end_text (Device step port))
      ∙ ap (λ (k : ℕ). title_line mode ++ blocks mode o begin w.first (k - w.first) ++ end_text (Device step port)) (sym is)

  -- by the end that was kept
  pub whole-text : (end : Option Outcome) → end ≡ (state_from end mode o begin asked).end
      → ((step port : ℕ) → end ≡ Some (Device step port) → steps_since begin.steps step < asked)
      → body ≡ title_line mode ++ blocks mode o begin from (count_by end begin.steps from (asked - from)) → out ≡ body ++ last_line end all
      → out ≡ text_by end mode o begin left w
  whole-text None is early e f = plain-text None (sym is) e f
  whole-text (Some Done) is early e f = plain-text (Some Done) (sym is) e f
  whole-text (Some (Stopped step stop)) is early e f = plain-text (Some (Stopped step stop)) (sym is) e f
  whole-text (Some (Inadmissible verdict)) is early e f = plain-text (Some (Inadmissible verdict)) (sym is) e f
  whole-text (Some (Device step port)) is early e f = broken-text step port (steps_since begin.steps step) refl (early step port refl) e f
