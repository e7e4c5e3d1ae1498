-- Two runs of a machine that judges, from states that are alike but for their devices and logs: where their logs grow along one list of lines, they come to
-- states that are alike so.
use Rattle.std.proofs.Common.{◌≡◌, ℕ, zero, suc, ◌/◌, List, [], ◌∷◌, ◌++◌, length, take, drop, true, false, refl, sym, ap, ◌∙◌, subst, append_assoc, Result, Ok, Err}
use Rattle.std.proofs.lemmas.List.{append-nil, append_cancel_left, take_at, drop_at}
use Rattle.std.specs.declared.option.Option.{Option}
use Rattle.std.specs.declared.option.Option.TheVariants.{None, Some}
use Rattle.lvdc_map.specs.Address.{Spot}
use Rattle.lvdc_port.specs.Device.{Device}
use Rattle.lvdc_port.specs.declared.requests.PortRequest.TheVariants as requests
use Rattle.lvdc_twin.specs.declared.both_bad.BothBad.{BothBad}
use Rattle.lvdc_twin.specs.declared.read_out.ReadOut.{ReadOut}
use Rattle.lvdc_modules.specs.declared.wanted.Wanted.{Wanted}
use Rattle.lvdc_modules.specs.declared.wanted.Wanted.TheVariants as wanted
use Rattle.lvdc_plain.specs.declared.records.Exchange.{Exchange}
use Rattle.lvdc_fault.specs.Script.{wrong_module}
use Rattle.lvdc_fault.specs.declared.verdict.Verdict.{Verdict}
use Rattle.lvdc_fault.specs.declared.verdict.Verdict.TheVariants.{Admissible, Logic, Memory}
use Rattle.lvdc_model.specs.declared.outcome.Outcome.{Outcome}
use Rattle.lvdc_model.specs.Exchanges.{begin_step, reading, latches, port_word, exchanges, wished}
use Rattle.lvdc_model.specs.Runs.{after_steps, read_of_wish, own_memory, own_logic, own_verdict, judged_by, alone_by, alone_step}
use Rattle.lvdc_model.specs.Trial.{Trial}
use Rattle.lvdc_model.specs.Twins.{read_answer}
use Rattle.lvdc_model.specs.Voted.{Voted}
use Rattle.lvdc_study.specs.Waypoints.{apart}

-- ---- the line that a step notes

abbrev pub line-of : Wanted → Voted → List Exchange
line-of (wanted.PortRead port) u = record { time = u.steps / 3; port = port; reading = true; word = port_word u (requests.Read port) } ∷ []
line-of (wanted.PortWrite port word) u = record { time = u.steps / 3; port = port; reading = false; word = word } ∷ []
line-of (wanted.Store at word) u = []
line-of (wanted.Fetch at) u = []
line-of (wanted.Operand at) u = []
line-of wanted.Nothing u = []

abbrev judged-line : Verdict → Trial → Voted → List Exchange
judged-line Admissible o u = line-of (wished o u) u
judged-line (Logic step m) o u = []
judged-line (Memory step at) o u = []

abbrev step-line : Option Outcome → Trial → Voted → List Exchange
step-line (Some e) o v = []
step-line None o v = judged-line (own_verdict o (begin_step o v)) o (begin_step o v)

read-log : (r : Result ReadOut BothBad) (o : Trial) (u : Voted) (at : Spot) → (reading r o u at).log ≡ u.log ++ []
read-log (Err bad) o u at = sym (append-nil u.log)
read-log (Ok r) o u at = sym (append-nil u.log)

pub exchange-log : (w : Wanted) (o : Trial) (u : Voted) → (exchanges o u w).log ≡ u.log ++ line-of w u
exchange-log (wanted.PortRead port) o u = refl
exchange-log (wanted.PortWrite port word) o u = refl
exchange-log (wanted.Store at word) o u = sym (append-nil u.log)
exchange-log (wanted.Fetch at) o u = read-log (read_answer o u.steps u.twins at) o u at
exchange-log (wanted.Operand at) o u = read-log (read_answer o u.steps u.twins at) o u at
exchange-log wanted.Nothing o u = sym (append-nil u.log)

judged-log : (said : Verdict) (o : Trial) (u : Voted) → (judged_by said o u).log ≡ u.log ++ judged-line said o u
judged-log Admissible o u = exchange-log (wished o u) o u
judged-log (Logic step m) o u = sym (append-nil u.log)
judged-log (Memory step at) o u = sym (append-nil u.log)

step-log : (end : Option Outcome) (o : Trial) (v : Voted) → (alone_by end o v).log ≡ v.log ++ step-line end o v
step-log (Some e) o v = sym (append-nil v.log)
step-log None o v = judged-log (own_verdict o (begin_step o v)) o (begin_step o v)

-- ---- the same state over other devices and with another log

abbrev word-in : List Exchange → ℕ
word-in [] = 0
word-in (line ∷ lines) = line.word

module _ (o : Trial) (u : Voted) (devices : List Device) (log : List Exchange) where
  abbrev pub other : Voted
  other = record u { devices = devices; log = log }

  read-apart : (r : Result ReadOut BothBad) (at : Spot) → apart (reading r o u at) ≡ apart (reading r o other at)
  read-apart (Err bad) at = refl
  read-apart (Ok r) at = refl

  pub exchange-apart : (w : Wanted) → line-of w u ≡ line-of w other → apart (exchanges o u w) ≡ apart (exchanges o other w)
  exchange-apart (wanted.PortRead port) e = ap (λ (word : ℕ). apart (latches o u 0 word)) (ap word-in e)
  exchange-apart (wanted.PortWrite port word) e = refl
  exchange-apart (wanted.Store at word) e = refl
  exchange-apart (wanted.Fetch at) e = read-apart (read_answer o u.steps u.twins at) at
  exchange-apart (wanted.Operand at) e = read-apart (read_answer o u.steps u.twins at) at
  exchange-apart wanted.Nothing e = refl

  line-length : (w : Wanted) → length (line-of w u) ≡ length (line-of w other)
  line-length (wanted.PortRead port) = refl
  line-length (wanted.PortWrite port word) = refl
  line-length (wanted.Store at word) = refl
  line-length (wanted.Fetch at) = refl
  line-length (wanted.Operand at) = refl
  line-length wanted.Nothing = refl

  memory-same : (r : Option Spot) → own_memory o other r ≡ own_memory o u r
  memory-same None = refl
  memory-same (Some at) = refl

  logic-same : (m : Option ℕ) → own_logic o other m ≡ own_logic o u m
  logic-same (Some m) = refl
  logic-same None = memory-same (read_of_wish (wished o u))

  said-same : own_verdict o other ≡ own_verdict o u
  said-same = logic-same (wrong_module o.script u.steps)

  judged-apart : (said : Verdict) → judged-line said o u ≡ judged-line said o other → apart (judged_by said o u) ≡ apart (judged_by said o other)
  judged-apart Admissible e = exchange-apart (wished o u) e
  judged-apart (Logic step m) e = refl
  judged-apart (Memory step at) e = refl

  judged-length : (said : Verdict) → length (judged-line said o u) ≡ length (judged-line said o other)
  judged-length Admissible = line-length (wished o u)
  judged-length (Logic step m) = refl
  judged-length (Memory step at) = refl

module _ (o : Trial) (v : Voted) (devices : List Device) (log : List Exchange) where
  abbrev begun : Voted
  begun = begin_step o v

  abbrev else-begun : Voted
  else-begun = begin_step o (record v { devices = devices; log = log })

  same-said : own_verdict o else-begun ≡ own_verdict o begun
  same-said = said-same o begun else-begun.devices log

  step-apart : (end : Option Outcome) → step-line end o v ≡ step-line end o (record v { devices = devices; log = log })
      → apart (alone_by end o v) ≡ apart (alone_by end o (record v { devices = devices; log = log }))
  step-apart (Some e) same = refl
  step-apart None same =
      subst (λ (said : Verdict). judged-line (own_verdict o begun) o begun ≡ judged-line said o else-begun
      → apart (judged_by (own_verdict o begun) o begun) ≡ apart (judged_by said o else-begun))
      (sym same-said) (judged-apart o begun else-begun.devices log (own_verdict o begun)) same

  step-length : (end : Option Outcome) → length (step-line end o v) ≡ length (step-line end o (record v { devices = devices; log = log }))
  step-length (Some e) = refl
  step-length None =
      judged-length o begun else-begun.devices log (own_verdict o begun)
      ∙ ap (λ (said : Verdict). length (judged-line said o else-begun)) (sym same-said)

-- states that are alike are the same but for devices and log
pub alike-is : (v w : Voted) → apart v ≡ apart w → record v { devices = w.devices; log = w.log } ≡ w
alike-is v w same = ap (λ (b : Voted). record b { devices = w.devices; log = w.log }) same

-- ---- runs

abbrev pub run-by : Trial → Voted → ℕ → Voted
run-by o v n = after_steps (alone_step o) v n

-- a run of one step more is its first step and the run from there
from-front : (o : Trial) (v : Voted) (n : ℕ) → run-by o v (suc n) ≡ run-by o (alone_step o v) n
from-front o v zero = refl
from-front o v (suc n) = ap (alone_step o) (from-front o v n)

-- a log only grows
pub record Grows (before after : List Exchange) : Type 0 where
  pub lines : List Exchange
  pub is : after ≡ before ++ lines

log-grows : (o : Trial) (v : Voted) (n : ℕ) → Grows v.log (run-by o v n).log
log-grows o v zero = record { lines = []; is = sym (append-nil v.log) }
log-grows o v (suc n) =
    let before = log-grows o v n in
    let r = run-by o v n in
    record {
      lines = before.lines ++ step-line r.end o r;
      is = step-log r.end o r ∙ ap (λ (lines : List Exchange). lines ++ step-line r.end o r) before.is ∙ append_assoc v.log before.lines (step-line r.end o r);
    }

-- two runs of so many steps have noted the same lines, and have come to states that are alike
pub record Alongside (o : Trial) (n : ℕ) (v w : Voted) : Type 0 where
  pub same : apart (run-by o v n) ≡ apart (run-by o w n)
  pub lines : List Exchange
  pub one : (run-by o v n).log ≡ v.log ++ lines
  pub other : (run-by o w n).log ≡ w.log ++ lines

module _ (o : Trial) where
  -- the lines of a first step, of the later ones and those behind are all that follow
  follows : (v : Voted) (n : ℕ) (behind all : List Exchange) → (run-by o v (suc n)).log ++ behind ≡ v.log ++ all
      → step-line v.end o v ++ ((log-grows o (alone_step o v) n).lines ++ behind) ≡ all
  follows v n behind all e =
      let next = alone_step o v in
      let later = log-grows o next n in
      let line = step-line v.end o v in
      let whole : (run-by o v (suc n)).log ≡ (v.log ++ line) ++ later.lines =
      ap (λ (r : Voted). r.log) (from-front o v n) ∙ later.is ∙ ap (λ (log : List Exchange). log ++ later.lines) (step-log v.end o v) in
      append_cancel_left v.log (line ++ (later.lines ++ behind)) all
      (sym (append_assoc v.log line (later.lines ++ behind)) ∙ sym (append_assoc (v.log ++ line) later.lines behind)
      ∙ ap (λ (log : List Exchange). log ++ behind) (sym whole) ∙ e)

  module _ (n : ℕ) (v w : Voted) (all behind beyond : List Exchange) (same : apart v ≡ apart w)
      (mine : (run-by o v (suc n)).log ++ behind ≡ v.log ++ all) (others : (run-by o w (suc n)).log ++ beyond ≡ w.log ++ all) where
    first : step-line v.end o v ++ ((log-grows o (alone_step o v) n).lines ++ behind) ≡ all
    first = follows v n behind all mine

    first-else : step-line w.end o w ++ ((log-grows o (alone_step o w) n).lines ++ beyond) ≡ all
    first-else = follows w n beyond all others

    is : record v { devices = w.devices; log = w.log } ≡ w
    is = alike-is v w same

    long : length (step-line v.end o v) ≡ length (step-line w.end o w)
    long = step-length o v w.devices w.log v.end ∙ ap (λ (x : Voted). length (step-line x.end o x)) is

    lines-same : step-line v.end o v ≡ step-line w.end o w
    lines-same =
        let a = step-line v.end o v in
        let b = step-line w.end o w in
        sym (take_at a ((log-grows o (alone_step o v) n).lines ++ behind) (length a) refl) ∙ ap (take (length a)) (first ∙ sym first-else)
        ∙ take_at b ((log-grows o (alone_step o w) n).lines ++ beyond) (length a) (sym long)

    rest-same : (log-grows o (alone_step o v) n).lines ++ behind ≡ (log-grows o (alone_step o w) n).lines ++ beyond
    rest-same =
        let a = step-line v.end o v in
        let b = step-line w.end o w in
        sym (drop_at a ((log-grows o (alone_step o v) n).lines ++ behind) (length a) refl) ∙ ap (drop (length a)) (first ∙ sym first-else)
        ∙ drop_at b ((log-grows o (alone_step o w) n).lines ++ beyond) (length a) (sym long)

    next : apart (alone_step o v) ≡ apart (alone_step o w)
    next =
        step-apart o v w.devices w.log v.end (lines-same ∙ sym (ap (λ (x : Voted). step-line x.end o x) is))
        ∙ ap (λ (x : Voted). apart (alone_step o x)) is

    -- what follows the first steps has been noted before those lines
    mine-on : (run-by o (alone_step o v) n).log ++ behind ≡ (alone_step o v).log ++ ((log-grows o (alone_step o v) n).lines ++ behind)
    mine-on =
        ap (λ (log : List Exchange). log ++ behind) (log-grows o (alone_step o v) n).is
        ∙ append_assoc (alone_step o v).log (log-grows o (alone_step o v) n).lines behind

    others-on : (run-by o (alone_step o w) n).log ++ beyond ≡ (alone_step o w).log ++ ((log-grows o (alone_step o v) n).lines ++ behind)
    others-on =
        ap (λ (log : List Exchange). log ++ beyond) (log-grows o (alone_step o w) n).is
        ∙ append_assoc (alone_step o w).log (log-grows o (alone_step o w) n).lines beyond
        ∙ ap (λ (tail : List Exchange). (alone_step o w).log ++ tail) (sym rest-same)

    alongside-next : Alongside o n (alone_step o v) (alone_step o w) → Alongside o (suc n) v w
    alongside-next rest =
        record {
          same = ap apart (from-front o v n) ∙ rest.same ∙ sym (ap apart (from-front o w n));
          lines = step-line v.end o v ++ rest.lines;
          one = ap (λ (r : Voted). r.log) (from-front o v n) ∙ rest.one ∙ ap (λ (log : List Exchange). log ++ rest.lines) (step-log v.end o v)
              ∙ append_assoc v.log (step-line v.end o v) rest.lines;
          other = ap (λ (r : Voted). r.log) (from-front o w n) ∙ rest.other ∙ ap (λ (log : List Exchange). log ++ rest.lines) (step-log w.end o w)
              ∙ append_assoc w.log (step-line w.end o w) rest.lines
              ∙ ap (λ (made : List Exchange). w.log ++ (made ++ rest.lines)) (sym lines-same);
        }

  pub alongside : (n : ℕ) (v w : Voted) (all behind beyond : List Exchange) → apart v ≡ apart w
      → (run-by o v n).log ++ behind ≡ v.log ++ all → (run-by o w n).log ++ beyond ≡ w.log ++ all → Alongside o n v w
  alongside zero v w all behind beyond same mine others =
      record { same = same; lines = []; one = sym (append-nil v.log); other = sym (append-nil w.log) }
  alongside (suc n) v w all behind beyond same mine others =
      alongside-next n v w all behind beyond same mine others
      (alongside n (alone_step o v) (alone_step o w) ((log-grows o (alone_step o v) n).lines ++ behind) behind beyond
      (next n v w all behind beyond same mine others) (mine-on n v w all behind beyond same mine others) (others-on n v w all behind beyond same mine others))
