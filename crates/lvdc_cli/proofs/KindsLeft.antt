-- Which devices are left, and what kind each is of.
use Rattle.std.proofs.Common.{◌≡◌, ℕ, ◌<◌, ◌==◌, nat_lt, Bool, true, false, List, [], ◌∷◌, All, map, None, Some, refl, sym, ap, subst, ◌∙◌}
use Rattle.std.specs.Bool.{if◌then◌else◌}
use Rattle.std.specs.declared.option.Option.{Option}
use Rattle.std.proofs.lemmas.Bool.{true≢false, lt-ltb, eqb-true}
use Rattle.std.proofs.lemmas.List.Elements.{All-nil, All-cons}
use Rattle.lvdc_port.specs.Device.{Device}
use Rattle.lvdc_port.specs.Devices.{without, has_port, AreDistinct}
use Rattle.lvdc_port.specs.Supplies.{ports_of}
use Rattle.lvdc_port.specs.declared.device.Kind.{Kind}
use Rattle.lvdc_port.proofs.Lists.{distinct-without}
use Rattle.lvdc_port.proofs.Supplied.{distinct-ports}
use Rattle.lvdc_plain.specs.declared.records.Unplug.{Unplug}
use Rattle.lvdc_save_read.specs.Accepted.{kind_among}
use Rattle.lvdc_cli.specs.Alike.{renewed}
use Rattle.lvdc_command_resume.specs.Restore.{left_before}

-- ---- devices in their kinds' first states

pub kind-renewed : (port : ℕ) (ds : List Device) → kind_among (map renewed ds) port ≡ kind_among ds port
kind-renewed port [] = refl
kind-renewed port (d ∷ ds) = ap (λ (k : Option Kind). if d.port == port then Some d.kind else k) (kind-renewed port ds)

ports-renewed : (ds : List Device) → ports_of (map renewed ds) ≡ ports_of ds
ports-renewed [] = refl
ports-renewed (d ∷ ds) = ap (λ (ports : List ℕ). d.port ∷ ports) (ports-renewed ds)

pub distinct-renewed : (ds : List Device) → AreDistinct ds → AreDistinct (map renewed ds)
distinct-renewed ds apart = distinct-ports (map renewed ds) ds (ports-renewed ds) apart

pub renewed-distinct : (ds : List Device) → AreDistinct (map renewed ds) → AreDistinct ds
renewed-distinct ds apart = distinct-ports ds (map renewed ds) (sym (ports-renewed ds)) apart

-- ---- one device is taken away

-- where there is none at a port, none is there afterwards
none-without : (port gone : ℕ) (ds : List Device) → kind_among ds port ≡ None → kind_among (without (λ d. d) gone ds) port ≡ None
none-without port gone [] none = none
none-without port gone (d ∷ ds) none = by_port (none-without port gone ds) (d.port == port) refl
  where
    by_port : (kind_among ds port ≡ None → kind_among (without (λ x. x) gone ds) port ≡ None) → (t : Bool) → (d.port == port) ≡ t
        → kind_among (without (λ x. x) gone (d ∷ ds)) port ≡ None
    by_port rest true is = absurd (cc (none, ap (λ (t : Bool). if t then Some d.kind else kind_among ds port) is))
    by_port rest false is =
        let later : kind_among ds port ≡ None = sym (ap (λ (t : Bool). if t then Some d.kind else kind_among ds port) is) ∙ none in
        elim (d.port == gone) as (λ t. kind_among (if t then ds else d ∷ without (λ x. x) gone ds) port ≡ None) [
          | true ↦ later
          | false ↦ ap (λ (t : Bool). if t then Some d.kind else kind_among (without (λ x. x) gone ds) port) is ∙ rest later
        ]

-- where ports are distinct, none is left at its port
lacks-kind : (port : ℕ) (ds : List Device) → has_port (λ d. d) port ds ≡ false → kind_among ds port ≡ None
lacks-kind port [] none = refl
lacks-kind port (d ∷ ds) none =
    (elim (d.port == port) as (λ t. (if t then true else has_port (λ x. x) port ds) ≡ false → (if t then Some d.kind else kind_among ds port) ≡ None)
    [ true ↦ λ e. absurd (true≢false e) | false ↦ λ e. lacks-kind port ds e ]) none

gone-without : (port : ℕ) (ds : List Device) → AreDistinct ds → kind_among (without (λ d. d) port ds) port ≡ None
gone-without port [] apart = refl
gone-without port (d ∷ ds) apart = by_port (gone-without port ds apart.1) (d.port == port) refl
  where
    by_port : kind_among (without (λ x. x) port ds) port ≡ None → (t : Bool) → (d.port == port) ≡ t → kind_among (without (λ x. x) port (d ∷ ds)) port ≡ None
    by_port rest true is =
        ap (λ (t : Bool). kind_among (if t then ds else d ∷ without (λ x. x) port ds) port) is
        ∙ lacks-kind port ds (subst (λ (p : ℕ). has_port (λ x. x) p ds ≡ false) (eqb-true d.port port is) apart.0)
    by_port rest false is =
        ap (λ (t : Bool). kind_among (if t then ds else d ∷ without (λ x. x) port ds) port) is
        ∙ ap (λ (t : Bool). if t then Some d.kind else kind_among (without (λ x. x) port ds) port) is ∙ rest

-- those that are left are of the kinds that they were of
kind-without : (port gone : ℕ) (kind : Kind) (ds : List Device) → AreDistinct ds → kind_among (without (λ d. d) gone ds) port ≡ Some kind
    → kind_among ds port ≡ Some kind
kind-without port gone kind [] apart is = is
kind-without port gone kind (d ∷ ds) apart is = by_gone (kind-without port gone kind ds apart.1) (d.port == gone) refl
  where
    by_port : (t : Bool) → (d.port == port) ≡ t → kind_among ds port ≡ Some kind → kind_among (d ∷ ds) port ≡ Some kind
    by_port true at later =
        absurd (cc (later, lacks-kind port ds (subst (λ (p : ℕ). has_port (λ x. x) p ds ≡ false) (eqb-true d.port port at) apart.0)))
    by_port false at later = ap (λ (t : Bool). if t then Some d.kind else kind_among ds port) at ∙ later

    by_both : (kind_among (without (λ x. x) gone ds) port ≡ Some kind → kind_among ds port ≡ Some kind) → (t : Bool)
        → (if t then Some d.kind else kind_among (without (λ x. x) gone ds) port) ≡ Some kind → (if t then Some d.kind else kind_among ds port) ≡ Some kind
    by_both rest true here = here
    by_both rest false here = rest here

    by_gone : (kind_among (without (λ x. x) gone ds) port ≡ Some kind → kind_among ds port ≡ Some kind) → (t : Bool) → (d.port == gone) ≡ t
        → kind_among (d ∷ ds) port ≡ Some kind
    by_gone rest true at =
        by_port (d.port == port) refl (sym (ap (λ (t : Bool). kind_among (if t then ds else d ∷ without (λ x. x) gone ds) port) at) ∙ is)
    by_gone rest false at =
        by_both rest (d.port == port) (sym (ap (λ (t : Bool). kind_among (if t then ds else d ∷ without (λ x. x) gone ds) port) at) ∙ is)

-- ---- the lines of earlier times

pub distinct-left : (lines : List Unplug) (times : ℕ) (ds : List Device) → AreDistinct ds → AreDistinct (left_before lines times ds)
distinct-left [] times ds apart = apart
distinct-left (line ∷ lines) times ds apart =
    elim (nat_lt line.time times) as (λ t. AreDistinct (left_before lines times (if t then without (λ x. x) line.port ds else ds))) [
      | true ↦ distinct-left lines times (without (λ x. x) line.port ds) (distinct-without line.port ds apart)
      | false ↦ distinct-left lines times ds apart
    ]

none-left : (lines : List Unplug) (times port : ℕ) (ds : List Device) → kind_among ds port ≡ None → kind_among (left_before lines times ds) port ≡ None
none-left [] times port ds none = none
none-left (line ∷ lines) times port ds none =
    elim (nat_lt line.time times) as (λ t. kind_among (left_before lines times (if t then without (λ x. x) line.port ds else ds)) port ≡ None) [
      | true ↦ none-left lines times port (without (λ x. x) line.port ds) (none-without port line.port ds none)
      | false ↦ none-left lines times port ds none
    ]

pub kind-left : (lines : List Unplug) (times port : ℕ) (kind : Kind) (ds : List Device) → AreDistinct ds
    → kind_among (left_before lines times ds) port ≡ Some kind → kind_among ds port ≡ Some kind
kind-left [] times port kind ds apart is = is
kind-left (line ∷ lines) times port kind ds apart is =
    (elim (nat_lt line.time times) as (λ t. kind_among (left_before lines times (if t then without (λ x. x) line.port ds else ds)) port ≡ Some kind
    → kind_among ds port ≡ Some kind) [
      | true ↦ λ e. kind-without port line.port kind ds apart
          (kind-left lines times port kind (without (λ x. x) line.port ds) (distinct-without line.port ds apart) e)
      | false ↦ λ e. kind-left lines times port kind ds apart e
    ]) is

-- the device of a line of an earlier time is not there
pub left-gone : (lines : List Unplug) (times : ℕ) (ds : List Device) → AreDistinct ds
    → All (λ line. line.time < times → kind_among (left_before lines times ds) line.port ≡ None) lines
left-gone [] times ds apart = All-nil (λ line. line.time < times → kind_among (left_before [] times ds) line.port ≡ None)
left-gone (line ∷ lines) times ds apart =
    All-cons (λ l. l.time < times → kind_among (left_before (line ∷ lines) times ds) l.port ≡ None) line lines
    (λ early. ap (λ (t : Bool). kind_among (left_before lines times (if t then without (λ x. x) line.port ds else ds)) line.port) (lt-ltb line.time times early)
    ∙ none-left lines times line.port (without (λ x. x) line.port ds) (gone-without line.port ds apart))
    (elim (nat_lt line.time times) as (λ t. All (λ l. l.time < times
    → kind_among (left_before lines times (if t then without (λ x. x) line.port ds else ds)) l.port ≡ None) lines) [
      | true ↦ left-gone lines times (without (λ x. x) line.port ds) (distinct-without line.port ds apart)
      | false ↦ left-gone lines times ds apart
    ])
