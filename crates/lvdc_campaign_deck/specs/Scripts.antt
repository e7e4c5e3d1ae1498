-- The scripts of a campaign, line by line.
use Rattle.std.specs.Prelude.{◌≡◌, ◌≢◌, ℕ, suc, ◌≤◌, nat_lt, Bool, ◌&&◌, not, List, [], ◌∷◌, ◌++◌, All, length, codes, if◌then◌else◌, Result, Ok, Err}
use Rattle.std.specs.List.{list_any}
use Rattle.std.specs.Str.{bytes_eq}
use Rattle.std.specs.declared.option.Option.{Option}
use Rattle.std.specs.declared.option.Option.TheVariants.{None, Some}
use Rattle.lvdc_text.specs.Lines.{part_of, token_texts_of, is_long, is_comment}
use Rattle.lvdc_text.specs.declared.cutting.Line.{Line}
use Rattle.lvdc_fault.specs.declared.event.Event.{Event}
use Rattle.lvdc_fault.specs.declared.named.Named.{Named}
use Rattle.lvdc_fault.specs.Events.{IsEvent}
use Rattle.lvdc_lines.specs.Lines.{fault_in}
use Rattle.lvdc_source.specs.Names.{is_name}
use Rattle.lvdc_fault.specs.declared.TheConstants.{MOST_EVENTS}
use Rattle.lvdc_campaign_deck.specs.declared.fault.CampaignFault.{CampaignFault}
use Rattle.lvdc_campaign_deck.specs.declared.fault.CampaignFault.TheVariants.{NoMemory as WantsMemory, BadLine, TooManyScripts, TooManyEvents}

-- goes on with what was read, or stays refused
abbrev pub and_then : {A B : Type 0} → Result A CampaignFault → (A → Result B CampaignFault) → Result B CampaignFault
and_then (Ok a) f = f a
and_then (Err fault) f = Err fault

-- what the lines after CAMPAIGN have said so far: how many scripts there may be, those before the last one, the last one, and how many events
-- there are in all
pub record Scripts : Type 0 where
  pub most : ℕ
  pub before : List Named
  pub last : Option Named
  pub events : ℕ

-- before the first line, where there may be so many scripts
abbrev pub nothing_said : ℕ → Scripts
nothing_said most = record { most = most; before = []; last = None; events = 0 }

-- a script with its name
abbrev pub named : List ℕ → List Event → Named
named name script = record { name = name; script = script }

-- a list with one more, if there is one
abbrev pub with_last : List Named → Option Named → List Named
with_last before None = before
with_last before (Some named) = before ++ named ∷ []

-- all scripts, in their order
abbrev pub all_scripts : Scripts → List Named
all_scripts s = with_last s.before s.last

-- ---- SCRIPT

-- has the script this name?
abbrev pub has_name : List ℕ → Named → Bool
has_name name named = bytes_eq name named.name

-- has one of the scripts this name?
abbrev pub is_taken : List ℕ → List Named → Bool
is_taken name scripts = list_any (has_name name) scripts

-- a further script, without events so far, where it isn't one too many
abbrev pub with_script : Scripts → ℕ → List ℕ → Result Scripts CampaignFault
with_script s number name =
    if nat_lt (length (all_scripts s)) s.most
    then Ok (record s { before = all_scripts s; last = Some (record { name = name; script = [] }) })
    else Err (TooManyScripts number)

-- SCRIPT and a name that no script has
abbrev pub script_line : Scripts → ℕ → List (List ℕ) → Result Scripts CampaignFault
script_line s number (name ∷ []) = if is_name name && not (is_taken name (all_scripts s)) then with_script s number name else Err (BadLine number)
script_line s number tokens = Err (BadLine number)

-- ---- fault lines

-- an event of the last script, where there is one, and where it isn't one too many in all
abbrev pub with_event : Option Named → Scripts → ℕ → Event → Result Scripts CampaignFault
with_event None s number event = Err (BadLine number)
with_event (Some named) s number event =
    if nat_lt s.events MOST_EVENTS
    then Ok (record s { last = Some (record { name = named.name; script = named.script ++ event ∷ [] }); events = suc s.events })
    else Err (TooManyEvents number)

-- a fault line, where it has its form
abbrev pub fault_line : Scripts → ℕ → Option Event → Result Scripts CampaignFault
fault_line s number None = Err (BadLine number)
fault_line s number (Some event) = with_event s.last s number event

-- ---- one line, and all

-- a line by its tokens
abbrev pub by_tokens : Scripts → ℕ → List (List ℕ) → Result Scripts CampaignFault
by_tokens s number [] = Ok s
by_tokens s number (first ∷ tokens) =
    if bytes_eq first (codes "SCRIPT") then script_line s number tokens else fault_line s number (fault_in (first ∷ tokens))

-- what a line with this number makes of the scripts before it
abbrev pub after_line : Scripts → ℕ → List ℕ → Result Scripts CampaignFault
after_line s number text =
    if is_long text then Err (BadLine number)
    else (if is_comment text then Ok s else by_tokens s number (token_texts_of text))

-- all scripts that lines tell after these
unfoldable pub scripts_from : List ℕ → Scripts → List Line → Result (List Named) CampaignFault
scripts_from bytes s [] = Ok (all_scripts s)
scripts_from bytes s (line ∷ lines) = and_then (after_line s line.number (part_of bytes line)) (λ t. scripts_from bytes t lines)

-- ---- what is true of them

-- a call made these scripts, or was refused by this fault, unless memory ran out
abbrev pub Makes : {T : Type 0} → Result T CampaignFault → Scripts → Result Scripts CampaignFault → Type 0
Makes (Ok done) new due = due ≡ Ok new
Makes (Err fault) new due = fault ≢ WantsMemory → due ≡ Err fault

-- a script that can be run: a name of at most 8 bytes, at most so many events, and each number in its range
pub record CanRun (most : ℕ) (named : Named) : Type 0 where
  pub short : length named.name ≤ 8
  pub few : length named.script ≤ most
  pub events : All IsEvent named.script
