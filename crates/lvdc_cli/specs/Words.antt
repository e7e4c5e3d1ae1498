-- Which lists of words are command lines.
use Rattle.std.specs.Prelude.{ℕ, ◌^◌, Bool, true, false, List, [], ◌∷◌, codes, if◌then◌else◌}
use Rattle.std.specs.declared.option.Option.{Option}
use Rattle.std.specs.declared.option.Option.TheVariants.{None, Some}
use Rattle.lvdc_text.specs.Numbers.{number_of, below}
use Rattle.lvdc_text.specs.Words.{is}
use Rattle.lvdc_command_run.specs.declared.job.Engine.TheVariants.{Guarded, Through, Plain}
use Rattle.lvdc_command_asm.specs.declared.reply.Product.TheVariants.{Image, Listing}
use Rattle.lvdc_command_asm.specs.declared.expand.Form.TheVariants as form
use Rattle.lvdc_cli.specs.declared.TheConstants.{LIMIT, SAVED_LIMIT}
use Rattle.lvdc_cli.specs.declared.command.Command.{Command}
use Rattle.lvdc_cli.specs.declared.command.Command.TheVariants.{Run, Soak, Assemble, Debug, Save, Resume, Campaign, Uplink, Expand}

-- the engine that a flag of `run` names
abbrev pub flagged : List ℕ → Option Command
flagged flag =
    if is (codes "--plain") flag then Some (Run Plain)
    else (if is (codes "--through") flag then Some (Run Through) else None)

-- what a flag of `asm` asks for
abbrev pub product_of : List ℕ → Option Command
product_of flag = if is (codes "--image") flag then Some (Assemble Image) else None

-- what a flag of `macro` asks for
abbrev pub form_of : List ℕ → Option Command
form_of flag = if is (codes "--image") flag then Some (Expand form.Image) else None

-- the number of a soak run, where it is one
abbrev pub soaked_by : Option ℕ → Option Command
soaked_by None = None
soaked_by (Some number) = Some (Soak number)

-- one to ten decimal digits below 2 ^ 32
unfoldable pub soak_number : List ℕ → Option ℕ
soak_number word = below (2 ^ 32) (number_of 10 10 word)

-- a save after so many times, where they are a number
abbrev pub saved_after : Option ℕ → Option Command
saved_after None = None
saved_after (Some times) = Some (Save times)

-- one to seven decimal digits
unfoldable pub times_of : List ℕ → Option ℕ
times_of word = number_of 10 7 word

-- what two words ask for
abbrev pub of_two : List ℕ → List ℕ → Option Command
of_two first second =
    if is (codes "run") first then flagged second
    else (if is (codes "asm") first then product_of second
    else (if is (codes "macro") first then form_of second
    else (if is (codes "soak") first then soaked_by (soak_number second)
    else (if is (codes "save") first then saved_after (times_of second) else None))))

-- what one word asks for
abbrev pub of_one : List ℕ → Option Command
of_one word =
    if is (codes "run") word then Some (Run Guarded)
    else (if is (codes "asm") word then Some (Assemble Listing)
    else (if is (codes "debug") word then Some Debug
    else (if is (codes "resume") word then Some Resume
    else (if is (codes "campaign") word then Some Campaign
    else (if is (codes "uplink") word then Some Uplink
    else (if is (codes "macro") word then Some (Expand form.Source) else None))))))

-- `run`, `run --plain`, `run --through`, `asm`, `asm --image`, `debug`, `resume`, `campaign`, `uplink`, `macro`, `macro --image`, and
-- `soak` and `save` with a number
abbrev pub command_of : List (List ℕ) → Option Command
command_of (first ∷ []) = of_one first
command_of (first ∷ second ∷ []) = of_two first second
command_of words = None

-- which commands read an input: a soak run doesn't
abbrev pub reads_for : Command → Bool
reads_for (Run engine) = true
reads_for (Soak number) = false
reads_for (Assemble product) = true
reads_for Debug = true
reads_for (Save times) = true
reads_for Resume = true
reads_for Campaign = true
reads_for Uplink = true
reads_for (Expand form) = true

-- where the words are a command that reads an input
abbrev pub reads : Option Command → Bool
reads None = false
reads (Some command) = reads_for command

-- the most bytes that are read for a command: those of a saved text, or of a deck or a source
abbrev pub limit_of : Command → ℕ
limit_of (Run engine) = LIMIT
limit_of (Soak number) = LIMIT
limit_of (Assemble product) = LIMIT
limit_of Debug = LIMIT
limit_of (Save times) = LIMIT
limit_of Resume = SAVED_LIMIT
limit_of Campaign = LIMIT
limit_of Uplink = LIMIT
limit_of (Expand form) = LIMIT

-- where the words are a command; without one nothing is read
abbrev pub limit_for : Option Command → ℕ
limit_for None = LIMIT
limit_for (Some command) = limit_of command
