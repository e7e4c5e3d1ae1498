-- The laws of the runs, as facts of commands: each command has its case.
use Rattle.std.proofs.Common.{◌≡◌, ◌≢◌, ℕ, false, List, map, Result, Ok, Err, IfOk, refl, sym, subst, ap, ◌∙◌, ◌⊎◌, inl, inr, arith}
use Rattle.lvdc_port.specs.Device.{Device}
use Rattle.std.specs.declared.option.Option.{Option}
use Rattle.lvdc_model.specs.Trial.{Trial}
use Rattle.lvdc_model.specs.declared.outcome.Outcome.{Outcome}
use Rattle.lvdc_deck.specs.Deck.{deck_of}
use Rattle.lvdc_deck.specs.declared.deck.Deck.{Deck}
use Rattle.lvdc_reply.specs.Answer.{Answer, answer_with}
use Rattle.lvdc_reply.specs.declared.reply.Reply.{Reply}
use Rattle.lvdc_reply.specs.Replies.{IsUnfailed, IsReply, answered}
use Rattle.lvdc_asm.specs.Assembly.{Assembled}
use Rattle.lvdc_asm.specs.declared.fault.AsmFault.{AsmFault}
use Rattle.lvdc_command_asm.specs.Answers as source
use Rattle.lvdc_campaign_deck.specs.Campaign.{campaign_of}
use Rattle.lvdc_campaign_deck.specs.declared.deck.CampaignDeck.{CampaignDeck}
use Rattle.lvdc_campaign_deck.specs.declared.fault.CampaignFault.{CampaignFault}
use Rattle.lvdc_campaign_deck.specs.declared.fault.CampaignFault.TheVariants as campaign
use Rattle.lvdc_deck.specs.declared.fault.DeckFault.{DeckFault}
use Rattle.lvdc_command_run.specs.Refusals as refusals
use Rattle.lvdc_command_campaign.specs.Answers as campaigns
use Rattle.lvdc_macro.specs.Expansion.{Written, bytes_of}
use Rattle.lvdc_macro.specs.declared.fault.MacroFault.{MacroFault}
use Rattle.lvdc_command_asm.specs.Expanded as expand
use Rattle.lvdc_command_asm.specs.declared.expand.Form.{Form}
use Rattle.lvdc_command_asm.specs.declared.expand.Form.TheVariants as form
use Rattle.lvdc_uplink.specs.Answers as patch
use Rattle.lvdc_uplink.specs.Faults.{refusal_status}
use Rattle.lvdc_uplink.specs.Input.{Request, request_of}
use Rattle.lvdc_uplink.specs.declared.fault.PatchFault.{PatchFault}
use Rattle.lvdc_uplink.specs.declared.fault.PatchFault.TheVariants.{NoProgram, BadSection, BadLine, Image as OfImage}
use Rattle.lvdc_reply.proofs.Statuses.{refused-unfailed}
use Rattle.lvdc_command_run.specs.declared.job.Engine.TheVariants.{Guarded}
use Rattle.lvdc_command_run.specs.declared.job.Job.{Job}
use Rattle.lvdc_command_run.specs.declared.job.Job.TheVariants as job
use Rattle.lvdc_command_run.specs.Trials.{trial_of}
use Rattle.lvdc_command_run.specs.Headline.{HeadlineFor}
use Rattle.lvdc_command_run.proofs.Statuses.{refusal_is}
use Rattle.lvdc_command_run.specs.Answers.{job_answer}
use Rattle.lvdc_command_run.specs.Runs.{HasRunThat}
use Rattle.lvdc_debug.specs.Answers.{session_answer, HasSessionThat}
use Rattle.lvdc_command_save.specs.Answers.{save_answer}
use Rattle.lvdc_command_save.specs.Statuses.{HasSaveThat}
use Rattle.lvdc_command_resume.specs.Answers.{resume_answer}
use Rattle.lvdc_command_resume.specs.Statuses.{HasResumeThat}
use Rattle.lvdc_cli.specs.declared.command.Command.{Command}
use Rattle.lvdc_cli.specs.declared.command.Command.TheVariants.{Run, Soak, Assemble, Debug, Save, Resume, Campaign, Uplink, Expand}
use Rattle.lvdc_cli.specs.Commands.{command_answer, FailsInCommand, RunsThat, IsReplyTo}
use Rattle.lvdc_cli.proofs.Answered.{reply_answer}

-- this status of a job, of a session, of a save or of a resumed run says this of its run, and the other way round
pub record StatusSays (P : Job → Trial → ℕ → Type 0) (Q : Option Outcome → Type 0) (n : ℕ) : Type 0 where
  pub of_job : (j : Job) (bytes : List ℕ) (devices : List Device) → (job_answer j bytes devices).status ≡ n → HasRunThat P j bytes devices
  pub of_session : (bytes : List ℕ) (devices : List Device) → (session_answer bytes devices).status ≡ n → HasSessionThat (P (job.Deck Guarded)) bytes devices
  pub of_save : (times : ℕ) (bytes : List ℕ) (devices : List Device) → (save_answer times bytes devices).status ≡ n → HasSaveThat (P (job.Deck Guarded)) times bytes devices
  pub of_resume : (bytes : List ℕ) (devices : List Device) → (resume_answer bytes devices).status ≡ n → HasResumeThat Q bytes devices

pub record RunSays (P : Job → Trial → ℕ → Type 0) (Q : Option Outcome → Type 0) (n : ℕ) : Type 0 where
  pub of_job : (j : Job) (bytes : List ℕ) (devices : List Device) → HasRunThat P j bytes devices → (job_answer j bytes devices).status ≡ n
  pub of_session : (bytes : List ℕ) (devices : List Device) → HasSessionThat (P (job.Deck Guarded)) bytes devices → (session_answer bytes devices).status ≡ n
  pub of_save : (times : ℕ) (bytes : List ℕ) (devices : List Device) → HasSaveThat (P (job.Deck Guarded)) times bytes devices → (save_answer times bytes devices).status ≡ n
  pub of_resume : (bytes : List ℕ) (devices : List Device) → HasResumeThat Q bytes devices → (resume_answer bytes devices).status ≡ n

-- the answer of `run` to a deck carries the headline
abbrev pub HeadlineTold : Type 0
HeadlineTold =
    (bytes : List ℕ) (devices : List Device) (deck : Deck) → deck_of bytes devices false ≡ Ok deck
    → HeadlineFor (trial_of devices deck) deck.count (job_answer (job.Deck Guarded) bytes devices)

-- ---- commands that take no device

-- the status of a command that runs nothing: it has done what was asked, or its input was refused
abbrev pub IsSettled : ℕ → Type 0
IsSettled status = (status ≡ 0) ⊎ (status ≡ 2) ⊎ (status ≡ 3) ⊎ (status ≡ 4)

settled_unfailed : (status : ℕ) → IsSettled status → IsUnfailed status
settled_unfailed status (inl done) = inl done
settled_unfailed status (inr refused) = refused-unfailed status refused

-- 5 and 6 are no such status
never_runs : (status n : ℕ) → (n ≡ 5) ⊎ (n ≡ 6) → IsSettled status → status ≡ n → ⊥
never_runs status n of_run settled e = omega (arith, of_run, settled, e)

-- such a command is answered with its status and its text
pub told : {B : Type 0} {device_of : B → Device} {faults : B → ℕ} (command : Command) (bytes : List ℕ) {old : List B} (status : ℕ) (text : List ℕ)
    → ((devices : List Device) → command_answer command bytes devices ≡ answer_with status text devices) → IsSettled status
    → IsReplyTo device_of faults command bytes old old (answer_with status text (map device_of old))
told {B} {device_of} {faults} command bytes {old} status text is settled =
    subst (λ (due : Answer). IsReply device_of faults due (FailsInCommand command bytes (map device_of old)) old old (answer_with status text (map device_of old))) (sym (is (map device_of old)))
    (answered (settled_unfailed status settled) (λ refused. refl) (λ port within. refl))

-- the same of what a call answers
pub replied : {B E : Type 0} (device_of : B → Device) (faults : B → ℕ) (command : Command) (bytes : List ℕ) (old : List B) (result : Result Reply E) (status : ℕ) (text : List ℕ)
    → ((devices : List Device) → command_answer command bytes devices ≡ answer_with status text devices) → IsSettled status
    → IfOk result (λ reply. reply.status ≡ status) → IfOk result (λ reply. reply.text ≡ text)
    → IfOk result (λ reply. IsReplyTo device_of faults command bytes old old (answer_with reply.status reply.text (map device_of old)))
replied device_of faults command bytes old (Ok reply) status text is settled is_status is_text =
    rw (is_status, is_text) (told command bytes status text is settled)
replied device_of faults command bytes old (Err wanting) status text is settled is_status is_text = tt

pub source_settled : (r : Result Assembled AsmFault) → IsSettled (source.status_of r)
source_settled (Ok assembled) = inl refl
source_settled (Err fault) = inr (inr (inl refl))

deck_fault_settled : (fault : DeckFault) → IsSettled (refusals.refusal_status fault)
deck_fault_settled fault = inr (refusal_is fault)

campaign_fault_settled : (fault : CampaignFault) → IsSettled (campaigns.fault_status fault)
campaign_fault_settled campaign.NoMemory = inr (inl refl)
campaign_fault_settled (campaign.Deck fault) = deck_fault_settled fault
campaign_fault_settled (campaign.BadSection line) = inr (inl refl)
campaign_fault_settled (campaign.BadLine line) = inr (inl refl)
campaign_fault_settled (campaign.CountTooLarge line) = inr (inl refl)
campaign_fault_settled (campaign.TooManyScripts line) = inr (inl refl)
campaign_fault_settled (campaign.TooManyEvents line) = inr (inl refl)

pub campaign_settled : (r : Result CampaignDeck CampaignFault) → IsSettled (campaigns.status_of r)
campaign_settled (Ok deck) = inl refl
campaign_settled (Err fault) = campaign_fault_settled fault

patch_fault_settled : (fault : PatchFault) → IsSettled (refusal_status fault)
patch_fault_settled (NoProgram line) = inr (inl refl)
patch_fault_settled (BadSection line) = inr (inl refl)
patch_fault_settled (BadLine line) = inr (inl refl)
patch_fault_settled (OfImage fault) = inr (inr (inr refl))

pub patch_settled : (r : Result Request PatchFault) → IsSettled (patch.status_of r)
patch_settled (Ok request) = inl refl
patch_settled (Err fault) = patch_fault_settled fault

pub expand_settled : (f : Form) (r : Result (List Written) MacroFault) → IsSettled (expand.status_by f r)
expand_settled f (Err fault) = inr (inr (inl refl))
expand_settled form.Source (Ok lines) = inl refl
expand_settled form.Image (Ok lines) = source_settled (source.assembly_in (bytes_of lines))

-- what is so is so whatever a call answers
pub whatever : {T E : Type 0} {P : T → Type 0} (result : Result T E) → ((done : T) → P done) → IfOk result P
whatever (Ok done) p = p done
whatever (Err fault) p = tt

-- a campaign takes no device, but its deck is judged with those that are there
pub campaign_replied : {B E : Type 0} (device_of : B → Device) (faults : B → ℕ) (command : Command) (bytes : List ℕ) (old : List B) (result : Result Reply E)
    → command ≡ Campaign → IfOk result (λ reply. reply.status ≡ campaigns.status_of (campaign_of bytes (map device_of old)))
    → IfOk result (λ reply. reply.text ≡ campaigns.text_of (campaign_of bytes (map device_of old)))
    → IfOk result (λ reply. IsReplyTo device_of faults command bytes old old (answer_with reply.status reply.text (map device_of old)))
campaign_replied device_of faults command bytes old (Ok reply) is is_status is_text =
    let r = campaign_of bytes (map device_of old) in
    rw (is, is_status, is_text) (answered (settled_unfailed (campaigns.status_of r) (campaign_settled r)) (λ refused. refl) (λ port within. refl))
campaign_replied device_of faults command bytes old (Err wanting) is is_status is_text = tt

-- ---- statuses

-- 5 and 6 are statuses of runs alone
command_runs : (P : Job → Trial → ℕ → Type 0) (Q : Option Outcome → Type 0) (n : ℕ) → (n ≡ 5) ⊎ (n ≡ 6) → StatusSays P Q n
    → (command : Command) (bytes : List ℕ) (devices : List Device) → (command_answer command bytes devices).status ≡ n → RunsThat P Q command bytes devices
command_runs P Q n of_run law (Run engine) bytes devices e = law.of_job (job.Deck engine) bytes devices e
command_runs P Q n of_run law (Soak number) bytes devices e = law.of_job (job.Soak number) bytes devices e
command_runs P Q n of_run law (Assemble product) bytes devices e = absurd (never_runs _ n of_run (source_settled (source.assembly_in bytes)) e)
command_runs P Q n of_run law Debug bytes devices e = law.of_session bytes devices e
command_runs P Q n of_run law (Save times) bytes devices e = law.of_save times bytes devices e
command_runs P Q n of_run law Resume bytes devices e = law.of_resume bytes devices e
command_runs P Q n of_run law Campaign bytes devices e = absurd (never_runs _ n of_run (campaign_settled (campaign_of bytes devices)) e)
command_runs P Q n of_run law Uplink bytes devices e = absurd (never_runs _ n of_run (patch_settled (request_of bytes)) e)
command_runs P Q n of_run law (Expand f) bytes devices e = absurd (never_runs _ n of_run (expand_settled f (expand.expansion_in bytes)) e)

pub command_is : (P : Job → Trial → ℕ → Type 0) (Q : Option Outcome → Type 0) (n : ℕ) → RunSays P Q n
    → (command : Command) (bytes : List ℕ) (devices : List Device) → RunsThat P Q command bytes devices → (command_answer command bytes devices).status ≡ n
command_is P Q n law (Run engine) bytes devices h = law.of_job (job.Deck engine) bytes devices h
command_is P Q n law (Soak number) bytes devices h = law.of_job (job.Soak number) bytes devices h
command_is P Q n law (Assemble product) bytes devices h = absurd h
command_is P Q n law Debug bytes devices h = law.of_session bytes devices h
command_is P Q n law (Save times) bytes devices h = law.of_save times bytes devices h
command_is P Q n law Resume bytes devices h = law.of_resume bytes devices h
command_is P Q n law Campaign bytes devices h = absurd h
command_is P Q n law Uplink bytes devices h = absurd h
command_is P Q n law (Expand f) bytes devices h = absurd h

command_headline : HeadlineTold → (command : Command) (bytes : List ℕ) (devices : List Device) (deck : Deck) → command ≡ Run Guarded
    → deck_of bytes devices false ≡ Ok deck
    → HeadlineFor (trial_of devices deck) deck.count (command_answer command bytes devices)
command_headline law command bytes devices deck is means =
    subst (λ (c : Command). HeadlineFor (trial_of devices deck) deck.count (command_answer c bytes devices)) (sym is)
    (law bytes devices deck means)

-- ---- the same of a reply

module _ {B : Type 0} {device_of : B → Device} {faults : B → ℕ} (command : Command) (bytes : List ℕ) {old new : List B} where
  pub reply_headline : HeadlineTold → (a : Answer) → a.status ≢ 10 → IsReplyTo device_of faults command bytes old new a
      → (deck : Deck) → command ≡ Run Guarded → deck_of bytes (map device_of old) false ≡ Ok deck
      → HeadlineFor (trial_of (map device_of old) deck) deck.count a
  reply_headline law a free h deck is means =
      subst (λ (x : Answer). HeadlineFor (trial_of (map device_of old) deck) deck.count x) (sym (reply_answer a free h))
      (command_headline law command bytes (map device_of old) deck is means)

  pub reply_runs : (P : Job → Trial → ℕ → Type 0) (Q : Option Outcome → Type 0) (n : ℕ) → (n ≡ 5) ⊎ (n ≡ 6) → StatusSays P Q n → (a : Answer) → a.status ≡ n
      → IsReplyTo device_of faults command bytes old new a → RunsThat P Q command bytes (map device_of old)
  reply_runs P Q n which law a is h =
      command_runs P Q n which law command bytes (map device_of old)
      (sym (ap (λ (x : Answer). x.status) (reply_answer a (λ x. omega (arith, which, is, x)) h)) ∙ is)

  pub reply_is : (P : Job → Trial → ℕ → Type 0) (Q : Option Outcome → Type 0) (n : ℕ) → RunSays P Q n → (a : Answer) → a.status ≢ 10 → IsReplyTo device_of faults command bytes old new a
      → RunsThat P Q command bytes (map device_of old) → a.status ≡ n
  reply_is P Q n law a free h runs =
      ap (λ (x : Answer). x.status) (reply_answer a free h) ∙ command_is P Q n law command bytes (map device_of old) runs
