-- How a study is answered, by what is told of it.
use Rattle.std.proofs.Common.{◌≡◌, ◌≢◌, ℕ, List, Result, Ok, Err, IfOk, OnOk, sym, ap, ◌∙◌, subst, All, arith}
use Rattle.lvdc_plain.specs.Run.{Opening, IsOpening}
use Rattle.lvdc_port.specs.Device.{Device}
use Rattle.lvdc_port.specs.Devices.{HoldWords}
use Rattle.lvdc_fault.specs.declared.named.Named.{Named}
use Rattle.lvdc_reply.specs.Answer.{answer_with, answer_of, refusal_text}
use Rattle.lvdc_reply.specs.declared.reply.Reply.{Reply}
use Rattle.lvdc_word.specs.declared.memory.NoMemory.{NoMemory}
use Rattle.lvdc_command_run.specs.Trials.{trial_of}
use Rattle.lvdc_command_run.proofs.Statuses.{refusal_is}
use Rattle.lvdc_campaign_deck.specs.Faults.{name_of, line_of}
use Rattle.lvdc_campaign_deck.specs.declared.fault.CampaignFault.{CampaignFault}
use Rattle.lvdc_campaign_deck.specs.declared.fault.CampaignFault.TheVariants.{Deck, NoMemory as WantsMemory}
use Rattle.lvdc_command_campaign.specs.Answers.{fault_status}
use Rattle.lvdc_campaign_deck.specs.Study.{study_of}
use Rattle.lvdc_campaign_deck.specs.declared.study.StudyDeck.{StudyDeck}
use Rattle.lvdc_study.specs.Failures.{FailsInRuns}
use Rattle.lvdc_study.specs.Study.{rows_of, KeepsLaws}
use Rattle.lvdc_study.specs.declared.fault.Unstudied.TheVariants.{Device as DeviceFailed}
use Rattle.lvdc_command_study.specs.Answers.{rows_in, answer_by, failed_text, RowsKeepLaws}
use Rattle.lvdc_command_study.specs.Replies.{IsStudyReply, answered, failed}
use Rattle.lvdc_command_study.specs.Studied.{IsStudied, made, failed as failed_amid}

-- a fact of every success
pub on_each : {A E P : Type 0} (result : Result A E) → P → IfOk result (λ a. P)
on_each (Ok a) fact = fact
on_each (Err e) fact = tt

-- no refusal has the status of a failure
pub refusal-unfailed : (fault : CampaignFault) → fault_status fault ≢ 10
refusal-unfailed (Deck fault) = λ e. let refused = refusal_is fault in absurd (omega (arith, refused, e))
refusal-unfailed _ = λ e. absurd (omega (arith, e))

-- the failure of a device that left no rows is told
pub failure-told : (devices : List Device) (study : StudyDeck) (port : ℕ)
    → FailsInRuns (trial_of devices study.deck).opening study.deck.count study.scripts (DeviceFailed port)
    → (reply : Reply) → reply.status ≡ 10 → reply.text ≡ failed_text port → IsStudied devices study reply
failure-told devices study port fails reply status text = failed_amid fails.0 port fails.1 status text

module _ (bytes : List ℕ) (devices : List Device) where
  pub of_study : (study : StudyDeck) → study_of bytes devices ≡ Ok study → (reply : Reply) → IsStudied devices study reply
      → IsStudyReply bytes devices (answer_of reply devices)
  of_study study means reply (made status text) =
      answered ((λ i. answer_with (status i) (text i) devices) ∙ sym (ap (answer_by devices) means))
  of_study study means reply (failed_amid step port exchanges status text) =
      failed step port
      (record { study = study; means = means; exchanges = exchanges; is = λ i. answer_with (status i) (text i) devices }) status

  -- a refusal is answered, unless memory is wanting
  pub of_refusal : (fault : CampaignFault) → (fault ≢ WantsMemory → study_of bytes devices ≡ Err fault) → (result : Result Reply NoMemory)
      → OnOk result (fault ≢ WantsMemory) → IfOk result (λ reply. reply.status ≡ fault_status fault)
      → IfOk result (λ reply. reply.text ≡ refusal_text (name_of fault) (line_of fault))
      → IfOk result (λ reply. IsStudyReply bytes devices (answer_of reply devices))
  of_refusal fault means (Ok reply) refused status text =
      answered ((λ i. answer_with (status i) (text i) devices) ∙ sym (ap (answer_by devices) (means refused)))
  of_refusal fault means (Err wanting) refused status text = tt

  -- what is so of the study that was read is so of each study that the bytes mean
  pub rows-keep : (study : StudyDeck) → study_of bytes devices ≡ Ok study
      → ((opening : Opening) (times : ℕ) (scripts : List Named) → IsOpening opening → All KeepsLaws (rows_of opening times scripts))
      → (HoldWords devices → IsOpening (trial_of devices study.deck).opening) → RowsKeepLaws bytes devices
  rows-keep study means laws opens = λ other is hold.
      let same : study ≡ other = cc (means, is) in
      subst (λ (s : StudyDeck). All KeepsLaws (rows_in devices s)) same
      (laws (trial_of devices study.deck).opening study.deck.count study.scripts (opens hold))

  -- a refusal means no study
  pub no-rows : (fault : CampaignFault) → (fault ≢ WantsMemory → study_of bytes devices ≡ Err fault) → (result : Result Reply NoMemory)
      → OnOk result (fault ≢ WantsMemory) → IfOk result (λ reply. RowsKeepLaws bytes devices)
  no-rows fault means (Ok reply) refused = λ study is hold. let none = means refused in absurd (cc (none, is))
  no-rows fault means (Err wanting) refused = tt
