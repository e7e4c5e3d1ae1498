-- Worked refusals and statuses.
use Rattle.std.proofs.Common.{◌≡◌, [], refl}
use Rattle.std.specs.Prelude.{codes}
use Rattle.std.specs.Fmt.{digits}
use Rattle.lvdc_plain.specs.declared.records.Stop.TheVariants.{Exm}
use Rattle.lvdc_fault.specs.declared.verdict.Verdict.TheVariants.{Logic}
use Rattle.lvdc_image.specs.declared.fault.ImageFault.TheVariants.{AddressOrder, BadWord, BadImageLine}
use Rattle.lvdc_asm.specs.declared.fault.AsmFault.TheVariants.{UndefinedName}
use Rattle.lvdc_model.specs.declared.outcome.Outcome.TheVariants.{Done, Stopped, Inadmissible, Device}
use Rattle.lvdc_deck.specs.declared.fault.DeckFault.{DeckFault}
use Rattle.lvdc_deck.specs.declared.fault.DeckFault.TheVariants.{BadSection, BadLine, NoProgram, NoDevice, TooManyEvents, CountTooLarge, Image, Asm}
use Rattle.lvdc_reply.specs.Answer.{Answer, answer_with}
use Rattle.lvdc_command_run.specs.Accounts.{end_status}
use Rattle.lvdc_command_run.specs.Refusals.{refused_answer}

-- what is told of a refusal where there are no devices
abbrev told : DeckFault → Answer
told fault = refused_answer [] fault

no_end_of_the_program : told (BadSection 1) ≡ answer_with 2 (codes "REFUSED BadSection 1\n") []
unfolding digits
no_end_of_the_program = refl

no_program : told (NoProgram 1) ≡ answer_with 2 (codes "REFUSED NoProgram 1\n") []
unfolding digits
no_program = refl

too_many_times : told (CountTooLarge 4) ≡ answer_with 2 (codes "REFUSED CountTooLarge 4\n") []
unfolding digits
too_many_times = refl

line_without_form : told (BadLine 4) ≡ answer_with 2 (codes "REFUSED BadLine 4\n") []
unfolding digits
line_without_form = refl

no_device : told (NoDevice 12) ≡ answer_with 2 (codes "REFUSED NoDevice 12\n") []
unfolding digits
no_device = refl

too_many_events : told (TooManyEvents 65541) ≡ answer_with 2 (codes "REFUSED TooManyEvents 65541\n") []
unfolding digits
too_many_events = refl

name_without_line : told (Asm (UndefinedName 7)) ≡ answer_with 3 (codes "REFUSED UndefinedName 7\n") []
unfolding digits
name_without_line = refl

same_address_again : told (Image (AddressOrder 5)) ≡ answer_with 4 (codes "REFUSED AddressOrder 5\n") []
unfolding digits
same_address_again = refl

word_too_large : told (Image (BadWord 3)) ≡ answer_with 4 (codes "REFUSED BadWord 3\n") []
unfolding digits
word_too_large = refl

no_image_line : told (Image (BadImageLine 3)) ≡ answer_with 4 (codes "REFUSED BadImageLine 3\n") []
unfolding digits
no_image_line = refl

status_of_all_times : end_status Done ≡ 0
status_of_all_times = refl

status_of_a_stop : end_status (Stopped 2 Exm) ≡ 6
status_of_a_stop = refl

status_of_two_wrong : end_status (Inadmissible (Logic 4 3)) ≡ 5
status_of_two_wrong = refl

status_of_a_failed_device : end_status (Device 11 0) ≡ 10
status_of_a_failed_device = refl
