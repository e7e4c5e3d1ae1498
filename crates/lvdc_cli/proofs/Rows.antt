-- Worked command lines.
use Rattle.std.proofs.Common.{◌≡◌, true, false, [], ◌∷◌, map, refl}
use Rattle.std.specs.Prelude.{codes}
use Rattle.std.specs.declared.option.Option.TheVariants.{None, Some}
use Rattle.lvdc_command_run.specs.declared.job.Engine.TheVariants.{Guarded, Through, Plain}
use Rattle.lvdc_command_asm.specs.declared.reply.Product.TheVariants.{Image, Listing}
use Rattle.lvdc_command_asm.specs.declared.expand.Form.TheVariants as form
use Rattle.lvdc_cli.specs.declared.command.Command.TheVariants.{Run, Soak, Assemble, Debug, Save, Resume, Campaign, Uplink, Expand}
use Rattle.lvdc_reply.specs.Answer.{answer_with}
use Rattle.lvdc_cli.specs.declared.due.Due.TheVariants.{ReadFault, TooLong, NoMemory}
use Rattle.lvdc_cli.specs.Commands.{answer, room_for}
use Rattle.lvdc_cli.specs.Telling.{due_status, due_text}
use Rattle.lvdc_cli.specs.Words.{soak_number, times_of, command_of, reads, limit_for}

run_alone : command_of (codes "run" ∷ []) ≡ Some (Run Guarded)
run_alone = refl

run_through : command_of (codes "run" ∷ codes "--through" ∷ []) ≡ Some (Run Through)
run_through = refl

run_plain : command_of (codes "run" ∷ codes "--plain" ∷ []) ≡ Some (Run Plain)
run_plain = refl

run_fast : command_of (codes "run" ∷ codes "fast" ∷ []) ≡ None
run_fast = refl

no_word : command_of [] ≡ None
no_word = refl

three_words : command_of (codes "run" ∷ codes "--plain" ∷ codes "--plain" ∷ []) ≡ None
three_words = refl

listing : command_of (codes "asm" ∷ []) ≡ Some (Assemble Listing)
listing = refl

image : command_of (codes "asm" ∷ codes "--image" ∷ []) ≡ Some (Assemble Image)
image = refl

debug_alone : command_of (codes "debug" ∷ []) ≡ Some Debug
debug_alone = refl

campaign_alone : command_of (codes "campaign" ∷ []) ≡ Some Campaign
campaign_alone = refl

macro_alone : command_of (codes "macro" ∷ []) ≡ Some (Expand form.Source)
macro_alone = refl

macro_image : command_of (codes "macro" ∷ codes "--image" ∷ []) ≡ Some (Expand form.Image)
macro_image = refl

uplink_alone : command_of (codes "uplink" ∷ []) ≡ Some Uplink
uplink_alone = refl

-- leading zeros stay out of the number
soak_one : command_of (codes "soak" ∷ codes "0001" ∷ []) ≡ Some (Soak 1)
unfolding soak_number
soak_one = refl

soak_greatest : command_of (codes "soak" ∷ codes "4294967295" ∷ []) ≡ Some (Soak 4294967295)
unfolding soak_number
soak_greatest = refl

soak_past_it : command_of (codes "soak" ∷ codes "4294967296" ∷ []) ≡ None
unfolding soak_number
soak_past_it = refl

soak_without_number : command_of (codes "soak" ∷ []) ≡ None
soak_without_number = refl

resume_alone : command_of (codes "resume" ∷ []) ≡ Some Resume
resume_alone = refl

save_40 : command_of (codes "save" ∷ codes "0000040" ∷ []) ≡ Some (Save 40)
unfolding times_of
save_40 = refl

-- eight digits
save_too_long : command_of (codes "save" ∷ codes "00000040" ∷ []) ≡ None
unfolding times_of
save_too_long = refl

save_without_number : command_of (codes "save" ∷ []) ≡ None
save_without_number = refl

-- words that are no command are answered with the usage text, whatever the bytes
usage_told : answer (codes "fast" ∷ []) (65 ∷ []) [] ≡ answer_with 1 (codes "usage: lvdc run [--plain | --through]\n       lvdc asm [--image]\n       lvdc debug\n       lvdc soak NUMBER\n       lvdc save NUMBER\n       lvdc resume\n       lvdc campaign\n       lvdc uplink\n       lvdc macro [--image]\n") []
usage_told = refl

-- what a read fault, an input too long and a want of memory are told by
other_texts : (due_status ReadFault ≡ 7) × (due_text ReadFault ≡ codes "REFUSED ReadFault\n") × (due_status TooLong ≡ 11)
    × (due_text TooLong ≡ codes "REFUSED TooLong\n") × (due_status NoMemory ≡ 9) × (due_text NoMemory ≡ [])
other_texts = (refl, refl, refl, refl, refl, refl)

-- how much is read
limits : (limit_for (Some (Run Guarded)) ≡ 1048576) × (limit_for (Some Resume) ≡ 134217728) × (reads (Some (Soak 1)) ≡ false) × (reads None ≡ false)
limits = (refl, refl, refl, refl)

-- and how long a text is at most
rooms : (room_for None ≡ 134217728) × (room_for (Some Debug) ≡ 536870912) × (room_for (Some Resume) ≡ 268435456)
rooms = (refl, refl, refl)

-- each command but `soak` reads its input, and `resume` alone reads a saved text
inputs_read : (map (λ words. reads (command_of words)) ((codes "run" ∷ []) ∷ (codes "run" ∷ codes "--plain" ∷ []) ∷ (codes "run" ∷ codes "--through" ∷ []) ∷ (codes "asm" ∷ [])
    ∷ (codes "asm" ∷ codes "--image" ∷ []) ∷ (codes "debug" ∷ []) ∷ (codes "save" ∷ codes "3" ∷ []) ∷ (codes "resume" ∷ []) ∷ (codes "campaign" ∷ []) ∷ (codes "uplink" ∷ [])
    ∷ (codes "macro" ∷ []) ∷ (codes "macro" ∷ codes "--image" ∷ []) ∷ [])
    ≡ true ∷ true ∷ true ∷ true ∷ true ∷ true ∷ true ∷ true ∷ true ∷ true ∷ true ∷ true ∷ [])
    × (reads (command_of (codes "soak" ∷ codes "3" ∷ [])) ≡ false)
unfolding soak_number times_of
inputs_read = (refl, refl)

inputs_bounded : map (λ words. limit_for (command_of words))
    ((codes "run" ∷ []) ∷ (codes "asm" ∷ []) ∷ (codes "debug" ∷ []) ∷ (codes "save" ∷ codes "3" ∷ []) ∷ (codes "campaign" ∷ []) ∷ (codes "uplink" ∷ []) ∷ (codes "macro" ∷ [])
    ∷ (codes "resume" ∷ []) ∷ [])
    ≡ 1048576 ∷ 1048576 ∷ 1048576 ∷ 1048576 ∷ 1048576 ∷ 1048576 ∷ 1048576 ∷ 134217728 ∷ []
unfolding soak_number times_of
inputs_bounded = refl
