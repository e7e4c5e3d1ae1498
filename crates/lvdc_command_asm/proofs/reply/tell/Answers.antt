use Rattle.std.proofs.Common.{◌≤◌, length, sym, subst, refl, ◌∙◌, ℕ, List}
use Rattle.lvdc_image.specs.declared.TheConstants.{LONGEST_IMAGE}
use Rattle.lvdc_command_asm.specs.declared.TheConstants.{LONGEST_TEXT}
use Rattle.lvdc_command_asm.proofs.reply.tell.Goals as goal

pub returns-clause-status : goal.returns-clause-status
returns-clause-status c = refl

pub returns-clause-text : goal.returns-clause-text
returns-clause-text c = c.from_vec.ensures ∙ c.in_ok-text.ensures.text

pub returns-clause-short : goal.returns-clause-short
returns-clause-short c = subst (λ (text : List ℕ). length text ≤ LONGEST_TEXT) (sym c.from_vec.ensures) c.in_ok-text.ensures.short

pub returns-clause-image : goal.returns-clause-image
returns-clause-image c = λ asked. subst (λ (text : List ℕ). length text ≤ LONGEST_IMAGE) (sym c.from_vec.ensures) (c.in_ok-text.ensures.image asked)
