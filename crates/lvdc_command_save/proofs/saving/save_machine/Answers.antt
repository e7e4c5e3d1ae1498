use Rattle.std.proofs.Common.{ap, subst, ◌∙◌}
use Rattle.std.proofs.lemmas.Result.{IfOk-weaker}
use Rattle.lvdc_save.specs.Saved.{saved_text}
use Rattle.lvdc_save.specs.declared.saved.Saved.{Saved}
use Rattle.lvdc_command_save.specs.Halves.{IsTaken}
use Rattle.lvdc_command_save.specs.States.{states_of}
use Rattle.lvdc_command_save.proofs.Halved.{if_ok_given}
use Rattle.lvdc_command_save.proofs.saving.save_machine.Goals as goal

pub returns : goal.returns
returns g c = record {
  text = IfOk-weaker c.print_saved.result _ _
      (λ text e o v shows.
      let snapshot = c.in_ok-snapshot.ensures.state o v _ shows in
      let states = c.from_vec.ensures ∙ c.in_ok-states.ensures ∙ ap states_of shows.left in
      e ∙ ap saved_text (λ i. record {
        snapshot = snapshot i;
        count = c.limit.ensures i;
        states = states i;
        unplugs = c.in_ok-unplugs.ensures i;
        script = c.in_ok-script.ensures i;
        orders = c.args.orders;
      }))
      c.print_saved.ensures.text;
  taken = if_ok_given c.print_saved.result _ _
      (λ text printed o v shows.
      let snapshot = c.in_ok-snapshot.ensures.state o v _ shows in
      let states = c.from_vec.ensures ∙ c.in_ok-states.ensures ∙ ap states_of shows.left in
      subst (λ (s : Saved). IsTaken s v) (λ i. record {
        snapshot = snapshot i;
        count = c.limit.ensures i;
        states = states i;
        unplugs = c.in_ok-unplugs.ensures i;
        script = c.in_ok-script.ensures i;
        orders = c.args.orders;
      })
      (record { whole = c.in_ok-snapshot.ensures.whole; state = c.in_ok-snapshot.ensures.means o v _ shows; printed = printed }))
      c.print_saved.ensures.printed;
}
