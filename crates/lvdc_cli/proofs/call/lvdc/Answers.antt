use Rattle.std.proofs.Common.{refl, inl, inr, ap, length, arith}
use Rattle.lvdc_text.proofs.Transfers.{room_less}
use Rattle.lvdc_command_run.specs.Runs.{Judges, Stops, IsStop}
use Rattle.lvdc_command_resume.specs.Statuses.{IsInadmissible}
use Rattle.lvdc_cli.proofs.Ends.{ended, end_usage, end_usage_only, end_read, end_read_fault, end_read_grew, end_cut, end_write_grew, end_memory, end_quiet, end_too_long, end_took_more, end_kept, end_answer, end_replied, end_headline, end_has, end_is, end_failed}
use Rattle.lvdc_cli.proofs.call.lvdc.Goals as goal

pub tell-requires : goal.tell-requires
tell-requires g c = room_less (g.K.Sink.state c.args.sink.now).room _ _ c.requires.room (omega (arith, ap length c.text.ensures, c.due_of-due.ensures.room))

-- how the call has ended, of which each clause is a part
pub returns : goal.returns
returns g c =
    let e =
    ended _ c.status.result c.text.result.now c.tell.result c.due_of-due.ensures.due refl c.status.ensures c.text.ensures c.tell.ensures in
    record {
      ends = e;
      replied = λ free. end_replied free e;
      headline = λ asked free short. end_headline c.headline_told.ensures asked free short e;
      answer = λ bytes told free. end_answer bytes told free e;
      kept = λ is. end_kept is e;
      unread = c.due_of-due.ensures.unread;
      read = λ reads a b d f. end_read reads a b d f e;
      usage = record { only = λ is. end_usage_only is e; always = λ none. end_usage none e };
      inadmissible = record {
        only = λ bytes told is. end_has Judges IsInadmissible 5 (inl refl) (record { of_job = c.statuses_caused.ensures.inadmissible; of_session = c.session_statuses.ensures.inadmissible; of_save = c.save_statuses.ensures.inadmissible; of_resume = c.resume_statuses.ensures.inadmissible }) bytes told is e;
        always = λ bytes told small free has. end_is Judges IsInadmissible 5 (record { of_job = c.statuses_caused.ensures.inadmissible_always; of_session = c.session_statuses.ensures.inadmissible_always; of_save = c.save_statuses.ensures.inadmissible_always; of_resume = c.resume_statuses.ensures.inadmissible_always }) bytes told small free has e;
      };
      stopped = record {
        only = λ bytes told is. end_has Stops IsStop 6 (inr refl) (record { of_job = c.statuses_caused.ensures.stopped; of_session = c.session_statuses.ensures.stopped; of_save = c.save_statuses.ensures.stopped; of_resume = c.resume_statuses.ensures.stopped }) bytes told is e;
        always = λ bytes told small free has. end_is Stops IsStop 6 (record { of_job = c.statuses_caused.ensures.stopped_always; of_session = c.session_statuses.ensures.stopped_always; of_save = c.save_statuses.ensures.stopped_always; of_resume = c.resume_statuses.ensures.stopped_always }) bytes told small free has e;
      };
      read_fault = record { only = λ is. end_read_fault is e; always = λ grew. end_read_grew grew e };
      write_fault = record { only = λ is. end_cut is e; always = λ grew. end_write_grew grew e };
      no_memory = λ is. end_memory is e;
      device_fault = record { only = λ bytes told is. end_failed bytes told is e; always = λ a b d. end_quiet a b d e };
      too_long = record { only = λ is. end_too_long is e; always = λ told reads took. end_took_more told reads took e };
    }
