use Rattle.lvdc_laws_runs.proofs.Plainly.{told}
use Rattle.lvdc_laws_runs.proofs.guarded.guarded_words.Goals as goal

pub returns : goal.returns
returns c = λ o t m ds at opens mode bank h.
    told o t at m.end m.mode m.steps (c.guarded_follows.ensures o t m ds opens mode h) h.shows.steps (c.guarded_run.ensures o opens t)
    (c.judges_alone.ensures o opens t) (λ good. c.words_known.ensures.made o opens t good at bank)
    (λ n v e b last. c.words_known.ensures.begun o n v e at bank b last) mode
