use Rattle.lvdc_study.proofs.Waypointed.{ok-and, some-is}
use Rattle.lvdc_study.proofs.misled.row_rejoined.Goals as goal

pub returns-in-Ok-Some : goal.returns-in-Ok-Some
returns-in-Ok-Some g c =
    ok-and _ c.args.made.now c.in-Ok.machine c.in-Ok.is
    (λ p script count at all ran events later over h. record {
      said = c.in-Ok-Some.said;
      machine = c.rejoins.new.machine;
      tells =
          some-is _ c.in-Ok-Some.field-0 c.in-Ok-Some.said c.in-Ok-Some.field-0-is c.in-Ok-Some.ensures p script count at all ran events later over h;
      told = c.row_with.ensures;
    })
