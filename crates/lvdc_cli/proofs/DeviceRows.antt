-- Worked devices of the second half: the same ports and kinds, each in its kind's first state.
use Rattle.std.proofs.Common.{◌≡◌, [], ◌∷◌, map, refl}
use Rattle.lvdc_port.specs.declared.device.Kind.TheVariants.{Tape, Latch, Ticker, Recorder}
use Rattle.lvdc_cli.specs.Alike.{renewed}

each_kind : map renewed
    (record { port = 0; kind = Tape; state = 5 ∷ 6 ∷ [] } ∷ record { port = 0o14; kind = Latch; state = 7 ∷ [] } ∷ record { port = 0o16; kind = Ticker; state = [] }
    ∷ record { port = 0o17; kind = Recorder; state = 8 ∷ [] } ∷ [])
    ≡ record { port = 0; kind = Tape; state = [] } ∷ record { port = 0o14; kind = Latch; state = 0 ∷ [] } ∷ record { port = 0o16; kind = Ticker; state = [] }
    ∷ record { port = 0o17; kind = Recorder; state = [] } ∷ []
each_kind = refl
