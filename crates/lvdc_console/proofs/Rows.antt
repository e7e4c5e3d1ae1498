-- Worked values of the definitions.
use Rattle.std.proofs.Common.{◌≡◌, [], ◌∷◌, refl}
use Rattle.lvdc_console.specs.Rack.{rack, tape_at, latch_at, ticker_at, recorder_at}

-- the sixteen devices one by one
sixteen : rack ≡ tape_at 0o0 ∷ tape_at 0o1 ∷ tape_at 0o2 ∷ tape_at 0o3 ∷ tape_at 0o4 ∷ tape_at 0o5 ∷ tape_at 0o6 ∷ tape_at 0o7
    ∷ tape_at 0o10 ∷ tape_at 0o11 ∷ tape_at 0o12 ∷ tape_at 0o13 ∷ latch_at 0o14 ∷ latch_at 0o15 ∷ ticker_at 0o16
    ∷ recorder_at 0o17 ∷ []
sixteen = refl
