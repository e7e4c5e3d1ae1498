-- Worked lines of a trace: the exchange of a step.
use Rattle.std.proofs.Common.{◌≡◌, [], codes, refl}
use Rattle.lvdc_map.specs.Address.{Spot}
use Rattle.lvdc_text.specs.Numbers.{octal_text}
use Rattle.lvdc_modules.specs.declared.wanted.Wanted.TheVariants.{Nothing, Fetch, Operand, Store, PortRead, PortWrite}
use Rattle.lvdc_trace.specs.Steps.{exchange_text}

place : Spot
place = record { pair = 3; sector = 15; loc = 254 }

exchanges : (exchange_text (Fetch place) 7 ≡ codes "FETCH 3 17 376 000000007\n") × (exchange_text (Operand place) 7 ≡ codes "OPERAND 3 17 376 000000007\n")
    × (exchange_text (Store place 6) 7 ≡ codes "STORE 3 17 376 000000006\n") × (exchange_text Nothing 7 ≡ [])
unfolding place octal_text
exchanges = (refl, refl, refl, refl)

exchanges_with_ports : (exchange_text (PortRead 0o14) 7 ≡ codes "IN 014 000000007\n") × (exchange_text (PortWrite 0o14 6) 7 ≡ codes "OUT 014 000000006\n")
unfolding octal_text
exchanges_with_ports = (refl, refl)
