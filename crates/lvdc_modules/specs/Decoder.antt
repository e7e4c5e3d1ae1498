-- DECODER, module 3: the instruction that was fetched.
use Rattle.std.specs.Prelude.{ℕ, List}
use Rattle.lvdc_map.specs.Hop.{HopConstant, syllable_at}
use Rattle.lvdc_modules.specs.declared.bus.Bus.{Bus}
use Rattle.lvdc_modules.specs.declared.decoder.DecoderState.{DecoderState}
use Rattle.lvdc_modules.specs.declared.seen.Doing.{Doing}
use Rattle.lvdc_modules.specs.declared.seen.Doing.TheVariants.{Fetching}
use Rattle.lvdc_modules.specs.Seen.{doing, here}
use Rattle.lvdc_modules.specs.States.{decoder_latches}

-- the state with the instruction at the place h: the syllable of the memory word that it names
abbrev pub decoder_at : Bus → HopConstant → DecoderState
decoder_at b h = record { instr = syllable_at h b.memory }

-- INSTR changes only where an instruction is fetched
abbrev pub decoder_by : Doing → Bus → HopConstant → DecoderState
decoder_by Fetching b h = decoder_at b h
decoder_by _ b h = b.decoder

-- DECODER: what its latch becomes in a phase
abbrev pub decoder : Bus → DecoderState
decoder b = decoder_by (doing b) b (here b)

-- the same as a list
abbrev pub decoder_row : Bus → List ℕ
decoder_row b = decoder_latches (decoder b)
