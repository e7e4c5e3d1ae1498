-- What stands outside of a call, as it is before it or after it.
use Rattle.std.specs.Prelude.{List}
use Rattle.lvdc_text.specs.Streams.{SourceState, SinkState}

-- what the source and the sink tell, and the devices at the ports
pub record Outside (B : Type 0) : Type 0 where
  pub source : SourceState
  pub sink : SinkState
  pub devices : List B

-- a source, a sink and devices as one
abbrev pub outside : {B : Type 0} → SourceState → SinkState → List B → Outside B
outside source sink devices = record { source = source; sink = sink; devices = devices }
