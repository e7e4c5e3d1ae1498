-- What a source and a sink tell of themselves.
use Rattle.std.specs.Prelude.{ℕ, List}
use Rattle.std.specs.declared.option.Option.{Option}

-- the bytes not yet read, where they are told, and how many reads have failed
pub record SourceState : Type 0 where
  pub left : Option (List ℕ)
  pub faults : ℕ

-- the bytes taken so far, where they are told, how many writes have failed, and how many more bytes are taken, where that is told
pub record SinkState : Type 0 where
  pub written : Option (List ℕ)
  pub faults : ℕ
  pub room : Option ℕ
