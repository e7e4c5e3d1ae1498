-- A call that was interrupted left the known bytes as they were, and is one more of those that were.
use Rattle.std.proofs.Common.{◌≡◌, ℕ, ◌+◌, List, Result, Ok, Err, ◌∙◌, add-one}
use Rattle.std.specs.Prelude.{IsErrAnd}
use Rattle.std.specs.IoError.{error_kind}
use Rattle.std.specs.declared.io.Error.{Error}
use Rattle.std.specs.declared.io.ErrorKind.TheVariants.{Interrupted}
use Rattle.std.specs.declared.option.Option.{Option}
use Rattle.std.specs.declared.option.Option.TheVariants.{None, Some}
use Rattle.std.specs.Io.KnownBytes.{Keeps, ReadConsumes, WriteAppends}
use Rattle.lvdc_text.specs.Tries.{WereInterrupted}

keeps-on : (old mid new : Option (List ℕ)) → Keeps old mid → Keeps mid new → Keeps old new
keeps-on None mid new a b = tt
keeps-on (Some xs) None new a b = absurd a
keeps-on (Some xs) (Some ys) None a b = absurd b
keeps-on (Some xs) (Some ys) (Some zs) a b = b ∙ a

pub one_more : {S X : Type 0} (call : S → Result X Error → S → Type 0) (n : ℕ) (before between after : S) (answer : Result X Error) → WereInterrupted call n before between
    → call between answer after → IsErrAnd answer (λ error. error_kind error ≡ Interrupted) → WereInterrupted call (n + 1) before after
one_more call n before between after (Ok x) were once cut = absurd cut
one_more call n before between after (Err error) were once cut = rw add-one (between, error, were, once, cut)

pub read_kept : (P : Error → Type 0) (old mid new : Option (List ℕ)) (answer : Result ℕ Error) (buf : List ℕ) → Keeps old mid → IsErrAnd answer P → ReadConsumes mid new answer buf → Keeps old new
read_kept P old mid new (Ok n) buf kept cut bytes = absurd cut
read_kept P old mid new (Err error) buf kept cut bytes = keeps-on old mid new kept bytes

pub write_kept : (P : Error → Type 0) (old mid new : Option (List ℕ)) (answer : Result ℕ Error) (buf : List ℕ) → Keeps old mid → IsErrAnd answer P → WriteAppends mid new answer buf → Keeps old new
write_kept P old mid new (Ok n) buf kept cut bytes = absurd cut
write_kept P old mid new (Err error) buf kept cut bytes = keeps-on old mid new kept bytes
