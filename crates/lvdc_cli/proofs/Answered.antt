-- What a reply says by its status.
use Rattle.std.proofs.Common.{◌≡◌, ◌≢◌, ℕ, List, refl, inl, inr, ◌⊎◌, arith}
use Rattle.lvdc_port.specs.Device.{Device}
use Rattle.lvdc_reply.specs.Answer.{Answer}
use Rattle.lvdc_reply.specs.Replies.{Quiet, RoseAt, OthersQuiet, IsRefused, IsUnfailed, IsReply, answered, failed}

-- a device failed, and this is the answer then
pub record Fails {B : Type 0} (device_of : B → Device) (faults : B → ℕ) (FailsIn : ℕ → ℕ → Answer → Type 0) (old new : List B) (reply : Answer) : Type 0 where
  pub step : ℕ
  pub port : ℕ
  pub fails : FailsIn step port reply
  pub rose : RoseAt device_of faults port old new
  pub others : OthersQuiet device_of faults port old new

module _ {B : Type 0} {device_of : B → Device} {faults : B → ℕ} {due : Answer} {FailsIn : ℕ → ℕ → Answer → Type 0} {old new : List B} where
  pub reply_status : (a : Answer) → IsReply device_of faults due FailsIn old new a → IsUnfailed a.status ⊎ (a.status ≡ 10)
  reply_status a (answered unfailed kept quiet) = inl unfailed
  reply_status a (failed step port reply fails is rose others) = inr is

  pub reply_answer : (a : Answer) → a.status ≢ 10 → IsReply device_of faults due FailsIn old new a → a ≡ due
  reply_answer a free (answered unfailed kept quiet) = refl
  reply_answer a free (failed step port reply fails is rose others) = absurd (free is)

  pub reply_quiet : (a : Answer) → a.status ≢ 10 → IsReply device_of faults due FailsIn old new a → Quiet device_of faults old new
  reply_quiet a free (answered unfailed kept quiet) = quiet
  reply_quiet a free (failed step port reply fails is rose others) = absurd (free is)

  pub reply_kept : (a : Answer) → IsRefused a.status → IsReply device_of faults due FailsIn old new a → new ≡ old
  reply_kept a r (answered unfailed kept quiet) = kept r
  reply_kept a r (failed step port reply fails is rose others) = absurd (omega (arith, r, is))

  pub reply_failed : (a : Answer) → a.status ≡ 10 → IsReply device_of faults due FailsIn old new a → Fails device_of faults FailsIn old new a
  reply_failed a e (answered unfailed kept quiet) = absurd (omega (arith, e, unfailed))
  reply_failed a e (failed step port reply fails is rose others) = record { step = step; port = port; fails = fails; rose = rose; others = others }

  -- no status comes but those of a reply
  pub reply_not : (n : ℕ) → (n ≡ 1) ⊎ (n ≡ 7) ⊎ (n ≡ 8) ⊎ (n ≡ 9) ⊎ (n ≡ 11) → (a : Answer) → IsReply device_of faults due FailsIn old new a → a.status ≢ n
  reply_not n which a r = λ e. omega (arith, which, e, reply_status a r)
