-- Statuses of replies by their kind, and what the crates of commands need of a reply.
use Rattle.std.proofs.Common.{◌≡◌, ◌≢◌, ℕ, List, Result, Ok, Err, IfOk, OnErr, refl, sym, subst, inl, inr, ◌⊎◌, arith}
use Rattle.lvdc_port.specs.Device.{Device}
use Rattle.lvdc_port.specs.Devices.{count_at, NeverFail}
use Rattle.lvdc_port.proofs.Lists.{never-rose}
use Rattle.lvdc_reply.specs.Answer.{Answer}
use Rattle.lvdc_reply.specs.Replies.{Quiet, IsRefused, IsUnfailed, IsReply, answered, failed}

-- the status of a run in which no device failed
pub record IsMadeStatus (n : ℕ) : Type 0 where
  pub is : (n ≡ 0) ⊎ (n ≡ 5) ⊎ (n ≡ 6)

-- a command comes to it by itself
pub made-unfailed : (n : ℕ) → IsMadeStatus n → IsUnfailed n
made-unfailed n h =
    elim h.is [
      | inl done ↦ inl done
      | inr ended ↦ elim ended [ inl bad ↦ inr (inr (inr (inr (inl bad)))) | inr stopped ↦ inr (inr (inr (inr (inr stopped)))) ]
    ]

-- and no refusal has it
pub made-kept : {X : Type 0} (n : ℕ) → IsMadeStatus n → IsRefused n → X
made-kept n h r = absurd (omega (arith, h.is, r))

-- a refusal is no failure
pub refused-unfailed : (n : ℕ) → IsRefused n → IsUnfailed n
refused-unfailed n (inl e) = inr (inl e)
refused-unfailed n (inr (inl e)) = inr (inr (inl e))
refused-unfailed n (inr (inr e)) = inr (inr (inr (inl e)))

-- over devices that never fail the answer is the one that is due, and its status is not that of a failure
pub never-failed : {B : Type 0} (device_of : B → Device) (faults : B → ℕ) (due : Answer) (Fails : ℕ → ℕ → Answer → Type 0) (old new : List B) (reply : Answer)
    → NeverFail faults old → IsReply device_of faults due Fails old new reply → (reply ≡ due) × (reply.status ≢ 10)
never-failed device_of faults due Fails old new reply sound (answered unfailed kept quiet) = (refl, λ ten. absurd (omega (arith, unfailed, ten)))
never-failed device_of faults due Fails old new reply sound (failed step port told fails ten rose others) =
    absurd (never-rose device_of faults port (count_at device_of faults port new) old sound rose)

-- the same objects have the same counts
pub kept_quiet : {B : Type 0} (device_of : B → Device) (faults : B → ℕ) (old new : List B) → new ≡ old → Quiet device_of faults old new
kept_quiet {B} device_of faults old new e = subst (λ (devices : List B). Quiet device_of faults old devices) (sym e) (λ port left. refl)

-- a fact of every error
pub on_err : {A E P : Type 0} (result : Result A E) → P → OnErr result P
on_err (Ok a) fact = tt
on_err (Err e) fact = fact

-- what follows of a success from two facts of it
pub if_ok_both : {A E : Type 0} (result : Result A E) (P Q R : A → Type 0) → ((a : A) → P a → Q a → R a) → IfOk result P → IfOk result Q → IfOk result R
if_ok_both (Ok a) P Q R f first second = f a first second
if_ok_both (Err e) P Q R f first second = tt
