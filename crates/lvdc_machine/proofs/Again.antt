-- A machine that goes on from a snapshot.
use Rattle.std.proofs.Common.{◌≡◌, ℕ, suc, ◌+◌, ◌/◌, ◌%◌, ◌≤◌, ◌<◌, List, [], ◌∷◌, All, length, refl, sym, ◌∙◌, subst, arith}
use Rattle.std.specs.Prelude.{AllPairs}
use Rattle.std.proofs.lemmas.List.Elements.{All-tail}
use Rattle.lvdc_model.specs.declared.repair.Repair.{Repair}
use Rattle.lvdc_vote.specs.Copies.{Copies}
use Rattle.lvdc_plain.specs.declared.records.Exchange.{Exchange}
use Rattle.lvdc_model.specs.Listing.{copies_of}
use Rattle.lvdc_machine.specs.declared.mode.Mode.{Mode}
use Rattle.lvdc_machine.specs.declared.mode.Mode.TheVariants.{Guarded, Through}
use Rattle.lvdc_snapshot.specs.declared.snapshot.Snapshot.{Snapshot}
use Rattle.lvdc_snapshot.specs.Notes.{IsLog, AreRepairs}
use Rattle.lvdc_machine.specs.Room.{IsInTime}
use Rattle.lvdc_snapshot.specs.Snapshot.{IsWhole}
use Rattle.lvdc_machine.specs.View.{bus_of_votes}

-- of steps that rise from one on there are no more than are left
few-from : (low steps : ℕ) (repairs : List Repair) → low ≤ steps → All (λ r. low ≤ r.step) repairs → All (λ r. r.step < steps) repairs
    → AllPairs (λ before after. before.step < after.step) repairs → length repairs + low ≤ steps
few-from low steps [] most from below order = omega (arith, most)
few-from low steps (r ∷ repairs) most from below order =
    let first : low ≤ r.step = from 0 r (omega arith) in
    let last : r.step < steps = below 0 r (omega arith) in
    let rest = few-from (suc r.step) steps repairs (omega (arith, last))
    (λ k d less. let more = order 0 (suc k) d (omega arith) (omega (arith, less)) in omega (arith, more))
    (All-tail (λ q. q.step < steps) r repairs below)
    (λ i j d less within. order (suc i) (suc j) d (omega (arith, less)) (omega (arith, within))) in
    omega (arith, first, rest)

-- no step notes two repairs
pub few-repairs : (banks steps : ℕ) (repairs : List Repair) → AreRepairs banks steps repairs → length repairs ≤ steps
few-repairs banks steps repairs h =
    let few = few-from 0 steps repairs (omega arith) (λ k d less. omega arith) h.below h.order in omega (arith, few)

-- ---- a whole snapshot

-- a time begins
pub begins-timed : (s : Snapshot) → IsWhole s → IsInTime Guarded (copies_of s.latches) s.steps
begins-timed s h = record { sized = record { one = refl; two = refl; three = refl }; votes = h.phase ∙ sym h.times }

-- the log is of the steps made
pub log-whole : (s : Snapshot) → IsWhole s → IsLog ((s.steps + 2) / 3) s.log
log-whole s h =
    let whole = h.times in
    let same : s.steps / 3 ≡ (s.steps + 2) / 3 = omega (arith, whole) in
    subst (λ (times : ℕ). IsLog times s.log) same h.log

-- and the other way
pub whole-log : (steps : ℕ) (log : List Exchange) → steps % 3 ≡ 0 → IsLog ((steps + 2) / 3) log → IsLog (steps / 3) log
whole-log steps log whole h =
    let same : (steps + 2) / 3 ≡ steps / 3 = omega (arith, whole) in
    subst (λ (times : ℕ). IsLog times log) same h

-- where a machine judges and whole times were made, the vote is that a time begins
pub phase-begins : (mode : Mode) (copies : List Copies) (steps : ℕ) → mode ≡ Guarded → steps % 3 ≡ 0 → IsInTime mode copies steps
    → (bus_of_votes copies).timer.phase % 4 ≡ 0
phase-begins Through copies steps judges whole h = absurd (cc judges)
phase-begins Guarded [] steps judges whole h = absurd h
phase-begins Guarded (t ∷ ts) steps judges whole h = h.votes ∙ whole
