-- What the modules see on a bus: where they stand, what they do, and the instruction.
use Rattle.std.proofs.Common.{◌≡◌, ℕ, suc, ◌%◌, ◌^◌, ◌<◌, ◌==◌, ◌≢◌, false, ap, ◌∙◌, arith}
use Rattle.std.proofs.lemmas.Bool.{ne_eqb, cond-false}
use Rattle.lvdc_map.specs.Hop.{HopConstant, IsHopConstant, hop_of}
use Rattle.lvdc_map.proofs.HopLaws.{hop_of-word_of_hop}
use Rattle.lvdc_isa.specs.Instr.{instr}
use Rattle.lvdc_modules.specs.declared.bus.Bus.{Bus}
use Rattle.lvdc_modules.specs.declared.seen.Doing.TheVariants.{Fetching, Taking, Executing, Waiting}
use Rattle.lvdc_modules.specs.Seen.{doing, here, instruction, hold, doing_in, phase}
use Rattle.lvdc_modules.specs.Locator.{place_fields}
use Rattle.lvdc_modules.specs.Selector.{data_fields}

-- the place is the one whose fields PLACE and DATA have
pub here-is : (b : Bus) (h : HopConstant) → IsHopConstant h → b.locator.place ≡ place_fields h → b.selector.hold_place ≡ data_fields h → here b ≡ h
here-is b h ok place data_place =
    let l : hop_of b.locator.place ≡ record h { dmod = 0; dsec = 0; dupdn = false } =
    ap hop_of place ∙ hop_of-word_of_hop (record h { dmod = 0; dsec = 0; dupdn = false })
    (record { imod = ok.imod; isec = ok.isec; syl = ok.syl; loc = ok.loc; dmod = omega arith; dsec = omega arith }) in
    let s : hop_of b.selector.hold_place ≡ record h { imod = 0; isec = 0; syl = 0; loc = 0; dupin = false } =
    ap hop_of data_place ∙ hop_of-word_of_hop (record h { imod = 0; isec = 0; syl = 0; loc = 0; dupin = false })
    (record { imod = omega arith; isec = omega arith; syl = omega arith; loc = omega arith; dmod = ok.dmod; dsec = ok.dsec }) in
    λ i. record {
      imod = (l i).imod;
      isec = (l i).isec;
      syl = (l i).syl;
      loc = (l i).loc;
      dmod = (s i).dmod;
      dsec = (s i).dsec;
      dupin = (l i).dupin;
      dupdn = (s i).dupdn;
    }

-- what is done in phase A, B and C where no hold is left
pub fetches : (b : Bus) → b.timer.phase ≡ 0 → b.timer.hold ≡ 0 → doing b ≡ Fetching
fetches b p h = rw (p, h)

pub takes : (b : Bus) → b.timer.phase ≡ 1 → b.timer.hold ≡ 0 → doing b ≡ Taking
takes b p h = rw (p, h)

pub makes : (b : Bus) → b.timer.phase ≡ 2 → b.timer.hold ≡ 0 → doing b ≡ Executing
makes b p h = rw (p, h)

-- a hold is one that its three bits tell
pub held : (b : Bus) (n : ℕ) → b.timer.hold ≡ suc n → n < 4 → hold b ≡ suc n
held b n h few = omega (arith, h)

-- while a hold is left the machine waits
pub waits : (b : Bus) (n : ℕ) → b.timer.hold ≡ suc n → n < 4 → doing b ≡ Waiting
waits b n h few =
    let some : hold b ≢ 0 = omega (arith, held b n h few) in
    cond-false (hold b == 0) (doing_in (phase b)) Waiting (ne_eqb _ _ some)

-- INSTR of thirteen bits is decoded whole
pub instruction-is : (b : Bus) (s : ℕ) → b.decoder.instr ≡ s → b.decoder.instr < 2 ^ 13 → instruction b ≡ instr s
instruction-is b s e small =
    let same : b.decoder.instr % 2 ^ 13 ≡ s = omega (arith, e) in
    ap instr same
