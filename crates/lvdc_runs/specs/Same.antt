-- Whether a run of the voted machine has come to what the plain run comes to.
use Rattle.std.specs.Prelude.{ℕ, zero, suc, ◌-◌, ◌*◌, Bool, true, false, not, ◌&&◌, ◌==◌, if◌then◌else◌, List, [], ◌∷◌}
use Rattle.std.specs.declared.option.Option.{Option}
use Rattle.std.specs.declared.option.Option.TheVariants.{None, Some}
use Rattle.lvdc_map.specs.Address.{Spot, is_same as is_same_spot, spot_at}
use Rattle.lvdc_map.specs.Banks.{is_there}
use Rattle.lvdc_map.specs.Hop.{HopConstant}
use Rattle.lvdc_map.specs.Memory.{Memory, word_at}
use Rattle.lvdc_plain.specs.Plain.{PlainState}
use Rattle.lvdc_plain.specs.declared.records.Exchange.{Exchange}
use Rattle.lvdc_plain.specs.declared.records.PlainEnd.{PlainEnd}
use Rattle.lvdc_plain.specs.declared.records.PlainEnd.TheVariants as plain
use Rattle.lvdc_plain.specs.declared.records.Stop.{Stop}
use Rattle.lvdc_plain.specs.declared.records.Stop.TheVariants.{Shift, Exm, Memory as NoGoodCell}
use Rattle.lvdc_plain.specs.declared.records.Visible.{Visible}
use Rattle.lvdc_model.specs.declared.outcome.Outcome.{Outcome}
use Rattle.lvdc_model.specs.declared.outcome.Outcome.TheVariants.{Stopped}
use Rattle.lvdc_model.specs.Runs.{through}
use Rattle.lvdc_model.specs.Trial.{Trial, plain_at}
use Rattle.lvdc_model.specs.Voted.{Voted}
use Rattle.lvdc_report.specs.Report.{visible_in}
use Rattle.lvdc_report.specs.Voted.{visible_of}

-- ---- registers

-- the same bit
abbrev pub is_same_bit : Bool → Bool → Bool
is_same_bit true b = b
is_same_bit false b = not b

-- the same HOP constant, field by field
abbrev pub is_same_constant : HopConstant → HopConstant → Bool
is_same_constant a b =
    a.imod == b.imod && a.isec == b.isec && a.syl == b.syl && a.loc == b.loc && a.dmod == b.dmod && a.dsec == b.dsec
    && is_same_bit a.dupin b.dupin && is_same_bit a.dupdn b.dupdn

-- the same registers, and as many times made
abbrev pub are_same_registers : Visible → Visible → Bool
are_same_registers a b = is_same_constant a.place b.place && a.a == b.a && a.pq == b.pq && a.saver == b.saver && a.times == b.times

-- ---- the port log

-- the same exchange with a port
abbrev pub is_same_exchange : Exchange → Exchange → Bool
is_same_exchange a b = a.time == b.time && a.port == b.port && is_same_bit a.reading b.reading && a.word == b.word

-- the same log, line by line
abbrev pub is_same_log : List Exchange → List Exchange → Bool
is_same_log [] [] = true
is_same_log [] (b ∷ later) = false
is_same_log (a ∷ more) [] = false
is_same_log (a ∷ more) (b ∷ later) = is_same_exchange a b && is_same_log more later

-- ---- the end

-- the same cause of a stop
abbrev pub is_same_stop : Stop → Stop → Bool
is_same_stop Shift Shift = true
is_same_stop Exm Exm = true
is_same_stop (NoGoodCell a) (NoGoodCell b) = is_same_spot a b
is_same_stop _ _ = false

-- the end that the plain run has come to: none, or its stop in the last step of its last time
abbrev pub end_by : Option Stop → ℕ → Option PlainEnd
end_by None times = None
end_by (Some why) times = Some (plain.Stopped (3 * times - 1) why)

-- the same, of a plain state
abbrev pub end_in : PlainState → Option PlainEnd
end_in p = end_by p.stop p.times

-- the same end: neither has ended, or both stopped in one step for one cause
abbrev pub is_same_end : Option Outcome → Option PlainEnd → Bool
is_same_end None None = true
is_same_end (Some (Stopped step stop)) (Some (plain.Stopped at why)) = step == at && is_same_stop stop why
is_same_end _ _ = false

-- ---- memory

-- the same word at an address, where its bank is there
abbrev pub is_same_word : ℕ → Memory → Memory → Spot → Bool
is_same_word banks one other at = if is_there banks at then word_at one at == word_at other at else true

-- the same words at the first so many addresses
unfoldable pub are_same_below : ℕ → Memory → Memory → ℕ → Bool
are_same_below banks one other zero = true
are_same_below banks one other (suc number) = are_same_below banks one other number && is_same_word banks one other (spot_at number)

-- the same words at all addresses that are there
abbrev pub are_same_words : ℕ → Memory → Memory → Bool
are_same_words banks one other = are_same_below banks one other 32768

-- ---- the whole

-- the state has the end, the registers, the log and the intended words of the plain state
abbrev pub is_same_state : ℕ → Voted → PlainState → Bool
is_same_state banks v p =
    is_same_end v.end (end_in p) && are_same_registers (visible_of v) (visible_in p) && is_same_log v.log p.log
    && are_same_words banks v.intended p.memory

-- the run through every fault has come in so many times to what the plain run comes to
abbrev pub is_same : Trial → ℕ → Bool
is_same o times = is_same_state o.opening.banks (through o (3 * times)) (plain_at o times)
