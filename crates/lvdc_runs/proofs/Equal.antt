-- What is equal is the same.
use Rattle.std.proofs.Common.{◌≡◌, ℕ, zero, suc, ◌-◌, ◌*◌, Bool, true, false, ◌==◌, ◌&&◌, List, [], ◌∷◌, refl}
use Rattle.std.specs.Bool.{if◌then◌else◌}
use Rattle.std.specs.declared.option.Option.{Option}
use Rattle.std.specs.declared.option.Option.TheVariants.{None, Some}
use Rattle.std.proofs.lemmas.Bool.{eq-eqb}
use Rattle.lvdc_map.specs.Address.{Spot, is_same, spot_at}
use Rattle.lvdc_map.specs.Banks.{is_there}
use Rattle.lvdc_map.specs.Hop.{HopConstant}
use Rattle.lvdc_map.specs.Memory as memory
use Rattle.lvdc_plain.specs.declared.records.Exchange.{Exchange}
use Rattle.lvdc_plain.specs.declared.records.Stop.{Stop}
use Rattle.lvdc_plain.specs.declared.records.Stop.TheVariants.{Shift, Exm, Memory}
use Rattle.lvdc_plain.specs.declared.records.Visible.{Visible}
use Rattle.lvdc_laws_voted.specs.Ends.{stop_end}
use Rattle.lvdc_runs.specs.Same.{is_same_bit, is_same_constant, are_same_registers, is_same_exchange, is_same_log, is_same_stop, end_by, is_same_end, is_same_word, are_same_below}

number-self : (n : ℕ) → (n == n) ≡ true
number-self n = eq-eqb n n refl

bit-self : (b : Bool) → is_same_bit b b ≡ true
bit-self true = refl
bit-self false = refl

spot-self : (at : Spot) → is_same at at ≡ true
spot-self at =
    let pair = number-self at.pair in
    let sector = number-self at.sector in
    let loc = number-self at.loc in
    λ i. pair i && sector i && loc i

constant-self : (h : HopConstant) → is_same_constant h h ≡ true
constant-self h =
    let imod = number-self h.imod in
    let isec = number-self h.isec in
    let syl = number-self h.syl in
    let loc = number-self h.loc in
    let dmod = number-self h.dmod in
    let dsec = number-self h.dsec in
    let dupin = bit-self h.dupin in
    let dupdn = bit-self h.dupdn in
    λ i. imod i && isec i && syl i && loc i && dmod i && dsec i && dupin i && dupdn i

pub registers-self : (v : Visible) → are_same_registers v v ≡ true
registers-self v =
    let place = constant-self v.place in
    let a = number-self v.a in
    let pq = number-self v.pq in
    let saver = number-self v.saver in
    let times = number-self v.times in
    λ i. place i && a i && pq i && saver i && times i

exchange-self : (e : Exchange) → is_same_exchange e e ≡ true
exchange-self e =
    let time = number-self e.time in
    let port = number-self e.port in
    let reading = bit-self e.reading in
    let word = number-self e.word in
    λ i. time i && port i && reading i && word i

pub log-self : (log : List Exchange) → is_same_log log log ≡ true
log-self [] = refl
log-self (e ∷ log) =
    let here = exchange-self e in
    let rest = log-self log in
    λ i. here i && rest i

stop-self : (stop : Stop) → is_same_stop stop stop ≡ true
stop-self Shift = refl
stop-self Exm = refl
stop-self (Memory at) = spot-self at

-- the end of the voted machine by the stop of the plain run is that of the plain run
pub end-self : (stop : Option Stop) (times : ℕ) → is_same_end (stop_end stop times) (end_by stop times) ≡ true
end-self None times = refl
end-self (Some why) times =
    let step = number-self (3 * times - 1) in
    let cause = stop-self why in
    λ i. step i && cause i

word-self : (banks : ℕ) (m : memory.Memory) (at : Spot) → is_same_word banks m m at ≡ true
word-self banks m at = by_bank (is_there banks at)
  where
    by_bank : (there : Bool) → (if there then memory.word_at m at == memory.word_at m at else true) ≡ true
    by_bank true = number-self (memory.word_at m at)
    by_bank false = refl

pub words-self : (banks : ℕ) (m : memory.Memory) (n : ℕ) → are_same_below banks m m n ≡ true
unfolding are_same_below
words-self banks m zero = refl
words-self banks m (suc n) =
    let before = words-self banks m n in
    let last = word-self banks m (spot_at n) in
    λ i. before i && last i
