-- A port exchange that a guarded run wishes is the plain run's.
use Rattle.std.proofs.Common.{◌≡◌, ℕ, zero, suc, ◌%◌, refl, arith}
use Rattle.std.specs.declared.option.Option.{Option}
use Rattle.std.specs.declared.option.Option.TheVariants.{None, Some}
use Rattle.lvdc_map.specs.Address.{Spot}
use Rattle.lvdc_map.specs.declared.placed.Placed.{Placed}
use Rattle.lvdc_port.specs.declared.requests.PortRequest.{PortRequest}
use Rattle.lvdc_port.specs.declared.requests.PortRequest.TheVariants.{Read, Write}
use Rattle.lvdc_modules.specs.declared.wanted.Wanted.{Wanted}
use Rattle.lvdc_modules.specs.declared.wanted.Wanted.TheVariants.{Fetch, Operand}
use Rattle.lvdc_plain.specs.Accesses.{fetched, operand}
use Rattle.lvdc_plain.specs.Plain.{PlainState}
use Rattle.lvdc_plain.specs.Stands.{Names, request_at}
use Rattle.lvdc_plain.specs.declared.records.Stop.{Stop}
use Rattle.lvdc_laws_phases.specs.Exchanges.{read_wish, store_wish, exchange_wish, made, exchange_in}
use Rattle.lvdc_model.specs.Trial.{Trial, plain_in}
use Rattle.lvdc_laws_runs.specs.Guarded.{IsExchanged}
use Rattle.lvdc_machine.specs.Steps.{NamesPort}

-- a read names no port
read-unnamed : (make : Spot → Wanted) (r : Option Spot) (port : ℕ) → ((at : Spot) → NamesPort (make at) port → ⊥) → NamesPort (read_wish make r) port → ⊥
read-unnamed make None port none h = h
read-unnamed make (Some at) port none h = none at h

-- nor does a store
store-unnamed : (s : Option Placed) (port : ℕ) → NamesPort (store_wish s) port → ⊥
store-unnamed None port h = h
store-unnamed (Some s) port h = h

-- so it is what is asked of the ports that names one
wish-names : (r : Option PortRequest) (s : Option Placed) (port : ℕ) → NamesPort (exchange_wish r s) port → Names r port
wish-names (Some (Read named)) s port h = h
wish-names (Some (Write named word)) s port h = h
wish-names None s port h = absurd (store-unnamed s port h)

-- the exchange that a time makes names a port only where the run goes on, no time is held, and a port is asked for
made-names : (stop : Option Stop) (hold : ℕ) (p : PlainState) (port : ℕ) → NamesPort (made stop hold p) port
    → (stop ≡ None) × ((hold ≡ 0) × Names (request_at p) port)
made-names None zero p port h = (refl, (refl, wish-names (request_at p) _ port h))
made-names None (suc hold) p port h = absurd h
made-names (Some s) hold p port h = absurd h

-- only the last phase asks, and what it asks the plain run asks
pub is-exchanged : (o : Trial) (n port k : ℕ) → n % 3 ≡ k → NamesPort (exchange_in k (plain_in o n)) port → IsExchanged o n port
is-exchanged o n port zero e h = absurd (read-unnamed Fetch (fetched (plain_in o n)) port (λ at named. named) h)
is-exchanged o n port (suc zero) e h = absurd (read-unnamed Operand (operand (plain_in o n)) port (λ at named. named) h)
is-exchanged o n port (suc (suc zero)) e h =
    let p = plain_in o n in
    let it = made-names p.stop p.hold p port h in
    record { last = e; running = it.0; free = it.1.0; asked = it.1.1 }
is-exchanged o n port (suc (suc (suc k))) e h = absurd (omega arith)
