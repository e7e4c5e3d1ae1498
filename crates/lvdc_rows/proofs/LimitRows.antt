-- The limits that definitions take from the code, and the same limits of a script and of orders.
use Rattle.std.proofs.Common.{◌≡◌, refl}
use Rattle.lvdc_text.specs.declared.comment.TheConstants.{LONGEST_LINE}
use Rattle.lvdc_fault.specs.Events.{TIMES, STEPS, EVENTS}
use Rattle.lvdc_fault.specs.declared.TheConstants.{MOST_TIMES, MOST_EVENTS}
use Rattle.lvdc_orders.specs.Orders.{ORDERS}
use Rattle.lvdc_orders.specs.declared.orders.TheConstants.{MOST_ORDERS}

bytes_of_a_line : LONGEST_LINE ≡ 120
bytes_of_a_line = refl

times_of_a_run : (MOST_TIMES ≡ 1000000) × (TIMES ≡ 1000000) × (STEPS ≡ 3000000)
times_of_a_run = (refl, refl, refl)

events_of_a_script : (MOST_EVENTS ≡ 65536) × (EVENTS ≡ 65536)
events_of_a_script = (refl, refl)

orders_of_a_deck : (MOST_ORDERS ≡ 16) × (ORDERS ≡ 16)
orders_of_a_deck = (refl, refl)
