use Rattle.lvdc_port.proofs.Words.{exchange-small, words-exchange, words-without, words-supplied}
use Rattle.lvdc_port.proofs.requests.words_stay.Goals as goal

pub returns-clause-answer : goal.returns-clause-answer
returns-clause-answer c = exchange-small

pub returns-clause-exchange : goal.returns-clause-exchange
returns-clause-exchange c = words-exchange

pub returns-clause-unplug : goal.returns-clause-unplug
returns-clause-unplug c = words-without

pub returns-clause-supply : goal.returns-clause-supply
returns-clause-supply c = words-supplied
