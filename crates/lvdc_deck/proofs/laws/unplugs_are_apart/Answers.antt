use Rattle.lvdc_deck.proofs.SaidLines.{lines-of-deck}
use Rattle.lvdc_deck.proofs.laws.unplugs_are_apart.Goals as goal

pub returns-clause-unplugs : goal.returns-clause-unplugs
returns-clause-unplugs c = λ bytes devices debugging deck means. (lines-of-deck devices bytes debugging deck means).named

pub returns-clause-times : goal.returns-clause-times
returns-clause-times c = λ bytes devices debugging deck means. (lines-of-deck devices bytes debugging deck means).early

pub returns-clause-orders : goal.returns-clause-orders
returns-clause-orders c = λ bytes devices debugging deck means. (lines-of-deck devices bytes debugging deck means).few
