use Rattle.lvdc_debug.proofs.texts.put_answer.Goals as goal

pub returns-in-Step-clause-text : goal.returns-in-Step-clause-text
returns-in-Step-clause-text c = rw c.in-Step.is c.put_came.ensures.text

pub returns-in-Go-clause-text : goal.returns-in-Go-clause-text
returns-in-Go-clause-text c = rw c.in-Go.is c.put_came-in-Go.ensures.text

pub returns-in-Mem-clause-text : goal.returns-in-Mem-clause-text
returns-in-Mem-clause-text c = rw c.in-Mem.is c.put_mem.ensures.lines

pub returns-in-Dis-clause-text : goal.returns-in-Dis-clause-text
returns-in-Dis-clause-text c = rw c.in-Dis.is c.put_dis.ensures.lines
