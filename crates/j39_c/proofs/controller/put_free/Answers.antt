-- Where no address is found, none is free.
use Rattle.j39_c.proofs.controller.put_free.Goals as goal

pub returns-in-None-clause-free : goal.returns-in-None-clause-free
returns-in-None-clause-free c = λ w H is. c.free_address.ensures.none c.in-None.is w H is
