use Rattle.zi_world.proofs.CallLemmas.{failed, not_failed, answered}
use Rattle.zi_choosing.proofs.known.find_names.Goals as goal

pub returns-in-Ok-clause-named : goal.returns-in-Ok-clause-named
returns-in-Ok-clause-named g c = (c.in-Ok.ensures.calm (answered c.in-Ok.each), c.in-Ok.ensures.names)

pub returns-in-Err-Failed-clause-named : goal.returns-in-Err-Failed-clause-named
returns-in-Err-Failed-clause-named g c = (c.new.ensures, c.in-Err-Failed.ensures.cause (failed c.in-Err-Failed.field-0 c.in-Err-Failed.field-0-is))

pub returns-in-Err-Memory-clause-named : goal.returns-in-Err-Memory-clause-named
returns-in-Err-Memory-clause-named g c = c.in-Err-Memory.ensures.calm (not_failed c.in-Err-Memory.field-0 c.in-Err-Memory.field-0-is)
