use Rattle.zi_hints.proofs.causes.say_bind.Goals as goal

pub returns-in-Unset : goal.returns-in-Unset
returns-in-Unset g c = rw c.in-Unset.is (rw c.as_str.ensures at c.say_three.ensures)
