use Rattle.zi_hints.proofs.causes.say_sels.Goals as goal

pub returns-in-Unclosed : goal.returns-in-Unclosed
returns-in-Unclosed g c = rw c.in-Unclosed.is (rw c.as_str-in-Unclosed.ensures at c.say_three-in-Unclosed.ensures)
