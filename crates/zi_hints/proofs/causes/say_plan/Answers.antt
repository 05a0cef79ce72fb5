use Rattle.zi_hints.proofs.causes.say_plan.Goals as goal

pub returns-in-NoSelection : goal.returns-in-NoSelection
returns-in-NoSelection g c = rw c.in-NoSelection.is (rw c.as_str.ensures at c.say_three.ensures)

pub returns-in-NoCommand : goal.returns-in-NoCommand
returns-in-NoCommand g c = rw c.in-NoCommand.is (rw (c.as_str-interface.ensures, c.as_str-command.ensures) at c.say_five.ensures)

pub returns-in-NoPath : goal.returns-in-NoPath
returns-in-NoPath g c = rw c.in-NoPath.is (rw (c.as_str-interface-in-NoPath.ensures, c.as_str-command-in-NoPath.ensures) at c.say_five-in-NoPath.ensures)

pub returns-in-Loop : goal.returns-in-Loop
returns-in-Loop g c = rw c.in-Loop.is (rw (c.as_str-interface-in-Loop.ensures, c.as_str-command-in-Loop.ensures) at c.say_five-in-Loop.ensures)

pub returns-in-BadPath : goal.returns-in-BadPath
returns-in-BadPath g c = rw c.in-BadPath.is (rw c.as_str-in-BadPath.ensures at c.say_three-in-BadPath.ensures)

pub returns-in-NoFolder : goal.returns-in-NoFolder
returns-in-NoFolder g c = rw c.in-NoFolder.is (rw c.as_str-in-NoFolder.ensures at c.say_three-in-NoFolder.ensures)
