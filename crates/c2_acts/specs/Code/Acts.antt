-- For the code: what an act does, by arithmetic on its number in its stage. `stands` of proofs/Laws/Position
-- in c2_position joins it to the acts of the session's order, and `stage_length` of proofs/Laws/Onward there
-- joins the number of acts.
use Rattle.std.specs.Prelude.{cond, ℕ, ◌%◌, eqb, ltb}
use Rattle.c2_acts.specs.declared.Stage.{Stage}
use Rattle.c2_acts.specs.declared.Stage.TheVariants.{Lead, Erase, Write, Read, Close, Register}
use Rattle.c2_acts.specs.declared.Task.{Task}
use Rattle.c2_acts.specs.declared.Task.TheVariants.{Reset, Pause, Address, Send, Input, Output, Ident, Status, Compare}

-- what an act of the lead does
abbrev pub lead_task : ℕ → Task
lead_task act =
    cond (eqb act 0) Reset (cond (eqb act 1) Ident (cond (eqb act 2) Reset (cond (eqb act 3) Address (cond (ltb act 7) Send Pause))))

-- what an act of a put does: a put is two acts, the byte and then the poll
abbrev pub put_task : ℕ → Task
put_task act = cond (eqb (act % 2) 1) Send Input

-- what an act of an erase does
abbrev pub erase_task : ℕ → Task
erase_task act =
    cond (eqb act 0) Address
    (cond (eqb (act % 4) 1) Send (cond (eqb (act % 4) 2) Input (cond (eqb (act % 4) 3) Output Status)))

-- what an act of a block write does
abbrev pub write_task : ℕ → Task
write_task act =
    cond (eqb act 0) Address
    (cond (eqb act 3) Output (cond (eqb act 4) Status (cond (ltb act 523) (put_task act) (cond (eqb act 523) Output Status))))

-- what an act of a block read does
abbrev pub read_task : ℕ → Task
read_task act =
    cond (eqb act 0) Address
    (cond (eqb act 3) Output
    (cond (eqb act 4) Status
    (cond (ltb act 11) (put_task act) (cond (eqb (act % 2) 1) Output (cond (eqb act 12) Status Compare)))))

-- what an act of a pair does: its register is addressed, then written
abbrev pub register_task : ℕ → Task
register_task act = cond (eqb act 0) Address Send

-- what an act of a stage does
abbrev pub task_of : Stage → ℕ → Task
task_of Lead act = lead_task act
task_of Erase act = erase_task act
task_of Write act = write_task act
task_of Read act = read_task act
task_of Close act = Reset
task_of Register act = register_task act

-- how many acts a stage has: Erase for each page, Write and Read for each block, Register for each pair
abbrev pub acts_in : Stage → ℕ
acts_in Lead = 8
acts_in Erase = 13
acts_in Write = 525
acts_in Read = 525
acts_in Close = 1
acts_in Register = 2
