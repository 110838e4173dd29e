-- For the code: the figure of the most steps to come, by arithmetic on a session's numbers. `counts` of
-- proofs/Laws/Left is the law that it is the order's figure at the point that the numbers name.
use Rattle.std.specs.Prelude.{cond, ℕ, ◌+◌, ◌-◌, ◌*◌, ◌/◌, ◌%◌, eqb, ltb}
use Rattle.c2_order.specs.Conversation.{Limits, limits_of}
use Rattle.c2_order.specs.Figure.{byte_cost, block_cost, pair_cost, page_cost}
use Rattle.c2_acts.specs.declared.Stage.{Stage}
use Rattle.c2_acts.specs.declared.Stage.TheVariants.{Lead, Erase, Write, Read, Close, Register}
use Rattle.c2_acts.specs.declared.Task.{Task}
use Rattle.c2_acts.specs.declared.Task.TheVariants.{Reset, Pause, Address, Send, Input, Output, Ident, Status, Compare}
use Rattle.c2_session.specs.declared.Point.{Point}
use Rattle.c2_session.specs.declared.Point.TheVariants.{Running, Ended}
use Rattle.c2_session.specs.declared.Session.{Session}
use Rattle.c2_acts.specs.Code.Acts.{task_of}

-- the most steps of an act
abbrev pub task_cost : Limits → Task → ℕ
task_cost l Reset = 1
task_cost l Pause = 1
task_cost l Address = 12
task_cost l Send = 14 + l.wait
task_cost l Input = l.reads * 12
task_cost l Output = l.reads * 12
task_cost l Ident = 14 + l.wait
task_cost l Status = 14 + l.wait
task_cost l Compare = 14 + l.wait

-- the most steps left at a strobe of a frame of 15 strobes whose WAIT is the strobe of this number
abbrev pub wait_left : (wait_limit waits strobe count : ℕ) → ℕ
wait_left w a q c = cond (ltb q a) (14 - q + w) (cond (eqb q a) (14 - q + (w - c)) (15 - q))

-- the most steps left at a strobe of a poll, with the reads that may follow
abbrev pub poll_left : (poll_limit strobe count : ℕ) → ℕ
poll_left r q c = 12 - q + (r - c - 1) * 12

-- the most steps left at a strobe of an act
abbrev pub act_left : Limits → Task → (strobe count : ℕ) → ℕ
act_left l Reset q c = 1 - q
act_left l Pause q c = 1 - q
act_left l Address q c = 12 - q
act_left l Send q c = wait_left l.wait 13 q c
act_left l Input q c = poll_left l.reads q c
act_left l Output q c = poll_left l.reads q c
act_left l Ident q c = wait_left l.wait 5 q c
act_left l Status q c = wait_left l.wait 5 q c
act_left l Compare q c = wait_left l.wait 5 q c

-- the most steps of the acts of the lead after this one
abbrev pub lead_left : (wait_limit act : ℕ) → ℕ
lead_left w k =
    cond (eqb k 0) (70 + 4 * w)
    (cond (eqb k 1) (56 + 3 * w)
    (cond (eqb k 2) (55 + 3 * w)
    (cond (eqb k 3) (43 + 3 * w)
    (cond (eqb k 4) (29 + 2 * w) (cond (eqb k 5) (15 + w) (cond (eqb k 6) 1 0))))))

-- The most steps of the acts of a command after this one. After its first act a command is bytes put or got,
-- two acts each: whole bytes are left, and the second act of a byte whose first this is.
abbrev pub bytes_left : Limits → (last : ℕ) → Task → (act : ℕ) → ℕ
bytes_left l n t k = (n - k) / 2 * byte_cost l + cond (eqb (k % 2) 1) (byte_cost l - task_cost l t) 0

-- the most steps of the acts of a pair after this one: after its Address Write a Data Write
abbrev pub register_left : (wait_limit act : ℕ) → ℕ
register_left w k = cond (eqb k 0) (14 + w) 0

-- the most steps of the acts of a stage after this one
abbrev pub stage_left : Limits → Stage → (act : ℕ) → ℕ
stage_left l Lead k = lead_left l.wait k
stage_left l Erase k = bytes_left l 12 (task_of Erase k) k
stage_left l Write k = bytes_left l 524 (task_of Write k) k
stage_left l Read k = bytes_left l 524 (task_of Read k) k
stage_left l Close k = 0
stage_left l Register k = register_left l.wait k

-- the most steps of the pages after this one and of the last reset
abbrev pub pages_left : Limits → Session → (page : ℕ) → ℕ
pages_left l s i = (s.pages - i - 1) * page_cost l (s.settings.size / 256) + 1

-- the most steps of the blocks of a page after this one, written or read
abbrev pub blocks_left : Limits → (size block : ℕ) → ℕ
blocks_left l size j = (size / 256 - j - 1) * block_cost l

-- the most steps of all blocks of a page, written or read
abbrev pub blocks_by_size : Limits → (size : ℕ) → ℕ
blocks_by_size l size = size / 256 * block_cost l

-- the most steps of the pairs from this number on, of all pages and of the last reset
abbrev pub registers_left : Limits → Session → (number : ℕ) → ℕ
registers_left l s i = (s.settings.pairs.count - i) * pair_cost l + (s.pages * page_cost l (s.settings.size / 256) + 1)

-- the most steps of what comes after a stage
abbrev pub after_left : Limits → Stage → Session → (page block : ℕ) → ℕ
after_left l Lead s i j = registers_left l s 0
after_left l Erase s i j = 2 * blocks_by_size l s.settings.size + pages_left l s i
after_left l Write s i j = blocks_left l s.settings.size j + blocks_by_size l s.settings.size + pages_left l s i
after_left l Read s i j = blocks_left l s.settings.size j + pages_left l s i
after_left l Close s i j = 0
after_left l Register s i j = registers_left l s (i + 1)

-- the most steps left at a point; 0 once the session has ended
abbrev pub point_left : Limits → Point → Session → ℕ
point_left l (Running g i j k q c v) s = act_left l (task_of g k) q c + stage_left l g k + after_left l g s i j
point_left l (Ended n o) s = 0

-- the figure of the most steps to come, of a session
unfoldable pub steps_left : Session → ℕ
steps_left s = point_left (limits_of s.settings) s.point s
