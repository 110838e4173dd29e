-- The figure of the most steps to come, document 01's own term ("How much is left"): each WAIT counts to its
-- limit and each poll to its reads, less those done. It goes by the point alone: a sampled bit that already
-- decides a poll or a compare does not lower it.
use Rattle.std.specs.Prelude.{Bool, true, false, cond, List, [], ◌∷◌, ℕ, zero, suc, ◌+◌, ◌-◌, ◌*◌, ltb, eqb}
use Rattle.c2_wire.specs.Frames.{Strobe, plain, sampled, waits, frame}
use Rattle.c2_wire.specs.Place.{strobe_at, followed, longest, strobes_left}
use Rattle.c2_wire.specs.declared.Frame.TheVariants.{AddressRead, DataRead}
use Rattle.c2_wire.specs.declared.Place.{Place}
use Rattle.c2_wire.specs.declared.Moved.{Moved}
use Rattle.c2_wire.specs.declared.Moved.TheVariants.{Within, Stopped, WaitLimit}
use Rattle.c2_order.specs.Acts.{Act, send, poll, expect}
use Rattle.c2_order.specs.Conversation.{Limits}
use Rattle.c2_order.specs.Point.{Point, running, ended, strobes_of}

-- the reads of a poll that may follow the one that is under way
unfoldable pub reads_left : Limits → Act → (reads : ℕ) → ℕ
reads_left l (send ss) n = 0
reads_left l (poll ok) n = (l.reads - suc n) * longest l.wait (frame AddressRead 0)
reads_left l (expect x o) n = 0

-- the most steps of an act
unfoldable pub cost : Limits → Act → ℕ
cost l (send ss) = longest l.wait ss
cost l (poll ok) = l.reads * longest l.wait (frame AddressRead 0)
cost l (expect x o) = longest l.wait (frame DataRead 0)

unfoldable pub costs : Limits → List Act → ℕ
costs l [] = 0
costs l (a ∷ acts) = cost l a + costs l acts

-- the figure at a point of the order
unfoldable pub figure : Limits → Point → ℕ
figure l (ended o) = 0
figure l (running a acts p) = strobes_left l.wait (strobes_of a) p + reads_left l a p.count + costs l acts

-- What a 0 or a 1 takes from the figure at a strobe that is not its frame's last: 1, but a 1 in a WAIT takes
-- its own strobe and those that the WAIT no longer needs, its limit less the zeros seen.
unfoldable pub strobe_drop : (wait_limit : ℕ) → Strobe → (zeros : ℕ) → Bool → ℕ
strobe_drop w (plain f s) z b = 1
strobe_drop w (sampled f) z b = 1
strobe_drop w waits z b = cond b (w - z) 1

-- What the reply to the STOP of an act's frame takes from the figure, by the byte that the frame gave: 1, and
-- that of a satisfied poll also the reads that the poll no longer needs. An unsatisfied last read, and a byte
-- that is not the expected one, end the session and take the whole figure.
unfoldable pub stop_drop : Limits → Act → (reads byte whole : ℕ) → ℕ
stop_drop l (send ss) n x whole = 1
stop_drop l (poll ok) n x whole = cond (ok x) (1 + reads_left l (poll ok) n) (cond (ltb (n + 1) l.reads) 1 whole)
stop_drop l (expect y o) n x whole = cond (eqb x y) 1 whole

-- What a 0 or a 1 that has moved the place in an act's frame takes from the figure. A WAIT's last zero ends
-- the session and takes the whole figure.
unfoldable pub moved_drop : Limits → Act → Place → Bool → (whole : ℕ) → Moved → ℕ
moved_drop l a p b whole (Within q) = strobe_drop l.wait (strobe_at (strobes_of a) p.strobe) p.count b
moved_drop l a p b whole (Stopped x) = stop_drop l a p.count x whole
moved_drop l a p b whole WaitLimit = whole

-- What a reply takes from the figure at a point. A bad reply ends the session and takes the
-- whole figure; where the session has ended, a reply takes 0.
unfoldable pub drop_of : Limits → Point → (reply : ℕ) → ℕ
drop_of l (ended o) r = 0
drop_of l (running a acts p) zero = moved_drop l a p false (figure l (running a acts p)) (followed l.wait (strobes_of a) p false)
drop_of l (running a acts p) (suc zero) = moved_drop l a p true (figure l (running a acts p)) (followed l.wait (strobes_of a) p true)
drop_of l (running a acts p) (suc (suc r)) = figure l (running a acts p)

-- the most steps of a byte put or got: a frame of 14 strobes and a WAIT, and a poll of frames of 12 strobes
abbrev pub byte_cost : Limits → ℕ
byte_cost l = 14 + l.wait + l.reads * 12

-- the most steps of a block written or read back: 262 bytes after its Address Write
abbrev pub block_cost : Limits → ℕ
block_cost l = 12 + 262 * byte_cost l

-- the most steps of a pair: an Address Write of 12 strobes, and a Data Write
abbrev pub pair_cost : Limits → ℕ
pair_cost l = 26 + l.wait

-- the most steps of a page: 6 bytes of its erase after an Address Write, and its blocks written and read back
abbrev pub page_cost : Limits → (blocks : ℕ) → ℕ
page_cost l n = 12 + 6 * byte_cost l + 2 * (n * block_cost l)
