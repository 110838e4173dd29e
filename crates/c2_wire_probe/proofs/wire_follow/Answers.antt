use mathlib.Core.Path.{ap, ◌∙◌}
use Rattle.c2_wire.specs.Place.{place}
use Rattle.c2_wire.proofs.Laws.Script.{follows_by_script, followed_any_byte}
use Rattle.c2_wire_probe.specs.Probe.{frame_of, moved_numbers}
use Rattle.c2_wire_probe.proofs.wire_follow.Goals as goal

pub returns : goal.returns
returns c =
    let a = c.args in
    let p = place a.strobe a.count a.bits in
    λ byte. rw (c.into.ensures, c.follow.ensures, c.script_at.ensures)
    (ap moved_numbers (follows_by_script (frame_of a.ins) 0 a.limit p _ ∙ followed_any_byte (frame_of a.ins) 0 byte a.limit p _))
