use Rattle.c2_wire.proofs.Laws.Script.{step_by_script}
use Rattle.c2_wire_probe.specs.Probe.{frame_of}
use Rattle.c2_wire_probe.proofs.wire_step.Goals as goal

pub returns : goal.returns
returns c =
    let a = c.args in
    rw (c.step.ensures, c.script_at.ensures) (step_by_script (frame_of a.ins) a.byte a.strobe)
