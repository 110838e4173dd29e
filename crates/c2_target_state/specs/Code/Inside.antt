-- For the code: a strobe inside a frame, which changes nothing of the device. `kept_inside` of
-- proofs/Laws/Inside is the law that its numbers stay.
use Rattle.std.specs.Prelude.{Bool, ◌&&◌, ℕ, ltb}
use Rattle.c2_wire.specs.Bits.{bit}
use Rattle.c2_target.specs.declared.Target.{Target}
use Rattle.c2_target_state.specs.declared.State.{State}
use Rattle.c2_target_state.specs.State.{point_fields}

-- whether a step at this point is a strobe inside a frame, after its START and before its STOP
unfoldable pub is_inside : (point step : ℕ) → Bool
is_inside p x = ltb x 4 && (ltb 0 p && ltb p 10)

-- the state of a target that has the device of this state's
unfoldable pub point_moved : State → Target → State
point_moved s t =
    let p = point_fields t.point in
    record {
      place = t.place;
      start = s.start;
      rest = s.rest;
      next = s.next;
      count = s.count;
      point = p.point;
      heard = p.heard;
      value = p.value;
      left = p.left;
      zeros = p.zeros;
      effect = p.effect;
      byte = p.byte;
      collision = bit t.collision;
      address = s.address;
      on = s.on;
      keys = s.keys;
      met1 = s.met1;
      met2 = s.met2;
      met3 = s.met3;
      met4 = s.met4;
      command = s.command;
      write = s.write;
      page = s.page;
      high = s.high;
      output = s.output;
      passed = s.passed;
      busy = s.busy;
      late = s.late;
    }
