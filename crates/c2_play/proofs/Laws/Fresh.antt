-- A fresh target is one that a session may meet.
use mathlib.Core.Path.{◌≡◌, refl}
use mathlib.Core.Bool.{true}
use mathlib.Core.List.{List}
use Prim.Native.Nat.{ℕ, ◌*◌}
use native.Mathlib.Omega.{arith}
use borrow.Author.Tests.{eq-eqb}
use lib.ListN.{length}
use Rattle.laws.specs.Bytes.{Bytes}
use Rattle.settings.specs.declared.Pairs.{Pairs}
use Rattle.settings.specs.declared.Settings.{Settings}
use Rattle.settings.specs.Registers.{are_pairs}
use Rattle.settings.specs.Accepted.{settings_refusal}
use Rattle.settings.proofs.Laws.Accepted.{facts}
use Rattle.c2_order.specs.Conversation.{limits_of}
use Rattle.c2_target.specs.Delays.{setup}
use Rattle.c2_target.specs.Known.{known, known_point, most_keys, known_link, known_command, known_output, is_byte}
use Rattle.c2_target.specs.Target.{cleared, fresh}
use Rattle.c2_play.proofs.Laws.Programmed.{Suits}

pub fresh_suits : (t : Settings) (w : Pairs) (ds f : List ℕ) → settings_refusal t ≡ 0 → are_pairs t.fpdat w ≡ true → length f ≡ t.size * t.count → Bytes f → Bytes ds
    → Suits (limits_of t) (setup t w ds) fresh f
unfolding fresh cleared known known_point most_keys known_link known_command known_output is_byte
fresh_suits t w ds f ok h n b d =
    record {
      wanted = h;
      state = rw (eq-eqb (length f) (t.size * t.count) n);
      unmarked = refl;
      flash = b;
      delays = d;
      some = (facts t ok).wait;
      wait = omega arith;
      reads = omega arith;
    }
