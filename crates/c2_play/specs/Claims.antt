-- What is claimed of a run. Types alone: proofs/Laws/Prompt proves it.
use Rattle.std.specs.Prelude.{◌≡◌, List, [], ℕ, ◌+◌, ◌*◌, ◌/◌, ◌≤◌, length}
use Rattle.laws.specs.Bytes.{Bytes}
use Rattle.settings.specs.declared.Settings.{Settings}
use Rattle.settings.specs.Registers.{no_pairs}
use Rattle.c2_order.specs.Order.{session_order}
use Rattle.c2_order.specs.Conversation.{limits_of}
use Rattle.c2_order.specs.Point.{begin}
use Rattle.c2_order.specs.Figure.{figure}
use Rattle.c2_order.specs.Claims.{Opening, exchange_of}
use Rattle.c2_target.specs.Delays.{setup}
use Rattle.c2_target.specs.Target.{fresh}
use Rattle.c2_play.specs.Playing.{play}

-- Against a fresh target that wants no pairs and has no delays, a session with n pairs over k pages of B
-- blocks takes 76 + n × 27 + k × (174 + 14,172 × B) replies: so many in any number of steps that is no lower
-- than the most steps to come at the opening.
abbrev pub RepliesWithoutDelays : Type 0
RepliesWithoutDelays = (s : Settings) (first : ℕ) (image f : List ℕ) (n : ℕ) → Opening s first image → length f ≡ s.size * s.count → Bytes f
    → figure (limits_of s) (begin (session_order s first image)) ≤ n
    → length (play (setup s no_pairs []) n (exchange_of (limits_of s) s first image) fresh f).replies
    ≡ 76 + s.pairs.count * 27 + length image / s.size * (174 + s.size / 256 * 14172)
