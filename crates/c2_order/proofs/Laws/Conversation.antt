-- The limits of a session whose settings are accepted.
use native.Mathlib.Omega.{arith}
use Rattle.settings.specs.declared.Settings.{Settings}
use Rattle.settings.proofs.Laws.Accepted.{Facts}
use Rattle.c2_order.specs.Conversation.{Positive, limits_of}

pub limits_positive : (t : Settings) → Facts t → Positive (limits_of t)
limits_positive t h = record { wait = omega (arith, h.wait); reads = omega arith }
