-- For the code: the session of an opening from any numbers, each kept to 16 bits. `started_is` of
-- proofs/Laws/Opened is the law that for an accepted opening it is `opened_session`.
use Rattle.std.specs.Prelude.{cond, ℕ, ◌/◌, ◌%◌, eqb}
use Rattle.settings.specs.declared.Settings.{Settings}
use Rattle.settings.specs.Accepted.{tidied}
use Rattle.c2_acts.specs.declared.Stage.TheVariants.{Lead}
use Rattle.c2_session.specs.declared.Point.TheVariants.{Running}
use Rattle.c2_session.specs.declared.Session.{Session}

unfoldable pub started : Settings → (first length : ℕ) → Session
started t first n =
    record { settings = tidied t; first = first % 65536; pages = cond (eqb t.size 0) 0 (n / t.size % 65536); point = Running Lead 0 0 0 0 0 0 }
