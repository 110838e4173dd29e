-- What running a session against a fresh target answers and leaves, for a budget of replies (document 01,
-- "The program").
use Rattle.std.specs.Prelude.{false, cond, List, ℕ, ◌*◌, eqb, length}
use Rattle.numbers.specs.Numbers.{no_point}
use Rattle.c2_wire.specs.Exchange.{outcome_of}
use Rattle.settings.specs.declared.Settings.{Settings}
use Rattle.settings.specs.Registers.{no_pairs}
use Rattle.settings.specs.Opening.{opening_refusal}
use Rattle.c2_order.specs.Conversation.{limits_of}
use Rattle.c2_order.specs.Claims.{exchange_of}
use Rattle.c2_target.specs.Delays.{setup}
use Rattle.c2_target.specs.Target.{fresh}
use Rattle.c2_play.specs.Playing.{Played, play}
use Rattle.c2_run.specs.declared.Run.{Run}

-- the number by which a run is refused: as an opening, 1 to 5, 18 and 19, then 17
unfoldable pub run_refusal : Settings → (first : ℕ) → (image flash : List ℕ) → ℕ
run_refusal t first image f =
    cond (eqb (opening_refusal t first (length image)) 0) (cond (eqb (length f) (t.size * t.count)) 0 no_point)
    (opening_refusal t first (length image))

-- the exchange of the session's order, played against a fresh target that wants no pairs for as many steps as
-- the budget has replies
unfoldable pub run : Settings → (first : ℕ) → (image flash delays : List ℕ) → (budget : ℕ) → Played
run t first image f ds n = play (setup t no_pairs ds) n (exchange_of (limits_of t) t first image) fresh f

-- What a run answers (`run_answer`), and the flash afterwards (`run_flash`); a refused run leaves it as it
-- was.
unfoldable pub run_answer : Settings → (first : ℕ) → (image flash delays : List ℕ) → (budget : ℕ) → Run
run_answer t first image f ds n =
    let x = run t first image f ds n in
    cond (eqb (run_refusal t first image f) 0)
    (record {
      number = (outcome_of x.left).number;
      offset = (outcome_of x.left).offset;
      replies = length x.replies;
      collision = x.target.collision;
    })
    (record { number = run_refusal t first image f; offset = 0; replies = 0; collision = false })

unfoldable pub run_flash : Settings → (first : ℕ) → (image flash delays : List ℕ) → (budget : ℕ) → List ℕ
run_flash t first image f ds n = cond (eqb (run_refusal t first image f) 0) (run t first image f ds n).flash f
