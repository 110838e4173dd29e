-- The module's state as plain numbers, and one message to it (document 02, i).
use Rattle.std.specs.Prelude.{cond, ◌&&◌, List, [], ◌++◌, ℕ, eqb, length, drop, Option, Some, None}
use Rattle.numbers.specs.Numbers.{no_point}
use Rattle.radio_target.specs.declared.ModulePoint.{ModulePoint}
use Rattle.radio_target.specs.declared.ModulePoint.TheVariants.{Waits, Takes, Loads, Sends}
use Rattle.radio_target.specs.declared.RadioTarget.{RadioTarget}
use Rattle.radio_target.specs.declared.RadioReplied.{RadioReplied}
use Rattle.radio_target.specs.Model.{Response, response, message_refusal}

abbrev pub radio_target : (point page left : ℕ) → RadioTarget
radio_target k p n = record { point = k; page = p; left = n }

-- the state of a point; numbers that are not in use are 0
unfoldable pub module_state : ModulePoint → RadioTarget
module_state Waits = radio_target 0 0 0
module_state (Takes p n) = radio_target 1 p n
module_state (Loads n) = radio_target 2 0 n
module_state (Sends p n) = radio_target 3 p n

-- the point of a state
unfoldable pub module_point : RadioTarget → Option ModulePoint
module_point t =
    cond (eqb t.point 0) (cond (eqb t.page 0 && eqb t.left 0) (Some Waits) None)
    (cond (eqb t.point 1) (Some (Takes t.page t.left))
    (cond (eqb t.point 2) (cond (eqb t.page 0) (Some (Loads t.left)) None)
    (cond (eqb t.point 3) (Some (Sends t.page t.left)) None)))

-- the state after a reset
abbrev pub fresh_state : RadioTarget
fresh_state = module_state Waits

-- what a step comes to: its number, the reply, the state and the flash afterwards
pub record RadioStepped : Type 0 where
  pub number : ℕ
  pub reply : List ℕ
  pub target : RadioTarget
  pub flash : List ℕ

-- a refused message: no reply, and nothing changes
abbrev pub radio_refused : (number : ℕ) → RadioTarget → (flash : List ℕ) → RadioStepped
radio_refused n t f = record { number = n; reply = []; target = t; flash = f }

abbrev pub radio_taken : Response → RadioStepped
radio_taken r = record { number = 0; reply = r.reply; target = module_state r.point; flash = r.flash }

abbrev pub found_stepped : Option ModulePoint → RadioTarget → (flash message : List ℕ) → (room : ℕ) → RadioStepped
found_stepped (Some p) t f m room =
    let n = message_refusal p f m room in cond (eqb n 0) (radio_taken (response p f m)) (radio_refused n t f)
found_stepped None t f m room = radio_refused no_point t f

-- one message to a module in this state, with so much room for the reply
unfoldable pub radio_stepped : RadioTarget → (flash message : List ℕ) → (room : ℕ) → RadioStepped
radio_stepped t f m room = found_stepped (module_point t) t f m room

abbrev pub replied_with : (number bytes : ℕ) → RadioTarget → RadioReplied
replied_with n b t = record { number = n; reply = b; target = t }

-- what a step gives back
abbrev pub radio_replied : RadioStepped → RadioReplied
radio_replied s = replied_with s.number (length s.reply) s.target

-- the reply buffer afterwards: past the reply it stays
abbrev pub reply_put : (reply out : List ℕ) → List ℕ
reply_put r out = r ++ drop (length r) out
