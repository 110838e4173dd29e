-- A job played message by message: one law for a message, one for a command.
use mathlib.Core.Path.{◌≡◌, refl, ap, ◌∙◌}
use mathlib.Core.Bool.{cond}
use mathlib.Core.List.{List, []}
use Prim.Native.Nat.{ℕ, ◌+◌, ◌*◌, ◌%◌, ◌≤◌, ◌<◌}
use native.Mathlib.Omega.{arith}
use lib.Dec.{eqb}
use lib.ListN.{length, drop, get_or, length-take, length-drop}
use borrow.Author.Tests.{eq-eqb, le-leb}
use Rattle.radio_command.specs.declared.CommandName.TheVariants.{RdFlashPage, WrPrgArea}
use Rattle.std.specs.Prelude.{Option, Some}
use Rattle.radio_command.specs.declared.RadioCommand.{RadioCommand}
use Rattle.radio_command.specs.Command.{name_of, command_sum, built}
use Rattle.radio_command.proofs.Laws.Claims.{built_reads}
use Rattle.radio_flash.specs.declared.FlashChange.TheVariants.{Nothing}
use Rattle.radio_flash.specs.Flash.{flash_page, is_protected, changed}
use Rattle.radio_target.specs.declared.ModulePoint.{ModulePoint}
use Rattle.radio_target.specs.declared.ModulePoint.TheVariants.{Waits, Takes, Loads, Sends}
use Rattle.radio_target.specs.declared.Deed.{Deed}
use Rattle.radio_target.specs.Deeds.{radio_command, inf_ok, answers_error, performs, rd_flash_page, wr_prg_area}
use Rattle.radio_target.specs.Model.{commanded, response, message_refusal}
use Rattle.radio_target.specs.State.{module_state, module_point, fresh_state, RadioStepped, radio_taken, radio_stepped, found_stepped}
use Rattle.radio_job.specs.declared.Ending.{Ending}
use Rattle.radio_job.specs.Image.{page_count}
use Rattle.radio_job.specs.Job.{JobExchange, Standing, say, unless, read_ending, answer_ending, confirmed, fetched, command_message, job, ends_error}
use Rattle.radio_play.specs.Run.{JobRun, then_run, run_ends, run_job}
use Rattle.radio_play.specs.Claims.{JobProtected}

-- a run from a point of the module
abbrev pub run_at : JobExchange → ModulePoint → (flash : List ℕ) → JobRun
run_at e p f = run_job e (module_state p) f

state_back : (p : ModulePoint) → module_point (module_state p) ≡ Some p
unfolding module_point module_state
state_back Waits = refl
state_back (Takes p n) = refl
state_back (Loads n) = refl
state_back (Sends p n) = refl

stepped_is : (p : ModulePoint) (f m : List ℕ) → message_refusal p f m 256 ≡ 0 → radio_stepped (module_state p) f m 256 ≡ radio_taken (response p f m)
unfolding radio_stepped
stepped_is p f m r =
    ap (λ (x : Option ModulePoint). found_stepped x (module_state p) f m 256) (state_back p) ∙ rw (eq-eqb (message_refusal p f m 256) 0 r)

-- a message that the module takes, and whose reply is as long as expected
pub said : (m : List ℕ) (n : ℕ) (k : List ℕ → JobExchange) (p : ModulePoint) (f : List ℕ)
    → message_refusal p f m 256 ≡ 0 → length (response p f m).reply ≡ n
    → run_at (say m n k) p f
    ≡ then_run (response p f m).flash (run_at (k (response p f m).reply) (response p f m).point (response p f m).flash)
unfolding run_job
said m n k p f r l =
    ap (λ (s : RadioStepped). then_run s.flash (cond (eqb (length s.reply) n) (run_job (k s.reply) s.target s.flash) (run_ends (record { number = 28; code = 0; offset = 0 }) s.target s.flash))) (stepped_is p f m r)
    ∙ rw (eq-eqb (length (response p f m).reply) n l)

-- a built command is taken while the module waits for one
taken : (c : RadioCommand) (f : List ℕ) → length f ≡ 33024 → message_refusal Waits f (built c) 256 ≡ 0
unfolding message_refusal built
taken c f w = rw (eq-eqb (length f) 33024 w)

pub answer_read : (c : RadioCommand) → answer_ending (built c) ≡ read_ending (Some c)
unfolding answer_ending
answer_read c = ap read_ending (built_reads c)

-- a command's answer is judged as the deed has it
after_answer : (c : RadioCommand) (rest : JobExchange) (f : List ℕ) (d : Deed) → length f ≡ 33024 → commanded (built c) f ≡ d
    → run_at (confirmed (built c) rest) Waits f ≡ then_run (changed d.change f) (run_at (unless (read_ending (Some d.answer)) rest) d.point (changed d.change f))
unfolding confirmed built
after_answer c rest f d w e =
    said (built c) 8 (λ r. unless (answer_ending r) rest) Waits f (taken c f w) refl
    ∙ ap (λ (z : Deed). then_run (changed z.change f) (run_at (unless (answer_ending (built z.answer)) rest) z.point (changed z.change f))) e
    ∙ ap (λ (v : Standing). then_run (changed d.change f) (run_at (unless v rest) d.point (changed d.change f))) (answer_read d.answer)

-- a command that the module takes goes on, one that it refuses ends the job
pub goes_on : (c : RadioCommand) (rest : JobExchange) (f : List ℕ) (d : Deed) → length f ≡ 33024 → commanded (built c) f ≡ d
    → (code : ℕ) → d.answer ≡ inf_ok code → run_at (confirmed (built c) rest) Waits f ≡ then_run (changed d.change f) (run_at rest d.point (changed d.change f))
goes_on c rest f d w e code a =
    after_answer c rest f d w e
    ∙ ap (λ (y : RadioCommand). then_run (changed d.change f) (run_at (unless (read_ending (Some y)) rest) d.point (changed d.change f))) a

pub stops_there : (c : RadioCommand) (rest : JobExchange) (f : List ℕ) (x : ℕ) → length f ≡ 33024 → commanded (built c) f ≡ answers_error x
    → run_at (confirmed (built c) rest) Waits f ≡ then_run f (run_ends (ends_error (x % 256)) fresh_state f)
unfolding run_job
stops_there c rest f x w e = after_answer c rest f (answers_error x) w e

pub page_long : (p : ℕ) (f : List ℕ) → length f ≡ 33024 → p < 129 → length (flash_page p f) ≡ 256
unfolding flash_page
page_long p f w h =
    let a = length-take 256 (drop (256 * p) f) in
    let b = length-drop (256 * p) f in
    omega arith

-- a page that the module sends, if the command is taken
pub page_sent : (i : ℕ) (k : List ℕ → JobExchange) (f : List ℕ) → length f ≡ 33024 → i < 129
    → commanded (command_message RdFlashPage i 0 0) f ≡ performs Nothing (Sends i 1)
    → run_at (fetched i k) Waits f ≡ then_run f (then_run f (run_at (k (flash_page i f)) Waits f))
unfolding fetched message_refusal
page_sent i k f w h e =
    let r : message_refusal (Sends i 1) f [] 256 ≡ 0 = let b : i + 1 ≤ 129 = omega arith in rw (eq-eqb (length f) 33024 w, le-leb (i + 1) 129 b) in
    goes_on (radio_command RdFlashPage i 0 0) (say [] 256 k) f (performs Nothing (Sends i 1)) w e 0 refl
    ∙ ap (then_run f) (said [] 256 k (Sends i 1) f r (page_long i f w h))

-- the configuration is always read, whatever the protection
read_configuration : (f : List ℕ) → commanded (command_message RdFlashPage 127 0 0) f ≡ performs Nothing (Sends 127 1)
unfolding commanded built command_sum name_of rd_flash_page
read_configuration f = refl

pub configuration_read : (k : List ℕ → JobExchange) (f : List ℕ) → length f ≡ 33024
    → run_at (fetched 127 k) Waits f ≡ then_run f (then_run f (run_at (k (flash_page 127 f)) Waits f))
configuration_read k f w = let h : 127 < 129 = omega arith in page_sent 127 k f w h (read_configuration f)

-- C4: with code protection on the job ends at its third reply
write_refused : (n : ℕ) (f : List ℕ) → get_or f 0x7F01 0 ≡ 0 → commanded (command_message WrPrgArea n 0 0) f ≡ answers_error 1
unfolding commanded built name_of wr_prg_area is_protected
write_refused n f p = rw (eq-eqb _ _ (refl {a = command_sum 0xA5 0x6E n 0 0}), p)

pub job_protected : JobProtected
unfolding job
job_protected g f w p =
    configuration_read _ f w
    ∙ ap (λ (x : JobRun). then_run f (then_run f x)) (stops_there (radio_command WrPrgArea (page_count g.image) 0 0) _ f 1 w (write_refused (page_count g.image) f p))
