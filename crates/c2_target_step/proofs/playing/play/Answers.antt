-- `c2_target_step::playing::play` meets its contract: the loop keeps `Sofar`, by the laws of Loop, and the runner
-- what it knows of its act, by those of Run; the target stays in a state that exists.
use mathlib.Core.Path.{refl, sym, ◌∙◌}
use mathlib.Core.List.{[]}
use Rattle.std.proofs.Common.{rules}
use Rattle.std.proofs.lemmas.Result.{err_from_is_err_and}
use Rattle.laws.proofs.Bytes.{bytes_all}
use Rattle.settings.specs.Registers.{no_pairs}
use Rattle.settings.proofs.Laws.Accepted.{facts}
use Rattle.c2_session.proofs.Laws.Run.{sets_off_known}
use Rattle.c2_target.specs.Delays.{setup}
use Rattle.c2_target.specs.Known.{known}
use Rattle.c2_target.specs.Target.{fresh}
use Rattle.c2_target.proofs.Laws.Known.{Lent}
use Rattle.c2_target.proofs.Laws.Steps.{Lasts}
use Rattle.c2_target_step.proofs.Laws.Target.{accepts, passes_setup, passes_settings}
use Rattle.c2_target_step.proofs.Laws.Loop.{starts, runner_is_step, goes_running, plays_nothing, plays_on, plays_out}
use Rattle.c2_target_step.proofs.playing.play.Goals as goal

pub returns-in_err-refusal-clause-refused : goal.returns-in_err-refusal-clause-refused
returns-in_err-refusal-clause-refused c =
    let a = c.args in
    let tested = rw c.fresh.ensures at (c.in_err-refusal.ensures []) in
    let p = err_from_is_err_and c.from_residual.result c.from_residual.ensures.1 in
    rw p.1 (plays_nothing a.t a.start a.image.now a.flash.now a.delays.now a.budget _ tested)

pub returns-in_err-refusal-clause-flash_after : goal.returns-in_err-refusal-clause-flash_after
returns-in_err-refusal-clause-flash_after c =
    let a = c.args in
    let tested = rw c.fresh.ensures at (c.in_err-refusal.ensures []) in
    rw (plays_nothing a.t a.start a.image.now a.flash.now a.delays.now a.budget _ tested)

pub loop-n-init : goal.loop-n-init
unfolding known
loop-n-init c =
    let a = c.args in
    let bytes = bytes_all a.flash.now (λ i. (c.slice_known-1.given i).fits) in
    let passed = sym (rw c.fresh.ensures at (c.in_ok-refusal.ensures [])) in
    let lasts : Lasts (setup a.t no_pairs a.delays.now) fresh a.flash.now = record { bytes = bytes; exists = (accepts _ _ _ _ passed).0 } in
    let knows = sets_off_known a.start a.image.now _ refl in
    rw (c.fresh-target.ensures, c.set_off-r.ensures) (record { sofar = starts a.t a.start a.image.now a.flash.now a.delays.now a.budget; knows = knows; lasts = lasts })

pub returns-then-not-is_running : goal.returns-then-not-is_running
returns-then-not-is_running c =
    let a = c.args in
    let passed = sym (rw c.fresh.ensures at (c.in_ok-refusal.ensures [])) in
    let both = plays_out a.t a.start a.image.now _ a.delays.now a.budget passed _ _ _ _ c.loop-n.invariant.sofar (sym c.is_running.ensures ∙ c.if-not-is_running.true) in
    record { number_value = sym passed; point_value = both.0; replies_value = both.1.0; collision_value = both.1.1.0; refused = search rules; flash_after = both.1.1.1 }

pub stepped-turned-requires : goal.stepped-turned-requires
unfolding known
stepped-turned-requires c = let k = c.loop-n.invariant in
    record { flash_value = k.lasts.exists; x_value = runner_is_step _ _ _ k.knows _ c.step.ensures }

pub loop-n-preserved : goal.loop-n-preserved
loop-n-preserved c =
    let a = c.args in
    let bytes = bytes_all a.delays.now (λ i. (c.type_inv.delays i).fits) in
    let passed = sym (rw c.fresh.ensures at (c.in_ok-refusal.ensures a.delays.now)) in
    let lent : Lent (setup a.t no_pairs a.delays.now) = record { id = c.well_formed.0.1.1.0.1; delays = bytes; wait = (facts _ (passes_settings _ _ _ _ passed)).wait } in
    let k = c.loop-n.invariant in
    let run = sym c.is_running.ensures ∙ c.if-not-is_running.false in
    let took = c.stepped-turned.ensures in
    let again = goes_running _ _ _ _ _ _ _ _ _ _ k.sofar lent (passes_setup _ _ _ _ passed) k.lasts k.knows c.loop-n-test.true run
    _ c.step.ensures _ _ (took.value, took.flash_after) c.stepped-turned.auto.flash _ c.from.ensures _ c.advance-r.ensures in
    record { sofar = again.0; knows = again.1.0; lasts = again.1.1 }

pub returns : goal.returns
returns c =
    let a = c.args in
    let passed = sym (rw c.fresh.ensures at (c.in_ok-refusal.ensures [])) in
    let both = plays_on a.t a.start a.image.now _ a.delays.now a.budget passed _ _ _ _ c.loop-n.invariant.sofar c.loop-n-test.false in
    record { number_value = sym passed; point_value = both.0; replies_value = both.1.0; collision_value = both.1.1.0; refused = search rules; flash_after = both.1.1.1 }
