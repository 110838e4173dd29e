-- A state that is read is the state of what is read.
pub mod Fits
use Rattle.std.proofs.Common.{◌≡◌, true, Some, arith}
use Rattle.std.proofs.lemmas.Bool.Decides.{nat_tests}
use Rattle.c2_target.specs.declared.Target.{Target}
use Rattle.c2_target_state.specs.declared.State.{State}
use Rattle.c2_target_state.specs.State.{state_of, target_read, same_point, same_device, same_met, same_command, same_output, same_state, target_of}

-- states that are the same have the same numbers
pub same_itself : (s : State) → same_state s s ≡ true
unfolding same_state same_point same_device same_met same_command same_output
same_itself s = grind (arith, nat_tests)

pub same_says : (a b : State) → same_state a b ≡ true → a ≡ b
unfolding same_state same_point same_device same_met same_command same_output
same_says a b h = grind (arith, nat_tests)

-- what is read from a state is what its numbers say, and has that state
pub read_says : (t : Target) (s : State) → target_of s ≡ Some t → t ≡ target_read s
unfolding target_of
read_says t s h = grind (arith, nat_tests)

pub held_says : (t : Target) (s : State) → target_of s ≡ Some t → state_of t ≡ s
unfolding target_of
held_says t s h = grind (arith, nat_tests, same_says)
