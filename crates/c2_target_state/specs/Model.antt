-- The calls that C has of the modelled target (document 01, "The modelled target").
use Rattle.std.specs.Prelude.{cond, List, [], ℕ, eqb, Option, Some, None, Result, Ok, Err}
use Rattle.numbers.specs.declared.Refusal.{Refusal}
use Rattle.numbers.specs.Numbers.{no_point, refusal_number}
use Rattle.settings.specs.declared.Settings.{Settings}
use Rattle.settings.specs.declared.Pairs.{Pairs}
use Rattle.c2_target.specs.declared.Target.{Target}
use Rattle.c2_target.specs.Delays.{setup}
use Rattle.c2_target.specs.Target.{Replied, setup_refusal, answer, flash_after}
use Rattle.c2_target_state.specs.declared.State.{State}
use Rattle.c2_target_state.specs.declared.ModelReplied.{ModelReplied}
use Rattle.c2_target_state.specs.State.{state_of, target_of}

abbrev pub gives : (number reply : ℕ) → State → ModelReplied
gives n r s = record { number = n; reply = r; target = s }

-- the same by what the code gives, which says of a refused step only why
abbrev pub gives_back : State → Result ModelReplied Refusal → ModelReplied
gives_back s (Ok r) = r
gives_back s (Err e) = gives (refusal_number e) 1 s

-- the number for a state that is no target's: settings by 1 to 3, 18 and 19, wanted pairs by 19, then 17
unfoldable pub no_target : Settings → (wanted : Pairs) → ℕ
no_target t w = cond (eqb (setup_refusal (setup t w [])) 0) no_point (setup_refusal (setup t w []))

-- what a step gives back that a target took; a refused step gives the state back unchanged
unfoldable pub held_answer : Replied → State → ModelReplied
held_answer r s = cond (eqb r.number 0) (gives 0 r.reply (state_of r.target)) (gives r.number 1 s)

-- what a step gives back, by the target that the state says, if there is one
unfoldable pub seen_answer : Settings → (wanted : Pairs) → Option Target → State → (flash delays : List ℕ) → (step : ℕ) → ModelReplied
seen_answer t w (Some g) s f ds x = held_answer (answer (setup t w ds) g f x) s
seen_answer t w None s f ds x = gives (no_target t w) 1 s

-- what a step gives back
abbrev pub model_answer : Settings → (wanted : Pairs) → State → (flash delays : List ℕ) → (step : ℕ) → ModelReplied
model_answer t w s f ds x = seen_answer t w (target_of s) s f ds x

-- the flash after a step, by the target that the state says, if there is one
unfoldable pub seen_flash : Settings → (wanted : Pairs) → Option Target → (flash delays : List ℕ) → (step : ℕ) → List ℕ
seen_flash t w (Some g) f ds x = flash_after (setup t w ds) g f x
seen_flash t w None f ds x = f

-- the flash after a step
abbrev pub model_flash : Settings → (wanted : Pairs) → State → (flash delays : List ℕ) → (step : ℕ) → List ℕ
model_flash t w s f ds x = seen_flash t w (target_of s) f ds x
