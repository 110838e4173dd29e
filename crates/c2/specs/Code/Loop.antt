-- For the code: the session reached and the steps written, reply by reply. `ran_is` and `wrote_is` of
-- proofs/Laws/Loop/Exchange are the laws that these are the session after the replies and the steps of the
-- exchange.
use Rattle.std.specs.Prelude.{cond, List, [], ◌∷◌, ℕ, Result, Ok, Err}
use Rattle.numbers.specs.declared.Refusal.{Refusal}
use Rattle.numbers.specs.Numbers.{refusal_number}
use Rattle.c2_session.specs.declared.Session.{Session}
use Rattle.c2_session.specs.Code.Step.{session_step}
use Rattle.c2_session.specs.Code.Advance.{advanced}
use Rattle.c2_outcome.specs.Outcome.{is_running, number_of, offset_of}
use Rattle.c2_calls.specs.declared.Advanced.{Advanced}
use Rattle.c2_calls.specs.Calls.{refused_answer}
use Rattle.c2.specs.declared.Ran.{Ran}

-- the session after the replies; one that has ended takes none
abbrev pub ran : (image : List ℕ) → Session → List ℕ → Session
ran image s [] = s
ran image s (r ∷ rs) = cond (is_running s.point) (ran image (advanced s r image) rs) s

-- the steps written, one for each reply taken
abbrev pub wrote : (image : List ℕ) → Session → List ℕ → List ℕ
wrote image s [] = []
wrote image s (r ∷ rs) =
    cond (is_running s.point) (session_step (advanced s r image) image ∷ wrote image (advanced s r image) rs) []

-- what the call answers where the session has run so far, or is refused
abbrev pub answered : Result Ran Refusal → Advanced
answered (Ok x) = record { number = number_of x.point; offset = offset_of x.point; taken = x.taken }
answered (Err e) = refused_answer (refusal_number e)
