-- Building and reading are inverse both ways (`Claims`), and what the contracts' proofs cite.
use Rattle.std.proofs.Common.{◌≡◌, ℕ, Bool, true, false, cond, eqb, List, [], ◌∷◌, length, refl, Option, Some, None, arith, eq-eqb, eqb-true}
use Rattle.laws.proofs.Tests.{by_test}
use Rattle.radio_command.specs.declared.CommandName.{CommandName}
use Rattle.radio_command.specs.declared.CommandName.TheVariants.{RdSwVersion, InfSwVersion, RdFlashByte, WrFlashByte, RdFlashPage}
use Rattle.radio_command.specs.declared.CommandName.TheVariants.{WrFlashPage}
use Rattle.radio_command.specs.declared.CommandName.TheVariants.{RdPrgArea, WrPrgArea, InfOk, InfError, WrBlankChk, WrBist}
use Rattle.radio_command.specs.declared.CommandName.TheVariants.{WrPrgXram}
use Rattle.radio_command.specs.declared.RadioCommand.{RadioCommand}
use Rattle.radio_command.specs.Command.{command_byte, name_of, command_sum, built, read_named, read_found, read_command}
use Rattle.radio_command.specs.Claims.{BuiltReads, ReadWasBuilt}

-- the command byte of a command names it
pub name_of_code : (n : CommandName) → name_of (command_byte n) ≡ Some n
unfolding name_of
name_of_code RdSwVersion = refl
name_of_code InfSwVersion = refl
name_of_code RdFlashByte = refl
name_of_code WrFlashByte = refl
name_of_code RdFlashPage = refl
name_of_code WrFlashPage = refl
name_of_code RdPrgArea = refl
name_of_code WrPrgArea = refl
name_of_code InfOk = refl
name_of_code InfError = refl
name_of_code WrBlankChk = refl
name_of_code WrBist = refl
name_of_code WrPrgXram = refl

pub built_reads : BuiltReads
unfolding read_command built read_named
built_reads c = rw (name_of_code c.name, eq-eqb _ _ (refl {a = command_sum 0xA5 (command_byte c.name) c.p0 c.p1 c.p2}))

-- a byte that is the next of the list, or one after it
next : (b : ℕ) (x : CommandName) (rest : Option CommandName) (n : CommandName) → cond (eqb b (command_byte x)) (Some x) rest ≡ Some n → (rest ≡ Some n → b ≡ command_byte n) → b ≡ command_byte n
next b x rest n e later =
    by_test
    (eqb b (command_byte x))
    (λ t. let h : Some x ≡ Some n = rw t at e in let is = eqb-true b (command_byte x) t in cc)
    (λ t. later (rw t at e))

-- what a command byte names has that command byte
pub code_of_name : (b : ℕ) (n : CommandName) → name_of b ≡ Some n → b ≡ command_byte n
unfolding name_of
code_of_name b n e =
    next b RdSwVersion _ n e (λ e. next b InfSwVersion _ n e (λ e. next b RdFlashByte _ n e (λ e. next b WrFlashByte _ n e (λ e.
    next b RdFlashPage _ n e (λ e. next b WrFlashPage _ n e (λ e. next b RdPrgArea _ n e (λ e. next b WrPrgArea _ n e (λ e.
    next b InfOk _ n e (λ e. next b InfError _ n e (λ e. next b WrBlankChk _ n e (λ e. next b WrBist _ n e (λ e.
    next b WrPrgXram _ n e (λ e. cc)))))))))))))

-- a test that reading has passed
passed : (t : Bool) (x : Option RadioCommand) (c : RadioCommand) → cond t x None ≡ Some c → (t ≡ true) × (x ≡ Some c)
passed true x c e = (refl, e)
passed false x c e = cc

-- eight bytes of a name that pass are what is built
bytes_built : (n : CommandName) (b0 b1 b2 b3 b4 b5 b6 b7 : ℕ) (c : RadioCommand) → b3 ≡ command_byte n → read_named n b0 b1 b2 b4 b5 b6 b7 ≡ Some c
    → ◌≡◌ {A = List ℕ} (b0 ∷ b1 ∷ b2 ∷ b3 ∷ b4 ∷ b5 ∷ b6 ∷ b7 ∷ []) (built c)
unfolding read_named built
bytes_built n b0 b1 b2 b3 b4 b5 b6 b7 c e3 e =
    let h0 = passed (eqb b0 0xA5) _ c e in
    let h1 = passed (eqb b1 0x5A) _ c h0.1 in
    let h2 = passed (eqb b2 0xA5) _ c h1.1 in
    let h7 = passed (eqb b7 (command_sum b2 (command_byte n) b4 b5 b6)) _ c h2.1 in
    let is : record { name = n; p0 = b4; p1 = b5; p2 = b6 } ≡ c = cc in
    rw (
      ← is,
      eqb-true b7 (command_sum b2 (command_byte n) b4 b5 b6) h7.0,
      e3,
      eqb-true b2 0xA5 h2.0,
      eqb-true b1 0x5A h1.0,
      eqb-true b0 0xA5 h0.0,
    )

as_named : (d : Option CommandName) (b0 b1 b2 b3 b4 b5 b6 b7 : ℕ) (c : RadioCommand) → name_of b3 ≡ d
    → read_found d (b0 ∷ b1 ∷ b2 ∷ b3 ∷ b4 ∷ b5 ∷ b6 ∷ b7 ∷ []) ≡ Some c
    → ◌≡◌ {A = List ℕ} (b0 ∷ b1 ∷ b2 ∷ b3 ∷ b4 ∷ b5 ∷ b6 ∷ b7 ∷ []) (built c)
as_named (Some n) b0 b1 b2 b3 b4 b5 b6 b7 c p e = bytes_built n b0 b1 b2 b3 b4 b5 b6 b7 c (code_of_name b3 n p) e
as_named None b0 b1 b2 b3 b4 b5 b6 b7 c p e = cc

-- bytes of another length are no command
eight : (m : List ℕ) (c : RadioCommand) → read_command m ≡ Some c → length m ≡ 8
unfolding read_command
eight m c e = eqb-true (length m) 8 (passed (eqb (length m) 8) _ c e).0

pub read_was_built : ReadWasBuilt
unfolding read_command
read_was_built (b0 ∷ b1 ∷ b2 ∷ b3 ∷ b4 ∷ b5 ∷ b6 ∷ b7 ∷ []) c e = as_named (name_of b3) b0 b1 b2 b3 b4 b5 b6 b7 c refl e
read_was_built [] c e = absurd (omega (arith, eight [] c e))
read_was_built (b0 ∷ []) c e = absurd (omega (arith, eight (b0 ∷ []) c e))
read_was_built (b0 ∷ b1 ∷ []) c e = absurd (omega (arith, eight (b0 ∷ b1 ∷ []) c e))
read_was_built (b0 ∷ b1 ∷ b2 ∷ []) c e = absurd (omega (arith, eight (b0 ∷ b1 ∷ b2 ∷ []) c e))
read_was_built (b0 ∷ b1 ∷ b2 ∷ b3 ∷ []) c e = absurd (omega (arith, eight (b0 ∷ b1 ∷ b2 ∷ b3 ∷ []) c e))
read_was_built (b0 ∷ b1 ∷ b2 ∷ b3 ∷ b4 ∷ []) c e = absurd (omega (arith, eight (b0 ∷ b1 ∷ b2 ∷ b3 ∷ b4 ∷ []) c e))
read_was_built (b0 ∷ b1 ∷ b2 ∷ b3 ∷ b4 ∷ b5 ∷ []) c e = absurd (omega (arith, eight (b0 ∷ b1 ∷ b2 ∷ b3 ∷ b4 ∷ b5 ∷ []) c e))
read_was_built (b0 ∷ b1 ∷ b2 ∷ b3 ∷ b4 ∷ b5 ∷ b6 ∷ []) c e = absurd (omega (arith, eight (b0 ∷ b1 ∷ b2 ∷ b3 ∷ b4 ∷ b5 ∷ b6 ∷ []) c e))
read_was_built (b0 ∷ b1 ∷ b2 ∷ b3 ∷ b4 ∷ b5 ∷ b6 ∷ b7 ∷ b8 ∷ bs) c e = absurd (omega (arith, eight (b0 ∷ b1 ∷ b2 ∷ b3 ∷ b4 ∷ b5 ∷ b6 ∷ b7 ∷ b8 ∷ bs) c e))
