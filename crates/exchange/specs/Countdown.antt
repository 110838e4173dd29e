-- A worked example, the smallest device: a session counts so many replies down, its record is the count, one
-- byte, and a call writes the counts into a buffer. It shows what a family of calls supplies, and that the
-- shared claims are about something.
use Rattle.std.specs.Prelude.{cond, List, [], ◌∷◌, ◌++◌, map, ℕ, zero, suc, ◌+◌, ◌-◌, leb, length, take, drop}
use Rattle.std.proofs.Math.Option.{Option, some, none}
use Rattle.exchange.specs.Exchange.{Exchange, ended, ask, Said, asks, ends, Heard, heard}
use Rattle.exchange.specs.Machine.{Machine}
use Rattle.exchange.specs.Served.{Face}
use Rattle.exchange.specs.Exchange as Shared

-- the exchange: n, n - 1, .. 1 are asked, any reply will do, and it ends with 32
unfoldable pub countdown : ℕ → Exchange ℕ ℕ ℕ
countdown zero = ended 32
countdown (suc n) = ask (suc n) (λ _. countdown n)

abbrev pub read : ℕ → ℕ → Heard ℕ ℕ
read a r = heard r

abbrev pub said_byte : Said ℕ ℕ → ℕ
said_byte (asks a) = a
said_byte (ends o) = 0

unfoldable pub unpacked : List ℕ → Option ℕ
unpacked [] = none
unpacked (n ∷ []) = some n
unpacked (n ∷ m ∷ r) = none

abbrev pub counter : Machine
counter =
    record {
      Reply = ℕ;
      Exchange = Exchange ℕ ℕ ℕ;
      after = Shared.after read;
      Session = ℕ;
      Lent = Unit {0};
      packed = λ n. n ∷ [];
      unpacked = unpacked;
      advanced = λ l n r. n - 1;
      left = λ l n. countdown n;
      Fine = λ l n. Unit {0};
    }

-- What the counter's calls are lent to write to: a buffer, and the place from which on the counts are
-- written.
pub record Room : Type 0 where
  pub buffer : List ℕ
  pub place : ℕ

pub record CountAnswer : Type 0 where
  pub number : ℕ
  pub taken : ℕ
  pub buffer : List ℕ

pub record Known : Type 0 where
  pub steps : List ℕ
  pub taken : ℕ

unfoldable pub steps : Exchange ℕ ℕ ℕ → List ℕ → List ℕ
steps e rs = map said_byte (Shared.brought read e rs)

-- the counter's refusals: 6 for a record that is none, 8 where there is no room
abbrev pub refusal : Option ℕ → (replies : List ℕ) → Room → ℕ
refusal none rs m = 6
refusal (some n) rs m = cond (leb (m.place + length rs) (length m.buffer)) 0 8

abbrev pub face : Face counter
face =
    record {
      Room = Room;
      Answer = CountAnswer;
      Known = Known;
      refusal = λ u l rs m. refusal u rs m;
      answer = λ e rs m. record {
        number = 0;
        taken = length (steps e rs);
        buffer = take m.place m.buffer ++ (steps e rs ++ drop (length (steps e rs)) (drop m.place m.buffer));
      };
      refused = λ n m. record { number = n; taken = 0; buffer = m.buffer };
      hears = λ x m a. record { steps = x.steps ++ take a.taken (drop m.place a.buffer); taken = x.taken + a.taken };
      knows = λ e rs. record { steps = steps e rs; taken = length (steps e rs) };
    }
