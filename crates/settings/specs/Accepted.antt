-- Which settings are accepted (document 01, "Settings and session" and "Numbers that come back", 1 to 3;
-- document 02, d, 18, and e, 19).
use Rattle.std.specs.Prelude.{◌≡◌, Bool, cond, ◌&&◌, ◌||◌, ℕ, ◌*◌, ◌<◌, eqb, leb, length}
use Rattle.numbers.specs.Numbers.{bad_fpdat, bad_page_size, bad_page_count, bad_wait_limit, bad_pairs}
use Rattle.laws.specs.Bytes.{Bytes}
use Rattle.settings.specs.declared.Settings.{Settings}
use Rattle.settings.specs.Registers.{are_pairs, tidy}

-- a FPDAT address that is accepted
unfoldable pub is_fpdat : ℕ → Bool
is_fpdat a = leb 3 a

-- a page size that is accepted
unfoldable pub is_page_size : ℕ → Bool
is_page_size size = eqb size 512 || eqb size 1024

-- a page count that is accepted
unfoldable pub is_page_count : (size count : ℕ) → Bool
is_page_count size count = leb 1 count && leb (size * count) 65536

-- a WAIT limit that is accepted; it is a byte
abbrev pub is_wait_limit : ℕ → Bool
is_wait_limit l = leb 1 l

-- the number by which settings are refused, tested in this order, or 0
unfoldable pub settings_refusal : Settings → ℕ
settings_refusal s =
    cond (is_fpdat s.fpdat)
    (cond (is_page_size s.size)
    (cond (is_page_count s.size s.count)
    (cond (is_wait_limit s.wait) (cond (are_pairs s.fpdat s.pairs) 0 bad_pairs) bad_wait_limit) bad_page_count) bad_page_size)
    bad_fpdat

-- Settings as C has them, where a definition has numbers and lists: ID, FPDAT address and WAIT limit are bytes,
-- and there are four registers and four values, bytes too.
pub record InBytes (s : Settings) : Type 0 where
  pub id : s.id < 256
  pub fpdat : s.fpdat < 256
  pub wait : s.wait < 256
  pub four_registers : length s.pairs.registers ≡ 4
  pub registers : Bytes s.pairs.registers
  pub four_values : length s.pairs.values ≡ 4
  pub values : Bytes s.pairs.values

-- what a session keeps of settings: all of them, with 0 in the entries of pairs that are not named
abbrev pub tidied : Settings → Settings
tidied s = record { id = s.id; fpdat = s.fpdat; size = s.size; count = s.count; wait = s.wait; pairs = tidy s.pairs }
