-- The radio module's flash: 129 pages of 256 bytes (source document 002, "FLASH memory organization" to "Code
-- Protection"). In programming mode the high byte of an address is the page. Pages 0 to 126 are the program
-- area, 127 the configuration, 128 the information.
use Rattle.std.specs.Prelude.{Bool, true, cond, ◌&&◌, List, [], ◌∷◌, ◌++◌, ℕ, ◌+◌, ◌*◌, ◌==◌, nat_lt, take, drop, replicate, slice_index, slice_set}
use Rattle.radio_flash.specs.declared.FlashChange.{FlashChange}
use Rattle.radio_flash.specs.declared.FlashChange.TheVariants.{Nothing, Byte, Page, Area}

abbrev pub flash_bytes : ℕ
flash_bytes = 33024

abbrev pub configuration : ℕ
configuration = 127

abbrev pub information : ℕ
information = 128

abbrev pub in_program_area : (page : ℕ) → Bool
in_program_area p = nat_lt p configuration

abbrev pub flash_address : (hi lo : ℕ) → ℕ
flash_address hi lo = 256 * hi + lo

-- so many bytes in the erased state
abbrev pub erased_bytes : (n : ℕ) → List ℕ
erased_bytes n = replicate n 0xFF

-- the bytes of a page
unfoldable pub flash_page : (page : ℕ) → (flash : List ℕ) → List ℕ
flash_page p f = take 256 (drop (256 * p) f)

-- Code protection is set exactly when configuration byte 1 is 0x00.
unfoldable pub is_protected : (flash : List ℕ) → Bool
is_protected f = slice_index f 0x7F01 == 0x00

-- every byte is in the erased state
unfoldable pub is_erased : List ℕ → Bool
is_erased [] = true
is_erased (b ∷ bs) = b == 0xFF && is_erased bs

-- program area and configuration, pages 0 to 127, are blank
abbrev pub is_blank : (flash : List ℕ) → Bool
is_blank f = is_erased (take 32768 f)

-- The place in a page from which a page write sets it: the first four bytes of the configuration stay.
abbrev pub first_settable : (page : ℕ) → ℕ
first_settable p = cond (p == configuration) 4 0

-- a flash with a page set to these bytes
unfoldable pub page_set : (page : ℕ) → (bytes flash : List ℕ) → List ℕ
page_set p bs f = take (256 * p + first_settable p) f ++ (drop (first_settable p) bs ++ drop (256 * p + 256) f)

-- a flash with a byte set
unfoldable pub byte_set : (at to : ℕ) → (flash : List ℕ) → List ℕ
byte_set a b f = slice_set f a b

-- mass erase: program area and configuration whole, the first four bytes of the configuration too
unfoldable pub mass_erased : (flash : List ℕ) → List ℕ
mass_erased f = erased_bytes 32768 ++ drop 32768 f

-- the flash that a change leaves
abbrev pub changed : FlashChange → (flash : List ℕ) → List ℕ
changed Nothing f = f
changed (Byte a b) f = byte_set a b f
changed (Page p) f = page_set p (erased_bytes 256) f
changed Area f = mass_erased f
