-- The corners of the modelled target, sentence by sentence (document 01, "The modelled target"; document 02,
-- e), in one table: what a fresh target gives for frames and steps beside what the paper says of it, and the
-- one statement that they agree. proofs/Laws/Corners computes it.
use Rattle.std.specs.Prelude.{◌≡◌, Bool, true, false, List, [], ◌∷◌, ◌++◌, map, ℕ, ◌+◌, ◌*◌, ◌/◌, ◌%◌, length, take, drop, set, replicate}
use Rattle.c2_wire.specs.Bits.{odd, number}
use Rattle.c2_wire.specs.Step.{code}
use Rattle.c2_wire.specs.Frames.{frame}
use Rattle.c2_wire.specs.Place.{strobe_step}
use Rattle.c2_wire.specs.declared.Frame.{Frame}
use Rattle.c2_wire.specs.declared.Frame.TheVariants.{AddressWrite, AddressRead, DataWrite, DataRead}
use Rattle.settings.specs.declared.Pairs.{Pairs}
use Rattle.settings.specs.declared.Settings.{Settings}
use Rattle.settings.specs.Registers.{no_pairs}
use Rattle.c2_target.specs.declared.Command.{Command}
use Rattle.c2_target.specs.declared.Command.TheVariants.{Ready, EraseConfirm, Low, LengthCode, Byte, PastEnd}
use Rattle.c2_target.specs.declared.Output.{Output}
use Rattle.c2_target.specs.declared.Output.TheVariants.{Empty, StatusBlock, Block}
use Rattle.c2_target.specs.declared.Effect.TheVariants.{Nothing, SetAddress, Write, CountDown, Read}
use Rattle.c2_target.specs.declared.Point.{Point}
use Rattle.c2_target.specs.declared.Point.TheVariants.{Start, Ins, WriteLength, ReadLength, Address, Data, LongData, Wait, Waiting, Send, Stop}
use Rattle.c2_target.specs.declared.Target.{Target}
use Rattle.c2_target.specs.declared.Link.{Link}
use Rattle.c2_target.specs.declared.Device.{Device}
use Rattle.c2_target.specs.Delays.{Setup, setup}
use Rattle.c2_target.specs.Interface.{link, device, none_met}
use Rattle.c2_target.specs.Strobes.{target}
use Rattle.c2_target.specs.Target.{cleared, fresh, step_refusal}
use Rattle.c2_target.specs.Steps.{State, own_replies, left_by}

-- one page of 512 bytes, FPDAT at 0xB4, and this limit of a WAIT; `settings` have that of old units
abbrev pub with_limit : (limit : ℕ) → Settings
with_limit l = record { id = 0x04; fpdat = 0xb4; size = 512; count = 1; wait = l; pairs = no_pairs }

abbrev pub settings : Settings
settings = with_limit 20

abbrev pub flash : List ℕ
flash = replicate 512 0x0f

abbrev pub two_pages : Settings
two_pages = record { id = 0x04; fpdat = 0xb4; size = 512; count = 2; wait = 20; pairs = no_pairs }

-- what the target is lent where its device wants no pairs: these settings, or settings of these numbers
abbrev pub lends : (delays : List ℕ) → Setup
lends ds = setup settings no_pairs ds

abbrev pub of_sizes : (fpdat size count wait : ℕ) → Setup
of_sizes a size n l = setup (record { id = 4; fpdat = a; size = size; count = n; wait = l; pairs = no_pairs }) no_pairs []

-- a device that wants no pairs, or none of whose wanted pairs is met
abbrev pub unmet : (address : ℕ) → (on : Bool) → (keys : ℕ) → Link → Device
unmet a on n l = device a on n none_met l

-- A frame whose WAIT is one strobe, or a single step.
pub data Move : Type 0 where
  whole_frame : Frame → (byte : ℕ) → Move
  bare : (step : ℕ) → Move

-- the four frames: Address Write (`to`), Address Read (`look`), Data Write (`a_put`) and Data Read (`a_get`)
abbrev pub to : (address : ℕ) → Move
to a = whole_frame AddressWrite a

abbrev pub look : Move
look = whole_frame AddressRead 0

abbrev pub a_put : (byte : ℕ) → Move
a_put b = whole_frame DataWrite b

abbrev pub a_get : Move
a_get = whole_frame DataRead 0

abbrev pub raw : (steps : List ℕ) → List Move
raw xs = map bare xs

-- the steps of a move (`move_steps`), and of moves in a row (`steps_given`)
unfoldable pub move_steps : Move → List ℕ
move_steps (whole_frame k b) = map (λ x. code (strobe_step x)) (frame k b)
move_steps (bare x) = x ∷ []

unfoldable pub steps_given : List Move → List ℕ
steps_given [] = []
steps_given (m ∷ ms) = move_steps m ++ steps_given ms

-- the byte that a frame reads, by the replies from its START on; a write reads none
unfoldable pub byte_read : Frame → (replies : List ℕ) → List ℕ
byte_read AddressWrite rs = []
byte_read DataWrite rs = []
byte_read AddressRead rs = number (map odd (take 8 (drop 3 rs))) ∷ []
byte_read DataRead rs = number (map odd (take 8 (drop 6 rs))) ∷ []

unfoldable pub bytes_read : List Move → (replies : List ℕ) → List ℕ
bytes_read [] rs = []
bytes_read (whole_frame k b ∷ ms) rs = byte_read k rs ++ bytes_read ms (drop (length (move_steps (whole_frame k b))) rs)
bytes_read (bare x ∷ ms) rs = bytes_read ms (drop 1 rs)

-- From a fresh target on: its replies to moves (`fresh_replies`, or with this limit of a WAIT `limit_replies`),
-- the bytes that their frames read (`reads`), and the target and the flash afterwards (`fresh_after`).
abbrev pub limit_replies : (limit : ℕ) (delays : List ℕ) → List Move → List ℕ
limit_replies l ds ms = own_replies (setup (with_limit l) no_pairs ds) fresh flash (steps_given ms)

unfoldable pub fresh_replies : (delays : List ℕ) → List Move → List ℕ
fresh_replies ds ms = limit_replies 20 ds ms

unfoldable pub reads : (delays : List ℕ) → List Move → List ℕ
reads ds ms = bytes_read ms (fresh_replies ds ms)

unfoldable pub fresh_after : (delays : List ℕ) → List Move → State
fresh_after ds ms = left_by (lends ds) fresh flash (steps_given ms)

-- three Data Writes at address 0x02, step 5, and then the FPDAT address
unfoldable pub keys : (a b c : ℕ) → List Move
keys a b c = to 0x02 ∷ a_put a ∷ a_put b ∷ a_put c ∷ bare 5 ∷ to 0xb4 ∷ []

abbrev pub on : List Move
on = keys 0x02 0x04 0x01

-- The same with the interface on: the three key writes have taken a delay each, of 0.
abbrev pub on_reads : (delays : List ℕ) → List Move → List ℕ
on_reads ds ms = reads (0 ∷ 0 ∷ 0 ∷ ds) (on ++ ms)

abbrev pub on_after : (delays : List ℕ) → List Move → State
on_after ds ms = fresh_after (0 ∷ 0 ∷ 0 ∷ ds) (on ++ ms)

-- These many pairs of register and value; entries from the count on are not looked at.
abbrev pub pairs : (count : ℕ) → (registers values : List ℕ) → Pairs
pairs n rs vs = record { count = n; registers = rs; values = vs }

-- one pair
abbrev pub pair : (register value : ℕ) → Pairs
pair a b = pairs 1 (a ∷ 0 ∷ 0 ∷ 0 ∷ []) (b ∷ 0 ∷ 0 ∷ 0 ∷ [])

-- a Data Write at a register, and then the FPDAT address
abbrev pub write : (register byte : ℕ) → List Move
write a b = to a ∷ a_put b ∷ to 0xb4 ∷ []

-- Where the device wants these pairs, without delays: the bytes that the moves' frames read
-- (`wanting_reads`), and the target and the flash afterwards (`wanting_after`).
unfoldable pub wanting_reads : (wanted : Pairs) → List Move → List ℕ
wanting_reads w ms = bytes_read ms (own_replies (setup settings w []) fresh flash (steps_given ms))

unfoldable pub wanting_after : (wanted : Pairs) → List Move → State
wanting_after w ms = left_by (setup settings w []) fresh flash (steps_given ms)

-- four pairs, and five by their count
abbrev pub four_pairs : Pairs
four_pairs = pairs 4 (3 ∷ 4 ∷ 5 ∷ 0xff ∷ []) (1 ∷ 2 ∷ 3 ∷ 4 ∷ [])

abbrev pub five_pairs : Pairs
five_pairs = pairs 5 (3 ∷ 4 ∷ 5 ∷ 0xff ∷ []) (1 ∷ 2 ∷ 3 ∷ 4 ∷ [])

-- the number by which step 0 of a fresh target is refused, with these pairs in the settings (`sent`) and
-- wanted by the device (`wanted`)
abbrev pub with_pairs : (sent wanted : Pairs) → ℕ
with_pairs s w =
    step_refusal (setup (record { id = 0x04; fpdat = 0xb4; size = 512; count = 1; wait = 20; pairs = s }) w []) fresh flash 0

-- a target with the collision mark
abbrev pub with_mark : Target → Target
with_mark t = target t.point t.place true t.device

-- a Data Read whose WAIT has so many zeros (`get_after`), and the replies where it reads the ID (`id_after`)
abbrev pub get_after : (zeros : ℕ) → List Move
get_after z = raw (0 ∷ 2 ∷ 2 ∷ 2 ∷ 2 ∷ replicate (z + 10) 0)

abbrev pub id_after : (zeros : ℕ) → List ℕ
id_after z = 1 ∷ 0 ∷ 0 ∷ 0 ∷ 0 ∷ replicate z 0 ++ 1 ∷ 0 ∷ 0 ∷ 1 ∷ 0 ∷ 0 ∷ 0 ∷ 0 ∷ 0 ∷ 1 ∷ []

-- a Data Read (`long_get`), and a Data Write of 0x01 and zeros (`long_put`), with this LENGTH
abbrev pub long_get : (code : ℕ) → List Move
long_get n = raw (0 ∷ 2 ∷ 2 ∷ (2 + n % 2) ∷ (2 + n / 2) ∷ 0 ∷ replicate (8 * n + 8) 0 ++ 0 ∷ [])

abbrev pub long_put : (code : ℕ) → List Move
long_put n = raw (0 ∷ 3 ∷ 2 ∷ (2 + n % 2) ∷ (2 + n / 2) ∷ 3 ∷ replicate (8 * n + 7) 2 ++ 0 ∷ 0 ∷ [])

-- a frame with this step in place of one of its own (`with_step`), and with C2D driven low, then high, at
-- each of these places (`driven_at`)
abbrev pub with_step : List Move → (place step : ℕ) → List Move
with_step ms i x = raw (take i (steps_given ms) ++ x ∷ drop (i + 1) (steps_given ms))

abbrev pub driven_at : List Move → (places : List ℕ) → List (List Move)
driven_at ms is = map (λ i. with_step ms i 2) is ++ map (λ i. with_step ms i 3) is

-- What the target gives beside what the paper says: numbers, a state or a part of one.
pub record Row : Type 1 where
  pub kind : Type 0
  pub given : kind
  pub paper : kind

abbrev pub row : {A : Type 0} → (given paper : A) → Row
row {A} g p = record { kind = A; given = g; paper = p }

-- Driving C2D at any of these places of a frame sets the mark (`marks`): the replies (`same_replies`), and all
-- else of the target, are as without the drive.
abbrev pub same_replies : List Move → (places : List ℕ) → Row
same_replies ms places = row (map (fresh_replies []) (driven_at ms places)) (map (λ _. fresh_replies [] ms) (driven_at ms places))

abbrev pub marks : List Move → (places : List ℕ) → Row
marks ms places =
    row (map (λ x. (fresh_after [] x).target) (driven_at ms places)) (map (λ _. with_mark (fresh_after [] ms).target) (driven_at ms places))

-- the numbers by which step 0 is refused where the target stands at these points (`at_points`), has these
-- commands under way (`at_commands`) or has this output (`at_outputs`)
abbrev pub at_points : List Point → List ℕ
at_points xs = map (λ x. step_refusal (lends []) (target x 0 false cleared) flash 0) xs

abbrev pub at_commands : List Command → List ℕ
at_commands xs = map (λ x. step_refusal (lends []) (target Start 0 false (unmet 0 false 0 (link x Empty 0 0))) flash 0) xs

abbrev pub at_outputs : List Output → List ℕ
at_outputs xs = map (λ x. step_refusal (lends []) (target Start 0 false (unmet 0 false 0 (link Ready x 0 0))) flash 0) xs

-- the table of corners
unfoldable pub table : List Row
table =
    -- I. Delays, the fresh target, and the strobes of its frames.
    -- Fresh: address 0, interface off, no mark, first delay.
    row (reads [] (look ∷ to 0xb4 ∷ look ∷ [])) (0 ∷ 0xb4 ∷ []) ∷
    row (fresh_after [] []).target.collision false ∷
    row (fresh_after [] []).target.place 0 ∷
    -- Delays are taken from the list in order; at its end comes the start.
    row (fresh_replies (1 ∷ 2 ∷ []) (get_after 1 ++ get_after 2 ++ get_after 1)) (id_after 1 ++ id_after 2 ++ id_after 1) ∷
    -- A place past the end, where a shorter list is lent, is the start too.
    row (own_replies (lends (1 ∷ [])) (fresh_after (0 ∷ 0 ∷ 0 ∷ []) (a_get ∷ a_get ∷ a_get ∷ [])).target flash (steps_given
    (get_after 1)))
    (id_after 1) ∷
    -- Delays are 0 where the list is empty.
    row (fresh_replies [] (a_get ∷ a_get ∷ [])) (id_after 0 ++ id_after 0) ∷
    -- A frame with a WAIT takes one when its WAIT begins, and the others take none.
    row (fresh_after (0 ∷ 9 ∷ []) (to 7 ∷ look ∷ raw (0 ∷ 2 ∷ 2 ∷ 2 ∷ 2 ∷ []))).target.place 0 ∷
    row (fresh_after (0 ∷ 9 ∷ []) (to 7 ∷ look ∷ raw (0 ∷ 2 ∷ 2 ∷ 2 ∷ 2 ∷ 0 ∷ []))).target.place 1 ∷
    -- WAIT sends (delay mod the limit) zeros, then 1. Limit 20:
    row (fresh_replies (19 ∷ []) (get_after 19)) (id_after 19) ∷
    row (fresh_replies (20 ∷ []) (get_after 0)) (id_after 0) ∷
    row (fresh_replies (255 ∷ []) (get_after 15)) (id_after 15) ∷
    -- Limit 2, limit 1, where there are never zeros, and limit 255.
    row (limit_replies 2 (3 ∷ 4 ∷ []) (get_after 1 ++ get_after 0)) (id_after 1 ++ id_after 0) ∷
    row (limit_replies 1 (19 ∷ 255 ∷ []) (get_after 0 ++ get_after 0)) (id_after 0 ++ id_after 0) ∷
    row (limit_replies 255 (254 ∷ 255 ∷ []) (get_after 254 ++ get_after 0)) (id_after 254 ++ id_after 0) ∷
    -- In the master's strobes the reply is the bit on the line. START and STOP reply 1.
    row (fresh_replies [] (to 0x02 ∷ look ∷ []))
    (1 ∷ 1 ∷ 1 ∷ 0 ∷ 1 ∷ 0 ∷ 0 ∷ 0 ∷ 0 ∷ 0 ∷ 0 ∷ 1 ∷ 1 ∷ 0 ∷ 1 ∷ 0 ∷ 1 ∷ 0 ∷ 0 ∷ 0 ∷ 0 ∷ 0 ∷ 0 ∷ 1 ∷ []) ∷
    row (fresh_replies [] (a_put 0x04 ∷ [])) (1 ∷ 1 ∷ 0 ∷ 0 ∷ 0 ∷ 0 ∷ 0 ∷ 1 ∷ 0 ∷ 0 ∷ 0 ∷ 0 ∷ 0 ∷ 1 ∷ 1 ∷ []) ∷
    -- A released strobe of the master's reads 1: INS is then 3 and ADDRESS 0xff. It sets no mark.
    row (fresh_replies [] (raw (replicate 12 0))) (replicate 12 1) ∷
    row (reads [] (raw (replicate 12 0) ++ look ∷ [])) (0xff ∷ []) ∷
    row (fresh_after [] (raw (replicate 12 0))).target.collision false ∷
    -- The same in LENGTH, which is then 3, and in written DATA: 0xff is no command.
    row (fresh_replies [] (raw (0 ∷ 2 ∷ 2 ∷ 0 ∷ 0 ∷ replicate 34 0) ++ a_get ∷ []))
    (1 ∷ 0 ∷ 0 ∷ 1 ∷ 1 ∷ 1 ∷ replicate 32 0 ++ 1 ∷ id_after 0) ∷
    row (on_reads [] (raw (0 ∷ 3 ∷ 2 ∷ 2 ∷ 2 ∷ replicate 10 0) ++ look ∷ a_get ∷ [])) (1 ∷ 0x00 ∷ []) ∷
    -- Driving any other strobe sets a mark, and the drive has no other effect: START, WAIT, read bits, STOP.
    same_replies (to 7 ∷ []) (0 ∷ 11 ∷ []) ∷
    marks (to 7 ∷ []) (0 ∷ 11 ∷ []) ∷
    same_replies (look ∷ []) (0 ∷ 3 ∷ 4 ∷ 5 ∷ 6 ∷ 7 ∷ 8 ∷ 9 ∷ 10 ∷ 11 ∷ []) ∷
    marks (look ∷ []) (0 ∷ 3 ∷ 4 ∷ 5 ∷ 6 ∷ 7 ∷ 8 ∷ 9 ∷ 10 ∷ 11 ∷ []) ∷
    same_replies (a_put 7 ∷ []) (0 ∷ 13 ∷ 14 ∷ []) ∷
    marks (a_put 7 ∷ []) (0 ∷ 13 ∷ 14 ∷ []) ∷
    same_replies (a_get ∷ []) (0 ∷ 5 ∷ 6 ∷ 7 ∷ 8 ∷ 9 ∷ 10 ∷ 11 ∷ 12 ∷ 13 ∷ 14 ∷ []) ∷
    marks (a_get ∷ []) (0 ∷ 5 ∷ 6 ∷ 7 ∷ 8 ∷ 9 ∷ 10 ∷ 11 ∷ 12 ∷ 13 ∷ 14 ∷ []) ∷
    -- The same in a later strobe of a WAIT.
    row (fresh_replies (2 ∷ []) (raw (0 ∷ 2 ∷ 2 ∷ 2 ∷ 2 ∷ 0 ∷ 3 ∷ 0 ∷ replicate 9 0))) (id_after 2) ∷
    row (fresh_after (2 ∷ []) (raw (0 ∷ 2 ∷ 2 ∷ 2 ∷ 2 ∷ 0 ∷ 3 ∷ []))).target.collision true ∷
    -- What the master drives sets no mark. A mark is for good: `MarkStays` of Claims.
    row (fresh_after [] (to 0xff ∷ a_put 0xff ∷ look ∷ a_get ∷ [])).target.collision false ∷
    -- II. Frames with LENGTH not 0.
    -- They run to their end and read zeros, here in place of the ID.
    row (fresh_replies [] (long_get 1 ++ a_get ∷ [])) (1 ∷ 0 ∷ 0 ∷ 1 ∷ 0 ∷ 1 ∷ replicate 16 0 ++ 1 ∷ id_after 0) ∷
    row (fresh_replies [] (long_get 2 ++ a_get ∷ [])) (1 ∷ 0 ∷ 0 ∷ 0 ∷ 1 ∷ 1 ∷ replicate 24 0 ++ 1 ∷ id_after 0) ∷
    row (fresh_replies [] (long_get 3 ++ a_get ∷ [])) (1 ∷ 0 ∷ 0 ∷ 1 ∷ 1 ∷ 1 ∷ replicate 32 0 ++ 1 ∷ id_after 0) ∷
    row (drop (length (steps_given (on ++ a_put 0x08 ∷ []))) (fresh_replies [] (on ++ a_put 0x08 ∷ long_get 1)))
    (1 ∷ 0 ∷ 0 ∷ 1 ∷ 0 ∷ 1 ∷ replicate 16 0 ++ 1 ∷ []) ∷
    -- They have a WAIT, and take a delay at it.
    row (fresh_after (0 ∷ 0 ∷ []) (long_get 1)).target.place 1 ∷
    row (fresh_after (0 ∷ 0 ∷ []) (long_put 1)).target.place 1 ∷
    -- Driving START, WAIT, a read bit or STOP of them sets the mark too, and has no other effect. Their LENGTH
    -- and written DATA are the master's to drive.
    same_replies (long_get 1) (0 ∷ 5 ∷ 6 ∷ 13 ∷ 14 ∷ 21 ∷ 22 ∷ []) ∷
    marks (long_get 1) (0 ∷ 5 ∷ 6 ∷ 13 ∷ 14 ∷ 21 ∷ 22 ∷ []) ∷
    same_replies (long_put 1) (0 ∷ 21 ∷ 22 ∷ []) ∷
    marks (long_put 1) (0 ∷ 21 ∷ 22 ∷ []) ∷
    row (fresh_after [] (long_get 3)).target.collision false ∷
    row (fresh_after [] (long_put 3)).target.collision false ∷
    -- They take no output.
    row (on_reads [] (a_put 0x08 ∷ long_get 1 ++ look ∷ a_get ∷ [])) (1 ∷ 0x0d ∷ []) ∷
    -- They run to their end and write nothing: a byte put would give a status.
    row (on_reads [] (long_put 1 ++ look ∷ [])) (0 ∷ []) ∷
    row (on_reads [] (long_put 2 ++ look ∷ [])) (0 ∷ []) ∷
    row (on_reads [] (long_put 3 ++ look ∷ [])) (0 ∷ []) ∷
    -- They are no Data Writes: none of the key writes, and none that comes between them.
    row (reads [] (to 0x02 ∷ a_put 0x02 ∷ a_put 0x04 ∷ long_put 1 ++ bare 5 ∷ to 0xb4 ∷ look ∷ [])) (0xb4 ∷ []) ∷
    row (reads [] (to 0x02 ∷ a_put 0x02 ∷ long_put 1 ++ a_put 0x04 ∷ a_put 0x01 ∷ bare 5 ∷ to 0xb4 ∷ look ∷ [])) (0 ∷ []) ∷
    -- III. Steps 4, 5 and 6, and the key writes. At FPDAT an Address Read gives the status, 0, where the
    -- interface is on, and the register, 0xB4, where it is off.
    -- Step 4 sets address 0 and interface off, drops frame, command, output, d and e, and keeps mark and place.
    row (on_after (0 ∷ 5 ∷ 6 ∷ []) (a_put 0x08 ∷ raw (2 ∷ 2 ∷ 4 ∷ []))).target (target Start 6 true cleared) ∷
    -- It keeps the flash.
    row (on_after [] (a_put 0x07 ∷ a_put 0 ∷ a_put 0 ∷ a_put 1 ∷ a_put 0x3c ∷ bare 4 ∷ [])).flash (set flash 0 0x0c) ∷
    -- Steps 4, 5 and 6 reply 1.
    row (fresh_replies [] (raw (4 ∷ 5 ∷ 6 ∷ 0 ∷ 2 ∷ 5 ∷ 6 ∷ 4 ∷ []))) (1 ∷ 1 ∷ 1 ∷ 1 ∷ 0 ∷ 1 ∷ 1 ∷ 1 ∷ []) ∷
    -- Data Writes of 0x02, 0x04, 0x01 at address 0x02: step 5 turns the interface on.
    row (reads [] (on ++ look ∷ [])) (0 ∷ []) ∷
    row (reads [] (to 0x02 ∷ a_put 0x02 ∷ a_put 0x04 ∷ a_put 0x01 ∷ to 0xb4 ∷ look ∷ [])) (0xb4 ∷ []) ∷
    -- Any other order turns nothing on, nor do two of the three.
    row (reads [] (keys 0x02 0x01 0x04 ++ look ∷ []) ++ reads [] (keys 0x04 0x02 0x01 ++ look ∷ []) ++ reads []
    (keys 0x04 0x01 0x02 ++ look ∷ []) ++ reads [] (keys 0x01 0x02 0x04 ++ look ∷ []) ++ reads [] (keys 0x01 0x04 0x02 ++ look ∷ []))
    (replicate 5 0xb4) ∷
    row (reads [] (to 0x02 ∷ a_put 0x02 ∷ a_put 0x04 ∷ bare 5 ∷ to 0xb4 ∷ look ∷ [])) (0xb4 ∷ []) ∷
    row (reads [] (to 0x02 ∷ a_put 0x04 ∷ a_put 0x01 ∷ bare 5 ∷ to 0xb4 ∷ look ∷ [])) (0xb4 ∷ []) ∷
    -- They are the last three Data Writes: others before them don't matter, one among or after them does.
    row (reads [] (to 0x02 ∷ a_put 0x09 ∷ a_put 0x02 ∷ on ++ look ∷ [])) (0 ∷ []) ∷
    row (reads [] (to 0x02 ∷ a_put 0x02 ∷ a_put 0x04 ∷ a_put 0x09 ∷ a_put 0x01 ∷ bare 5 ∷ to 0xb4 ∷ look ∷ [])) (0xb4 ∷ []) ∷
    row (reads [] (to 0x02 ∷ a_put 0x02 ∷ a_put 0x04 ∷ a_put 0x01 ∷ a_put 0x01 ∷ bare 5 ∷ to 0xb4 ∷ look ∷ [])) (0xb4 ∷ []) ∷
    -- All are at address 0x02, and a Data Write elsewhere comes between as well.
    row (reads [] (to 0x02 ∷ a_put 0x02 ∷ a_put 0x04 ∷ to 7 ∷ a_put 0x01 ∷ bare 5 ∷ to 0xb4 ∷ look ∷ [])) (0xb4 ∷ []) ∷
    row (reads [] (to 0x02 ∷ a_put 0x02 ∷ a_put 0x04 ∷ to 7 ∷ a_put 0x09 ∷ to 0x02 ∷ a_put 0x01 ∷ bare 5 ∷ to 0xb4 ∷ look ∷ []))
    (0xb4 ∷ []) ∷
    -- They are since the reset.
    row (reads [] (to 0x02 ∷ a_put 0x02 ∷ a_put 0x04 ∷ bare 4 ∷ to 0x02 ∷ a_put 0x01 ∷ bare 5 ∷ to 0xb4 ∷ look ∷ [])) (0xb4 ∷ []) ∷
    -- Frames that are no Data Writes may come between them; no other frame may begin after them.
    row (reads [] (to 0x02 ∷ a_put 0x02 ∷ look ∷ a_put 0x04 ∷ a_get ∷ to 7 ∷ to 0x02 ∷ a_put 0x01 ∷ bare 5 ∷ to 0xb4 ∷ look ∷ []))
    (2 ∷ 0 ∷ 0 ∷ []) ∷
    row (reads [] (to 0x02 ∷ a_put 0x02 ∷ a_put 0x04 ∷ a_put 0x01 ∷ look ∷ bare 5 ∷ to 0xb4 ∷ look ∷ [])) (2 ∷ 0xb4 ∷ []) ∷
    row (fresh_after [] (to 0x02 ∷ a_put 0x02 ∷ a_put 0x04 ∷ a_put 0x01 ∷ raw (0 ∷ 5 ∷ []))).target.device.on false ∷
    -- Step 5 elsewhere, in mid-frame too, and step 6 change nothing.
    row (reads [] (to 0x02 ∷ a_put 0x02 ∷ a_put 0x04 ∷ raw (take 14 (steps_given (a_put 0x01 ∷ [])) ++ 5 ∷ 0 ∷ []) ++ to 0xb4 ∷ look
    ∷ []))
    (0xb4 ∷ []) ∷
    row (fresh_replies [] (raw (take 7 (steps_given (a_get ∷ [])) ++ 5 ∷ 6 ∷ drop 7 (steps_given (a_get ∷ [])))))
    (take 7 (id_after 0) ++ 1 ∷ 1 ∷ drop 7 (id_after 0)) ∷
    row (on_reads [] (bare 5 ∷ look ∷ [])) (0 ∷ []) ∷
    row (reads [] (to 0x02 ∷ a_put 0x02 ∷ a_put 0x04 ∷ a_put 0x01 ∷ bare 6 ∷ bare 5 ∷ to 0xb4 ∷ look ∷ [])) (0 ∷ []) ∷
    -- IV. Registers, puts and output, d and e.
    -- At address 0 a Data Read gives the ID.
    row (reads [] (a_get ∷ []) ++ on_reads [] (to 0 ∷ a_get ∷ [])) (0x04 ∷ 0x04 ∷ []) ∷
    -- Other reads give 0, other Address Reads the register: elsewhere, and at FPDAT with the interface off.
    row (reads [] (to 7 ∷ a_get ∷ look ∷ to 0xb4 ∷ a_get ∷ look ∷ [])) (0 ∷ 7 ∷ 0 ∷ 0xb4 ∷ []) ∷
    row (on_reads [] (a_put 0x08 ∷ to 7 ∷ a_get ∷ look ∷ to 0xb4 ∷ look ∷ a_get ∷ [])) (0 ∷ 7 ∷ 1 ∷ 0x0d ∷ []) ∷
    -- Other writes nothing: 0x08 is put neither with the interface off nor elsewhere, and 0x00 is no command.
    row (reads [] (to 0xb4 ∷ a_put 0x08 ∷ on ++ look ∷ a_put 0x00 ∷ a_get ∷ [])) (0 ∷ 0x00 ∷ []) ∷
    row (on_reads [] (to 7 ∷ a_put 0x08 ∷ to 0xb4 ∷ look ∷ a_put 0x00 ∷ a_get ∷ [])) (0 ∷ 0x00 ∷ []) ∷
    -- InBusy, bit 1, reads 1 for the next d Address Reads; OutReady, bit 0, is 0 for e reads more: d first.
    row (on_reads (0 ∷ 2 ∷ 1 ∷ []) (a_put 0x08 ∷ look ∷ look ∷ look ∷ look ∷ a_get ∷ [])) (2 ∷ 2 ∷ 0 ∷ 1 ∷ 0x0d ∷ []) ∷
    -- A frame acts at its STOP, taking d and e there.
    row (fresh_after [] (raw (take 11 (steps_given (to 7 ∷ []))))).target.device.address 0 ∷
    row (on_after (0 ∷ 2 ∷ 1 ∷ []) (raw (take 14 (steps_given (a_put 0x08 ∷ []))))).target.place 4 ∷
    row (on_after (0 ∷ 2 ∷ 1 ∷ []) (a_put 0x08 ∷ [])).target.place 6 ∷
    -- The reads are those at the FPDAT address. An Address Write changes only the address.
    row (on_reads (0 ∷ 1 ∷ 1 ∷ []) (a_put 0x08 ∷ to 7 ∷ look ∷ look ∷ to 0xb4 ∷ look ∷ look ∷ look ∷ a_get ∷ []))
    (7 ∷ 7 ∷ 2 ∷ 0 ∷ 1 ∷ 0x0d ∷ []) ∷
    -- A FPDAT read while OutReady is 0 gives 0 and takes no output away.
    row (on_reads (0 ∷ 1 ∷ 1 ∷ []) (a_put 0x08 ∷ a_get ∷ look ∷ a_get ∷ look ∷ a_get ∷ look ∷ a_get ∷ []))
    (0 ∷ 2 ∷ 0 ∷ 0 ∷ 0x0d ∷ 0 ∷ 0 ∷ []) ∷
    -- A put is taken even while InBusy is 1, as the command's next byte, and drops any d or e still running.
    row (on_reads (0 ∷ 5 ∷ 6 ∷ 0 ∷ 1 ∷ 2 ∷ []) (a_put 0x08 ∷ a_put 0 ∷ look ∷ look ∷ look ∷ look ∷ a_get ∷ look ∷ []))
    (2 ∷ 0 ∷ 0 ∷ 1 ∷ 0x0d ∷ 0 ∷ []) ∷
    -- It drops output not yet read.
    row (on_reads [] (a_put 0x07 ∷ look ∷ a_put 0 ∷ look ∷ a_get ∷ [])) (1 ∷ 0 ∷ 0 ∷ []) ∷
    -- Only output takes an e: the put of 0x07 takes d and e, that of the address d alone, besides their WAITs.
    row ((on_after (replicate 9 0) (a_put 0x07 ∷ [])).target.place ∷ (on_after (replicate 9 0) (a_put 0x07 ∷ a_put 0
    ∷ [])).target.place ∷ [])
    (6 ∷ 8 ∷ []) ∷
    -- A put is a new command where the command has had all its bytes, though its output waits.
    row (on_reads [] (a_put 0x06 ∷ a_put 0 ∷ a_put 0 ∷ a_put 1 ∷ a_put 0x08 ∷ a_get ∷ look ∷ a_put 1 ∷ a_get ∷ [])) (0x0d ∷ 0 ∷ 0x00 ∷ []) ∷
    -- The status bits are fixed at the last INS strobe; the read counts at its STOP.
    row (on_after (0 ∷ 2 ∷ 0 ∷ []) (a_put 0x08 ∷ raw (0 ∷ 2 ∷ 3 ∷ []))).target.point (Send 8 2 CountDown) ∷
    row (on_after (0 ∷ 2 ∷ 0 ∷ []) (a_put 0x08 ∷ raw (take 11 (steps_given (look ∷ []))))).target.device.link.busy 2 ∷
    -- After a read with more output waiting, a new e is taken: here 1, then 2, and none after the last.
    row (on_reads (replicate 11 0 ++ 1 ∷ 0 ∷ 2 ∷ 0 ∷ 3 ∷ []) (a_put 0x06 ∷ a_put 0 ∷ a_put 0 ∷ a_put 2 ∷ a_get ∷ look ∷ look ∷ a_get
    ∷ look ∷ look ∷ look ∷ a_get ∷ look ∷ []))
    (0x0d ∷ 0 ∷ 1 ∷ 0x0f ∷ 0 ∷ 0 ∷ 1 ∷ 0x0f ∷ 0 ∷ []) ∷
    row (on_after (replicate 15 0) (a_put 0x06 ∷ a_put 0 ∷ a_put 0 ∷ a_put 1 ∷ a_get ∷ a_get ∷ [])).target.place 16 ∷
    -- V. Commands.
    -- Erase sets the page to 0xFF at the put of 0x00.
    row (on_after [] (a_put 0x08 ∷ a_put 0 ∷ [])).flash flash ∷
    row (on_after [] (a_put 0x08 ∷ a_put 0 ∷ a_put 0x00 ∷ [])).flash (replicate 512 0xff) ∷
    -- It is that page, and no other.
    row (left_by (setup two_pages no_pairs []) fresh (replicate 1024 0x0f) (steps_given (on ++ a_put 0x08 ∷ a_put 1 ∷ a_put 0x00
    ∷ []))).flash
    (replicate 512 0x0f ++ replicate 512 0xff) ∷
    row (on_reads [] (a_put 0x08 ∷ a_get ∷ a_put 0 ∷ a_get ∷ a_put 0x00 ∷ a_get ∷ look ∷ [])) (0x0d ∷ 0x0d ∷ 0x0d ∷ 0 ∷ []) ∷
    -- Any other byte there gives status 0x00; the command ends.
    row (on_reads [] (a_put 0x08 ∷ a_put 0 ∷ a_put 0x01 ∷ a_get ∷ a_put 0x08 ∷ a_get ∷ [])) (0x00 ∷ 0x0d ∷ []) ∷
    row (on_after [] (a_put 0x08 ∷ a_put 0 ∷ a_put 0x01 ∷ [])).flash flash ∷
    -- Block write sets each byte, at its put, to old AND new; its address goes high byte first.
    row (on_after [] (a_put 0x07 ∷ a_put 1 ∷ a_put 2 ∷ a_put 2 ∷ a_put 0x3c ∷ [])).flash (set flash 0x102 0x0c) ∷
    row (on_after [] (a_put 0x07 ∷ a_put 1 ∷ a_put 2 ∷ a_put 2 ∷ a_put 0x3c ∷ a_put 0x55 ∷ [])).flash
    (set (set flash 0x102 0x0c) 0x103 0x05) ∷
    row (on_reads [] (a_put 0x07 ∷ a_get ∷ a_put 1 ∷ a_put 2 ∷ a_put 2 ∷ look ∷ a_put 0x3c ∷ look ∷ a_put 0x55 ∷ look ∷ a_get ∷ look
    ∷ []))
    (0x0d ∷ 0 ∷ 0 ∷ 1 ∷ 0x0d ∷ 0 ∷ []) ∷
    -- Block read gives the bytes of the flash after its status.
    row (on_reads [] (a_put 0x07 ∷ a_put 0 ∷ a_put 1 ∷ a_put 1 ∷ a_put 0x3c ∷ a_put 0x06 ∷ a_get ∷ a_put 0 ∷ a_put 0 ∷ a_put 2
    ∷ a_get ∷ a_get ∷ a_get ∷ look ∷ []))
    (0x0d ∷ 0x0d ∷ 0x0f ∷ 0x0c ∷ 0 ∷ []) ∷
    -- A page past the end gives status 0x00 and changes no flash; the command ends.
    row (on_reads [] (a_put 0x08 ∷ a_put 1 ∷ a_get ∷ a_put 0x08 ∷ a_get ∷ [])) (0x00 ∷ 0x0d ∷ []) ∷
    row (on_after [] (a_put 0x08 ∷ a_put 1 ∷ a_put 0x00 ∷ [])).flash flash ∷
    -- An unknown command does the same.
    row (on_reads [] (a_put 0x03 ∷ a_get ∷ a_put 0x08 ∷ a_get ∷ [])) (0x00 ∷ 0x0d ∷ []) ∷
    row (on_after [] (a_put 0x03 ∷ [])).flash flash ∷
    -- So does a block past the end: the last block that is not, and the first that is. Length code 0 means 256.
    row (on_reads [] (a_put 0x06 ∷ a_put 1 ∷ a_put 0xfe ∷ a_put 2 ∷ a_get ∷ a_get ∷ a_get ∷ look ∷ [])) (0x0d ∷ 0x0f ∷ 0x0f ∷ 0 ∷ []) ∷
    row (on_reads [] (a_put 0x06 ∷ a_put 1 ∷ a_put 0xff ∷ a_put 2 ∷ a_get ∷ look ∷ a_put 0x08 ∷ a_get ∷ [])) (0x00 ∷ 0 ∷ 0x0d ∷ []) ∷
    row (on_reads [] (a_put 0x06 ∷ a_put 1 ∷ a_put 0 ∷ a_put 0 ∷ a_get ∷ look ∷ a_put 0x06 ∷ a_put 1 ∷ a_put 1 ∷ a_put 0 ∷ a_get
    ∷ look ∷ []))
    (0x0d ∷ 1 ∷ 0x00 ∷ 0 ∷ []) ∷
    row (on_after [] (a_put 0x07 ∷ a_put 1 ∷ a_put 0xfe ∷ a_put 2 ∷ a_put 0x3c ∷ a_put 0x3c ∷ [])).flash
    (replicate 510 0x0f ++ 0x0c ∷ 0x0c ∷ []) ∷
    -- For such a block write its bytes are first taken.
    row (on_reads [] (a_put 0x07 ∷ a_put 1 ∷ a_put 0xff ∷ a_put 2 ∷ look ∷ a_put 0x08 ∷ look ∷ a_put 0x08 ∷ look ∷ a_get ∷ a_put 0x08
    ∷ a_get ∷ []))
    (0 ∷ 0 ∷ 1 ∷ 0x00 ∷ 0x0d ∷ []) ∷
    row (on_after [] (a_put 0x07 ∷ a_put 1 ∷ a_put 0xff ∷ a_put 2 ∷ a_put 0x08 ∷ a_put 0x08 ∷ [])).flash flash ∷
    -- VI. Refusals, and states that steps don't reach: those are given by hand, beside neighbours that exist.
    -- A refused step changes nothing and replies 1.
    row (fresh_replies [] (raw (0 ∷ 2 ∷ 1 ∷ 7 ∷ 2 ∷ []))) (1 ∷ 0 ∷ 1 ∷ 1 ∷ 0 ∷ []) ∷
    row (fresh_after [] (raw (0 ∷ 2 ∷ 1 ∷ 7 ∷ 2 ∷ []))) (fresh_after [] (raw (0 ∷ 2 ∷ 2 ∷ []))) ∷
    -- The model tests its settings by 1 to 3 and 18, then 19 (VII), then 17, then 16.
    row (map (λ u. step_refusal u fresh [] 1) (of_sizes 2 511 0 0 ∷ of_sizes 3 511 0 0 ∷ of_sizes 3 512 0 0 ∷ of_sizes 3 512 1 0
    ∷ of_sizes 3 512 1 1 ∷ []))
    (1 ∷ 2 ∷ 3 ∷ 18 ∷ 17 ∷ []) ∷
    -- 17: flash length not size times count; 16: step 1 or above 6.
    row (step_refusal (lends []) fresh (replicate 511 0) 1 ∷ step_refusal (lends []) fresh (replicate 513 0) 1 ∷ [])
    (17 ∷ 17 ∷ []) ∷
    row (map (step_refusal (lends []) fresh flash) (0 ∷ 1 ∷ 2 ∷ 3 ∷ 4 ∷ 5 ∷ 6 ∷ 7 ∷ 255 ∷ []))
    (0 ∷ 16 ∷ 0 ∷ 0 ∷ 0 ∷ 0 ∷ 0 ∷ 16 ∷ 16 ∷ []) ∷
    -- 17: fewer bits are heard than the field has, and have no more than that value.
    row (at_points (Ins 1 1 ∷ Ins 2 0 ∷ Ins 0 1 ∷ Ins 1 2 ∷ [])) (0 ∷ 17 ∷ 17 ∷ 17 ∷ []) ∷
    row (at_points (WriteLength 1 1 ∷ WriteLength 2 0 ∷ WriteLength 0 1 ∷ WriteLength 1 2 ∷ [])) (0 ∷ 17 ∷ 17 ∷ 17 ∷ []) ∷
    row (at_points (ReadLength 1 1 ∷ ReadLength 2 0 ∷ ReadLength 0 1 ∷ ReadLength 1 2 ∷ [])) (0 ∷ 17 ∷ 17 ∷ 17 ∷ []) ∷
    row (at_points (Address 7 127 ∷ Address 8 0 ∷ Address 7 128 ∷ [])) (0 ∷ 17 ∷ 17 ∷ []) ∷
    row (at_points (Data 7 127 ∷ Data 8 0 ∷ Data 7 128 ∷ [])) (0 ∷ 17 ∷ 17 ∷ []) ∷
    row (at_points (LongData 1 ∷ LongData 32 ∷ LongData 0 ∷ LongData 33 ∷ [])) (0 ∷ 0 ∷ 17 ∷ 17 ∷ []) ∷
    -- 17: after a WAIT come 8 bits read, none in a write, or none, 16, 24 or 32 zeros with LENGTH not 0.
    row (at_points (Wait 8 Read ∷ Wait 7 Read ∷ Wait 9 Read ∷ Wait 0 Read ∷ [])) (0 ∷ 17 ∷ 17 ∷ 17 ∷ []) ∷
    row (at_points (Wait 0 (Write 255) ∷ Wait 0 (Write 256) ∷ Wait 8 (Write 0) ∷ [])) (0 ∷ 17 ∷ 17 ∷ []) ∷
    row (at_points (Wait 0 Nothing ∷ Wait 16 Nothing ∷ Wait 24 Nothing ∷ Wait 32 Nothing ∷ Wait 8 Nothing ∷ Wait 40 Nothing ∷ []))
    (0 ∷ 0 ∷ 0 ∷ 0 ∷ 17 ∷ 17 ∷ []) ∷
    row (at_points (Wait 8 CountDown ∷ Wait 0 (SetAddress 0) ∷ Waiting 0 8 CountDown ∷ Waiting 0 0 (SetAddress 0) ∷ [])) (replicate 4 17) ∷
    -- 17: after a zero of a WAIT at most 18 are left with limit 20, and the limit less 2 with any other.
    row (at_points (Waiting 18 8 Read ∷ Waiting 19 8 Read ∷ Waiting 0 7 Read ∷ [])) (0 ∷ 17 ∷ 17 ∷ []) ∷
    row (map (λ l. step_refusal (setup (with_limit l) no_pairs []) (target (Waiting 1 8 Read) 0 false cleared) flash 0) (1 ∷ 2 ∷ 3 ∷ []))
    (17 ∷ 17 ∷ 0 ∷ []) ∷
    -- 17: at most 8 bits of a byte are left, or 32 zeros; writes send none.
    row (at_points (Send 8 255 Read ∷ Send 1 1 Read ∷ Send 0 0 Read ∷ Send 9 0 Read ∷ Send 1 2 Read ∷ [])) (0 ∷ 0 ∷ 17 ∷ 17 ∷ 17 ∷ []) ∷
    row (at_points (Send 8 255 CountDown ∷ Send 9 0 CountDown ∷ Send 1 2 CountDown ∷ [])) (0 ∷ 17 ∷ 17 ∷ []) ∷
    row (at_points (Send 32 0 Nothing ∷ Send 33 0 Nothing ∷ Send 1 1 Nothing ∷ [])) (0 ∷ 17 ∷ 17 ∷ []) ∷
    row (at_points (Send 1 0 (Write 0) ∷ Send 1 0 (SetAddress 0) ∷ [])) (17 ∷ 17 ∷ []) ∷
    -- 17: what is written is a byte.
    row (at_points (Stop (Write 255) ∷ Stop (Write 256) ∷ Stop (SetAddress 255) ∷ Stop (SetAddress 256) ∷ [])) (0 ∷ 17 ∷ 0 ∷ 17 ∷ []) ∷
    -- 17: a command's page and block lie in the flash, its address has two bytes, its bytes are 1 to 256.
    row (at_commands (EraseConfirm 0 ∷ EraseConfirm 1 ∷ [])) (0 ∷ 17 ∷ []) ∷
    row (at_commands (Low true 255 ∷ Low true 256 ∷ LengthCode true 65535 ∷ LengthCode true 65536 ∷ [])) (0 ∷ 17 ∷ 0 ∷ 17 ∷ []) ∷
    row (at_commands (Byte 256 256 ∷ Byte 511 1 ∷ Byte 257 256 ∷ Byte 0 257 ∷ Byte 0 0 ∷ [])) (0 ∷ 0 ∷ 17 ∷ 17 ∷ 17 ∷ []) ∷
    row (at_commands (PastEnd 256 ∷ PastEnd 1 ∷ PastEnd 257 ∷ PastEnd 0 ∷ [])) (0 ∷ 0 ∷ 17 ∷ 17 ∷ []) ∷
    -- 17: so do the blocks of the output.
    row (at_outputs (StatusBlock 256 256 ∷ StatusBlock 257 256 ∷ StatusBlock 0 257 ∷ StatusBlock 0 0 ∷ [])) (0 ∷ 17 ∷ 17 ∷ 17 ∷ []) ∷
    row (at_outputs (Block 256 256 ∷ Block 257 256 ∷ Block 0 257 ∷ Block 0 0 ∷ [])) (0 ∷ 17 ∷ 17 ∷ 17 ∷ []) ∷
    -- 17: the address register, d and e are bytes, and there are three key writes.
    row (map (λ x. step_refusal (lends []) (target Start 0 false x) flash 0) (unmet 255 true 3 (link Ready Empty 255 255)
    ∷ unmet 256 true 0 (link Ready Empty 0 0) ∷ unmet 0 true 4 (link Ready Empty 0 0) ∷ unmet 0 true 0 (link Ready Empty 256 0)
    ∷ unmet 0 true 0 (link Ready Empty 0 256) ∷ []))
    (0 ∷ 17 ∷ 17 ∷ 17 ∷ 17 ∷ []) ∷
    -- 17: all three are counted only between two frames.
    row (map (λ x. step_refusal (lends []) x flash 0) (target (Ins 0 0) 0 false (unmet 2 false 2 (link Ready Empty 0 0))
    ∷ target (Ins 0 0) 0 false (unmet 2 false 3 (link Ready Empty 0 0)) ∷ target (Stop (Write 1)) 0 false (unmet 2 false 2
    (link Ready Empty 0 0)) ∷ target (Stop (Write 1)) 0 false (unmet 2 false 3 (link Ready Empty 0 0)) ∷ []))
    (0 ∷ 17 ∷ 0 ∷ 17 ∷ []) ∷
    -- VII. Wanted pairs. Here the device wants 0x83 in register 0xB2, unless a row says otherwise.
    -- Erase and block write answer status 0x00 to their command byte and end there: the next byte put is a
    -- new command.
    row (wanting_reads (pair 0xb2 0x83) (on ++ a_put 0x08 ∷ look ∷ a_get ∷ a_put 0x06 ∷ a_get ∷ [])) (1 ∷ 0x00 ∷ 0x0d ∷ []) ∷
    row (wanting_reads (pair 0xb2 0x83) (on ++ a_put 0x07 ∷ look ∷ a_get ∷ a_put 0x06 ∷ a_get ∷ [])) (1 ∷ 0x00 ∷ 0x0d ∷ []) ∷
    -- They change no flash.
    row (wanting_after (pair 0xb2 0x83) (on ++ a_put 0x08 ∷ a_put 0 ∷ a_put 0 ∷ [])).flash flash ∷
    row (wanting_after (pair 0xb2 0x83) (on ++ a_put 0x07 ∷ a_put 0 ∷ a_put 0 ∷ a_put 1 ∷ a_put 0x3c ∷ [])).flash flash ∷
    -- They take d and e as any put with output.
    row (left_by (setup settings (pair 0xb2 0x83) (replicate 9 0)) fresh flash (steps_given (on ++ a_put 0x08 ∷ []))).target.place 6 ∷
    -- Block read and unknown commands are as before.
    row (wanting_reads (pair 0xb2 0x83) (on ++ a_put 0x06 ∷ a_get ∷ a_put 0 ∷ a_put 0 ∷ a_put 1 ∷ a_get ∷ a_get ∷ a_put 0x03 ∷ a_get ∷ []))
    (0x0d ∷ 0x0d ∷ 0x0f ∷ 0x00 ∷ []) ∷
    -- Once the wanted value is written they are as before.
    row (wanting_reads (pair 0xb2 0x83) (on ++ write 0xb2 0x83 ++ a_put 0x08 ∷ a_get ∷ a_put 0 ∷ a_get ∷ a_put 0 ∷ a_get ∷ []))
    (0x0d ∷ 0x0d ∷ 0x0d ∷ []) ∷
    row (wanting_after (pair 0xb2 0x83) (on ++ write 0xb2 0x83 ++ a_put 0x08 ∷ a_put 0 ∷ a_put 0 ∷ [])).flash (replicate 512 0xff) ∷
    row (wanting_after (pair 0xb2 0x83) (on ++ write 0xb2 0x83 ++ a_put 0x07 ∷ a_put 0 ∷ a_put 0 ∷ a_put 1 ∷ a_put 0x3c ∷ [])).flash
    (set flash 0 0x0c) ∷
    -- It is written by a Data Write at that register, of that value, at its STOP.
    row (wanting_reads (pair 0xb2 0x83) (on ++ write 0xb3 0x83 ++ a_put 0x08 ∷ a_get ∷ write 0xb2 0x82 ++ a_put 0x08 ∷ a_get ∷ []))
    (0x00 ∷ 0x00 ∷ []) ∷
    row (wanting_after (pair 0xb2 0x83) (to 0xb2 ∷ raw (take 14 (steps_given (a_put 0x83 ∷ []))))).target.device.met.first false ∷
    -- A frame with LENGTH not 0 is no Data Write: it writes neither the wanted value nor another.
    row (wanting_reads (pair 0xb2 0x01) (on ++ to 0xb2 ∷ long_put 1 ++ to 0xb4 ∷ a_put 0x08 ∷ a_get ∷ write 0xb2 0x01 ++ a_put 0x08
    ∷ a_get ∷ []))
    (0x00 ∷ 0x0d ∷ []) ∷
    row (wanting_reads (pair 0xb2 0x83) (on ++ write 0xb2 0x83 ++ to 0xb2 ∷ long_put 1 ++ to 0xb4 ∷ a_put 0x08 ∷ a_get ∷ [])) (0x0d ∷ []) ∷
    -- The last value decides.
    row (wanting_reads (pair 0xb2 0x83) (on ++ write 0xb2 0x83 ++ write 0xb2 0x00 ++ a_put 0x08 ∷ a_get ∷ [])) (0x00 ∷ []) ∷
    row (wanting_reads (pair 0xb2 0x83) (on ++ write 0xb2 0x00 ++ write 0xb2 0x83 ++ a_put 0x08 ∷ a_get ∷ [])) (0x0d ∷ []) ∷
    -- Nothing written is not 0x00.
    row (wanting_reads (pair 0xb2 0x00) (on ++ a_put 0x08 ∷ a_get ∷ write 0xb2 0x00 ++ a_put 0x08 ∷ a_get ∷ [])) (0x00 ∷ 0x0d ∷ []) ∷
    -- It is the last value since the reset: step 4 forgets, the wait and step 6 don't.
    row (wanting_reads (pair 0xb2 0x83) (on ++ write 0xb2 0x83 ++ bare 4 ∷ on ++ a_put 0x08 ∷ a_get ∷ [])) (0x00 ∷ []) ∷
    row (wanting_reads (pair 0xb2 0x83) (on ++ write 0xb2 0x83 ++ bare 5 ∷ bare 6 ∷ a_put 0x08 ∷ a_get ∷ [])) (0x0d ∷ []) ∷
    -- A value written with the interface off, before the keys, counts too.
    row (wanting_reads (pair 0xb2 0x83) (write 0xb2 0x83 ++ on ++ a_put 0x08 ∷ a_get ∷ [])) (0x0d ∷ []) ∷
    -- Such a write is among the last three Data Writes: between the keys it turns nothing on.
    row (wanting_reads (pair 0xb2 0x83) (to 0x02 ∷ a_put 0x02 ∷ a_put 0x04 ∷ to 0xb2 ∷ a_put 0x83 ∷ to 0x02 ∷ a_put 0x01 ∷ bare 5
    ∷ to 0xb4 ∷ look ∷ []))
    (0xb4 ∷ []) ∷
    -- It is looked at when the command byte is put: a register written otherwise in mid-command does not stop
    -- the command, but the next.
    row (wanting_reads (pair 0xb2 0x83) (on ++ write 0xb2 0x83 ++ a_put 0x08 ∷ write 0xb2 0x00 ++ a_put 0 ∷ a_get ∷ a_put 0 ∷ a_get
    ∷ a_put 0x08 ∷ a_get ∷ []))
    (0x0d ∷ 0x0d ∷ 0x00 ∷ []) ∷
    row (wanting_after (pair 0xb2 0x83) (on ++ write 0xb2 0x83 ++ a_put 0x07 ∷ write 0xb2 0x00 ++ a_put 0 ∷ a_put 0 ∷ a_put 1
    ∷ a_put 0x3c ∷ [])).flash
    (set flash 0 0x0c) ∷
    -- Each of four wanted pairs must be met: all are, and then one of them no more.
    row (map (λ ms. wanting_reads four_pairs (on ++ write 3 1 ++ write 4 2 ++ write 5 3 ++ write 0xff 4 ++ ms ++ a_put 0x08 ∷ a_get ∷ []))
    ([] ∷ write 3 0 ∷ write 4 0 ∷ write 5 0 ∷ write 0xff 0 ∷ write 6 0 ∷ []))
    ((0x0d ∷ []) ∷ (0x00 ∷ []) ∷ (0x00 ∷ []) ∷ (0x00 ∷ []) ∷ (0x00 ∷ []) ∷ (0x0d ∷ []) ∷ []) ∷
    -- Entries from the count on are not looked at.
    row (wanting_reads (pairs 1 (0xb2 ∷ 0xff ∷ 2 ∷ 0xb4 ∷ []) (0x83 ∷ 1 ∷ 2 ∷ 3 ∷ [])) (on ++ write 0xb2 0x83 ++ a_put 0x08 ∷ a_get ∷ []))
    (0x0d ∷ []) ∷
    -- A register that is wanted with two values is never as wanted; one that is wanted twice with the same
    -- value is as once.
    row (wanting_reads (pairs 2 (0xb2 ∷ 0xb2 ∷ 0 ∷ 0 ∷ []) (0x83 ∷ 0x84 ∷ 0 ∷ 0 ∷ [])) (on ++ write 0xb2 0x83 ++ a_put 0x08 ∷ a_get
    ∷ write 0xb2 0x84 ++ a_put 0x08 ∷ a_get ∷ []))
    (0x00 ∷ 0x00 ∷ []) ∷
    row (wanting_reads (pairs 2 (0xb2 ∷ 0xb2 ∷ 0 ∷ 0 ∷ []) (0x83 ∷ 0x83 ∷ 0 ∷ 0 ∷ [])) (on ++ write 0xb2 0x83 ++ a_put 0x08 ∷ a_get ∷ []))
    (0x0d ∷ []) ∷
    -- 19: a register below 3 or equal to the FPDAT address, or more than four pairs, in either list.
    row (map (with_pairs no_pairs) (pair 3 0 ∷ pair 0xff 0 ∷ pair 2 0 ∷ pair 0 0 ∷ pair 0xb4 0 ∷ four_pairs ∷ five_pairs ∷ []))
    (0 ∷ 0 ∷ 19 ∷ 19 ∷ 19 ∷ 0 ∷ 19 ∷ []) ∷
    row (map (λ p. with_pairs p no_pairs) (pair 3 0 ∷ pair 0xff 0 ∷ pair 2 0 ∷ pair 0 0 ∷ pair 0xb4 0 ∷ four_pairs ∷ five_pairs ∷ []))
    (0 ∷ 0 ∷ 19 ∷ 19 ∷ 19 ∷ 0 ∷ 19 ∷ []) ∷
    row (map (with_pairs no_pairs) (pairs 4 (3 ∷ 4 ∷ 5 ∷ 0xb4 ∷ []) (replicate 4 0) ∷ pairs 3 (3 ∷ 4 ∷ 5 ∷ 0xb4 ∷ []) (replicate 4 0) ∷ []))
    (19 ∷ 0 ∷ []) ∷
    -- It is tested after 18, and before 17 and 16.
    row (step_refusal (setup (with_limit 0) (pair 2 0) []) fresh flash 0 ∷ step_refusal (setup settings (pair 2 0) []) fresh [] 1 ∷ [])
    (18 ∷ 19 ∷ []) ∷
    []

infixr 5 ◌&◌
-- Every row agrees with the paper.
pub data Agree : List Row → Type 1 where
  no_more : Agree []
  ◌&◌ : {r : Row} {rows : List Row} → r.given ≡ r.paper → Agree rows → Agree (r ∷ rows)

abbrev pub Corners : Type 1
Corners = Agree table
