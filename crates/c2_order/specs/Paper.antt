-- P1 to P12: document 01's own examples in one table, what the definitions give beside what the paper says,
-- and the one statement that they agree.
use Rattle.std.specs.Prelude.{◌≡◌, true, List, [], ◌∷◌, ◌++◌, ℕ, zero, suc, length, replicate}
use Rattle.laws.specs.Bytes.{Bytes}
use Rattle.c2_wire.specs.Exchange.{outcome, asks, steps, fed, outcome_of}
use Rattle.settings.specs.declared.Settings.{Settings}
use Rattle.settings.specs.Registers.{no_pairs}
use Rattle.c2_order.specs.Acts.{Act, poll, expect, address_write, data_write, input_taken, output_ready, length_code, coded_length}
use Rattle.c2_order.specs.Order.{session_order}
use Rattle.c2_order.specs.Conversation.{limits_of, conversation}
use Rattle.c2_order.specs.Point.{begin}
use Rattle.c2_order.specs.Figure.{figure}

-- a device of 128 pages of 512 bytes, with document 01's WAIT limit
abbrev pub paper_device : Settings
paper_device = record { id = 0x04; fpdat = 0xb4; size = 512; count = 128; wait = 20; pairs = no_pairs }

-- the steps of an act, where so many replies are 1; the last step's reply is not given
unfoldable pub steps_of : Act → (replies : ℕ) → List ℕ
steps_of a n = asks (conversation (limits_of paper_device) (a ∷ [])) ∷ steps (conversation (limits_of paper_device) (a ∷ [])) (replicate n 1)

-- the number after an act's replies: 32 where it passed
unfoldable pub number_after : Act → (replies : List ℕ) → ℕ
number_after a rs = (outcome_of (fed (conversation (limits_of paper_device) (a ∷ [])) rs)).number

unfoldable pub times : ℕ → List ℕ → List ℕ
times zero xs = []
times (suc n) xs = xs ++ times n xs

-- the replies to an Address Read that gives 0 (`reads_0`: OutReady and InBusy 0), 1 (`reads_1`: OutReady 1)
-- or 2 (`reads_2`: InBusy 1)
abbrev pub reads_0 : List ℕ
reads_0 = replicate 3 1 ++ 0 ∷ 0 ∷ replicate 6 0 ++ 1 ∷ []

abbrev pub reads_1 : List ℕ
reads_1 = replicate 3 1 ++ 1 ∷ 0 ∷ replicate 6 0 ++ 1 ∷ []

abbrev pub reads_2 : List ℕ
reads_2 = replicate 3 1 ++ 0 ∷ 1 ∷ replicate 6 0 ++ 1 ∷ []

-- the figure at the start
unfoldable pub figure_of : (image : List ℕ) → ℕ
figure_of image = figure (limits_of paper_device) (begin (session_order paper_device 0 image))

pub record Row : Type 0 where
  pub given : List ℕ
  pub paper : List ℕ

abbrev pub row : List ℕ → List ℕ → Row
row g p = record { given = g; paper = p }

-- the table of P1 to P12, over any image of one page of 512 and any of 128 pages
unfoldable pub table : (page device : List ℕ) → List Row
table page device =
    -- P1: Address Write of 0x02
    row (steps_of (address_write 0x02) 11) (0 ∷ 3 ∷ 3 ∷ 2 ∷ 3 ∷ 2 ∷ 2 ∷ 2 ∷ 2 ∷ 2 ∷ 2 ∷ 0 ∷ []) ∷
    -- P2: Address Read
    row (steps_of (poll (λ _. true)) 11) (0 ∷ 2 ∷ 3 ∷ 0 ∷ 0 ∷ 0 ∷ 0 ∷ 0 ∷ 0 ∷ 0 ∷ 0 ∷ 0 ∷ []) ∷
    -- P3: Data Write of 0x04, first WAIT reply 1
    row (steps_of (data_write 0x04) 14) (0 ∷ 3 ∷ 2 ∷ 2 ∷ 2 ∷ 2 ∷ 2 ∷ 3 ∷ 2 ∷ 2 ∷ 2 ∷ 2 ∷ 2 ∷ 0 ∷ 0 ∷ []) ∷
    -- P4: Data Read, first WAIT reply 1: ten more 0
    row (steps_of (expect 0xff (outcome 0)) 14) (0 ∷ 2 ∷ 2 ∷ 2 ∷ 2 ∷ replicate 10 0) ∷
    -- P5: length code 0 means 256, and 256 bytes are sent as 0
    row (coded_length 0 ∷ length_code 256 ∷ []) (256 ∷ 0 ∷ []) ∷
    -- P6: 255 means 255
    row (coded_length 255 ∷ length_code 255 ∷ []) (255 ∷ 255 ∷ []) ∷
    -- P7: a WAIT of 19 zeros and a 1 passes
    row (number_after (data_write 0) (replicate 13 1 ++ replicate 19 0 ++ 1 ∷ 1 ∷ []) ∷ []) (32 ∷ []) ∷
    -- P8: the 20th zero refuses
    row (number_after (data_write 0) (replicate 13 1 ++ replicate 20 0) ∷ []) (10 ∷ []) ∷
    -- P9: a poll satisfied at its 256th read passes, for InBusy 0 and for OutReady 1
    row (number_after (poll input_taken) (times 255 reads_2 ++ reads_0)
    ∷ number_after (poll output_ready) (times 255 reads_0 ++ reads_1) ∷ []) (32 ∷ 32 ∷ []) ∷
    -- P10: the 256th unsatisfied read refuses
    row (number_after (poll input_taken) (times 256 reads_2) ∷ number_after (poll output_ready) (times 256 reads_0) ∷ []) (11 ∷ 11 ∷ []) ∷
    -- P11: one page of 512
    row (figure_of page ∷ []) (3273936 ∷ []) ∷
    -- P12: 128 pages of 512
    row (figure_of device ∷ []) (419044504 ∷ []) ∷ []

abbrev pub Agree : List Row → Type 0
Agree [] = Unit {0}
Agree (r ∷ rows) = (r.given ≡ r.paper) × Agree rows

abbrev pub PaperAgrees : Type 0
PaperAgrees = (page device : List ℕ) → length page ≡ 512 → length device ≡ 65536 → Bytes page → Bytes device → Agree (table page device)
