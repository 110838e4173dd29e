-- The numbers that come back (documents 01 and 02), each given exactly if its comment holds.
use Rattle.std.specs.Prelude.{ℕ, Result, Ok, Err}
use Rattle.numbers.specs.declared.Refusal.{Refusal}
use Rattle.numbers.specs.declared.Refusal.TheVariants.{BadFpdat, BadPageSize, BadPageCount, BadWaitLimit, BadPairs, BadImage, PastLastPage, BadRecord, OtherImage, NoRoom, NoStep, NoPoint, BadLine, BadChecksum, BadHexRecord, SetTwice, NoEndRecord, NoData, BufferTooSmall, BadDumps, BadMessage, BadMask, BadImageLength}

-- the session is running
abbrev pub running : ℕ
running = 0

-- the session ended done
abbrev pub done : ℕ
done = 32

-- FPDAT address below 3
abbrev pub bad_fpdat : ℕ
bad_fpdat = 1

-- page size neither 512 nor 1,024
abbrev pub bad_page_size : ℕ
bad_page_size = 2

-- page count 0, or size times count above 65,536
abbrev pub bad_page_count : ℕ
bad_page_count = 3

-- WAIT limit 0; tested after 3
abbrev pub bad_wait_limit : ℕ
bad_wait_limit = 18

-- more than four pairs, or a register below 3 or equal to the FPDAT address; tested after 18
abbrev pub bad_pairs : ℕ
bad_pairs = 19

-- image empty or not whole pages
abbrev pub bad_image : ℕ
bad_image = 4

-- first page plus image pages above page count
abbrev pub past_last_page : ℕ
past_last_page = 5

-- record not 32 bytes, or not a session in range
abbrev pub bad_record : ℕ
bad_record = 6

-- image length differs from the session's
abbrev pub other_image : ℕ
other_image = 7

-- place plus number of replies above the step buffer's length
abbrev pub no_room : ℕ
no_room = 8

-- reply neither 0 nor 1
abbrev pub bad_reply : ℕ
bad_reply = 9

-- the zero that reaches the limit in a WAIT
abbrev pub wait_limit_reached : ℕ
wait_limit_reached = 10

-- the unsatisfied read that reaches the limit in a poll (the 256th)
abbrev pub poll_limit_reached : ℕ
poll_limit_reached = 11

-- device ID differs
abbrev pub other_device : ℕ
other_device = 12

-- status not 0x0D
abbrev pub bad_status : ℕ
bad_status = 13

-- byte read differs from the image
abbrev pub compare_differs : ℕ
compare_differs = 14

-- model: step 1 or above 6
abbrev pub no_step : ℕ
no_step = 16

-- model: flash length not size times count, or its own state names a point that no frame or command has
abbrev pub no_point : ℕ
no_point = 17

-- HEX line: a bad character, digit count or line end
abbrev pub bad_line : ℕ
bad_line = 20

-- HEX line: the record's bytes, checksum included, don't add up to 0
abbrev pub bad_checksum : ℕ
bad_checksum = 21

-- HEX record: type neither 00 nor 01, type 01 with length or address not 0, or data past the last flash byte
abbrev pub bad_hex_record : ℕ
bad_hex_record = 22

-- HEX record: a byte set twice
abbrev pub set_twice : ℕ
set_twice = 23

-- HEX file: no end record, or anything after it
abbrev pub no_end_record : ℕ
no_end_record = 24

-- HEX file: no data
abbrev pub no_data : ℕ
no_data = 25

-- buffer to be filled too small
abbrev pub buffer_too_small : ℕ
buffer_too_small = 26

-- two dumps of different length, or of a length that is not a whole number of pages (document 02, k)
abbrev pub bad_dumps : ℕ
bad_dumps = 31

-- the number by which a refusal comes back; radio_command has names for 28 to 30
abbrev pub refusal_number : Refusal → ℕ
refusal_number BadFpdat = bad_fpdat
refusal_number BadPageSize = bad_page_size
refusal_number BadPageCount = bad_page_count
refusal_number BadImage = bad_image
refusal_number PastLastPage = past_last_page
refusal_number BadRecord = bad_record
refusal_number OtherImage = other_image
refusal_number NoRoom = no_room
refusal_number NoStep = no_step
refusal_number NoPoint = no_point
refusal_number BadWaitLimit = bad_wait_limit
refusal_number BadPairs = bad_pairs
refusal_number BadLine = bad_line
refusal_number BadChecksum = bad_checksum
refusal_number BadHexRecord = bad_hex_record
refusal_number SetTwice = set_twice
refusal_number NoEndRecord = no_end_record
refusal_number NoData = no_data
refusal_number BufferTooSmall = buffer_too_small
refusal_number BadMessage = 28
refusal_number BadMask = 29
refusal_number BadImageLength = 30
refusal_number BadDumps = bad_dumps

-- the number that a test answers: 0 where what it tests is accepted
abbrev pub number_of : {A : Type 0} → Result A Refusal → ℕ
number_of (Ok _) = 0
number_of (Err e) = refusal_number e
