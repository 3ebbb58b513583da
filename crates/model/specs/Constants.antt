-- The numbers of the calls, of the answers in R0 and of the errors in R2, and the sizes of the machine: each once, by name.
use Rattle.std.specs.Prelude.{ℕ, ◌-◌, ◌^◌}

-- sizes
abbrev pub PAGE : ℕ
PAGE = 1024

abbrev pub GUESTS : ℕ
GUESTS = 8

abbrev pub PAGES : ℕ
PAGES = 64

abbrev pub HANDLES : ℕ
HANDLES = 16

-- the pages that one transaction can hold
abbrev pub PLACES : ℕ
PLACES = 8

abbrev pub WORD : ℕ
WORD = 2 ^ 32

-- R0 of an answer
abbrev pub ERROR : ℕ
ERROR = 0x84000060

abbrev pub SUCCESS : ℕ
SUCCESS = 0x84000061

-- R0 of a call
abbrev pub POLL : ℕ
POLL = 0x8400006A

abbrev pub WAIT : ℕ
WAIT = 0x8400006B

abbrev pub YIELD : ℕ
YIELD = 0x8400006C

abbrev pub RUN : ℕ
RUN = 0x8400006D

abbrev pub SEND : ℕ
SEND = 0x8400006E

abbrev pub DONATE : ℕ
DONATE = 0x84000071

abbrev pub LEND : ℕ
LEND = 0x84000072

abbrev pub SHARE : ℕ
SHARE = 0x84000073

abbrev pub RETRIEVE : ℕ
RETRIEVE = 0x84000074

abbrev pub RELINQUISH : ℕ
RELINQUISH = 0x84000076

abbrev pub RECLAIM : ℕ
RECLAIM = 0x84000077

-- R2 of an error: the code modulo 2^32
abbrev pub NOT_SUPPORTED : ℕ
NOT_SUPPORTED = WORD - 1

abbrev pub INVALID : ℕ
INVALID = WORD - 2

abbrev pub NO_MEMORY : ℕ
NO_MEMORY = WORD - 3

abbrev pub BUSY : ℕ
BUSY = WORD - 4

abbrev pub DENIED : ℕ
DENIED = WORD - 6

abbrev pub ABORTED : ℕ
ABORTED = WORD - 8

abbrev pub NO_DATA : ℕ
NO_DATA = WORD - 9
