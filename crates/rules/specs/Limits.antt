-- The limits (docs/RULES.md, L1 to L8). Each is a number of things: the largest page number is one less than `pages`.
use Rattle.std.specs.Prelude.{ℕ, Bool, ◌&&◌, leb}

-- L1: K and every capacity are 1 to this
abbrev pub capacities : ℕ
capacities = 64

-- L2: a trace or a session has at most this many references
abbrev pub references : ℕ
references = 4096

-- L3: page numbers are below this
abbrev pub pages : ℕ
pages = 1024

-- L4: frame numbers are below this
abbrev pub frames : ℕ
frames = 64

-- L5: at most this many frames are held at once
abbrev pub held : ℕ
held = 32

-- L6: the row has this many slots
abbrev pub slots : ℕ
slots = 64

-- L7: policy numbers are below this, and a session takes those below `opt`
abbrev pub policies : ℕ
policies = 3

abbrev pub lru : ℕ
lru = 0

abbrev pub lfu : ℕ
lfu = 1

abbrev pub opt : ℕ
opt = 2

-- L8: bank numbers are below this, and each bank has so many frames
abbrev pub banks : ℕ
banks = 4

abbrev pub bank_frames : ℕ
bank_frames = 16

-- L1 as a test: is this number one of 1 to the limit?
abbrev pub is_capacity : ℕ → Bool
is_capacity k = leb 1 k && leb k capacities
