-- The words of the command line, behind the program's name.
use Rattle.std.specs.Prelude.{◌≡◌, ℕ, ◌≤◌, ◌<◌, ◌-◌, ◌^◌, if◌then◌else◌, Bool, true, false, List, [], ◌∷◌, Option, None, Some, codes, bytes_eq}
use Rattle.std.specs.Int.{is_in_range}
use Rattle.rams_model.specs.Texts.{number_in}
use Rattle.rams_replay.specs.declared.words.Command.{Command}
use Rattle.rams_replay.specs.declared.words.Command.TheVariants.{Run, Meet, Make, Serve, Sdp, Describe, Pcap, Threads, Pool, Takeover}

-- the number, where it is from low to high
abbrev pub within : ℕ → ℕ → Option ℕ → Option ℕ
within low high None = None
within low high (Some n) = if is_in_range low high n then Some n else None

-- the number of a word in decimal digits, where it is from low to high
abbrev pub number_within : ℕ → ℕ → List ℕ → Option ℕ
number_within low high word = within low high (number_in word)

abbrev pub make_of : Option ℕ → Option ℕ → Option Command
make_of None blocks = None
make_of (Some seed) None = None
make_of (Some seed) (Some blocks) = Some (Make seed blocks)

abbrev pub serve_of : Option ℕ → Option ℕ → Option Command
serve_of None turns = None
serve_of (Some port) None = None
serve_of (Some port) (Some turns) = Some (Serve port turns)

abbrev pub describe_of : Option ℕ → Option Command
describe_of None = None
describe_of (Some port) = Some (Describe port)

abbrev pub pcap_of : Option ℕ → Option Command
pcap_of None = None
pcap_of (Some port) = Some (Pcap port)

abbrev pub threads_of : Option ℕ → Option Command
threads_of None = None
threads_of (Some workers) = Some (Threads workers)

abbrev pub pool_of : Option ℕ → Option Command
pool_of None = None
pool_of (Some rate) = Some (Pool rate)

abbrev pub takeover_of : Option ℕ → Option ℕ → Option Command
takeover_of None turns = None
takeover_of (Some port) None = None
takeover_of (Some port) (Some turns) = Some (Takeover port turns)

-- `run`, `meet` or `sdp` alone
abbrev pub alone : List ℕ → Option Command
alone word =
    if bytes_eq word (codes "run") then Some Run
    else if bytes_eq word (codes "meet") then Some Meet
    else if bytes_eq word (codes "sdp") then Some Sdp
    else None

-- `describe PORT`, `pcap PORT`, `threads WORKERS` or `pool RATE`
abbrev pub with_number : List ℕ → List ℕ → Option Command
with_number word first =
    if bytes_eq word (codes "describe") then describe_of (number_within 1 65000 first)
    else if bytes_eq word (codes "pcap") then pcap_of (number_within 1 65000 first)
    else if bytes_eq word (codes "threads") then threads_of (number_within 1 16 first)
    else if bytes_eq word (codes "pool") then pool_of (number_within 1 1000000000 first)
    else None

-- `run`, `meet` or `sdp` alone, `describe PORT`, `pcap PORT`, `threads WORKERS`, `pool RATE`, `make SEED BLOCKS`, `serve PORT TURNS` or `takeover PORT TURNS`
abbrev pub command_of : List (List ℕ) → Option Command
command_of [] = None
command_of (word ∷ []) = alone word
command_of (word ∷ first ∷ []) = with_number word first
command_of (word ∷ first ∷ second ∷ []) =
    if bytes_eq word (codes "make") then make_of (number_within 0 (2 ^ 32 - 1) first) (number_within 1 50000 second)
    else if bytes_eq word (codes "serve") then serve_of (number_within 1024 65000 first) (number_within 1 500000 second)
    else if bytes_eq word (codes "takeover") then takeover_of (number_within 1024 65000 first) (number_within 1 500000 second)
    else None
command_of (word ∷ first ∷ second ∷ other ∷ rest) = None

-- it is a command which waits for nobody
abbrev pub is_plain : Option Command → Bool
is_plain None = false
is_plain (Some (Serve port turns)) = false
is_plain (Some (Threads workers)) = false
is_plain (Some (Pool rate)) = false
is_plain (Some (Takeover port turns)) = false
is_plain (Some _) = true

-- the numbers of a command are within their bounds
abbrev pub IsWithin : Command → Type 0
IsWithin (Describe port) = (1 ≤ port) × (port ≤ 65000)
IsWithin (Pcap port) = (1 ≤ port) × (port ≤ 65000)
IsWithin (Make seed blocks) = (seed < 2 ^ 32) × (1 ≤ blocks) × (blocks ≤ 50000)
IsWithin (Serve port turns) = (1024 ≤ port) × (port ≤ 65000) × (1 ≤ turns) × (turns ≤ 500000)
IsWithin (Takeover port turns) = (1024 ≤ port) × (port ≤ 65000) × (1 ≤ turns) × (turns ≤ 500000)
IsWithin (Threads workers) = (0 < workers) × (workers ≤ 16)
IsWithin (Pool rate) = (0 < rate) × (rate ≤ 1000000000)
IsWithin _ = Unit {0}

-- the words are `run`
abbrev pub AreRun : List (List ℕ) → Type 0
AreRun words = command_of words ≡ Some Run

-- the words are `meet`
abbrev pub AreMeet : List (List ℕ) → Type 0
AreMeet words = command_of words ≡ Some Meet

-- the words are `sdp`
abbrev pub AreSdp : List (List ℕ) → Type 0
AreSdp words = command_of words ≡ Some Sdp

-- the words are `describe PORT`
abbrev pub AreDescribe : List (List ℕ) → ℕ → Type 0
AreDescribe words port = command_of words ≡ Some (Describe port)

-- the words are `pcap PORT`
abbrev pub ArePcap : List (List ℕ) → ℕ → Type 0
ArePcap words port = command_of words ≡ Some (Pcap port)

-- the words are `threads WORKERS`
abbrev pub AreThreads : List (List ℕ) → ℕ → Type 0
AreThreads words workers = command_of words ≡ Some (Threads workers)

-- the words are `pool RATE`
abbrev pub ArePool : List (List ℕ) → ℕ → Type 0
ArePool words rate = command_of words ≡ Some (Pool rate)

-- the words are `make SEED BLOCKS`
abbrev pub AreMake : List (List ℕ) → ℕ → ℕ → Type 0
AreMake words seed blocks = command_of words ≡ Some (Make seed blocks)

-- the words are `serve PORT TURNS`
abbrev pub AreServe : List (List ℕ) → ℕ → ℕ → Type 0
AreServe words port turns = command_of words ≡ Some (Serve port turns)

-- the words are `takeover PORT TURNS`
abbrev pub AreTakeover : List (List ℕ) → ℕ → ℕ → Type 0
AreTakeover words port turns = command_of words ≡ Some (Takeover port turns)

abbrev pub port_in : Option Command → Option ℕ
port_in (Some (Serve port turns)) = Some port
port_in (Some (Takeover port turns)) = Some port
port_in _ = None

-- the live port of the first channel, where the words are `serve PORT TURNS` or `takeover PORT TURNS`
abbrev pub port_of : List (List ℕ) → Option ℕ
port_of words = port_in (command_of words)
