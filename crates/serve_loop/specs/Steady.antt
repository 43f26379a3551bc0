-- What a server needs of its sink and its wire so that nothing but want of memory stops it.
use Rattle.std.specs.Prelude.{ℕ, ◌+◌, List, length, sum_by}
use Rattle.ram_io.specs.{Outgoing}

-- the bytes of these datagrams, together
abbrev pub bytes_of : List Outgoing → ℕ
bytes_of datagrams = sum_by (λ datagram. length datagram.bytes) datagrams

-- Room beside what is said: so many bytes of text, and so many bytes in so many datagrams.
pub record Room : Type 0 where
  pub text : ℕ
  pub bytes : ℕ
  pub datagrams : ℕ

-- A sink and a wire that are steady for so much have room for this text and these datagrams, and more.
pub record HasRoom (sink : ℕ → Type 0) (wire : ℕ → ℕ → Type 0) (text : List ℕ) (datagrams : List Outgoing) (more : Room) : Type 0 where
  pub text_fits : sink (length text + more.text)
  pub datagrams_fit : wire (bytes_of datagrams + more.bytes) (length datagrams + more.datagrams)
