-- What a gatherer holds when the loan of its text ends.
use Rattle.std.specs.Prelude.{ℕ, List}
use Rattle.std.specs.Borrow.{RattleType, Lends, Fml, MutBor, u8}
use Rattle.std.specs.contracts.alloc.Global as global
use Rattle.std.specs.contracts.vec.Vec as vec
use Rattle.std.specs.contracts.impls.GlobalAllocator.TheImpl.{ghosts}
use Rattle.line_io.specs.contracts.gather.Gather.{the_row}

-- `Vec<u8>`, as the logic holds it
abbrev pub bytes_row : RattleType
bytes_row = vec.the_row u8 global.the_row ghosts

-- the gatherer's text is what the vector that is lent holds at the end
abbrev pub LendsText : MutBor (List ℕ) → MutBor bytes_row.Denot → Fml
LendsText gather text = Lends the_row bytes_row gather text (λ vector. vector.items)
