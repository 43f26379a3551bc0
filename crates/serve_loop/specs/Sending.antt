-- What goes out on a wire, and why a server stops.
use Rattle.std.specs.Prelude.{◌≡◌, ℕ, ◌+◌, ◌==◌, ◌≤◌, List, [], ◌∷◌, ◌++◌, map, find, Option, None, Some, Result, IfErr, IfSome}
use Rattle.rams_model.specs.declared.Order.{Order}
use Rattle.rams_model.specs.Service.{Answered, Settings, client_of, datagram}
use Rattle.ram_io.specs.{Outgoing, outgoing, Rose}
use Rattle.server_hub.specs.declared.At.{At}
use Rattle.trace_loop.specs.declared.{Stop.Stop, Stop.TheVariants.Memory, Stop.TheVariants.Wire}

-- these datagrams went out, where the wire tells them
abbrev pub GoOut : Option (List Outgoing) → Option (List Outgoing) → List Outgoing → Type 0
GoOut old new datagrams = IfSome old (λ sent. new ≡ Some (sent ++ datagrams))

-- A front of the datagrams went out, and the rest did not.
pub record Sends (old new : Option (List Outgoing)) (datagrams rest : List Outgoing) : Type 0 where
  pub front : List Outgoing
  pub wire : GoOut old new front
  pub whole : datagrams ≡ front ++ rest

-- the datagrams of these orders, from this port
abbrev pub order_datagrams : Settings → ℕ → List Order → List Outgoing
order_datagrams s port orders = map (λ order. outgoing (client_of order) port (datagram s order)) orders

-- those of an answer, where the channel's settings are there
abbrev pub settled_datagrams : ℕ → Answered → Option Settings → List Outgoing
settled_datagrams port a None = []
settled_datagrams port a (Some s) = order_datagrams s port a.orders

-- those of what one of these channels answers
abbrev pub at_datagrams : ℕ → List Settings → At → List Outgoing
at_datagrams port all at = settled_datagrams port at.answer (find (λ s. s.channel.id == at.id) all)

-- those of what some of these channels answer: the first of them from this port, and each from the one two above that of the one in front of it
unfoldable pub said_datagrams : ℕ → List Settings → List At → List Outgoing
said_datagrams port all [] = []
said_datagrams port all (at ∷ more) = at_datagrams port all at ++ said_datagrams (port + 2) all more

-- the wire's faults rose where the stop is said to be the wire's
abbrev pub IsWireStop : ℕ → ℕ → Stop → Type 0
IsWireStop before now Memory = Unit {0}
IsWireStop before now Wire = Rose before now
IsWireStop before now _ = ⊥

-- The wire's count of faults didn't fall, and it rose where the wire is said to have stopped the call. Neither the source nor the sink is.
pub record IsStoppedByWire {T : Type 0} (before now : ℕ) (result : Result T Stop) : Type 0 where
  pub later : before ≤ now
  pub cause : IfErr result (IsWireStop before now)
