-- What contracts see of a wire over UDP.
use Rattle.std.specs.Prelude.{ℕ, ◌+◌, ◌<◌, ◌≤◌}

-- Its first local port, how many ports there are one behind another, and how often it failed.
pub record UdpState : Type 0 where
  pub first : ℕ
  pub ports : ℕ
  pub faults : ℕ

-- The port is one of the wire's.
abbrev pub IsPortOf : UdpState → ℕ → Type 0
IsPortOf wire port = (wire.first ≤ port) × (port < wire.first + wire.ports)
