-- What contracts see of a receiver.
use Rattle.std.specs.Prelude.{ℕ, ◌+◌, ◌-◌, ◌<◌, ◌≤◌, ◌^◌, false, length, Option, None, Some, option_and_then}
use Rattle.rams_model.specs.declared.Tuned.{Tuned}
use Rattle.rams_model.specs.Receiver.{Playing, Reception, nothing_got, nearest, joining}

pub record Seen : Type 0 where
  pub tuned : Tuned
  pub got : Reception

-- a receiver that has got nothing
abbrev pub just_tuned : Tuned → Seen
just_tuned t = record { tuned = t; got = nothing_got }

abbrev pub with_got : Reception → Seen → Seen
with_got got r = record r { got = got }

-- how many packets were presented, or wait
abbrev pub played : Option Playing → ℕ
played None = 0
played (Some p) = p.next - p.first + length p.waits

abbrev pub reach : Seen → ℕ
reach r = played r.got.play

-- a receiver that was told no more than this
abbrev pub named_alone : Option ℕ → Reception
named_alone named = record { named = named; ended = false; play = None }

-- the number that a receiver joins the multicast with, where it does so with a packet of these low bits
abbrev pub joining_by : ℕ → Option Playing → Option ℕ
joining_by low play = option_and_then (λ p. joining p (nearest p.next low)) play

-- the next number leaves room below 2^64, and is no less than the first
pub record IsSafe (p : Playing) : Type 0 where
  pub low : 65536 ≤ p.next
  pub high : p.next < 2 ^ 62

-- the numbers begin low, and go no further than by so many
pub record IsBounded (most : ℕ) (p : Playing) : Type 0 where
  pub low : 65536 ≤ p.first
  pub high : p.first < 131072
  pub above : p.first ≤ p.next
  pub reach : p.next + length p.waits ≤ p.first + most
