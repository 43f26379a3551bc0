-- Worked examples: a burst that is quiet, and one that is lost, which was not.
use Rattle.std.specs.Prelude.{◌≡◌, true, false, List, [], ◌∷◌}
use Rattle.rams_model.specs.declared.{Event.Event, Event.TheVariants.Feedback, Event.TheVariants.Tick, Cause.TheVariants.Lost}
use Rattle.rams_model.specs.declared.Note.TheVariants.{End}
use Rattle.rams_model.specs.Service.{Settings, has_open, newest_answer, history_of}
use Rattle.rams_model.specs.Laws.{IsQuietBurst, told_join}
use Rattle.rams_model.specs.Worked.Setting.{channel, with_ticks, packet}
use Rattle.service_laws.specs.book_laws.JoinTimes.{ticks_since_told}

-- a RAMS-R of client 5 without TLVs
abbrev pub request : Event
request = Feedback 5 (0x86 ∷ 0xcd ∷ 0 ∷ 3 ∷ 0 ∷ 0 ∷ 0xc0 ∷ 1 ∷ 0x11 ∷ 0x22 ∷ 0x33 ∷ 0x44 ∷ 1 ∷ 0 ∷ 0 ∷ 0 ∷ [])

-- three packets of 1,500 bytes at 2,999 bytes a tick, the newest event in front
abbrev pub three_packets : List Event
three_packets =
    Tick ∷ Tick ∷ Tick ∷ request ∷ packet 12 0 false 1458 ∷ packet 11 0 false 1458 ∷ packet 10 0 true 1458 ∷ []

abbrev pub one_packet_a_tick : Settings
one_packet_a_tick = with_ticks (record channel { burst = 2999; declared = 0; minwire = 1500 })

-- The burst is quiet and open, and as many ticks have passed as the client was told.
pub record IsOver (s : Settings) (events : List Event) : Type 0 where
  pub quiet : IsQuietBurst s 5 65546 (history_of s events)
  pub told : told_join 5 (history_of s events) ≡ 3
  pub since : ticks_since_told 5 (history_of s events) ≡ 3
  pub is_open : has_open s 5 (history_of s events) ≡ true

abbrev pub QuietForThreeTicks : Type 0
QuietForThreeTicks = IsOver one_packet_a_tick three_packets

-- two packets of 142 bytes come before a tick, where 142 bytes are declared
abbrev pub two_packets_more : List Event
two_packets_more =
    Tick ∷ packet 14 0 false 100 ∷ packet 13 0 false 100 ∷ request ∷ packet 12 0 false 100 ∷ packet 11 0 false 100 ∷ packet 10 0 true 100 ∷ []

abbrev pub room_for_four : Settings
room_for_four = with_ticks (record channel { ring = 4; declared = 142; minwire = 142; burst = 1642 })

-- The burst is lost, and was not quiet.
pub record IsLostAndWasNotQuiet (s : Settings) (events : List Event) : Type 0 where
  pub lost : (newest_answer s (history_of s events)).notes ≡ End 5 Lost ∷ []
  pub loud : IsQuietBurst s 5 65546 (history_of s events) → ⊥

abbrev pub LostWhereTooMuchComes : Type 0
LostWhereTooMuchComes = IsLostAndWasNotQuiet room_for_four two_packets_more
