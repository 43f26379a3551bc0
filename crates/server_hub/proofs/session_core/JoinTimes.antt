-- After each tick the quiet bursts keep their join times.
use Rattle.std.specs.Prelude.{List, ◌∷◌}
use Rattle.rams_model.specs.declared.{Event.Event, Event.TheVariants.Tick}
use Rattle.rams_model.specs.Service.{Settings, history_of}
use Rattle.service_laws.proofs.book_laws.Quiet.Laws.{never_lost, keeps_join_times}
use Rattle.channel_parts.proofs.Given.{moment}
use Rattle.server_hub.specs.session_core.{JoinTimesAreKept}

pub join_times_are_kept : (s : Settings) (events : List Event) → JoinTimesAreKept s (Tick ∷ events)
join_times_are_kept s events client accept quiet = record {
  not_lost = never_lost s (history_of s (Tick ∷ events)) client (moment s (Tick ∷ events)) accept quiet;
  caught_up = λ b is told. keeps_join_times s events client accept b is quiet told;
}
