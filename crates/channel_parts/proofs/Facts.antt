-- The facts of a channel's history, each proved.
use Rattle.std.proofs.Common.{refl, arith}
use Rattle.std.proofs.lemmas.List.Elements.{All-from_recursion}
use Rattle.rams_model.specs.Service.{hold, known, opened, bursts, open_burst, pending}
use Rattle.service_laws.proofs.book_laws.Moments.{legal_moment}
use Rattle.channel_parts.specs.{KnownClientsRise, OpenedClientsRise, OpenedHaveBursts, KnownClientsAreFew, OnlyKnownClientsHaveBursts, OpenedAreTheKnownWithBursts, RepairsAreOfKnownClients, RepairsAreWithinLimits, IsWithinBounds, OpenBurstsAreWithinBounds, OpenBurstsHaveATickLeft, KnownClientsAreIdleForLess, ReservedLeavesTheReserve, EachBurstIsReserved, AcceptsReserve, UpdatesReserve, EndsRelease, OtherNotesReserveNothing, EventsReserveNothing, MessagesReserveNothing, LeftIsWithinShareAndSwell, TheEndOfTheHeldNeverFalls, HeldNumbersAreSmall, ReadPacketsHaveLowNumbers, SequencesHave16Bits}
use Rattle.channel_parts.proofs.Ordered.{sorted, known_rise, opened_rise}
use Rattle.channel_parts.proofs.Waiting.{known_few, pending_within}
use Rattle.channel_parts.proofs.Knowing.{OfKnown, pending_known}
use Rattle.channel_parts.proofs.Opening.{unknown_closed, opened_filter}
use Rattle.rams_model.proofs.OpenBurst.{holds_of}
use Rattle.rams_model.proofs.LastAccept.{opened_open}
use Rattle.channel_parts.proofs.Bounding.{bounded}
use Rattle.channel_parts.proofs.Lasting.{ticks_left}
use Rattle.service_laws.proofs.tick_laws.Idling.{idle_less}
use Rattle.channel_parts.proofs.Reserving.{accept_reserves, update_reserves, end_releases, note_reserves_nothing, event_reserves_nothing, burst_reserved, leaves_reserve, left_within}
use Rattle.channel_parts.proofs.Numbers.{hi_never_falls}
use Rattle.channel_parts.proofs.Small.{held_small, reads_low}

-- clients
pub known_clients_rise : KnownClientsRise
known_clients_rise history = sorted (known history) (known_rise history)

pub opened_clients_rise : OpenedClientsRise
opened_clients_rise history = sorted (opened history) (opened_rise history)

pub opened_have_bursts : OpenedHaveBursts
opened_have_bursts s k history = opened_open s k history

pub known_clients_are_few : KnownClientsAreFew
known_clients_are_few s history m = known_few s history (legal_moment s history m)

pub only_known_clients_have_bursts : OnlyKnownClientsHaveBursts
only_known_clients_have_bursts s events lawful k out = unknown_closed s events k lawful.idle_least out

pub opened_are_the_known_with_bursts : OpenedAreTheKnownWithBursts
opened_are_the_known_with_bursts s events lawful = opened_filter s events lawful.idle_least

pub known_clients_are_idle_for_less : KnownClientsAreIdleForLess
known_clients_are_idle_for_less s k events lawful is = idle_less s k events lawful.idle_least is

-- repairs
pub repairs_are_of_known_clients : RepairsAreOfKnownClients
repairs_are_of_known_clients s history lawful m =
    All-from_recursion (OfKnown history) (pending history) (pending_known s history lawful.idle_least (legal_moment s history m))

pub repairs_are_within_limits : RepairsAreWithinLimits
repairs_are_within_limits s history m = pending_within s history (legal_moment s history m)

-- bursts
pub open_bursts_are_within_bounds : OpenBurstsAreWithinBounds
open_bursts_are_within_bounds s k b history m is =
    holds_of (IsWithinBounds s (hold s history)) (open_burst s k history) b (bounded s k history (legal_moment s history m)) is

pub open_bursts_have_a_tick_left : OpenBurstsHaveATickLeft
open_bursts_have_a_tick_left s k b events lawful is = ticks_left s k b events lawful.limit_least is

-- budgets
pub reserved_leaves_the_reserve : ReservedLeavesTheReserve
reserved_leaves_the_reserve s history lawful m = leaves_reserve s history (omega (arith, lawful.share_holds)) (legal_moment s history m)

pub each_burst_is_reserved : EachBurstIsReserved
each_burst_is_reserved s k b history is = burst_reserved s k b history is

pub accepts_reserve : AcceptsReserve
accepts_reserve s k first rate join packet history none = accept_reserves s k first rate join packet history none

pub updates_reserve : UpdatesReserve
updates_reserve s k rate join packet history b is = update_reserves s k rate join packet history b is

pub ends_release : EndsRelease
ends_release s k cause packet history b is = end_releases s k cause packet history b is

pub other_notes_reserve_nothing : OtherNotesReserveNothing
other_notes_reserve_nothing s note packet history other = note_reserves_nothing s note packet history other

pub events_reserve_nothing : EventsReserveNothing
events_reserve_nothing s heard history = event_reserves_nothing s heard history

pub messages_reserve_nothing : MessagesReserveNothing
unfolding opened bursts
messages_reserve_nothing s k message history = refl

pub left_is_within_share_and_swell : LeftIsWithinShareAndSwell
left_is_within_share_and_swell s history = left_within s history

-- numbers
pub the_end_of_the_held_never_falls : TheEndOfTheHeldNeverFalls
the_end_of_the_held_never_falls s later history = hi_never_falls s later history

pub held_numbers_are_small : HeldNumbersAreSmall
held_numbers_are_small s history low few = held_small s history low few

pub read_packets_have_low_numbers : ReadPacketsHaveLowNumbers
read_packets_have_low_numbers s bytes packets are low = reads_low s bytes packets are low

pub sequences_have_16_bits : SequencesHave16Bits
sequences_have_16_bits s k history = omega arith
