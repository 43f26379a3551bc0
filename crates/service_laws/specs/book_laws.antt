pub mod Moments
pub mod Sendings
pub mod Stops
pub mod Answering
pub mod Nacks
pub mod OneBook
pub mod Refusals
pub mod Counted
pub mod Budgets
pub mod Numbers
pub mod JoinTimes
pub mod QuietBurst
pub mod StopAnswers
pub mod FirstNumbers
pub use Rattle.service_laws.specs.book_laws.Moments.{IsMoment, LastAccept}
unfoldable pub use Rattle.service_laws.specs.book_laws.Sendings.{sending, first_sendings, AreNumberedFrom, IsPacketOf, FirstSendingsAreConsecutive, WhatIsSentIsHeld, NothingIsSentUnasked, WhoeverWasAcceptedHasALastAccept, ABurstBeginsAtAnEligibleAccessPoint, IsTakenAs, IsOfTheSource, EachDatagramIsTheRetransmissionOfASourcePacket, note_sends, order_sends, EachSendingIsOrderedOnce}
pub use Rattle.service_laws.specs.book_laws.Sendings.{Sending, BeginsAsAsked, Retransmits, Sent}
unfoldable pub use Rattle.service_laws.specs.book_laws.Answering.{AreNotes, items_of, IsNoNote, BeginAnew, NoneApplies}
pub use Rattle.service_laws.specs.book_laws.Answering.{IsAnswered, AnsweredBy, IsFirst}
unfoldable pub use Rattle.service_laws.specs.book_laws.Nacks.{table, Names, WillSend, Applies, Gives, line_of, NackAnswersAreTrue, ForeignNacksAreTrue, AreAnswers, NacksAreAnsweredInOrder}
pub use Rattle.service_laws.specs.book_laws.Nacks.{Line, IsNamed, IsByTable, IsNumberAnswer, IsForeignNack, IsNackAnswered, unheld, early, already, table_full, client_full, queue_full, queued}
unfoldable pub use Rattle.service_laws.specs.book_laws.OneBook.{ExactlyOneBook, EarlierPartsAreLawful, notes_in, orders_in, notes_of, orders_of, BooksTellTheHistory, EachNoteWasMadeAtAMoment, EachMomentIsInABook}
pub use Rattle.service_laws.specs.book_laws.OneBook.{IsTheBook, TellsTheHistory, WasMade}
unfoldable pub use Rattle.service_laws.specs.book_laws.Counted.{StandOnce, SumsTo, WhatIsCountedStandsOnce}
pub use Rattle.service_laws.specs.book_laws.Counted.{CountsEachOnce}
unfoldable pub use Rattle.service_laws.specs.book_laws.Budgets.{is_tick_start, may_be_sent, ClientsStayWithinTheirBudgets, ClientsAreSentAtMostRateAndDepth, ChannelsStayWithinTheirBudgets, ChannelsSendAtMostShareAndSwell, OnlyTicksSend, ReservesFitTheShare, EachOpenBurstCountsOnce, left_of, is_past_runs, RunsAreCovered, EachRunIsCovered, RunsComeFirst, gain, gains_in, ClientsAreSentAtMostTheirGains, IsOpenAtEachTick, BurstsAreSentAtMostTheirRates, ClientsAreSentAtMostBurst, ChannelsSendAtMostTheirShares}
pub use Rattle.service_laws.specs.book_laws.Budgets.{BeginsWithATick}
unfoldable pub use Rattle.service_laws.specs.book_laws.Numbers.{is_burst_of, numbers_to, AreSequencedFrom, first_tlv, FirstSendingHas, TheFirstSendingHasTheNumberThatTheAcceptNamed, RepairsComeAfterTheFirstSending}
pub use Rattle.service_laws.specs.book_laws.Numbers.{NamesWhatFollows}
unfoldable pub use Rattle.service_laws.specs.book_laws.JoinTimes.{is_loss_of, ticks_since_told, QuietBurstsAreNeverLost, QuietBurstsKeepTheirJoinTimes}
unfoldable pub use Rattle.service_laws.specs.book_laws.QuietBurst.{request, three_packets, one_packet_a_tick, QuietForThreeTicks, two_packets_more, room_for_four, LostWhereTooMuchComes}
pub use Rattle.service_laws.specs.book_laws.QuietBurst.{IsOver, IsLostAndWasNotQuiet}
unfoldable pub use Rattle.service_laws.specs.book_laws.StopAnswers.{StopsAreAnsweredExactly, ByesAreAnsweredExactly}
pub use Rattle.service_laws.specs.book_laws.StopAnswers.{AnswersStop, Leaves, AnswersBye, unread, idle, kept, set, passed, other, left, ended}
unfoldable pub use Rattle.service_laws.specs.book_laws.FirstNumbers.{AnOpenBurstsClientIsKnown, WhoIsSentABurstStayedKnown, is_repair_to, TheFirstNumberIsTheBursts}
pub use Rattle.service_laws.specs.book_laws.FirstNumbers.{TellsTheFirst}
