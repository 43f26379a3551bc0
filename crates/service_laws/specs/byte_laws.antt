pub mod Came
pub mod Told
pub mod LiveNotes
pub mod Messages
unfoldable pub use Rattle.service_laws.specs.byte_laws.Came.{number16, number32, MayStart, HasBytes, EachPacketCame, EachHeldPacketCame}
pub use Rattle.service_laws.specs.byte_laws.Came.{IsRandomAccessAt, CameAs}
unfoldable pub use Rattle.service_laws.specs.byte_laws.Told.{front, message_number, after, of_burst, bare, in_ms, told_at, last_told, ticks_of, Gets, IsNoInfo, TellsSo, EachNoteTellsItsClientSo, EachOrderIsThatOfANote}
pub use Rattle.service_laws.specs.byte_laws.Told.{WasOrdered}
unfoldable pub use Rattle.service_laws.specs.byte_laws.LiveNotes.{sources_size, front_size, last_byte, IsNoRtp, with_note, with_notes, with_answer, numbers_taken, jumped_by, jumped_with, jumped_after, last_jump, MayStillCome, IsWithinReach, IsOutOfReach, FollowsTheJump, NumbersSo, BecameSo, EachLiveNoteIsRight}
pub use Rattle.service_laws.specs.byte_laws.LiveNotes.{HasHeader, IsRtp, IsOfChannel, Start, IsLiveAnswer}
unfoldable pub use Rattle.service_laws.specs.byte_laws.Messages.{padding_bit, IsDatagram, is_length_in_request, is_length_in_stop, lost_from, named_by, number64, ssrcs_of, words_of, is_there, IsRequest, IsStop, IsMessageOf, IsRams, seen_after, told_in, EachDatagramIsAnsweredWhole}
pub use Rattle.service_laws.specs.byte_laws.Messages.{IsRtcp, IsFirstOf, none, this, later, Asks, IsNoMessage, AreMessages, no_more, skipped, second, counted, IsAnsweredWhole, IsRefusedWhole}
