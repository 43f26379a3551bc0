-- The definitions compute the answers.
use Rattle.std.proofs.Common.{refl}
use Rattle.std.specs.Fmt.{digits}
use Rattle.hex.specs.Hex.{encode_with, decode_pairs}
use Rattle.rams_model.specs.Formats.{header, spelling, fields_of, packet_at, pieces_from, words_from, rams_request, rams_stop, first_value}
use Rattle.rams_model.specs.Receiver.{with_piece, without_piece, first_info, last_number, after_told, after_media, after_shown}
use Rattle.rams_model.specs.Worked.Receptions.{shown_in, past_shown, rows_from, Handover, BeforeTheBurst, TheFirstNumber, TheRoom, JoinsWithWhatItHas, UnfitMedia, TuneAndLeave}
use Rattle.rams_model.proofs.receptions.receptions_of_datagrams.Goals as goal

computed : Handover × BeforeTheBurst × TheFirstNumber × TheRoom × JoinsWithWhatItHas × UnfitMedia × TuneAndLeave
unfolding digits encode_with decode_pairs header spelling fields_of packet_at pieces_from words_from rams_request rams_stop first_value with_piece without_piece first_info last_number after_told after_media after_shown shown_in past_shown rows_from
computed = (refl, refl, refl, refl, refl, refl, (refl, refl))

pub returns-clause-handover : goal.returns-clause-handover
returns-clause-handover c = computed.0

pub returns-clause-before_the_burst : goal.returns-clause-before_the_burst
returns-clause-before_the_burst c = computed.1

pub returns-clause-first_number : goal.returns-clause-first_number
returns-clause-first_number c = computed.2

pub returns-clause-room : goal.returns-clause-room
returns-clause-room c = computed.3

pub returns-clause-joins : goal.returns-clause-joins
returns-clause-joins c = computed.4

pub returns-clause-unfit_media : goal.returns-clause-unfit_media
returns-clause-unfit_media c = computed.5

pub returns-clause-tune_and_leave : goal.returns-clause-tune_and_leave
returns-clause-tune_and_leave c = computed.6
