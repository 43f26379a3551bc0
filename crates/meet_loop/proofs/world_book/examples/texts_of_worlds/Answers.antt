-- The definitions compute the text.
use Rattle.std.proofs.Common.{refl}
use Rattle.std.specs.Fmt.{digits}
use Rattle.hex.specs.Hex.{encode_with, decode_pairs}
use Rattle.rams_model.specs.Formats.{header, spelling, words_from, rams_request}
use Rattle.rams_model.specs.Receiver.{reception}
use Rattle.rams_model.specs.Service.{checked}
use Rattle.rams_model.specs.Texts.{lines_of, words_of, head_in, kept_in, channel_in, tune_in, give_in, ask_in, accepted, judged}
use Rattle.trace_loop.specs.trace_book.trace_serving.{turn, text_from, served_text, stage_from}
use Rattle.meet_loop.specs.world_laws.{first_replaced, happens}
use Rattle.meet_loop.specs.world_text.{world_line, notes_lines}
use Rattle.meet_loop.specs.world_book.Worked.{AReceiverAsks, RefusedInAWorld, OneEventTooMany}
use Rattle.meet_loop.proofs.world_book.examples.texts_of_worlds.Goals as goal

computed : AReceiverAsks × RefusedInAWorld × OneEventTooMany
unfolding digits encode_with decode_pairs header spelling words_from rams_request reception checked lines_of words_of head_in kept_in channel_in tune_in give_in ask_in accepted judged turn text_from served_text stage_from first_replaced happens world_line notes_lines
computed = (refl, (refl, refl), (refl, refl))

pub returns-clause-asks : goal.returns-clause-asks
returns-clause-asks c = computed.0

pub returns-clause-refused : goal.returns-clause-refused
returns-clause-refused c = computed.1

pub returns-clause-events : goal.returns-clause-events
returns-clause-events c = computed.2
