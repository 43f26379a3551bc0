use Rattle.meet_loop.proofs.world_book.Worlds.{receivers_present}
use Rattle.meet_loop.proofs.world_book.laws.receivers_present_their_sources.Goals as goal

pub returns : goal.returns
returns c trace =
    receivers_present trace (c.traces_are_served_so.ensures trace) c.each_receiver_presents_a_prefix.ensures c.each_receiver_presents_what_is_delivered.ensures
    c.each_delivery_is_of_the_source.ensures.media c.each_info_is_of_the_channel.ensures c.lines_are_spelled_as_read.ensures
