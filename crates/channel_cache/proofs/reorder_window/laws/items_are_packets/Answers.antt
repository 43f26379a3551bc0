use Rattle.channel_cache.proofs.reorder_window.PacketLemmas.{awaited_same, notes_same, grows_same, from_same, released_same}
use Rattle.channel_cache.proofs.reorder_window.laws.items_are_packets.Goals as goal

pub returns-clause-awaited : goal.returns-clause-awaited
returns-clause-awaited c = awaited_same

pub returns-clause-notes : goal.returns-clause-notes
returns-clause-notes c = notes_same

pub returns-clause-grow : goal.returns-clause-grow
returns-clause-grow c = grows_same

pub returns-clause-from : goal.returns-clause-from
returns-clause-from c = from_same

pub returns-clause-released : goal.returns-clause-released
returns-clause-released c = released_same
