use Rattle.channel_parts.proofs.Given.{held_packets_are_in_order, known_clients_have_entries, entries_are_of_their_clients, entries_are_in_bounds, reserved_is_of_the_entries}
use Rattle.channel_parts.proofs.laws.parts_are_in_bounds.Goals as goal

pub returns-clause-held : goal.returns-clause-held
returns-clause-held c = held_packets_are_in_order

pub returns-clause-known : goal.returns-clause-known
returns-clause-known c = known_clients_have_entries

pub returns-clause-entries : goal.returns-clause-entries
returns-clause-entries c = entries_are_of_their_clients

pub returns-clause-bounds : goal.returns-clause-bounds
returns-clause-bounds c = entries_are_in_bounds

pub returns-clause-reserved : goal.returns-clause-reserved
returns-clause-reserved c = reserved_is_of_the_entries
