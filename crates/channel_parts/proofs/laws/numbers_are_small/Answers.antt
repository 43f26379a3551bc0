use Rattle.channel_parts.proofs.Facts.{the_end_of_the_held_never_falls, held_numbers_are_small, read_packets_have_low_numbers, sequences_have_16_bits}
use Rattle.channel_parts.proofs.laws.numbers_are_small.Goals as goal

pub returns-clause-end : goal.returns-clause-end
returns-clause-end c = the_end_of_the_held_never_falls

pub returns-clause-held : goal.returns-clause-held
returns-clause-held c = held_numbers_are_small

pub returns-clause-read : goal.returns-clause-read
returns-clause-read c = read_packets_have_low_numbers

pub returns-clause-sequences : goal.returns-clause-sequences
returns-clause-sequences c = sequences_have_16_bits
