use Rattle.hex_text.proofs.Written.{written_decodes, written_is_lower, lower_is_written}
use Rattle.hex_text.proofs.laws.texts_are_bytes.Goals as goal

pub returns-clause-written : goal.returns-clause-written
returns-clause-written c = written_decodes

pub returns-clause-lower : goal.returns-clause-lower
returns-clause-lower c = written_is_lower

pub returns-clause-text : goal.returns-clause-text
returns-clause-text c = lower_is_written
