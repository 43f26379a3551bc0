use Rattle.hex_text.proofs.Reading.{whole_decodes}
use Rattle.hex_text.proofs.decode.decode_all.Goals as goal

pub returns-clause-bytes : goal.returns-clause-bytes
returns-clause-bytes c = whole_decodes c.args.text.now _ _ _ _ _ _ c.requires c.split_at.ensures.front c.split_at.ensures.back c.decode_pairs.ensures.digits c.is_empty.ensures c.decode_pairs.ensures.bytes
