use Rattle.std.proofs.Common.{rules, List, not, length, eqb, ap, ◌∙◌}
use Rattle.std.proofs.lemmas.Fn.{filter_same}
use Rattle.rams_model.specs.Service.{Wanted}
use Rattle.repair_queue.specs.{all_of}
use Rattle.repair_queue.proofs.Pieces.{all_filled}
use Rattle.repair_queue.proofs.backlog.drop_empty.Goals as goal

pub returns : goal.returns
returns c = ap all_of (filter_same _ (λ (p : List Wanted). not (eqb (length p) 0)) _ (λ x b f' k. search rules) _ _ c.retain.ensures.filtered) ∙ all_filled c.args.pieces.now.items
