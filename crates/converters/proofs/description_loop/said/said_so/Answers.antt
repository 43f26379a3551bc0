use Rattle.std.proofs.Common.{Ok, sym, subst}
use Rattle.rams_model.specs.Texts.{tick_of}
use Rattle.trace_text.specs.declared.Judged.{Judged}
use Rattle.trace_text.specs.{told, IsSettled}
use Rattle.converters.specs.description_loop.{SaysOf}
use Rattle.converters.proofs.description_loop.said.said_so.Goals as goal

pub returns-in-Other : goal.returns-in-Other
returns-in-Other c = λ now settled.
    let is = subst (λ (j : Judged). IsSettled (tick_of now.head) j) c.in-Other.is settled in
    subst (λ (j : Judged). SaysOf (Ok (told j, now)) now c.said_otherwise.result) (sym c.in-Other.is) (c.said_otherwise.ensures now is.0)
