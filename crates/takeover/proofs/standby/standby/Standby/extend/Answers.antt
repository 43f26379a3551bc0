use Rattle.std.proofs.Common.{ap, sym, subst, ◌∙◌}
use Rattle.takeover.specs.standby.{Seen, HasRead}
use Rattle.takeover.proofs.standby.Reading.{none_yet, extends, takes_at}
use Rattle.takeover.proofs.standby.standby.Standby.extend.Goals as goal

pub returns : goal.returns
returns c = record {
  takes = λ bytes read.
      let r = subst (λ (v : Seen). HasRead v bytes) (sym c.self.view_is) read in
      let unended = ap (λ (v : Seen). v.ended) c.self.view_is ∙ c.requires.unended in
      let unrefused = ap (λ (v : Seen). v.fault) c.self.view_is ∙ c.requires.unrefused in
      let none = none_yet _ _ _ r.halted unended unrefused in
      let a = c.append.ensures in
      let takes = extends _ bytes r none c.args.piece.now c.requires.clean c.append.result c.append.new.part.items c.self.inside.ended c.self.inside.fault a.all a.short a.long a.fault unended unrefused in
      takes_at c.append.result _ _ _ _ c.self.view_is takes;
}
