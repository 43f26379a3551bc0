use Rattle.std.proofs.Common.{ap, sym, subst, refl, ◌∙◌}
use Rattle.std.proofs.lemmas.Result.{err_from_is_err_and}
use Rattle.takeover.specs.standby.{Seen, HasRead, stage_of}
use Rattle.takeover.proofs.standby.Reading.{none_yet, fails_at, line_fails, line_taken, seen_same}
use Rattle.takeover.proofs.standby.standby.Standby.end_line.Goals as goal

pub returns-in_err-step : goal.returns-in_err-step
returns-in_err-step c = record {
  takes = λ bytes read.
      let p = err_from_is_err_and c.from_residual.result c.from_residual.ensures.1 in
      let r = subst (λ (v : Seen). HasRead v bytes) (sym c.self.view_is) read in
      let none = none_yet _ _ _ r.halted (ap (λ (v : Seen). v.ended) c.self.view_is ∙ c.requires.unended) (ap (λ (v : Seen). v.fault) c.self.view_is ∙ c.requires.unrefused) in
      let same = seen_same _ _ _ _ _ _ _ _ _ _ c.self.inside.ended c.self.inside.fault c.in_err-step.ensures.same c.in_err-step.ensures.stays in
      let fails = line_fails _ bytes r none c.args.rest.now c.requires.clean c.in_err-step.field-0.0 _ _ (c.in_err-step.ensures.turn (stage_of bytes) _ r.stands refl) same in
      rw (p.1, p.2) (fails_at c.in_err-step.field-0.0 _ _ _ _ c.self.view_is fails);
}

pub returns : goal.returns
returns c = record {
  takes = λ bytes read.
      let r = subst (λ (v : Seen). HasRead v bytes) (sym c.self.view_is) read in
      let unrefused = ap (λ (v : Seen). v.fault) c.self.view_is ∙ c.requires.unrefused in
      let none = none_yet _ _ _ r.halted (ap (λ (v : Seen). v.ended) c.self.view_is ∙ c.requires.unended) unrefused in
      let new = c.take_whole.new.channels in (
        line_taken _ bytes r none c.args.rest.now c.requires.clean c.in_ok-step.step new.hub new.ids.items new.events new.state c.take_whole.new.part.items _ c.self.inside.fault
            (c.in_ok-step.ensures.turn (stage_of bytes) _ r.stands refl) c.in_ok-step.ensures.same c.in_ok-step.ensures.count c.in_ok-step.ensures.none c.is_end-self-inside.ensures unrefused,
        unrefused,
      );
}
