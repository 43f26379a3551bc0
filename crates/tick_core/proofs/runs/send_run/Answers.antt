use Rattle.std.proofs.Common.{◌+◌, ◌-◌, refl, ap, sym, ◌∙◌}
use Rattle.rams_model.specs.declared.Note.TheVariants.{Burst as BurstNote}
use Rattle.rams_model.specs.Packets.{following}
use Rattle.tick_draft.specs.{with_packet}
use Rattle.tick_core.specs.{run_from, run_of, sent_after, with_run}
use Rattle.tick_core.proofs.Going.{sent_turn, draft_turn, sent_end, draft_end}
use Rattle.tick_core.proofs.Leading.{at_turn, at_end}
use Rattle.tick_core.proofs.runs.send_run.Goals as goal

pub loop-held-init : goal.loop-held-init
loop-held-init g c = record { at = refl; draft = λ d shown. (d, shown, refl) }

pub loop-held-preserved : goal.loop-held-preserved
loop-held-preserved g c =
    let held = c.args.cache.now.held in
    let burst = c.args.burst.now in
    let client = c.args.client in
    let at = c.loop-held.at in
    let h = c.in-Some.held.now in
    let size = c.from.result in
    record {
      at = sent_turn held burst.stop at _ h size c.in-Some.ensures c.from.ensures c.loop-held.invariant.at;
      draft = at_turn g.D.Drafting.shows (with_run client c.args.seq (run_of held burst)) (with_run client at.seq (run_from held burst.stop at))
          (with_run client (following at.seq) (run_from held burst.stop (record { next = at.next + 1; left = at.left - size; seq = following at.seq })))
          (λ f. with_packet f (BurstNote client h.n at.seq) client at.seq h) c.args.draft.now c.loop-held.draft c.send_packet.new.self c.loop-held.invariant.draft c.in_ok-send_packet.ensures
          (λ f. draft_turn held burst.stop client at h size f (with_packet f (BurstNote client h.n at.seq) client at.seq h) (with_run client at.seq (run_from held burst.stop at) f) c.in-Some.ensures c.from.ensures refl refl);
    }

pub returns-clause-sent : goal.returns-clause-sent
returns-clause-sent g c = sym (sent_end c.loop-held.at) ∙ (ap (sent_after c.loop-held.at) (sym c.in_default.ensures) ∙ c.loop-held.invariant.at)

pub returns-clause-draft : goal.returns-clause-draft
returns-clause-draft g c =
    let at = c.loop-held.at in
    at_end g.D.Drafting.shows (with_run c.args.client c.args.seq (run_of c.args.cache.now.held c.args.burst.now)) (with_run c.args.client at.seq (run_from c.args.cache.now.held c.args.burst.now.stop at)) c.args.draft.now c.loop-held.draft
    c.loop-held.invariant.draft (λ f. ap (λ hs. with_run c.args.client at.seq hs f) c.in_default.ensures ∙ draft_end c.args.client at.seq f)
