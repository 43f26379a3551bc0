use Rattle.std.proofs.Common.{◌≡◌, ℕ, ◌+◌, ◌*◌, ◌<◌, List, refl, sym, ap, ◌∙◌, subst, arith}
use Rattle.rams_model.specs.declared.Event.TheVariants.{Live}
use Rattle.generated.specs.trace_gen.{Place, state, draws_before, packet, IsReady}
use Rattle.generated.proofs.trace_gen.Drawing.{draws_in, draws_after}
use Rattle.generated.proofs.trace_gen.Texts.{fits, first_is, rest_is, text_is}
use Rattle.generated.proofs.trace_gen.made.Made.shared_packet.Goals as goal

pub split_to-requires : goal.split_to-requires
split_to-requires c =
    let p = c.self.inside in
    let within : p.events < 10 = omega (arith, ap (λ (q : Place). q.events) c.self.view_is, c.requires.next) in
    let drawn : p.state ≡ state p.seed (draws_before p.block + p.events) = c.self.invariant.state ∙ ap (state p.seed) (draws_in p.seed p.block p.events (omega (arith, within))) in
    let ready = c.in_ok-write_packets.ensures p.seed drawn (subst (λ (q : Place). IsReady q c.args.ready.now) (sym c.self.view_is) c.requires.ready) in
    fits p.seed p.block p.events (10 * p.block + p.events) c.size_of.result p.state c.stepped-state.result refl drawn c.stepped-state.ensures c.size_of.ensures.value c.write_packets.new.ready within ready

pub returns-clause-event : goal.returns-clause-event
unfolding packet
returns-clause-event c =
    let p = c.self.inside in
    let within : p.events < 10 = omega (arith, ap (λ (q : Place). q.events) c.self.view_is, c.requires.next) in
    let drawn : p.state ≡ state p.seed (draws_before p.block + p.events) = c.self.invariant.state ∙ ap (state p.seed) (draws_in p.seed p.block p.events (omega (arith, within))) in
    let ready = c.in_ok-write_packets.ensures p.seed drawn (subst (λ (q : Place). IsReady q c.args.ready.now) (sym c.self.view_is) c.requires.ready) in
    let first = first_is p.seed p.block p.events (10 * p.block + p.events) c.size_of.result p.state c.stepped-state.result refl drawn c.stepped-state.ensures c.size_of.ensures.value c.write_packets.new.ready within ready in
    ap (λ (bytes : List ℕ). Live bytes) (c.in_ok-bytes.ensures.front ∙ first) ∙ ap (λ (q : Place). packet q.seed q.block q.events) c.self.view_is

pub returns-clause-read : goal.returns-clause-read
returns-clause-read c =
    let p = c.self.inside in
    let within : p.events < 10 = omega (arith, ap (λ (q : Place). q.events) c.self.view_is, c.requires.next) in
    let drawn : p.state ≡ state p.seed (draws_before p.block + p.events) = c.self.invariant.state ∙ ap (state p.seed) (draws_in p.seed p.block p.events (omega (arith, within))) in
    let ready = c.in_ok-write_packets.ensures p.seed drawn (subst (λ (q : Place). IsReady q c.args.ready.now) (sym c.self.view_is) c.requires.ready) in
    let i = 10 * c.from.result + c.from-2.result in
    let i_is : i ≡ 10 * p.block + p.events = omega (arith, c.from.ensures, c.from-2.ensures) in
    let first = first_is p.seed p.block p.events i c.size_of.result p.state c.stepped-state.result i_is drawn c.stepped-state.ensures c.size_of.ensures.value c.write_packets.new.ready within ready in
    let text = text_is p.seed p.block p.events i c.size_of.result p.state c.stepped-state.result i_is drawn c.stepped-state.ensures c.size_of.ensures.value in
    record {
      i = i;
      size = c.size_of.result;
      short = c.size_of.ensures.short;
      bytes = c.in_ok-bytes.ensures.front ∙ first ∙ sym text;
      sequence = c.sequence_of.ensures;
      timestamp = c.timestamp_of.ensures;
      marker = c.is_marked.ensures;
    }

pub returns-clause-ready : goal.returns-clause-ready
returns-clause-ready c =
    let p = c.self.inside in
    let within : p.events < 10 = omega (arith, ap (λ (q : Place). q.events) c.self.view_is, c.requires.next) in
    let drawn : p.state ≡ state p.seed (draws_before p.block + p.events) = c.self.invariant.state ∙ ap (state p.seed) (draws_in p.seed p.block p.events (omega (arith, within))) in
    let ready = c.in_ok-write_packets.ensures p.seed drawn (subst (λ (q : Place). IsReady q c.args.ready.now) (sym c.self.view_is) c.requires.ready) in
    let rest = rest_is p.seed p.block p.events (10 * p.block + p.events) c.size_of.result p.state c.stepped-state.result refl drawn c.stepped-state.ensures c.size_of.ensures.value c.write_packets.new.ready within ready in
    λ some. c.in_ok-bytes.ensures.rest ∙ rest

pub invariant_of-self : goal.invariant_of-self
invariant_of-self c =
    let p = c.self.inside in
    let within : p.events < 10 = omega (arith, ap (λ (q : Place). q.events) c.self.view_is, c.requires.next) in
    record {
      within = omega (arith, within);
      feedback = λ e. absurd (omega (arith, e, within));
      state = draws_after p.seed p.block p.events p.state c.stepped-state.result within c.self.invariant.state c.stepped-state.ensures;
      drawn = λ b e. absurd (omega (arith, e, within));
      kept = c.self.invariant.kept;
      small = c.self.invariant.small;
    }
