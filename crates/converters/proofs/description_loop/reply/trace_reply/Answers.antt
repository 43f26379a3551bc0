use Rattle.std.proofs.Common.{◌≡◌, ℕ, List, [], ◌++◌, ap, ◌∙◌}
use Rattle.rams_model.specs.declared.{Channel.Channel, Status.TheVariants.Done}
use Rattle.rams_model.specs.Texts.{head_line, channel_line, end_line, line_text}
use Rattle.trace_loop.specs.trace_book.trace_serving.{ended}
use Rattle.trace_loop.specs.head_loop.{with_feed}
use Rattle.converters.specs.description_loop.{heading_text, with_settings}
use Rattle.converters.proofs.description_loop.reply.trace_reply.Goals as goal

three : (none a b d first second third : List ℕ) → none ≡ [] → first ≡ none ++ a → second ≡ first ++ b → third ≡ second ++ d → third ≡ a ++ b ++ d
three none a b d first second third empty one two last =
    last ∙ ap (λ (t : List ℕ). t ++ d) (two ∙ ap (λ (t : List ℕ). t ++ b) (one ∙ ap (λ (t : List ℕ). t ++ a) empty))

pub returns-clause-answers : goal.returns-clause-answers
unfolding heading_text
returns-clause-answers c =
    let h = c.args.heading.now in
    let channel : c.with_settings.result ≡ with_settings c.args.sdp h.config.channel = c.with_settings.ensures ∙ ap (with_settings c.args.sdp) c.channel.ensures.value in
    ap (ended Done) (three c.new-text.result.items
    (with_feed (line_text (head_line h.version h.config.tick h.link))) (with_feed (line_text (channel_line h.version (with_settings c.args.sdp h.config.channel)))) (with_feed (line_text end_line))
    c.append_fed.new.text.items c.append_fed-2.new.text.items c.append_fed-3.new.text.items c.new-text.ensures.items
    (c.in_ok-append_fed.ensures ∙ ap (λ (tick : ℕ). c.new-text.result.items ++ with_feed (line_text (head_line h.version tick h.link))) c.tick_ms.ensures.value)
    (c.in_ok-append_fed-2.ensures ∙ ap (λ (x : Channel). c.append_fed.new.text.items ++ with_feed (line_text (channel_line h.version x))) channel)
    c.in_ok-append_fed-3.ensures)
