-- The words of each kind of line: what is read is spelled so.
use Rattle.std.proofs.Common.{◌≡◌, ℕ, Bool, true, false, if◌then◌else◌, List, [], ◌∷◌, codes, bytes_eq, decimal, Option, Some, None, refl, sym, ap, subst, ◌∙◌}
use Rattle.rams_model.specs.Texts.{word32, TraceLine, tick_line, end_line, whole, head_in, live_in, feedback_in, tune_in, give_in, mcast_in, ask_in, drop_in, line_in, line_words, line_has_form}
use Rattle.rams_model.specs.Texts.TraceLines.{Words}
use Rattle.trace_text.proofs.ChannelWords.{Is, channel_is}
use Rattle.trace_lines.proofs.Spelled.{number_is, and_both, is_word}
use Rattle.trace_lines.proofs.Steps.{hex_is, version_is, field_step, one_step, whole_step}
use Rattle.trace_lines.proofs.Word32.{word32_is}

live_is : (ws : Words) (l : TraceLine) → live_in ws ≡ Some l → Is ws l
unfolding live_in
live_is ws l h =
    let id = field_step number_is (codes "live") ws _ l h in
    let hex = one_step hex_is id.rest _ l id.goes in
    let end = whole_step _ l hex.rest hex.goes in
    subst (Is ws) end.1 (id.words ∙ ap (λ r. codes "live" ∷ decimal id.value ∷ r) (hex.words ∙ ap (λ r. hex.value ∷ r) end.0), and_both id.has_form hex.has_form)

feedback_is : (ws : Words) (l : TraceLine) → feedback_in ws ≡ Some l → Is ws l
unfolding feedback_in
feedback_is ws l h =
    let id = field_step number_is (codes "fb") ws _ l h in
    let client = one_step number_is id.rest _ l id.goes in
    let hex = one_step hex_is client.rest _ l client.goes in
    let end = whole_step _ l hex.rest hex.goes in
    subst (Is ws) end.1 (
      id.words ∙ ap (λ r. codes "fb" ∷ decimal id.value ∷ r) (client.words ∙ ap (λ r. decimal client.value ∷ r) (hex.words ∙ ap (λ r. hex.value ∷ r) end.0)),
      and_both (and_both id.has_form client.has_form) hex.has_form,
    )

head_is : (ws : Words) (l : TraceLine) → head_in ws ≡ Some l → Is ws l
unfolding head_in
head_is ws l h =
    let version = field_step version_is (codes "rams-trace") ws _ l h in
    let tick = field_step number_is (codes "tick") version.rest _ l version.goes in
    let link = field_step number_is (codes "link") tick.rest _ l tick.goes in
    let end = whole_step _ l link.rest link.goes in
    subst (Is ws) end.1 (
      version.words ∙ ap (λ r. codes "rams-trace" ∷ decimal version.value ∷ r) (tick.words ∙ ap (λ r. codes "tick" ∷ decimal tick.value ∷ r) (link.words ∙ ap (λ r. codes "link" ∷ decimal link.value ∷ r) end.0)),
      and_both (and_both version.has_form tick.has_form) link.has_form,
    )

tune_is : (ws : Words) (l : TraceLine) → tune_in ws ≡ Some l → Is ws l
unfolding tune_in
tune_is ws l h =
    let id = field_step number_is (codes "tune") ws _ l h in
    let client = one_step number_is id.rest _ l id.goes in
    let ssrc = one_step word32_is client.rest _ l client.goes in
    let end = whole_step _ l ssrc.rest ssrc.goes in
    subst (Is ws) end.1 (
      id.words ∙ ap (λ r. codes "tune" ∷ decimal id.value ∷ r) (client.words ∙ ap (λ r. decimal client.value ∷ r) (ssrc.words ∙ ap (λ r. word32 ssrc.value ∷ r) end.0)),
      and_both (and_both id.has_form client.has_form) ssrc.has_form,
    )

give_is : (ws : Words) (l : TraceLine) → give_in ws ≡ Some l → Is ws l
unfolding give_in
give_is ws l h =
    let number = field_step number_is (codes "give") ws _ l h in
    let end = whole_step _ l number.rest number.goes in
    subst (Is ws) end.1 (number.words ∙ ap (λ r. codes "give" ∷ decimal number.value ∷ r) end.0, number.has_form)

mcast_is : (ws : Words) (l : TraceLine) → mcast_in ws ≡ Some l → Is ws l
unfolding mcast_in
mcast_is ws l h =
    let id = field_step number_is (codes "mcast") ws _ l h in
    let client = one_step number_is id.rest _ l id.goes in
    let n = one_step number_is client.rest _ l client.goes in
    let end = whole_step _ l n.rest n.goes in
    subst (Is ws) end.1 (
      id.words ∙ ap (λ r. codes "mcast" ∷ decimal id.value ∷ r) (client.words ∙ ap (λ r. decimal client.value ∷ r) (n.words ∙ ap (λ r. decimal n.value ∷ r) end.0)),
      and_both (and_both id.has_form client.has_form) n.has_form,
    )

ask_is : (ws : Words) (l : TraceLine) → ask_in ws ≡ Some l → Is ws l
unfolding ask_in
ask_is ws l h =
    let id = field_step number_is (codes "ask") ws _ l h in
    let client = one_step number_is id.rest _ l id.goes in
    let end = whole_step _ l client.rest client.goes in
    subst (Is ws) end.1 (id.words ∙ ap (λ r. codes "ask" ∷ decimal id.value ∷ r) (client.words ∙ ap (λ r. decimal client.value ∷ r) end.0), and_both id.has_form client.has_form)

drop_is : (ws : Words) (l : TraceLine) → drop_in ws ≡ Some l → Is ws l
unfolding drop_in
drop_is ws l h =
    let id = field_step number_is (codes "drop") ws _ l h in
    let client = one_step number_is id.rest _ l id.goes in
    let end = whole_step _ l client.rest client.goes in
    subst (Is ws) end.1 (id.words ∙ ap (λ r. codes "drop" ∷ decimal id.value ∷ r) (client.words ∙ ap (λ r. decimal client.value ∷ r) end.0), and_both id.has_form client.has_form)

-- one of two readers
either : (t : Bool) {x y : Option TraceLine} (ws : Words) (l : TraceLine) → (t ≡ true → x ≡ Some l → Is ws l) → (y ≡ Some l → Is ws l) → (if t then x else y) ≡ Some l → Is ws l
either true ws l f g h = f refl h
either false ws l f g h = g h

alone : (a : TraceLine) (name w : List ℕ) (rest : Words) (l : TraceLine) → (line_words a ≡ name ∷ []) → line_has_form a ≡ true → bytes_eq w name ≡ true → whole a rest ≡ Some l → Is (w ∷ rest) l
alone a name w rest l one_word form e h =
    let end = whole_step a l rest h in
    subst (Is (w ∷ rest)) end.1 (ap (λ r. w ∷ r) end.0 ∙ (ap (λ x. x ∷ []) (is_word w name e) ∙ sym one_word), form)

-- what is read is spelled so
pub line_is : (ws : Words) (l : TraceLine) → line_in ws ≡ Some l → (ws ≡ line_words l) × (line_has_form l ≡ true)
line_is [] l h = absurd cc
line_is (w ∷ rest) l h =
    let ws = w ∷ rest in
    let receivers = either (bytes_eq w (codes "tune")) ws l (λ e. tune_is ws l) (either (bytes_eq w (codes "give")) ws l (λ e. give_is ws l) (either (bytes_eq w (codes "mcast")) ws l (λ e. mcast_is ws l) (either (bytes_eq w (codes "ask")) ws l (λ e. ask_is ws l) (either (bytes_eq w (codes "drop")) ws l (λ e. drop_is ws l) nothing)))) in
    either (bytes_eq w (codes "live")) ws l (λ e. live_is ws l) (
    either (bytes_eq w (codes "fb")) ws l (λ e. feedback_is ws l) (
    either (bytes_eq w (codes "tick")) ws l (λ e. alone tick_line (codes "tick") w rest l refl refl e) (
    either (bytes_eq w (codes "end")) ws l (λ e. alone end_line (codes "end") w rest l refl refl e) (
    either (bytes_eq w (codes "channel")) ws l (λ e. channel_is ws l) (either (bytes_eq w (codes "rams-trace")) ws l (λ e. head_is ws l) receivers)
    )
    )
    )
    ) h
  where
    nothing : (let o : Option TraceLine = None in o ≡ Some l) → Is (w ∷ rest) l
    nothing h = absurd cc
