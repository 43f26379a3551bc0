-- What is spelled is read again.
use Rattle.std.proofs.Common.{◌≡◌, true, ◌&&◌, codes, decimal, Some, refl, ◌∙◌}
use Rattle.std.proofs.lemmas.Bool.{and_parts}
use Rattle.std.specs.List.{list_all}
use Rattle.rams_model.specs.Texts.{is_hex, number_in, word32, word32_in, TraceLine, head_line, channel_line, live_line, feedback_line, tick_line, end_line, tune_line, give_line, mcast_line, ask_line, drop_line, hex_in, version_in, head_in, live_in, feedback_in, tune_in, give_in, mcast_in, ask_in, drop_in, line_in, line_words, is_short, is_word32, is_version, line_has_form}
use Rattle.trace_text.proofs.ChannelBack.{channel_back, in_channel}
use Rattle.trace_lines.proofs.Joins.{has_no_space}
use Rattle.trace_lines.proofs.Spaces.{in_decimal, in_word32, in_hex, in_version}
use Rattle.trace_lines.proofs.Spelled.{number_back, and_both}
use Rattle.trace_lines.proofs.Steps.{hex_back, version_back, field_back, one_back}
use Rattle.trace_lines.proofs.Word32.{word32_back}

-- what is spelled is read again
pub line_back : (l : TraceLine) → line_has_form l ≡ true → line_in (line_words l) ≡ Some l
unfolding head_in live_in feedback_in tune_in give_in mcast_in ask_in drop_in
line_back (head_line version tick link) h =
    let g = and_parts (is_version version && is_short tick) (is_short link) h in
    let f = and_parts (is_version version) (is_short tick) g.0 in
    field_back version_in (decimal version) (codes "rams-trace") _ _ (version_back version f.0)
    ∙ (field_back number_in (decimal tick) (codes "tick") _ _ (number_back tick f.1) ∙ field_back number_in (decimal link) (codes "link") _ _ (number_back link g.1))
line_back (channel_line version c) h = channel_back version c h
line_back (live_line id hex) h =
    let f = and_parts (is_short id) (is_hex hex) h in
    field_back number_in (decimal id) (codes "live") _ _ (number_back id f.0) ∙ one_back hex_in hex _ _ (hex_back hex f.1)
line_back (feedback_line id client hex) h =
    let g = and_parts (is_short id && is_short client) (is_hex hex) h in
    let f = and_parts (is_short id) (is_short client) g.0 in
    field_back number_in (decimal id) (codes "fb") _ _ (number_back id f.0) ∙ (one_back number_in (decimal client) _ _ (number_back client f.1) ∙ one_back hex_in hex _ _ (hex_back hex g.1))
line_back tick_line h = refl
line_back end_line h = refl
line_back (tune_line id client ssrc) h =
    let g = and_parts (is_short id && is_short client) (is_word32 ssrc) h in
    let f = and_parts (is_short id) (is_short client) g.0 in
    field_back number_in (decimal id) (codes "tune") _ _ (number_back id f.0) ∙ (one_back number_in (decimal client) _ _ (number_back client f.1) ∙ one_back word32_in (word32 ssrc) _ _ (word32_back ssrc g.1))
line_back (give_line number) h = field_back number_in (decimal number) (codes "give") _ _ (number_back number h)
line_back (mcast_line id client n) h =
    let g = and_parts (is_short id && is_short client) (is_short n) h in
    let f = and_parts (is_short id) (is_short client) g.0 in
    field_back number_in (decimal id) (codes "mcast") _ _ (number_back id f.0) ∙ (one_back number_in (decimal client) _ _ (number_back client f.1) ∙ one_back number_in (decimal n) _ _ (number_back n g.1))
line_back (ask_line id client) h =
    let f = and_parts (is_short id) (is_short client) h in
    field_back number_in (decimal id) (codes "ask") _ _ (number_back id f.0) ∙ one_back number_in (decimal client) _ _ (number_back client f.1)
line_back (drop_line id client) h =
    let f = and_parts (is_short id) (is_short client) h in
    field_back number_in (decimal id) (codes "drop") _ _ (number_back id f.0) ∙ one_back number_in (decimal client) _ _ (number_back client f.1)

-- no word of a line has a space
pub no_spaces : (l : TraceLine) → line_has_form l ≡ true → list_all has_no_space (line_words l) ≡ true
no_spaces (head_line version tick link) h =
    let g = and_parts (is_version version && is_short tick) (is_short link) h in
    let f = and_parts (is_version version) (is_short tick) g.0 in
    and_both (in_version version f.0) (and_both (in_decimal tick f.1) (and_both (in_decimal link g.1) refl))
no_spaces (channel_line version c) h = in_channel version c h
no_spaces (live_line id hex) h =
    let f = and_parts (is_short id) (is_hex hex) h in and_both (in_decimal id f.0) (and_both (in_hex hex f.1) refl)
no_spaces (feedback_line id client hex) h =
    let g = and_parts (is_short id && is_short client) (is_hex hex) h in
    let f = and_parts (is_short id) (is_short client) g.0 in and_both (in_decimal id f.0) (and_both (in_decimal client f.1) (and_both (in_hex hex g.1) refl))
no_spaces tick_line h = refl
no_spaces end_line h = refl
no_spaces (tune_line id client ssrc) h =
    let g = and_parts (is_short id && is_short client) (is_word32 ssrc) h in
    let f = and_parts (is_short id) (is_short client) g.0 in and_both (in_decimal id f.0) (and_both (in_decimal client f.1) (and_both (in_word32 ssrc g.1) refl))
no_spaces (give_line number) h = and_both (in_decimal number h) refl
no_spaces (mcast_line id client n) h =
    let g = and_parts (is_short id && is_short client) (is_short n) h in
    let f = and_parts (is_short id) (is_short client) g.0 in and_both (in_decimal id f.0) (and_both (in_decimal client f.1) (and_both (in_decimal n g.1) refl))
no_spaces (ask_line id client) h =
    let f = and_parts (is_short id) (is_short client) h in and_both (in_decimal id f.0) (and_both (in_decimal client f.1) refl)
no_spaces (drop_line id client) h =
    let f = and_parts (is_short id) (is_short client) h in and_both (in_decimal id f.0) (and_both (in_decimal client f.1) refl)
