-- The lines of a head alone are a trace that `run` reads to its end; and a head that is described is turned back.
use Rattle.std.proofs.Common.{◌≡◌, ℕ, ◌+◌, ◌^◌, true, List, [], ◌∷◌, ◌++◌, Some, Result, Ok, Err, refl, ap, ◌∙◌, arith, append_assoc, le-leb}
use Rattle.std.proofs.lemmas.Bool.{eq-eqb, ltb-true}
use Rattle.channel_config.proofs.Laws.{checked-from_IsLawful}
use Rattle.line_io.specs.{HasNoFeed}
use Rattle.line_io.proofs.LineFeeds.{lines_of-cut}
use Rattle.rams_model.specs.declared.LineFault as fault
use Rattle.rams_model.specs.declared.{Mode.TheVariants.Run, Status.TheVariants.Done}
use Rattle.rams_model.specs.Texts.{TraceLine, head_line, channel_line, end_line, lines_of, line_of, line_at, line_in_range, line_text, is_spelled, Reached, nothing_reached, line_is_served, may_come, joined, with_line, accepted, with_reached, judged_line, judged}
use Rattle.converters.specs.declared.{description_loop.sdp_config.sdp.Sdp.Sdp, description_loop.sdp_config.sdp.SdpFault.SdpFault}
use Rattle.converters.specs.description_loop.sdp_config.{sdp_at, IsDescribable}
use Rattle.converters.proofs.description_loop.sdp_config.InRange as in_range
use Rattle.converters.proofs.description_loop.sdp_config.ReadBack.{read_back}
use Rattle.trace_text.proofs.Spelling.{spelled_is_read, ranged_ok}
use Rattle.trace_loop.specs.trace_book.trace_serving.{ended, done, opening, turn, text_from, served_text, after_text}
use Rattle.trace_loop.specs.trace_book.{first_line, run, trace_text}
use Rattle.converters.specs.description_loop.{Heading, HeadSays, says, refuses, behind_head, head_of, heading_text, with_sdp, settings_by, by_head, settings_outcome, SettingsAreTraces, SettingsAreTurnedBack}
use Rattle.converters.proofs.description_loop.ReadHeads.{lawful_head}
use Rattle.converters.proofs.description_loop.Spelled.{IsFine, fine_with}
use Rattle.converters.proofs.description_loop.Words.{shorts}

reads_back : (line : TraceLine) → is_spelled line ≡ true → (line_of (line_text line) ≡ Some line) × (line_in_range line ≡ true)
unfolding line_at
reads_back line h = ranged_ok (line_of (line_text line)) line (spelled_is_read line h)

-- a spelled line that may come is judged by what it does
judges : (r later : Reached) (line : TraceLine) → is_spelled line ≡ true → may_come r line ≡ true → line_is_served r line ≡ true → with_line r line ≡ Ok later → judged r (line_text line) ≡ Ok (line, later)
unfolding judged accepted
judges r later line spelled may served gives =
    let reads = reads_back line spelled in
    let may_come_in : accepted r line ≡ Ok later = rw (may, reads.1, served) gives in
    ap (judged_line r) reads.0 ∙ ap (with_reached line) may_come_in

-- three lines with their line feeds
three_cut : (a b d : List ℕ) → HasNoFeed a → HasNoFeed b → HasNoFeed d → lines_of (((a ++ (10 ∷ [])) ++ (b ++ (10 ∷ []))) ++ (d ++ (10 ∷ []))) ≡ a ∷ b ∷ d ∷ []
unfolding lines_of
three_cut a b d clean_a clean_b clean_d =
    let order : ((a ++ (10 ∷ [])) ++ (b ++ (10 ∷ []))) ++ (d ++ (10 ∷ [])) ≡ a ++ (10 ∷ (b ++ (10 ∷ (d ++ (10 ∷ []))))) = simp append_assoc in
    ap lines_of order ∙ lines_of-cut a (b ++ (10 ∷ (d ++ (10 ∷ [])))) clean_a
    ∙ ap (λ (ls : List (List ℕ)). a ∷ ls) (lines_of-cut b (d ++ (10 ∷ [])) clean_b ∙ ap (λ (ls : List (List ℕ)). b ∷ ls) (lines_of-cut d [] clean_d))

end_spelled : is_spelled end_line ≡ true
unfolding is_spelled line_text
end_spelled = refl

end_clean : HasNoFeed (line_text end_line)
unfolding line_text
end_clean = (refl, (refl, (refl, tt)))

module _ (h : Heading) (fine : IsFine h) where
  abbrev under : Reached
  under = record (nothing_reached Run) { head = Some (record { version = h.version; tick = h.settings.tick; link = h.link }) }

  abbrev behind : Reached
  behind = record under { channels = (record { id = h.settings.channel.id; share = h.settings.channel.share }) ∷ [] }

  -- the head line goes on, and so does the channel line; `end` ends the trace
  first_judged : judged (nothing_reached Run) (line_text (head_line h.version h.settings.tick h.link)) ≡ Ok (head_line h.version h.settings.tick h.link, under)
  first_judged = judges (nothing_reached Run) under (head_line h.version h.settings.tick h.link) fine.head_spelled refl refl refl

  joins : with_line under (channel_line h.version h.settings.channel) ≡ Ok behind
  joins =
      let fits = fine.fits in
      ap (joined under (record { version = h.version; tick = h.settings.tick; link = h.link }) h.settings.channel) (checked-from_IsLawful h.settings fine.lawful)
      ∙ rw (le-leb (0 + h.settings.channel.share) h.link (omega (arith, fits))) refl

  second_judged : judged under (line_text (channel_line h.version h.settings.channel)) ≡ Ok (channel_line h.version h.settings.channel, behind)
  second_judged = judges under behind (channel_line h.version h.settings.channel) fine.channel_spelled (eq-eqb h.version h.version refl) refl joins

  third_judged : judged behind (line_text end_line) ≡ Ok (end_line, record behind { ended = true })
  third_judged = judges behind (record behind { ended = true }) end_line end_spelled refl refl refl

  ends_so : text_from run (opening run) 1 (line_text (head_line h.version h.settings.tick h.link) ∷ line_text (channel_line h.version h.settings.channel) ∷ line_text end_line ∷ []) ≡ done 0
  unfolding text_from turn
  ends_so = rw (first_judged, second_judged, third_judged) refl

  pub runs : trace_text (heading_text h) ≡ ended Done (first_line ++ (done 0).text)
  unfolding served_text heading_text
  runs =
      let lines = three_cut (line_text (head_line h.version h.settings.tick h.link)) (line_text (channel_line h.version h.settings.channel)) (line_text end_line) fine.head_clean fine.channel_clean end_clean in
      ap (λ (ls : List (List ℕ)). after_text first_line (text_from run (opening run) 1 ls)) lines ∙ ap (after_text first_line) ends_so

-- ---- what `sdp` writes

pub settings_run : SettingsAreTraces
unfolding settings_outcome
settings_run bytes = by (head_of bytes) refl
  where
    by_sdp : (h : Heading) → head_of bytes ≡ says h → (r : Result Sdp SdpFault) → sdp_at (behind_head bytes) ≡ r → (settings_by h r).status ≡ Done → trace_text (settings_by h r).text ≡ ended Done (first_line ++ (done 0).text)
    by_sdp h is (Ok sdp) reads e = runs (with_sdp sdp h) (fine_with bytes h sdp (lawful_head bytes h is) (in_range.in_range (behind_head bytes) sdp reads))
    by_sdp h is (Err fault) reads e = absurd cc

    by : (o : HeadSays) → head_of bytes ≡ o → (by_head (λ h. settings_by h (sdp_at (behind_head bytes))) o).status ≡ Done
        → trace_text (by_head (λ h. settings_by h (sdp_at (behind_head bytes))) o).text ≡ ended Done (first_line ++ (done 0).text)
    by (says h) is e = by_sdp h is (sdp_at (behind_head bytes)) refl e
    by (refuses number fault) is e = absurd cc

-- ---- what `describe` writes

pub turned_back : SettingsAreTurnedBack
turned_back bytes h port e near =
    let is = lawful_head bytes h e in
    let id = is.lawful.id_most in
    let pt = is.lawful.pt_most in
    let rtx = is.lawful.rtx_most in
    let describes : IsDescribable h.settings.channel port = record {
      id = omega (arith, id);
      ssrc = ltb-true h.settings.channel.ssrc (2 ^ 32) (shorts h.version h.settings.channel is.channel_form).ssrc;
      pt = omega (arith, pt);
      rtx = omega (arith, rtx);
      apart = is.lawful.types_differ;
      near = omega (arith, near);
    } in
    let back = read_back h.settings.channel port describes in
    record { settings = back; head = ap (settings_by h) back }
