-- A head whose channel has the settings of a description: it is lawful, and its lines can be spelled.
use Rattle.std.proofs.Common.{◌≡◌, ℕ, ◌^◌, ◌≤◌, true, List, arith}
use Rattle.std.proofs.lemmas.Bool.{lt-ltb}
use Rattle.std.proofs.lemmas.Bool.Decides.{nat_tests}
use Rattle.channel_config.specs.{IsLawful}
use Rattle.rams_model.specs.declared.Channel.{Channel}
use Rattle.rams_model.specs.Service.{Settings, settings, channel_in_range}
use Rattle.rams_model.specs.Texts.{head_line, channel_line, line_in_range, line_has_form, line_text, is_spelled, version_says}
use Rattle.converters.specs.declared.description_loop.sdp_config.sdp.Sdp.{Sdp}
use Rattle.converters.specs.description_loop.sdp_config.{IsInRange}
use Rattle.trace_lines.proofs.Spelled.{and_both}
use Rattle.trace_text.proofs.Spelling.{le_true}
use Rattle.line_io.specs.{HasNoFeed}
use Rattle.converters.specs.description_loop.{Heading, with_settings, with_sdp}
use Rattle.converters.proofs.description_loop.ReadHeads.{IsLawfulHead}
use Rattle.converters.proofs.description_loop.Words.{AreShort, shorts, says_of, head_text, channel_text}

-- A head that is lawful, fits its link, and has lines that can be spelled.
pub record IsFine (h : Heading) : Type 0 where
  pub lawful : IsLawful h.settings
  pub fits : h.settings.channel.share ≤ h.link
  pub head_spelled : is_spelled (head_line h.version h.settings.tick h.link) ≡ true
  pub channel_spelled : is_spelled (channel_line h.version h.settings.channel) ≡ true
  pub head_clean : HasNoFeed (line_text (head_line h.version h.settings.tick h.link))
  pub channel_clean : HasNoFeed (line_text (channel_line h.version h.settings.channel))

-- lawful settings are in range
pub in_range : (s : Settings) → IsLawful s → channel_in_range s.channel ≡ true
in_range s l = grind (arith, nat_tests)

-- settings with those of a description are lawful
lawful_with : (s : Settings) (sdp : Sdp) → IsLawful s → IsInRange sdp → IsLawful (settings (with_settings sdp s.channel) s.tick)
lawful_with s sdp l r = record {
  tick_least = l.tick_least;
  tick_most = l.tick_most;
  id_least = l.id_least;
  id_most = l.id_most;
  pt_most = r.pt;
  rtx_most = r.rtx;
  seq0_most = l.seq0_most;
  ring_least = l.ring_least;
  ring_most = l.ring_most;
  window_most = l.window_most;
  share_least = l.share_least;
  share_most = l.share_most;
  reserve_least = l.reserve_least;
  reserve_most = l.reserve_most;
  burst_least = l.burst_least;
  burst_most = l.burst_most;
  declared_most = l.declared_most;
  minwire_least = l.minwire_least;
  minwire_most = l.minwire_most;
  limit_least = l.limit_least;
  limit_most = l.limit_most;
  idle_least = l.idle_least;
  idle_most = l.idle_most;
  clients_least = l.clients_least;
  clients_most = l.clients_most;
  depth_most = l.depth_most;
  swell_most = l.swell_most;
  types_differ = r.apart;
  burst_holds = l.burst_holds;
  share_holds = l.share_holds;
}

-- and their numbers can be spelled
shorts_with : (version : ℕ) (c : Channel) (sdp : Sdp) → AreShort version c → IsInRange sdp → AreShort version (with_settings sdp c)
shorts_with version c sdp are r =
    let pt = r.pt in
    let rtx = r.rtx in
    record {
      versions = are.versions;
      id = are.id;
      ssrc = lt-ltb sdp.ssrc (2 ^ 32) r.ssrc;
      pt = lt-ltb sdp.pt (10 ^ 15) (omega (arith, pt));
      rtx = lt-ltb sdp.rtx (10 ^ 15) (omega (arith, rtx));
      server = are.server;
      seq0 = are.seq0;
      ring = are.ring;
      window = are.window;
      share = are.share;
      reserve = are.reserve;
      burst = are.burst;
      declared = are.declared;
      minwire = are.minwire;
      limit = are.limit;
      idle = are.idle;
      clients = are.clients;
      depth = are.depth;
      swell = are.swell;
    }

form_of : (version : ℕ) (c : Channel) → AreShort version c → version_says version c ≡ true → line_has_form (channel_line version c) ≡ true
form_of version c are says =
    and_both (and_both are.versions (
    and_both (and_both (and_both (and_both (and_both (and_both (and_both (and_both (and_both (and_both (and_both (and_both (and_both (and_both (and_both (and_both (and_both
    are.id are.ssrc) are.pt) are.rtx) are.server) are.seq0) are.ring) are.window) are.share) are.reserve) are.burst) are.declared) are.minwire) are.limit) are.idle) are.clients) are.depth) are.swell)) says

-- a line in range whose numbers can be spelled
spelled_channel : (version : ℕ) (c : Channel) → AreShort version c → version_says version c ≡ true → channel_in_range c ≡ true → is_spelled (channel_line version c) ≡ true
unfolding is_spelled line_text
spelled_channel version c are says range = and_both (and_both (form_of version c are says) range) (le_true _ (channel_text version c are).short)

spelled_head : (version tick link : ℕ) → line_has_form (head_line version tick link) ≡ true → line_in_range (head_line version tick link) ≡ true → is_spelled (head_line version tick link) ≡ true
unfolding is_spelled line_text
spelled_head version tick link form range = and_both (and_both form range) (le_true _ (head_text version tick link form).short)

clean_head : (version tick link : ℕ) → line_has_form (head_line version tick link) ≡ true → HasNoFeed (line_text (head_line version tick link))
unfolding line_text
clean_head version tick link form = (head_text version tick link form).clean

clean_channel : (version : ℕ) (c : Channel) → AreShort version c → HasNoFeed (line_text (channel_line version c))
unfolding line_text
clean_channel version c are = (channel_text version c are).clean

pub fine_with : (bytes : List ℕ) (h : Heading) (sdp : Sdp) → IsLawfulHead bytes h → IsInRange sdp → IsFine (with_sdp sdp h)
fine_with bytes h sdp is r =
    let c = h.settings.channel in
    let are = shorts_with h.version c sdp (shorts h.version c is.channel_form) r in
    let lawful = lawful_with h.settings sdp is.lawful r in
    record {
      lawful = lawful;
      fits = is.fits;
      head_spelled = spelled_head h.version h.settings.tick h.link is.head_form is.head_range;
      channel_spelled = spelled_channel h.version (with_settings sdp c) are (says_of h.version c is.channel_form) (in_range (settings (with_settings sdp c) h.settings.tick) lawful);
      head_clean = clean_head h.version h.settings.tick h.link is.head_form;
      channel_clean = clean_channel h.version (with_settings sdp c) are;
    }
