-- A description that is written reads as its channel's settings.
use Rattle.std.proofs.Common.{◌≡◌, ℕ, ◌+◌, ◌^◌, ◌<◌, ◌≤◌, Bool, true, false, ◌||◌, ◌==◌, nat_le, List, [], ◌∷◌, ◌++◌, length, None, Some, Ok, codes, decimal, refl, sym, ap, ◌∙◌, arith, le-leb, append_assoc, append-nil}
use Rattle.std.proofs.lemmas.Bool.{lt-ltb, ne_eqb}
use Rattle.std.proofs.lemmas.Bool.Decides.{nat_tests}
use Rattle.std.specs.List.{list_all, list_any, find}
use Rattle.rams_model.specs.declared.Channel.{Channel}
use Rattle.trace_lines.proofs.Spelled.{same_word, number_back, and_both}
use Rattle.converters.specs.declared.description_loop.sdp_config.attribute.Attribute.TheVariants.{RtxMap, RtxOf}
use Rattle.converters.specs.declared.description_loop.sdp_config.section.Role.TheVariants.{Media, Repair}
use Rattle.converters.specs.description_loop.sdp_config.{Section, is_line, pieces_of, behind, type_in, offers_bursts, ssrc_number, is_padded, has_apt, sections_of, formats_of, has_line, first_ssrc, is_wanted, first_format, first_found, text_fault, settings_in, settings_of, sdp_at, session_lines, media_lines, offer_lines, repair_lines, description, shown_channel}
use Rattle.converters.specs.description_loop.sdp_config.Laws.{IsDescribable}
use Rattle.converters.specs.description_loop.sdp_config.Sections.{found_in}
use Rattle.converters.proofs.description_loop.sdp_config.Behind.{behind_itself}
use Rattle.converters.proofs.description_loop.sdp_config.WrittenLines.{is_clean, lines_joined, IsPlain, plain_both, plain_number, short_of, line_is, no_fault, no_space, no_semicolon, piece_first, piece_last}

-- the fields of a media line of one format
pub media_fields : (port format : ℕ) → port < 2 ^ 32 → format < 2 ^ 32
    → pieces_of 32 (codes "video " ++ decimal port ++ codes " RTP/AVPF " ++ decimal format) ≡ codes "video" ∷ decimal port ∷ codes "RTP/AVPF" ∷ decimal format ∷ []
media_fields port format h k =
    ap (pieces_of 32) (append_assoc (codes "video " ++ decimal port) (codes " RTP/AVPF ") (decimal format) ∙ append_assoc (codes "video ") (decimal port) (codes " RTP/AVPF " ++ decimal format))
    ∙ piece_first 32 (codes "video") (decimal port ++ (codes " RTP/AVPF " ++ decimal format)) refl
    ∙ ap (λ (all : List (List ℕ)). codes "video" ∷ all) (
    piece_first 32 (decimal port) (codes "RTP/AVPF " ++ decimal format) (no_space port h)
    ∙ ap (λ (all : List (List ℕ)). decimal port ∷ all) (
    piece_first 32 (codes "RTP/AVPF") (decimal format) refl
    ∙ ap (λ (all : List (List ℕ)). codes "RTP/AVPF" ∷ all) (piece_last 32 (decimal format) (no_space format k))))

-- a payload type that is written is read
pub type_back : (n : ℕ) → n < 128 → type_in (decimal n) ≡ Some n
type_back n h = rw (number_back n (short_of n (omega arith)), le-leb n 127 (omega arith)) refl

-- the formats of such a line
pub one_format : (port format : ℕ) → port < 2 ^ 32 → format < 128
    → formats_of (pieces_of 32 (codes "video " ++ decimal port ++ codes " RTP/AVPF " ++ decimal format)) ≡ format ∷ []
one_format port format h k = ap formats_of (media_fields port format h (omega arith)) ∙ rw (type_back format k) refl

any_fourth : (a b c d e : Bool) → d ≡ true → (a || (b || (c || (d || e)))) ≡ true
any_fourth a b c d e h = grind (arith, h)

-- the line that offers rapid acquisition
pub offered : (p : ℕ) → offers_bursts p (codes "a=rtcp-fb:" ++ decimal p ++ codes " nack rai") ≡ true
offered p = rw (same_word (codes "a=rtcp-fb:" ++ decimal p ++ codes " nack rai")) refl

-- the number in a line that names a source
pub source_named : (n : ℕ) → n < 2 ^ 32 → ssrc_number (decimal n ++ codes " cname:rams") ≡ Some n
source_named n h =
    rw (piece_first 32 (decimal n) (codes "cname:rams") (no_space n h), number_back n (short_of n h), lt-ltb n (2 ^ 32) h) refl

-- what a line says of a format
pub behind_number : (front rest : List ℕ) (n : ℕ) → behind (front ++ decimal n ++ codes " ") (front ++ decimal n ++ (32 ∷ rest)) ≡ Some rest
behind_number front rest n =
    ap (behind (front ++ decimal n ++ codes " ")) (sym (append_assoc (front ++ decimal n) (codes " ") rest))
    ∙ behind_itself (front ++ decimal n ++ codes " ") rest

-- the format that a format's parameter names
pub apt_named : (p : ℕ) → p < 2 ^ 32 → has_apt p (codes "apt=" ++ decimal p) ≡ true
apt_named p h =
    let itself : behind (codes "apt=" ++ decimal p) (codes "apt=" ++ decimal p) ≡ Some [] =
    ap (behind (codes "apt=" ++ decimal p)) (sym (append-nil (codes "apt=" ++ decimal p))) ∙ behind_itself (codes "apt=" ++ decimal p) [] in
    ap (list_any (is_padded (codes "apt=" ++ decimal p))) (apart p h) ∙ rw itself refl
  where
    apart : (p : ℕ) → p < 2 ^ 32 → pieces_of 59 (codes "apt=" ++ decimal p) ≡ (codes "apt=" ++ decimal p) ∷ []
    apart p h = rw (piece_last 59 (decimal p) (no_semicolon p h)) refl

-- the lines of a description
abbrev pub lines_of : Channel → ℕ → List (List ℕ)
lines_of c port = session_lines c.id ++ media_lines port c.pt ++ offer_lines c.pt c.ssrc ++ repair_lines (port + 1) c.rtx c.pt

-- a text in which nothing is put in
plain_text : (most : ℕ) (text : List ℕ) → is_clean text ≡ true → nat_le (length text) most ≡ true → IsPlain most text
plain_text most text h k = record { clean = h; short = grind (arith, nat_tests) }

plain_more : (m n : ℕ) (text : List ℕ) → m ≤ n → IsPlain m text → IsPlain n text
plain_more m n text h p = record { clean = p.clean; short = let s = p.short in omega arith }

-- a number between two texts
plain_between : (front behind : List ℕ) (n : ℕ) → n < 2 ^ 32 → IsPlain 50 front → IsPlain 50 behind → IsPlain 4096 (front ++ decimal n ++ behind)
plain_between front behind n h p q =
    plain_more (50 + 15 + 50) 4096 (front ++ decimal n ++ behind) (omega arith)
    (plain_both (50 + 15) 50 (front ++ decimal n) behind (plain_both 50 15 front (decimal n) p (plain_number n h)) q)

-- two numbers, each behind a text
plain_pair : (front between : List ℕ) (n m : ℕ) → n < 2 ^ 32 → m < 2 ^ 32 → IsPlain 50 front → IsPlain 50 between
    → IsPlain 4096 (front ++ decimal n ++ between ++ decimal m)
plain_pair front between n m h k p q =
    plain_more (50 + 15 + 50 + 15) 4096 (front ++ decimal n ++ between ++ decimal m) (omega arith)
    (plain_both (50 + 15 + 50) 15 (front ++ decimal n ++ between) (decimal m)
    (plain_both (50 + 15) 50 (front ++ decimal n) between (plain_both 50 15 front (decimal n) p (plain_number n h)) q) (plain_number m k))

-- the lines behind the channel's media line
abbrev pub own_of : Channel → List (List ℕ)
own_of c =
    codes "c=IN IP4 127.0.0.1"
    ∷ (codes "a=rtpmap:" ++ decimal c.pt ++ codes " MP2T/90000")
    ∷ (codes "a=rtcp-fb:" ++ decimal c.pt ++ codes " nack")
    ∷ (codes "a=rtcp-fb:" ++ decimal c.pt ++ codes " nack rai")
    ∷ (codes "a=ssrc:" ++ decimal c.ssrc ++ codes " cname:rams")
    ∷ []

-- and those behind that of its repairs
abbrev pub repairs_of : Channel → List (List ℕ)
repairs_of c =
    codes "c=IN IP4 127.0.0.1"
    ∷ (codes "a=rtpmap:" ++ decimal c.rtx ++ codes " rtx/90000")
    ∷ (codes "a=fmtp:" ++ decimal c.rtx ++ codes " apt=" ++ decimal c.pt)
    ∷ []

abbrev pub channel_section : Channel → ℕ → Section
channel_section c port = record { fields = pieces_of 32 (codes "video " ++ decimal port ++ codes " RTP/AVPF " ++ decimal c.pt); lines = own_of c }

abbrev pub repair_section : Channel → ℕ → Section
repair_section c port = record { fields = pieces_of 32 (codes "video " ++ decimal (port + 1) ++ codes " RTP/AVPF " ++ decimal c.rtx); lines = repairs_of c }

-- the channel is found first
pub channel_found : (c : Channel) (port : ℕ) → IsDescribable c port → first_format Media (channel_section c port) ≡ Some c.pt
channel_found c port h =
    let at : port < 2 ^ 32 = let near = h.near in omega arith in
    ap (find (is_wanted Media (channel_section c port))) (one_format port c.pt at h.pt)
    ∙ rw (any_fourth (offers_bursts c.pt (codes "c=IN IP4 127.0.0.1")) (offers_bursts c.pt (codes "a=rtpmap:" ++ decimal c.pt ++ codes " MP2T/90000"))
    (offers_bursts c.pt (codes "a=rtcp-fb:" ++ decimal c.pt ++ codes " nack")) (offers_bursts c.pt (codes "a=rtcp-fb:" ++ decimal c.pt ++ codes " nack rai"))
    (offers_bursts c.pt (codes "a=ssrc:" ++ decimal c.ssrc ++ codes " cname:rams") || false) (offered c.pt)) refl

-- its source
pub source_found : (c : Channel) → c.ssrc < 2 ^ 32 → first_ssrc (own_of c) ≡ Some c.ssrc
source_found c h = rw (source_named c.ssrc h) refl

-- it is no format of retransmission
pub no_map : (c : Channel) → has_line (RtxMap c.pt) (own_of c) ≡ false
no_map c = rw (behind_number (codes "a=rtpmap:") (codes "MP2T/90000") c.pt) refl

pub not_its_own : (c : Channel) (port : ℕ) → IsDescribable c port → first_format (Repair c.pt) (channel_section c port) ≡ None
not_its_own c port h =
    let at : port < 2 ^ 32 = let near = h.near in omega arith in
    ap (find (is_wanted (Repair c.pt) (channel_section c port))) (one_format port c.pt at h.pt)
    ∙ rw (no_map c) refl

-- the repairs' format is
pub repair_map : (c : Channel) → has_line (RtxMap c.rtx) (repairs_of c) ≡ true
repair_map c = rw (behind_number (codes "a=rtpmap:") (codes "rtx/90000") c.rtx) refl

pub repair_apt : (c : Channel) → c.pt < 128 → has_line (RtxOf c.rtx c.pt) (repairs_of c) ≡ true
repair_apt c h =
    let named : behind (codes "a=fmtp:" ++ decimal c.rtx ++ codes " ") (codes "a=fmtp:" ++ decimal c.rtx ++ codes " apt=" ++ decimal c.pt) ≡ Some (codes "apt=" ++ decimal c.pt) =
    ap (behind (codes "a=fmtp:" ++ decimal c.rtx ++ codes " ")) (append_assoc (codes "a=fmtp:" ++ decimal c.rtx) (codes " apt=") (decimal c.pt))
    ∙ behind_number (codes "a=fmtp:") (codes "apt=" ++ decimal c.pt) c.rtx in
    rw (named, apt_named c.pt (omega arith)) refl

pub repair_found : (c : Channel) (port : ℕ) → IsDescribable c port → first_format (Repair c.pt) (repair_section c port) ≡ Some c.rtx
repair_found c port h =
    let at : port + 1 < 2 ^ 32 = let near = h.near in omega arith in
    ap (find (is_wanted (Repair c.pt) (repair_section c port))) (one_format (port + 1) c.rtx at h.rtx)
    ∙ rw (repair_map c, repair_apt c h.pt) refl

-- what is known of the lines of a description that aren't fixed
record ArePlain (c : Channel) (port : ℕ) : Type 0 where
  name : IsPlain 4096 (codes "s=channel " ++ decimal c.id)
  media : IsPlain 4096 (codes "m=video " ++ decimal port ++ codes " RTP/AVPF " ++ decimal c.pt)
  map : IsPlain 4096 (codes "a=rtpmap:" ++ decimal c.pt ++ codes " MP2T/90000")
  nack : IsPlain 4096 (codes "a=rtcp-fb:" ++ decimal c.pt ++ codes " nack")
  offer : IsPlain 4096 (codes "a=rtcp-fb:" ++ decimal c.pt ++ codes " nack rai")
  source : IsPlain 4096 (codes "a=ssrc:" ++ decimal c.ssrc ++ codes " cname:rams")
  repair : IsPlain 4096 (codes "m=video " ++ decimal (port + 1) ++ codes " RTP/AVPF " ++ decimal c.rtx)
  rtx : IsPlain 4096 (codes "a=rtpmap:" ++ decimal c.rtx ++ codes " rtx/90000")
  apt : IsPlain 4096 (codes "a=fmtp:" ++ decimal c.rtx ++ codes " apt=" ++ decimal c.pt)

are_plain : (c : Channel) (port : ℕ) → IsDescribable c port → ArePlain c port
are_plain c port h =
    let id : c.id < 2 ^ 32 = let small = h.id in omega arith in
    let pt : c.pt < 2 ^ 32 = let small = h.pt in omega arith in
    let rtx : c.rtx < 2 ^ 32 = let small = h.rtx in omega arith in
    let at : port < 2 ^ 32 = let near = h.near in omega arith in
    let next : port + 1 < 2 ^ 32 = let near = h.near in omega arith in record {
      name = plain_more (50 + 15) 4096 (codes "s=channel " ++ decimal c.id) (omega arith) (plain_both 50 15 (codes "s=channel ") (decimal c.id) (plain_text 50 (codes "s=channel ") refl refl) (plain_number c.id id));
      media = plain_pair (codes "m=video ") (codes " RTP/AVPF ") port c.pt at pt (plain_text 50 (codes "m=video ") refl refl) (plain_text 50 (codes " RTP/AVPF ") refl refl);
      map = plain_between (codes "a=rtpmap:") (codes " MP2T/90000") c.pt pt (plain_text 50 (codes "a=rtpmap:") refl refl) (plain_text 50 (codes " MP2T/90000") refl refl);
      nack = plain_between (codes "a=rtcp-fb:") (codes " nack") c.pt pt (plain_text 50 (codes "a=rtcp-fb:") refl refl) (plain_text 50 (codes " nack") refl refl);
      offer = plain_between (codes "a=rtcp-fb:") (codes " nack rai") c.pt pt (plain_text 50 (codes "a=rtcp-fb:") refl refl) (plain_text 50 (codes " nack rai") refl refl);
      source = plain_between (codes "a=ssrc:") (codes " cname:rams") c.ssrc h.ssrc (plain_text 50 (codes "a=ssrc:") refl refl) (plain_text 50 (codes " cname:rams") refl refl);
      repair = plain_pair (codes "m=video ") (codes " RTP/AVPF ") (port + 1) c.rtx next rtx (plain_text 50 (codes "m=video ") refl refl) (plain_text 50 (codes " RTP/AVPF ") refl refl);
      rtx = plain_between (codes "a=rtpmap:") (codes " rtx/90000") c.rtx rtx (plain_text 50 (codes "a=rtpmap:") refl refl) (plain_text 50 (codes " rtx/90000") refl refl);
      apt = plain_pair (codes "a=fmtp:") (codes " apt=") c.rtx c.pt rtx pt (plain_text 50 (codes "a=fmtp:") refl refl) (plain_text 50 (codes " apt=") refl refl);
    }

-- no line has a byte of a line's end in it
all_clean : (c : Channel) (port : ℕ) → ArePlain c port → list_all is_clean (lines_of c port) ≡ true
all_clean c port are =
    and_both refl (and_both refl (and_both are.name.clean (and_both refl (
    and_both are.media.clean (and_both refl (and_both are.map.clean (
    and_both are.nack.clean (and_both are.offer.clean (and_both are.source.clean (
    and_both are.repair.clean (and_both refl (and_both are.rtx.clean (and_both are.apt.clean refl)))))))))))))

-- each has the form of one
all_lines : (c : Channel) (port : ℕ) → ArePlain c port
    → list_all is_line (codes "o=- 0 0 IN IP4 127.0.0.1" ∷ (codes "s=channel " ++ decimal c.id) ∷ codes "t=0 0" ∷ media_lines port c.pt ++ offer_lines c.pt c.ssrc ++ repair_lines (port + 1) c.rtx c.pt) ≡ true
all_lines c port are =
    and_both refl (and_both (line_is 115 _ refl are.name) (and_both refl (
    and_both (line_is 109 _ refl are.media) (and_both refl (and_both (line_is 97 _ refl are.map) (
    and_both (line_is 97 _ refl are.nack) (and_both (line_is 97 _ refl are.offer) (and_both (line_is 97 _ refl are.source) (
    and_both (line_is 109 _ refl are.repair) (and_both refl (and_both (line_is 97 _ refl are.rtx) (and_both (line_is 97 _ refl are.apt) refl))))))))))))

nothing_wrong : (c : Channel) (port : ℕ) → ArePlain c port → text_fault (lines_of c port) ≡ None
nothing_wrong c port are =
    no_fault 2 (codes "o=- 0 0 IN IP4 127.0.0.1" ∷ (codes "s=channel " ++ decimal c.id) ∷ codes "t=0 0" ∷ media_lines port c.pt ++ offer_lines c.pt c.ssrc ++ repair_lines (port + 1) c.rtx c.pt)
    (omega arith) (omega arith) (all_lines c port are)

-- the settings are the channel's
settings_back : (c : Channel) (port : ℕ) → IsDescribable c port → settings_in (lines_of c port) ≡ Ok (shown_channel c)
settings_back c port h =
    let channel : first_found Media (sections_of (lines_of c port)) ≡ Some (found_in (channel_section c port) c.pt) =
    rw (channel_found c port h) refl in
    let repair : first_found (Repair c.pt) (sections_of (lines_of c port)) ≡ Some (found_in (repair_section c port) c.rtx) =
    rw (not_its_own c port h, repair_found c port h) refl in
    let apart : (c.rtx == c.pt) ≡ false = ne_eqb c.rtx c.pt (λ e. h.apart (sym e)) in
    rw (channel, repair, source_found c h.ssrc, apart) refl

pub read_back : (c : Channel) (port : ℕ) → IsDescribable c port → sdp_at (description c port) ≡ Ok (shown_channel c)
unfolding description settings_of
read_back c port h =
    let are = are_plain c port h in
    rw (lines_joined (lines_of c port) (all_clean c port are), nothing_wrong c port are) (settings_back c port h)
