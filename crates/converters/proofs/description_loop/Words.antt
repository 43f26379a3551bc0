-- The words of a head's lines: none has a line feed in it, and each is short.
use Rattle.std.proofs.Common.{◌≡◌, ℕ, ◌*◌, ◌^◌, ◌<◌, ◌≤◌, Bool, true, false, not, ◌&&◌, ◌==◌, nat_le, if◌then◌else◌, List, [], ◌∷◌, ◌++◌, length, Some, None, codes, decimal, refl, ◌∙◌, arith, inl, inr, length-append}
use Rattle.std.specs.List.{list_all}
use Rattle.std.specs.Int.{w32, from_be_bytes}
use Rattle.std.proofs.lemmas.Bool.{and_parts, eqb-true, ltb-true}
use Rattle.std.proofs.lemmas.Bool.Decides.{nat_tests}
use Rattle.std.proofs.lemmas.Fmt.{length-decimal-le}
use Rattle.std.proofs.lemmas.List.Folds.{list_all-append}
use Rattle.rams_model.specs.declared.{Access.Access, Access.TheVariants.Marker, Access.TheVariants.Ts, Channel.Channel}
use Rattle.rams_model.specs.Texts.{text_of, spaced_words, bytes_in, word32, word32_in, is_digit, is_hex_digit, head_line, channel_line, line_words, kept_words, channel_words, access_word, line_has_form, is_short, is_word32, is_version, version_says, channel_has_form}
use Rattle.rams_model.specs.Texts.TraceLines.{Words}
use Rattle.line_io.specs.{HasNoFeed}
use Rattle.trace_lines.proofs.Spelled.{digits_of, and_both}
use Rattle.trace_lines.proofs.Steps.{two_versions}
use Rattle.trace_lines.proofs.Word32.{word32_back, word32_digits}
use Rattle.trace_loop.proofs.journal_book.EventLines.{all_weaker, no_feed}

abbrev pub is_inner : ℕ → Bool
is_inner b = not (b == 10)

-- no line feed, and at most 15 bytes
abbrev pub is_plain : List ℕ → Bool
is_plain word = list_all is_inner word && nat_le (length word) 15

digit_inner : (b : ℕ) → is_digit b ≡ true → is_inner b ≡ true
digit_inner b h = grind (arith, nat_tests)

hex_inner : (b : ℕ) → is_hex_digit b ≡ true → is_inner b ≡ true
hex_inner b h = grind (arith, nat_tests)

at_most : (n : ℕ) → n ≤ 15 → nat_le n 15 ≡ true
at_most n h = grind (arith, nat_tests)

at_most_15 : (n : ℕ) → nat_le n 15 ≡ true → n ≤ 15
at_most_15 n h = grind (arith, nat_tests)

plain_number : (n : ℕ) → is_short n ≡ true → is_plain (decimal n) ≡ true
plain_number n h =
    let small : n < 10 ^ 15 = ltb-true n (10 ^ 15) h in
    and_both (all_weaker is_digit is_inner digit_inner (decimal n) (digits_of n h)) (at_most (length (decimal n)) (length-decimal-le 15 n (omega arith) small (omega arith)))

length_8 : (word : List ℕ) (n : ℕ) → word32_in word ≡ Some n → length word ≡ 8
length_8 word n e = by (length word == 8 && list_all is_hex_digit word) refl e
  where
    by : (b : Bool) → (length word == 8 && list_all is_hex_digit word) ≡ b → (if b then Some (from_be_bytes w32 (bytes_in word)) else None) ≡ Some n → length word ≡ 8
    by true h e = eqb-true (length word) 8 (and_parts (length word == 8) (list_all is_hex_digit word) h).0
    by false h e = absurd cc

plain_word32 : (n : ℕ) → is_word32 n ≡ true → is_plain (word32 n) ≡ true
plain_word32 n h =
    let eight = length_8 (word32 n) n (word32_back n h) in
    and_both (all_weaker is_hex_digit is_inner hex_inner (word32 n) (word32_digits n h)) (at_most (length (word32 n)) (omega (arith, eight)))

plain_access : (a : Access) → is_plain (access_word a) ≡ true
plain_access Marker = refl
plain_access Ts = refl

plain_version : (v : ℕ) → is_version v ≡ true → is_plain (decimal v) ≡ true
plain_version v h = plain_number v (elim (two_versions v h) [ inl e ↦ rw e refl | inr e ↦ rw e refl ])

-- ---- the text of plain words

clean_both : (xs ys : List ℕ) → list_all is_inner xs ≡ true → list_all is_inner ys ≡ true → list_all is_inner (xs ++ ys) ≡ true
clean_both xs ys h k = list_all-append is_inner xs ys ∙ and_both h k

clean_spaced : (words : Words) → list_all is_plain words ≡ true → list_all is_inner (spaced_words words) ≡ true
clean_spaced [] h = refl
clean_spaced (word ∷ words) h =
    let parts = and_parts (is_plain word) (list_all is_plain words) h in
    clean_both word (spaced_words words) (and_parts (list_all is_inner word) (nat_le (length word) 15) parts.0).0 (clean_spaced words parts.1)

clean_text : (words : Words) → list_all is_plain words ≡ true → list_all is_inner (text_of words) ≡ true
clean_text [] h = refl
clean_text (word ∷ words) h =
    let parts = and_parts (is_plain word) (list_all is_plain words) h in
    clean_both word (spaced_words words) (and_parts (list_all is_inner word) (nat_le (length word) 15) parts.0).0 (clean_spaced words parts.1)

short_spaced : (words : Words) → list_all is_plain words ≡ true → length (spaced_words words) ≤ 16 * length words
short_spaced [] h = omega arith
short_spaced (word ∷ words) h =
    let parts = and_parts (is_plain word) (list_all is_plain words) h in
    let one = at_most_15 (length word) (and_parts (list_all is_inner word) (nat_le (length word) 15) parts.0).1 in
    let rest = short_spaced words parts.1 in
    omega (arith, one, rest, length-append word (spaced_words words))

short_text : (words : Words) → list_all is_plain words ≡ true → length (text_of words) ≤ 16 * length words
short_text [] h = omega arith
short_text (word ∷ words) h =
    let parts = and_parts (is_plain word) (list_all is_plain words) h in
    let one = at_most_15 (length word) (and_parts (list_all is_inner word) (nat_le (length word) 15) parts.0).1 in
    let rest = short_spaced words parts.1 in
    omega (arith, one, rest, length-append word (spaced_words words))

-- The text of plain words: no line feed stands in it, and it is a line's.
pub record IsLineText (text : List ℕ) : Type 0 where
  pub clean : HasNoFeed text
  pub short : length text ≤ 4096

line_text_from : (words : Words) → list_all is_plain words ≡ true → length words ≤ 38 → IsLineText (text_of words)
line_text_from words h few = record { clean = no_feed (text_of words) (clean_text words h); short = let most = short_text words h in omega (arith, most, few) }

-- ---- the lines of a head

pub head_text : (version tick link : ℕ) → line_has_form (head_line version tick link) ≡ true → IsLineText (text_of (line_words (head_line version tick link)))
head_text version tick link h =
    let outer = and_parts (is_version version && is_short tick) (is_short link) h in
    let inner = and_parts (is_version version) (is_short tick) outer.0 in
    line_text_from (line_words (head_line version tick link))
    (and_both refl (and_both (plain_version version inner.0) (and_both refl (and_both (plain_number tick inner.1) (and_both refl (and_both (plain_number link outer.1) refl))))))
    (omega arith)

kept_plain : (version : ℕ) (c : Channel) → is_short c.depth ≡ true → is_short c.swell ≡ true → list_all is_plain (kept_words version c) ≡ true
kept_plain version c depth swell = by (version == 1)
  where
    by : (b : Bool) → list_all is_plain (if b then [] else codes "depth" ∷ decimal c.depth ∷ codes "swell" ∷ decimal c.swell ∷ []) ≡ true
    by true = refl
    by false = and_both refl (and_both (plain_number c.depth depth) (and_both refl (and_both (plain_number c.swell swell) refl)))

kept_few : (version : ℕ) (c : Channel) → length (kept_words version c) ≤ 4
kept_few version c = by (version == 1)
  where
    by : (b : Bool) → length (if b then [] else codes "depth" ∷ decimal c.depth ∷ codes "swell" ∷ decimal c.swell ∷ []) ≤ 4
    by true = omega arith
    by false = omega arith

-- The numbers of a channel line that can be spelled.
pub record AreShort (version : ℕ) (c : Channel) : Type 0 where
  pub versions : is_version version ≡ true
  pub id : is_short c.id ≡ true
  pub ssrc : is_word32 c.ssrc ≡ true
  pub pt : is_short c.pt ≡ true
  pub rtx : is_short c.rtx ≡ true
  pub server : is_word32 c.server ≡ true
  pub seq0 : is_short c.seq0 ≡ true
  pub ring : is_short c.ring ≡ true
  pub window : is_short c.window ≡ true
  pub share : is_short c.share ≡ true
  pub reserve : is_short c.reserve ≡ true
  pub burst : is_short c.burst ≡ true
  pub declared : is_short c.declared ≡ true
  pub minwire : is_short c.minwire ≡ true
  pub limit : is_short c.limit ≡ true
  pub idle : is_short c.idle ≡ true
  pub clients : is_short c.clients ≡ true
  pub depth : is_short c.depth ≡ true
  pub swell : is_short c.swell ≡ true

pub shorts : (version : ℕ) (c : Channel) → line_has_form (channel_line version c) ≡ true → AreShort version c
shorts version c h =
    let says = and_parts (is_version version && channel_has_form c) (version_says version c) h in
    let all = and_parts (is_version version) (channel_has_form c) says.0 in
    let swell = and_parts _ (is_short c.swell) all.1 in
    let depth = and_parts _ (is_short c.depth) swell.0 in
    let clients = and_parts _ (is_short c.clients) depth.0 in
    let idle = and_parts _ (is_short c.idle) clients.0 in
    let limit = and_parts _ (is_short c.limit) idle.0 in
    let minwire = and_parts _ (is_short c.minwire) limit.0 in
    let declared = and_parts _ (is_short c.declared) minwire.0 in
    let burst = and_parts _ (is_short c.burst) declared.0 in
    let reserve = and_parts _ (is_short c.reserve) burst.0 in
    let share = and_parts _ (is_short c.share) reserve.0 in
    let window = and_parts _ (is_short c.window) share.0 in
    let ring = and_parts _ (is_short c.ring) window.0 in
    let seq0 = and_parts _ (is_short c.seq0) ring.0 in
    let server = and_parts _ (is_word32 c.server) seq0.0 in
    let rtx = and_parts _ (is_short c.rtx) server.0 in
    let pt = and_parts _ (is_short c.pt) rtx.0 in
    let both = and_parts (is_short c.id) (is_word32 c.ssrc) pt.0 in
    record {
      versions = all.0;
      id = both.0;
      ssrc = both.1;
      pt = pt.1;
      rtx = rtx.1;
      server = server.1;
      seq0 = seq0.1;
      ring = ring.1;
      window = window.1;
      share = share.1;
      reserve = reserve.1;
      burst = burst.1;
      declared = declared.1;
      minwire = minwire.1;
      limit = limit.1;
      idle = idle.1;
      clients = clients.1;
      depth = depth.1;
      swell = swell.1;
    }

-- and its version says what it keeps
pub says_of : (version : ℕ) (c : Channel) → line_has_form (channel_line version c) ≡ true → version_says version c ≡ true
says_of version c h = (and_parts (is_version version && channel_has_form c) (version_says version c) h).1

pub channel_text : (version : ℕ) (c : Channel) → AreShort version c → IsLineText (text_of (channel_words version c))
channel_text version c are =
    line_text_from (channel_words version c)
    (and_both refl (and_both (plain_number c.id are.id) (and_both refl (and_both (plain_word32 c.ssrc are.ssrc) (
    and_both refl (and_both (plain_number c.pt are.pt) (and_both refl (and_both (plain_number c.rtx are.rtx) (
    and_both refl (and_both (plain_word32 c.server are.server) (and_both refl (and_both (plain_number c.seq0 are.seq0) (
    and_both refl (and_both (plain_number c.ring are.ring) (and_both refl (and_both (plain_number c.window are.window) (
    and_both refl (and_both (plain_access c.access) (and_both refl (and_both (plain_number c.share are.share) (
    and_both refl (and_both (plain_number c.reserve are.reserve) (and_both refl (and_both (plain_number c.burst are.burst) (
    and_both refl (and_both (plain_number c.declared are.declared) (and_both refl (and_both (plain_number c.minwire are.minwire) (
    and_both refl (and_both (plain_number c.limit are.limit) (and_both refl (and_both (plain_number c.idle are.idle) (
    and_both refl (and_both (plain_number c.clients are.clients) (kept_plain version c are.depth are.swell)))))))))))))))))))))))))))))))))))
    (let few = kept_few version c in omega (arith, few))
