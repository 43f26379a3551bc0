-- The words of a channel line, part by part: what is spelled is read again, and no word has a space.
use Rattle.std.proofs.Common.{◌≡◌, ℕ, true, ◌&&◌, ◌||◌, ◌==◌, [], ◌∷◌, codes, decimal, Option, Some, option_map, option_and_then, refl, sym, ap, subst, ◌∙◌, inl, inr}
use Rattle.std.proofs.lemmas.Bool.{and_parts, eqb-true}
use Rattle.std.specs.List.{list_all}
use Rattle.rams_model.specs.declared.Channel.{Channel}
use Rattle.rams_model.specs.Texts.{number_in, word32_in, word32, channel_line, access_in, access_word, channel_in, line_has_form, channel_words, is_short, is_word32}
use Rattle.rams_model.specs.Texts.TraceLines.{Words}
use Rattle.trace_lines.specs.{LineNumbers as Numbers, LineNames as Names, LinePlaces as Places}
use Rattle.trace_lines.specs.{LineAmounts as Amounts, LineBounds as Bounds, LineKeeping as Keeping}
use Rattle.trace_lines.specs.{names_in, places_in, amounts_in, bounds_in, keeping_in, numbers_in, line_of_numbers}
use Rattle.trace_text.proofs.ChannelWords.{named, placed, amounting, bounded, kept, names_fit, places_fit, amounts_fit, bounds_fit, Fits, Formed, formed, all_words}
use Rattle.trace_lines.proofs.Joins.{has_no_space}
use Rattle.trace_lines.proofs.ReadParts.{channel_is_numbers}
use Rattle.trace_lines.proofs.Spaces.{in_decimal, in_word32, in_access}
use Rattle.trace_lines.proofs.Spelled.{number_back, and_both}
use Rattle.trace_lines.proofs.Steps.{access_back, field_back, two_versions}
use Rattle.trace_lines.proofs.Word32.{word32_back}

names_back : (n : Names) (rest : Words) → names_fit n ≡ true → names_in (named n rest) ≡ Some (n, rest)
unfolding names_in
names_back n rest h =
    let seq0 = and_parts _ (is_short n.seq0) h in
    let server = and_parts _ (is_word32 n.server) seq0.0 in
    let rtx = and_parts _ (is_short n.rtx) server.0 in
    let pt = and_parts _ (is_short n.pt) rtx.0 in
    let ssrc = and_parts (is_short n.id) (is_word32 n.ssrc) pt.0 in
    field_back number_in (decimal n.id) (codes "channel") _ _ (number_back n.id ssrc.0)
    ∙ (field_back word32_in (word32 n.ssrc) (codes "ssrc") _ _ (word32_back n.ssrc ssrc.1)
    ∙ (field_back number_in (decimal n.pt) (codes "pt") _ _ (number_back n.pt pt.1)
    ∙ (field_back number_in (decimal n.rtx) (codes "rtx") _ _ (number_back n.rtx rtx.1)
    ∙ (field_back word32_in (word32 n.server) (codes "server") _ _ (word32_back n.server server.1)
    ∙ field_back number_in (decimal n.seq0) (codes "seq0") rest _ (number_back n.seq0 seq0.1)))))

places_back : (p : Places) (rest : Words) → places_fit p ≡ true → places_in (placed p rest) ≡ Some (p, rest)
unfolding places_in
places_back p rest h =
    let f = and_parts (is_short p.ring) (is_short p.window) h in
    field_back number_in (decimal p.ring) (codes "ring") _ _ (number_back p.ring f.0)
    ∙ (field_back number_in (decimal p.window) (codes "window") _ _ (number_back p.window f.1)
    ∙ field_back access_in (access_word p.access) (codes "access") rest _ (access_back p.access))

amounts_back : (a : Amounts) (rest : Words) → amounts_fit a ≡ true → amounts_in (amounting a rest) ≡ Some (a, rest)
unfolding amounts_in
amounts_back a rest h =
    let minwire = and_parts _ (is_short a.minwire) h in
    let declared = and_parts _ (is_short a.declared) minwire.0 in
    let burst = and_parts _ (is_short a.burst) declared.0 in
    let reserve = and_parts (is_short a.share) (is_short a.reserve) burst.0 in
    field_back number_in (decimal a.share) (codes "share") _ _ (number_back a.share reserve.0)
    ∙ (field_back number_in (decimal a.reserve) (codes "reserve") _ _ (number_back a.reserve reserve.1)
    ∙ (field_back number_in (decimal a.burst) (codes "burst") _ _ (number_back a.burst burst.1)
    ∙ (field_back number_in (decimal a.declared) (codes "declared") _ _ (number_back a.declared declared.1)
    ∙ field_back number_in (decimal a.minwire) (codes "minwire") rest _ (number_back a.minwire minwire.1))))

bounds_back : (b : Bounds) (rest : Words) → bounds_fit b ≡ true → bounds_in (bounded b rest) ≡ Some (b, rest)
unfolding bounds_in
bounds_back b rest h =
    let clients = and_parts _ (is_short b.clients) h in
    let idle = and_parts (is_short b.limit) (is_short b.idle) clients.0 in
    field_back number_in (decimal b.limit) (codes "limit") _ _ (number_back b.limit idle.0)
    ∙ (field_back number_in (decimal b.idle) (codes "idle") _ _ (number_back b.idle idle.1)
    ∙ field_back number_in (decimal b.clients) (codes "clients") rest _ (number_back b.clients clients.1))

abbrev keeping_of : ℕ → ℕ → ℕ → Keeping
keeping_of v d s = record { version = v; depth = d; swell = s }

-- version 1 says nothing, and nothing is kept
first_back : (d s : ℕ) → (d == 0 && s == 0) ≡ true → keeping_in [] ≡ Some (keeping_of 1 d s)
unfolding keeping_in
first_back d s h =
    let zero = and_parts (d == 0) (s == 0) h in
    ap (λ x. Some (keeping_of 1 x 0)) (sym (eqb-true d 0 zero.0)) ∙ ap (λ x. Some (keeping_of 1 d x)) (sym (eqb-true s 0 zero.1))

second_back : (d s : ℕ) → is_short d ≡ true → is_short s ≡ true → keeping_in (codes "depth" ∷ decimal d ∷ codes "swell" ∷ decimal s ∷ []) ≡ Some (keeping_of 2 d s)
unfolding keeping_in
second_back d s hd hs =
    field_back number_in (decimal d) (codes "depth") _ _ (number_back d hd) ∙ field_back number_in (decimal s) (codes "swell") [] _ (number_back s hs)

kept_back : (v d s : ℕ) → Fits (keeping_of v d s) → keeping_in (kept (keeping_of v d s)) ≡ Some (keeping_of v d s)
kept_back v d s f = elim (two_versions v f.version) [
  | inl e ↦
      subst (λ (x : ℕ). keeping_in (kept (keeping_of x d s)) ≡ Some (keeping_of x d s)) (sym e)
      (first_back d s (subst (λ (x : ℕ). (x == 2 || d == 0 && s == 0) ≡ true) e f.says))
  | inr e ↦ subst (λ (x : ℕ). keeping_in (kept (keeping_of x d s)) ≡ Some (keeping_of x d s)) (sym e) (second_back d s f.depth f.swell)
]

then_back : {A B : Type 0} (o : Option A) (a : A) (next : A → Option B) → o ≡ Some a → option_and_then next o ≡ next a
then_back o a next e = ap (option_and_then next) e

numbers_back : (n : Numbers) → Formed n → numbers_in (all_words n) ≡ Some n
unfolding numbers_in
numbers_back n f =
    then_back _ _ _ (names_back n.names _ f.names)
    ∙ (then_back _ _ _ (places_back n.places _ f.places)
    ∙ (then_back _ _ _ (amounts_back n.amounts _ f.amounts)
    ∙ (then_back _ _ _ (bounds_back n.bounds _ f.bounds) ∙ then_back _ _ _ (kept_back n.keeping.version n.keeping.depth n.keeping.swell f.keeping))))

-- the numbers of a channel
abbrev numbers_of : ℕ → Channel → Numbers
numbers_of v c = record {
  names = record { id = c.id; ssrc = c.ssrc; pt = c.pt; rtx = c.rtx; server = c.server; seq0 = c.seq0 };
  places = record { ring = c.ring; window = c.window; access = c.access };
  amounts = record { share = c.share; reserve = c.reserve; burst = c.burst; declared = c.declared; minwire = c.minwire };
  bounds = record { limit = c.limit; idle = c.idle; clients = c.clients };
  keeping = keeping_of v c.depth c.swell;
}

-- what is spelled is read again
pub channel_back : (v : ℕ) (c : Channel) → line_has_form (channel_line v c) ≡ true → channel_in (channel_words v c) ≡ Some (channel_line v c)
channel_back v c h =
    channel_is_numbers (channel_words v c) ∙ ap (option_map line_of_numbers) (numbers_back (numbers_of v c) (formed (numbers_of v c) h))

in_names : (n : Names) (rest : Words) → names_fit n ≡ true → list_all has_no_space rest ≡ true → list_all has_no_space (named n rest) ≡ true
in_names n rest h k =
    let seq0 = and_parts _ (is_short n.seq0) h in
    let server = and_parts _ (is_word32 n.server) seq0.0 in
    let rtx = and_parts _ (is_short n.rtx) server.0 in
    let pt = and_parts _ (is_short n.pt) rtx.0 in
    let ssrc = and_parts (is_short n.id) (is_word32 n.ssrc) pt.0 in
    and_both (in_decimal n.id ssrc.0) (and_both (in_word32 n.ssrc ssrc.1) (and_both (in_decimal n.pt pt.1) (
    and_both (in_decimal n.rtx rtx.1) (and_both (in_word32 n.server server.1) (and_both (in_decimal n.seq0 seq0.1) k)))))

in_places : (p : Places) (rest : Words) → places_fit p ≡ true → list_all has_no_space rest ≡ true → list_all has_no_space (placed p rest) ≡ true
in_places p rest h k =
    let f = and_parts (is_short p.ring) (is_short p.window) h in
    and_both (in_decimal p.ring f.0) (and_both (in_decimal p.window f.1) (and_both (in_access p.access) k))

in_amounts : (a : Amounts) (rest : Words) → amounts_fit a ≡ true → list_all has_no_space rest ≡ true → list_all has_no_space (amounting a rest) ≡ true
in_amounts a rest h k =
    let minwire = and_parts _ (is_short a.minwire) h in
    let declared = and_parts _ (is_short a.declared) minwire.0 in
    let burst = and_parts _ (is_short a.burst) declared.0 in
    let reserve = and_parts (is_short a.share) (is_short a.reserve) burst.0 in
    and_both (in_decimal a.share reserve.0) (and_both (in_decimal a.reserve reserve.1) (
    and_both (in_decimal a.burst burst.1) (and_both (in_decimal a.declared declared.1) (and_both (in_decimal a.minwire minwire.1) k))))

in_bounds : (b : Bounds) (rest : Words) → bounds_fit b ≡ true → list_all has_no_space rest ≡ true → list_all has_no_space (bounded b rest) ≡ true
in_bounds b rest h k =
    let clients = and_parts _ (is_short b.clients) h in
    let idle = and_parts (is_short b.limit) (is_short b.idle) clients.0 in
    and_both (in_decimal b.limit idle.0) (and_both (in_decimal b.idle idle.1) (and_both (in_decimal b.clients clients.1) k))

in_kept : (v d s : ℕ) → Fits (keeping_of v d s) → list_all has_no_space (kept (keeping_of v d s)) ≡ true
in_kept v d s f = elim (two_versions v f.version) [
  | inl e ↦ subst (λ (x : ℕ). list_all has_no_space (kept (keeping_of x d s)) ≡ true) (sym e) refl
  | inr e ↦
      subst (λ (x : ℕ). list_all has_no_space (kept (keeping_of x d s)) ≡ true) (sym e)
      (and_both (in_decimal d f.depth) (and_both (in_decimal s f.swell) refl))
]

-- no word of a channel line has a space
pub in_channel : (v : ℕ) (c : Channel) → line_has_form (channel_line v c) ≡ true → list_all has_no_space (channel_words v c) ≡ true
in_channel v c h =
    let n = numbers_of v c in
    let f = formed n h in
    let bounds = bounded n.bounds (kept n.keeping) in
    let amounts = amounting n.amounts bounds in
    in_names n.names (placed n.places amounts) f.names (
    in_places n.places amounts f.places (
    in_amounts n.amounts bounds f.amounts (
    in_bounds n.bounds (kept n.keeping) f.bounds (in_kept v c.depth c.swell f.keeping))))
