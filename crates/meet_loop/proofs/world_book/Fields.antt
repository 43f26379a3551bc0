-- The channels of a trace have SSRCs of 32 bits: so many have the words of their lines.
use Rattle.std.proofs.Common.{◌≡◌, ℕ, ◌<◌, Bool, true, cond, List, [], ◌∷◌, map, Option, Some, None, refl, ap, sym, ◌∙◌, subst, eqb}
use Rattle.std.specs.Prelude.{◌^◌, All, Ok, Err, filter_map, option_and_then}
use Rattle.std.specs.List.{cons_option}
use Rattle.std.proofs.lemmas.Bool.{and_parts, ltb-true}
use Rattle.std.proofs.lemmas.List.Elements.{All-nil, All-cons, All-head, All-tail, All-weaker, All-contains}
use Rattle.rams_model.specs.declared.{Channel.Channel, LineFault.TheVariants.Range}
use Rattle.rams_model.specs.Service.{Settings, channel_in_range}
use Rattle.rams_model.specs.Texts.{TraceLine, channel_line, line_of, ranged, line_at, is_spelled}
use Rattle.rams_model.proofs.Legality.{found}
use Rattle.server_hub.specs.{id_of, channel_of}
use Rattle.server_hub.specs.Served.{Served}
use Rattle.trace_text.specs.{LinesAreSpelledAsRead}
use Rattle.trace_loop.specs.trace_book.trace_serving.{channel_of_line, channel_at, AreLawful}
use Rattle.trace_loop.specs.trace_book.{settings_of}
use Rattle.meet_loop.specs.world_laws.{HasFields, AreInfos}
use Rattle.meet_loop.specs.world_laws.World.{World}
use Rattle.trace_loop.proofs.trace_book.Lawful.{lawful_range, of_settings}

record Has32 (c : Channel) : Type 0 where
  media : c.ssrc < 2 ^ 32
  server : c.server < 2 ^ 32

-- a channel line that reads is spelled with eight digits for each
spelled_32 : (version : ℕ) (c : Channel) → is_spelled (channel_line version c) ≡ true → Has32 c
unfolding is_spelled
spelled_32 version c e =
    let form = (and_parts _ _ (and_parts _ _ e).0).0 in
    let all = (and_parts _ _ (and_parts _ _ form).0).1 in
    let to_limit = (and_parts _ _ (and_parts _ _ (and_parts _ _ (and_parts _ _ all).0).0).0).0 in
    let to_burst = (and_parts _ _ (and_parts _ _ (and_parts _ _ to_limit).0).0).0 in
    let to_window = (and_parts _ _ (and_parts _ _ (and_parts _ _ to_burst).0).0).0 in
    let to_server = (and_parts _ _ (and_parts _ _ (and_parts _ _ to_window).0).0).0 in
    let to_ssrc = (and_parts _ _ (and_parts _ _ (and_parts _ _ to_server).0).0).0 in
    record { media = ltb-true c.ssrc (2 ^ 32) (and_parts _ _ to_ssrc).1; server = ltb-true c.server (2 ^ 32) (and_parts _ _ to_server).1 }

line_32 : LinesAreSpelledAsRead → (bytes : List ℕ) (c : Channel) (line : TraceLine) → line_of bytes ≡ Some line → channel_of_line line ≡ Some c → channel_in_range c ≡ true → Has32 c
unfolding line_at
line_32 spelled bytes c (channel_line version d) e f r =
    let same : c ≡ d = cc in
    let read : line_at bytes ≡ Ok (channel_line version d) =
    ap ranged e ∙ ap (λ (b : Bool). cond b (Ok (channel_line version d)) (Err Range)) (subst (λ (x : Channel). channel_in_range x ≡ true) same r) in
    subst Has32 (sym same) (spelled_32 version d (spelled bytes (channel_line version d) read).0)
line_32 spelled bytes c line e f r = absurd cc

abbrev Has32InRange : Channel → Type 0
Has32InRange c = channel_in_range c ≡ true → Has32 c

of_line : LinesAreSpelledAsRead → (bytes : List ℕ) (o : Option TraceLine) → line_of bytes ≡ o → (c : Channel) → option_and_then channel_of_line o ≡ Some c → Has32InRange c
of_line spelled bytes None e c f = absurd cc
of_line spelled bytes (Some line) e c f = line_32 spelled bytes c line e f

onto : (o : Option Channel) (rest : List Channel) → ((c : Channel) → o ≡ Some c → Has32InRange c) → All Has32InRange rest → All Has32InRange (cons_option o rest)
onto None rest each a = a
onto (Some c) rest each a = All-cons Has32InRange c rest (each c refl) a

lines_32 : LinesAreSpelledAsRead → (lines : List (List ℕ)) → All Has32InRange (filter_map channel_at lines)
lines_32 spelled [] = All-nil Has32InRange
lines_32 spelled (bytes ∷ lines) = onto (channel_at bytes) (filter_map channel_at lines) (of_line spelled bytes (line_of bytes) refl) (lines_32 spelled lines)

all_have : (all : List Settings) → All Has32InRange (map (λ s. s.channel) all) → All AreLawful all → All HasFields all
all_have [] a l = All-nil HasFields
all_have (s ∷ all) a l =
    let channels = map (λ (x : Settings). x.channel) all in
    let lawful = All-head AreLawful s all l in
    let has = All-head Has32InRange s.channel channels a (lawful_range s lawful) in
    All-cons HasFields s all (record { lawful = lawful; media = has.media; server = has.server }) (all_have all (All-tail Has32InRange s.channel channels a) (All-tail AreLawful s all l))

-- the settings of channels that are read off lines
pub settings_have : LinesAreSpelledAsRead → (lines : List (List ℕ)) (all : List Settings) → map (λ s. s.channel) all ≡ filter_map channel_at lines → All AreLawful all → All HasFields all
settings_have spelled lines all e l = all_have all (subst (All Has32InRange) (sym e) (lines_32 spelled lines)) l

-- what holds of each receiver whose channel has such settings holds of each
pub each_informed : (w : World) → All HasFields (settings_of w.channels) → All (λ l. (c : Served) × (channel_of l.id w.channels ≡ Some c) × (HasFields c.settings → AreInfos l.turns)) w.listeners
    → All (λ l. (c : Served) × (channel_of l.id w.channels ≡ Some c) × AreInfos l.turns) w.listeners
each_informed w have a =
    All-weaker (λ l. (c : Served) × (channel_of l.id w.channels ≡ Some c) × (HasFields c.settings → AreInfos l.turns))
    (λ l. (c : Served) × (channel_of l.id w.channels ≡ Some c) × AreInfos l.turns)
    (λ l i. (i.0, i.1, i.2 (All-contains (λ c. HasFields c.settings) w.channels i.0 (of_settings HasFields w.channels have) (found (λ (c : Served). eqb (id_of c) l.id) w.channels i.0 i.1).0))) w.listeners a
