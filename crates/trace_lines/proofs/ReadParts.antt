-- A channel line read in parts is read as it is as a whole.
use Rattle.std.proofs.Common.{◌≡◌, ℕ, List, [], ◌∷◌, Option, Some, None, option_map, option_and_then, refl, ◌∙◌, codes}
use Rattle.rams_model.specs.Texts.{TraceLine, field, whole, access_in, channel_line, rest_in, kept_in, channel_in, ◌>>=◌, number_in, word32_in}
use Rattle.rams_model.specs.Texts.TraceLines.{Words}
use Rattle.rams_model.specs.declared.Channel.{Channel}
use Rattle.trace_lines.specs.declared.{channel_line.Names.Names, channel_line.Places.Places, channel_line.Amounts.Amounts}
use Rattle.trace_lines.specs.declared.{channel_line.Bounds.Bounds, channel_line.Keeping.Keeping}
use Rattle.trace_lines.specs.{names_in, places_in, amounts_in, bounds_in, keeping_in, numbers_in, line_of_numbers, channel_of}

-- a field in front of two readings of the rest that agree
apart : {A B C : Type 0} (name : List ℕ) (read : List ℕ → Option A) (words : Words) (f : A × Words → Option B) (g : B → Option C) (k : A × Words → Option C) → ((a : A × Words) → k a ≡ option_and_then g (f a))
    → option_and_then k (field name read words) ≡ option_and_then g (option_and_then f (field name read words))
apart {A} {B} {C} name read words f g k h = by (field name read words)
  where
    by : (o : Option (A × Words)) → option_and_then k o ≡ option_and_then g (option_and_then f o)
    by None = refl
    by (Some a) = h a

mapped : {A B C : Type 0} (o : Option A) (f : A → Option B) (g : B → C) (k : A → Option C) → ((a : A) → k a ≡ option_map g (f a))
    → option_and_then k o ≡ option_map g (option_and_then f o)
mapped None f g k h = refl
mapped (Some a) f g k h = h a

-- the channel of these parts, of which nothing is kept
abbrev unkept : Names → Places → Amounts → Bounds → Channel
unkept n p a b = channel_of (record { names = n; places = p; amounts = a; bounds = b; keeping = record { version = 1; depth = 0; swell = 0 } })

-- a line from each of its parts on
abbrev after_amounts : Names → Places → Amounts → Words → Option TraceLine
after_amounts n p a words = do
  limit ← field (codes "limit") number_in words
  idle ← field (codes "idle") number_in limit.1
  clients ← field (codes "clients") number_in idle.1
  rest_in (unkept n p a (record { limit = limit.0; idle = idle.0; clients = clients.0 })) clients.1

abbrev after_places : Names → Places → Words → Option TraceLine
after_places n p words = do
  share ← field (codes "share") number_in words
  reserve ← field (codes "reserve") number_in share.1
  burst ← field (codes "burst") number_in reserve.1
  declared ← field (codes "declared") number_in burst.1
  minwire ← field (codes "minwire") number_in declared.1
  after_amounts n p (record { share = share.0; reserve = reserve.0; burst = burst.0; declared = declared.0; minwire = minwire.0 }) minwire.1

abbrev after_names : Names → Words → Option TraceLine
after_names n words = do
  ring ← field (codes "ring") number_in words
  window ← field (codes "window") number_in ring.1
  access ← field (codes "access") access_in window.1
  after_places n (record { ring = ring.0; window = window.0; access = access.0 }) access.1

names_first : (words : Words) → channel_in words ≡ option_and_then (λ n. after_names n.0 n.1) (names_in words)
unfolding channel_in names_in
names_first words =
    apart (codes "channel") number_in words _ _ _ (λ id.
    apart (codes "ssrc") word32_in id.1 _ _ _ (λ ssrc.
    apart (codes "pt") number_in ssrc.1 _ _ _ (λ pt.
    apart (codes "rtx") number_in pt.1 _ _ _ (λ rtx.
    apart (codes "server") word32_in rtx.1 _ _ _ (λ server.
    apart (codes "seq0") number_in server.1 _ _ _ (λ seq0. refl))))))

places_next : (n : Names) (words : Words) → after_names n words ≡ option_and_then (λ p. after_places n p.0 p.1) (places_in words)
unfolding places_in
places_next n words =
    apart (codes "ring") number_in words _ _ _ (λ ring.
    apart (codes "window") number_in ring.1 _ _ _ (λ window.
    apart (codes "access") access_in window.1 _ _ _ (λ access. refl)))

amounts_next : (n : Names) (p : Places) (words : Words) → after_places n p words ≡ option_and_then (λ a. after_amounts n p a.0 a.1) (amounts_in words)
unfolding amounts_in
amounts_next n p words =
    apart (codes "share") number_in words _ _ _ (λ share.
    apart (codes "reserve") number_in share.1 _ _ _ (λ reserve.
    apart (codes "burst") number_in reserve.1 _ _ _ (λ burst.
    apart (codes "declared") number_in burst.1 _ _ _ (λ declared.
    apart (codes "minwire") number_in declared.1 _ _ _ (λ minwire. refl)))))

bounds_next : (n : Names) (p : Places) (a : Amounts) (words : Words) → after_amounts n p a words ≡ option_and_then (λ b. rest_in (unkept n p a b.0) b.1) (bounds_in words)
unfolding bounds_in
bounds_next n p a words =
    apart (codes "limit") number_in words _ _ _ (λ limit.
    apart (codes "idle") number_in limit.1 _ _ _ (λ idle.
    apart (codes "clients") number_in idle.1 _ _ _ (λ clients. refl)))

abbrev line_kept : Channel → Keeping → TraceLine
line_kept c k = channel_line k.version (record c { depth = k.depth; swell = k.swell })

whole_kept : (c : Channel) (k : Keeping) (words : Words) → whole (line_kept c k) words ≡ option_map (line_kept c) (whole k words)
whole_kept c k [] = refl
whole_kept c k (word ∷ rest) = refl

rest_last : (n : Names) (p : Places) (a : Amounts) (b : Bounds) (words : Words) → rest_in (unkept n p a b) words ≡ option_map (line_kept (unkept n p a b)) (keeping_in words)
unfolding keeping_in kept_in
rest_last n p a b [] = refl
rest_last n p a b (word ∷ rest) =
    mapped (field (codes "depth") number_in (word ∷ rest)) _ _ _ (λ depth.
    mapped (field (codes "swell") number_in depth.1) _ _ _ (λ swell. whole_kept (unkept n p a b) (record { version = 2; depth = depth.0; swell = swell.0 }) swell.1))

-- the line that the words are is the line of their numbers
pub channel_is_numbers : (words : Words) → channel_in words ≡ option_map line_of_numbers (numbers_in words)
unfolding numbers_in
channel_is_numbers words =
    names_first words ∙ mapped (names_in words) _ _ _ (λ n.
    places_next n.0 n.1 ∙ mapped (places_in n.1) _ _ _ (λ p.
    amounts_next n.0 p.0 p.1 ∙ mapped (amounts_in p.1) _ _ _ (λ a.
    bounds_next n.0 p.0 a.0 a.1 ∙ mapped (bounds_in a.1) _ _ _ (λ b.
    rest_last n.0 p.0 a.0 b.0 b.1 ∙ refold n.0 p.0 a.0 b.0 (keeping_in b.1)))))
  where
    refold : (n : Names) (p : Places) (a : Amounts) (b : Bounds) (o : Option Keeping)
        → option_map (line_kept (unkept n p a b)) o ≡ option_map line_of_numbers (option_and_then (λ k. Some (record { names = n; places = p; amounts = a; bounds = b; keeping = k })) o)
    refold n p a b None = refl
    refold n p a b (Some k) = refl
