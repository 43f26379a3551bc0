-- The words of a channel line, part by part: what is read is spelled so.
use Rattle.std.proofs.Common.{◌≡◌, Bool, true, ◌&&◌, ◌||◌, ◌==◌, if◌then◌else◌, [], ◌∷◌, codes, decimal, Option, Some, None, option_map, option_and_then, refl, sym, ap, subst, ◌∙◌}
use Rattle.std.proofs.lemmas.Bool.{and_parts}
use Rattle.rams_model.specs.Texts.{word32, TraceLine, access_word, channel_in, line_words, line_has_form, is_short, is_word32, is_version}
use Rattle.rams_model.specs.Texts.TraceLines.{Words}
use Rattle.trace_lines.specs.{LineNumbers as Numbers, LineNames as Names, LinePlaces as Places}
use Rattle.trace_lines.specs.{LineAmounts as Amounts, LineBounds as Bounds, LineKeeping as Keeping}
use Rattle.trace_lines.specs.{names_in, places_in, amounts_in, bounds_in, keeping_in, numbers_in, line_of_numbers}
use Rattle.trace_lines.proofs.ReadParts.{channel_is_numbers}
use Rattle.trace_lines.proofs.Spelled.{number_is, and_both}
use Rattle.trace_lines.proofs.Steps.{access_is, field_then, whole_step}
use Rattle.trace_lines.proofs.Word32.{word32_is}

-- the words of each part, in front of others
abbrev pub named : Names → Words → Words
named n rest =
    codes "channel" ∷ decimal n.id ∷ codes "ssrc" ∷ word32 n.ssrc ∷ codes "pt" ∷ decimal n.pt ∷ codes "rtx" ∷ decimal n.rtx
    ∷ codes "server" ∷ word32 n.server ∷ codes "seq0" ∷ decimal n.seq0 ∷ rest

abbrev pub placed : Places → Words → Words
placed p rest = codes "ring" ∷ decimal p.ring ∷ codes "window" ∷ decimal p.window ∷ codes "access" ∷ access_word p.access ∷ rest

abbrev pub amounting : Amounts → Words → Words
amounting a rest =
    codes "share" ∷ decimal a.share ∷ codes "reserve" ∷ decimal a.reserve ∷ codes "burst" ∷ decimal a.burst
    ∷ codes "declared" ∷ decimal a.declared ∷ codes "minwire" ∷ decimal a.minwire ∷ rest

abbrev pub bounded : Bounds → Words → Words
bounded b rest = codes "limit" ∷ decimal b.limit ∷ codes "idle" ∷ decimal b.idle ∷ codes "clients" ∷ decimal b.clients ∷ rest

abbrev pub kept : Keeping → Words
kept k = if k.version == 1 then [] else codes "depth" ∷ decimal k.depth ∷ codes "swell" ∷ decimal k.swell ∷ []

-- the form of each part
abbrev pub names_fit : Names → Bool
names_fit n = is_short n.id && is_word32 n.ssrc && is_short n.pt && is_short n.rtx && is_word32 n.server && is_short n.seq0

abbrev pub places_fit : Places → Bool
places_fit p = is_short p.ring && is_short p.window

abbrev pub amounts_fit : Amounts → Bool
amounts_fit a = is_short a.share && is_short a.reserve && is_short a.burst && is_short a.declared && is_short a.minwire

abbrev pub bounds_fit : Bounds → Bool
bounds_fit b = is_short b.limit && is_short b.idle && is_short b.clients

-- a part that stands in front is spelled so, and has the form
record IsPart {A : Type 0} (spell : A → Words → Words) (fine : A → Bool) (ws : Words) (s : A × Words) : Type 0 where
  words : ws ≡ spell s.0 s.1
  has_form : fine s.0 ≡ true

some_same : {A : Type 0} {x y : A} → Some x ≡ Some y → x ≡ y
some_same h = cc

names_are : (ws : Words) (s : Names × Words) → names_in ws ≡ Some s → IsPart named names_fit ws s
unfolding names_in
names_are ws s h =
    field_then number_is (IsPart named names_fit ws s) (codes "channel") ws _ s h (λ id r1 e0 f0 g0.
    field_then word32_is (IsPart named names_fit ws s) (codes "ssrc") r1 _ s g0 (λ ssrc r2 e1 f1 g1.
    field_then number_is (IsPart named names_fit ws s) (codes "pt") r2 _ s g1 (λ pt r3 e2 f2 g2.
    field_then number_is (IsPart named names_fit ws s) (codes "rtx") r3 _ s g2 (λ rtx r4 e3 f3 g3.
    field_then word32_is (IsPart named names_fit ws s) (codes "server") r4 _ s g3 (λ server r5 e4 f4 g4.
    field_then number_is (IsPart named names_fit ws s) (codes "seq0") r5 _ s g4 (λ seq0 r6 e5 f5 g5.
    subst (IsPart named names_fit ws) (some_same g5) (record {
      words =
          e0 ∙ ap (λ r. codes "channel" ∷ decimal id ∷ r) (e1 ∙ ap (λ r. codes "ssrc" ∷ word32 ssrc ∷ r) (e2 ∙ ap (λ r. codes "pt" ∷ decimal pt ∷ r) (
          e3 ∙ ap (λ r. codes "rtx" ∷ decimal rtx ∷ r) (e4 ∙ ap (λ r. codes "server" ∷ word32 server ∷ r) e5))));
      has_form = and_both (and_both (and_both (and_both (and_both f0 f1) f2) f3) f4) f5;
    })))))))

places_are : (ws : Words) (s : Places × Words) → places_in ws ≡ Some s → IsPart placed places_fit ws s
unfolding places_in
places_are ws s h =
    field_then number_is (IsPart placed places_fit ws s) (codes "ring") ws _ s h (λ ring r1 e0 f0 g0.
    field_then number_is (IsPart placed places_fit ws s) (codes "window") r1 _ s g0 (λ window r2 e1 f1 g1.
    field_then access_is (IsPart placed places_fit ws s) (codes "access") r2 _ s g1 (λ access r3 e2 f2 g2.
    subst (IsPart placed places_fit ws) (some_same g2) (record {
      words = e0 ∙ ap (λ r. codes "ring" ∷ decimal ring ∷ r) (e1 ∙ ap (λ r. codes "window" ∷ decimal window ∷ r) e2);
      has_form = and_both f0 f1;
    }))))

amounts_are : (ws : Words) (s : Amounts × Words) → amounts_in ws ≡ Some s → IsPart amounting amounts_fit ws s
unfolding amounts_in
amounts_are ws s h =
    field_then number_is (IsPart amounting amounts_fit ws s) (codes "share") ws _ s h (λ share r1 e0 f0 g0.
    field_then number_is (IsPart amounting amounts_fit ws s) (codes "reserve") r1 _ s g0 (λ reserve r2 e1 f1 g1.
    field_then number_is (IsPart amounting amounts_fit ws s) (codes "burst") r2 _ s g1 (λ burst r3 e2 f2 g2.
    field_then number_is (IsPart amounting amounts_fit ws s) (codes "declared") r3 _ s g2 (λ declared r4 e3 f3 g3.
    field_then number_is (IsPart amounting amounts_fit ws s) (codes "minwire") r4 _ s g3 (λ minwire r5 e4 f4 g4.
    subst (IsPart amounting amounts_fit ws) (some_same g4) (record {
      words =
          e0 ∙ ap (λ r. codes "share" ∷ decimal share ∷ r) (e1 ∙ ap (λ r. codes "reserve" ∷ decimal reserve ∷ r) (
          e2 ∙ ap (λ r. codes "burst" ∷ decimal burst ∷ r) (e3 ∙ ap (λ r. codes "declared" ∷ decimal declared ∷ r) e4)));
      has_form = and_both (and_both (and_both (and_both f0 f1) f2) f3) f4;
    }))))))

bounds_are : (ws : Words) (s : Bounds × Words) → bounds_in ws ≡ Some s → IsPart bounded bounds_fit ws s
unfolding bounds_in
bounds_are ws s h =
    field_then number_is (IsPart bounded bounds_fit ws s) (codes "limit") ws _ s h (λ limit r1 e0 f0 g0.
    field_then number_is (IsPart bounded bounds_fit ws s) (codes "idle") r1 _ s g0 (λ idle r2 e1 f1 g1.
    field_then number_is (IsPart bounded bounds_fit ws s) (codes "clients") r2 _ s g1 (λ clients r3 e2 f2 g2.
    subst (IsPart bounded bounds_fit ws) (some_same g2) (record {
      words = e0 ∙ ap (λ r. codes "limit" ∷ decimal limit ∷ r) (e1 ∙ ap (λ r. codes "idle" ∷ decimal idle ∷ r) e2);
      has_form = and_both (and_both f0 f1) f2;
    }))))

-- what is kept has a version, and version 1 says nothing of it
pub record Fits (k : Keeping) : Type 0 where
  pub version : is_version k.version ≡ true
  pub depth : is_short k.depth ≡ true
  pub swell : is_short k.swell ≡ true
  pub says : (k.version == 2 || k.depth == 0 && k.swell == 0) ≡ true

abbrev KeepingIs : Words → Keeping → Type 0
KeepingIs ws k = (ws ≡ kept k) × Fits k

keeping_is : (ws : Words) (k : Keeping) → keeping_in ws ≡ Some k → KeepingIs ws k
unfolding keeping_in
keeping_is [] k h = subst (KeepingIs []) (some_same h) (refl, record { version = refl; depth = refl; swell = refl; says = refl })
keeping_is (w ∷ rest) k h =
    field_then number_is (KeepingIs (w ∷ rest) k) (codes "depth") (w ∷ rest) _ k h (λ depth r1 e0 f0 g0.
    field_then number_is (KeepingIs (w ∷ rest) k) (codes "swell") r1 _ k g0 (λ swell r2 e1 f1 g1.
    let end = whole_step _ k r2 g1 in
    subst (KeepingIs (w ∷ rest)) end.1 (
      e0 ∙ ap (λ r. codes "depth" ∷ decimal depth ∷ r) (e1 ∙ ap (λ r. codes "swell" ∷ decimal swell ∷ r) end.0),
      record { version = refl; depth = f0; swell = f1; says = refl },
    )))

-- the words of all the numbers
abbrev pub all_words : Numbers → Words
all_words n = named n.names (placed n.places (amounting n.amounts (bounded n.bounds (kept n.keeping))))

bound : {A B : Type 0} (o : Option A) (next : A → Option B) (y : B) → option_and_then next o ≡ Some y → (x : A) × (o ≡ Some x) × (next x ≡ Some y)
bound None next y h = absurd cc
bound (Some x) next y h = (x, refl, h)

-- the numbers have the form
pub record Formed (n : Numbers) : Type 0 where
  pub names : names_fit n.names ≡ true
  pub places : places_fit n.places ≡ true
  pub amounts : amounts_fit n.amounts ≡ true
  pub bounds : bounds_fit n.bounds ≡ true
  pub keeping : Fits n.keeping

all_form : (n : Numbers) → Formed n → line_has_form (line_of_numbers n) ≡ true
all_form n f =
    let p = and_parts (is_short n.places.ring) _ f.places in
    let a3 = and_parts _ (is_short n.amounts.minwire) f.amounts in
    let a2 = and_parts _ (is_short n.amounts.declared) a3.0 in
    let a1 = and_parts _ (is_short n.amounts.burst) a2.0 in
    let a0 = and_parts (is_short n.amounts.share) (is_short n.amounts.reserve) a1.0 in
    let b1 = and_parts _ (is_short n.bounds.clients) f.bounds in
    let b0 = and_parts (is_short n.bounds.limit) (is_short n.bounds.idle) b1.0 in
    let to_window = and_both (and_both f.names p.0) p.1 in
    let to_minwire = and_both (and_both (and_both (and_both (and_both to_window a0.0) a0.1) a1.1) a2.1) a3.1 in
    let to_clients = and_both (and_both (and_both to_minwire b0.0) b0.1) b1.1 in
    and_both (and_both f.keeping.version (and_both (and_both to_clients f.keeping.depth) f.keeping.swell)) f.keeping.says

pub formed : (n : Numbers) → line_has_form (line_of_numbers n) ≡ true → Formed n
formed n h =
    let says = and_parts _ _ h in
    let version = and_parts _ _ says.0 in
    let swell = and_parts _ _ version.1 in
    let depth = and_parts _ _ swell.0 in
    let clients = and_parts _ _ depth.0 in
    let idle = and_parts _ _ clients.0 in
    let limit = and_parts _ _ idle.0 in
    let minwire = and_parts _ _ limit.0 in
    let declared = and_parts _ _ minwire.0 in
    let burst = and_parts _ _ declared.0 in
    let reserve = and_parts _ _ burst.0 in
    let share = and_parts _ _ reserve.0 in
    let window = and_parts _ _ share.0 in
    let ring = and_parts _ _ window.0 in record {
      names = ring.0;
      places = and_both ring.1 window.1;
      amounts = and_both (and_both (and_both (and_both share.1 reserve.1) burst.1) declared.1) minwire.1;
      bounds = and_both (and_both limit.1 idle.1) clients.1;
      keeping = record { version = version.0; depth = depth.1; swell = swell.1; says = says.1 };
    }

-- a line's words, and that they have the form
abbrev pub Is : Words → TraceLine → Type 0
Is ws l = (ws ≡ line_words l) × (line_has_form l ≡ true)

numbers_are : (ws : Words) (n : Numbers) → numbers_in ws ≡ Some n → Is ws (line_of_numbers n)
unfolding numbers_in
numbers_are ws n h =
    let names = bound (names_in ws) _ n h in
    let places = bound (places_in names.0.1) _ n names.2 in
    let amounts = bound (amounts_in places.0.1) _ n places.2 in
    let bounds = bound (bounds_in amounts.0.1) _ n amounts.2 in
    let keeping = bound (keeping_in bounds.0.1) _ n bounds.2 in
    let ns = names_are ws names.0 names.1 in
    let ps = places_are names.0.1 places.0 places.1 in
    let ms = amounts_are places.0.1 amounts.0 amounts.1 in
    let bs = bounds_are amounts.0.1 bounds.0 bounds.1 in
    let ks = keeping_is bounds.0.1 keeping.0 keeping.1 in
    subst (λ (x : Numbers). Is ws (line_of_numbers x)) (some_same keeping.2) (
      ns.words ∙ ap (named names.0.0) (ps.words ∙ ap (placed places.0.0) (ms.words ∙ ap (amounting amounts.0.0) (bs.words ∙ ap (bounded bounds.0.0) ks.0))),
      all_form (record { names = names.0.0; places = places.0.0; amounts = amounts.0.0; bounds = bounds.0.0; keeping = keeping.0 }) (record { names = ns.has_form; places = ps.has_form; amounts = ms.has_form; bounds = bs.has_form; keeping = ks.1 }),
    )

map_some : {A B : Type 0} (f : A → B) (o : Option A) (y : B) → option_map f o ≡ Some y → (x : A) × (o ≡ Some x) × (f x ≡ y)
map_some f None y h = absurd cc
map_some f (Some x) y h = (x, refl, cc)

-- what is read is spelled so
pub channel_is : (ws : Words) (l : TraceLine) → channel_in ws ≡ Some l → Is ws l
channel_is ws l h =
    let read = map_some line_of_numbers (numbers_in ws) l (sym (channel_is_numbers ws) ∙ h) in
    subst (Is ws) read.2 (numbers_are ws read.0 read.1)
