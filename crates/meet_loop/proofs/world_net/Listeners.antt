-- The listeners of a world by channel and client.
use Rattle.std.proofs.Common.{◌≡◌, ℕ, zero, suc, Bool, true, false, ◌&&◌, ◌||◌, not, cond, eqb, List, [], ◌∷◌, ◌++◌, map, length, set, Option, None, Some, option_map, refl, sym, ap, ◌∙◌}
use Rattle.std.specs.Prelude.{find, slice_get}
use Rattle.std.specs.List.{list_any}
use Rattle.std.specs.Option.{option_or}
use Rattle.std.proofs.lemmas.Bool.{and_parts, eqb-true, eq-eqb}
use Rattle.meet_loop.specs.world_laws.World.{Listener}
use Rattle.meet_loop.specs.world_laws.{is_listener, listens, first_replaced}
use Rattle.meet_loop.specs.world_net.{IsAt, key_of, place_of, AreApart}

is_at : (id client : ℕ) (l : Listener) → is_listener id client l ≡ true → IsAt id client l
is_at id client l t = let parts = and_parts (eqb l.id id) (eqb l.tuned.client client) t in (eqb-true l.id id parts.0, eqb-true l.tuned.client client parts.1)

-- Where a place is that of the first listener, or of a later one.
pub data Placed (test : Bool) (rest : Option ℕ) (place : ℕ) : Type 0 where
  here : test ≡ true → place ≡ 0 → Placed test rest place
  later : (p : ℕ) → test ≡ false → rest ≡ Some p → place ≡ suc p → Placed test rest place

placed : (test : Bool) (rest : Option ℕ) (place : ℕ) → cond test (Some 0) (option_map (λ p. suc p) rest) ≡ Some place → Placed test rest place
placed true rest place e = here refl (cc e)
placed false None place e = absurd cc
placed false (Some p) place e = later p refl refl (cc e)

none_placed : (test : Bool) (rest : Option ℕ) → cond test (Some 0) (option_map (λ p. suc p) rest) ≡ None → (test ≡ false) × (rest ≡ None)
none_placed true rest e = absurd cc
none_placed false None e = (refl, refl)
none_placed false (Some p) e = absurd cc

-- the listener at the place of a client
pub found : (id client place : ℕ) (ls : List Listener) → place_of id client (map key_of ls) ≡ Some place → (l : Listener) × (slice_get ls place ≡ Some l) × IsAt id client l
unfolding place_of
found id client place [] e = absurd cc
found id client place (l ∷ ls) e = by (λ p. found id client p ls) (placed (is_listener id client l) (place_of id client (map key_of ls)) place e)
  where
    by : ((p : ℕ) → place_of id client (map key_of ls) ≡ Some p → (k : Listener) × (slice_get ls p ≡ Some k) × IsAt id client k)
        → Placed (is_listener id client l) (place_of id client (map key_of ls)) place → (k : Listener) × (slice_get (l ∷ ls) place ≡ Some k) × IsAt id client k
    by more (here t is) = (l, ap (slice_get (l ∷ ls)) is, is_at id client l t)
    by more (later p t rest is) = let f = more p rest in (f.0, ap (slice_get (l ∷ ls)) is ∙ f.1, f.2)

-- a client that was tuned to the channel
pub somebody : (id client place : ℕ) (ls : List Listener) → place_of id client (map key_of ls) ≡ Some place → list_any (is_listener id client) ls ≡ true
unfolding place_of
somebody id client place [] e = absurd cc
somebody id client place (l ∷ ls) e = by (λ p. somebody id client p ls) (placed (is_listener id client l) (place_of id client (map key_of ls)) place e)
  where
    by : ((p : ℕ) → place_of id client (map key_of ls) ≡ Some p → list_any (is_listener id client) ls ≡ true) → Placed (is_listener id client l) (place_of id client (map key_of ls)) place → list_any (is_listener id client) (l ∷ ls) ≡ true
    by more (here t is) = ap (λ b. b || list_any (is_listener id client) ls) t
    by more (later p t rest is) = ap (λ b. b || list_any (is_listener id client) ls) t ∙ more p rest

-- one that wasn't
pub nobody : (id client : ℕ) (ls : List Listener) → place_of id client (map key_of ls) ≡ None → (find (listens id client) ls ≡ None) × (list_any (is_listener id client) ls ≡ false)
unfolding place_of
nobody id client [] e = (refl, refl)
nobody id client (l ∷ ls) e =
    let none = none_placed (is_listener id client l) (place_of id client (map key_of ls)) e in
    let more = nobody id client ls none.1 in (
      ap (λ (b : Bool). cond (b && not l.left) (Some l) (find (listens id client) ls)) none.0 ∙ more.0,
      ap (λ b. b || list_any (is_listener id client) ls) none.0 ∙ more.1,
    )

-- one that left
pub gone : (id client place : ℕ) (l : Listener) (ls : List Listener) → AreApart (map key_of ls) → place_of id client (map key_of ls) ≡ Some place → slice_get ls place ≡ Some l → l.left ≡ true
    → find (listens id client) ls ≡ None
unfolding place_of
gone id client place l [] apart e is left = absurd cc
gone id client place l (k ∷ ls) apart e is left = by (λ p. gone id client p l ls apart.1) (placed (is_listener id client k) (place_of id client (map key_of ls)) place e)
  where
    by : ((p : ℕ) → place_of id client (map key_of ls) ≡ Some p → slice_get ls p ≡ Some l → l.left ≡ true → find (listens id client) ls ≡ None) → Placed (is_listener id client k) (place_of id client (map key_of ls)) place → find (listens id client) (k ∷ ls) ≡ None
    by more (here t at) =
        let same : k ≡ l = cc (sym (ap (slice_get (k ∷ ls)) at) ∙ is) in
        let key = is_at id client k t in
        let none : place_of id client (map key_of ls) ≡ None =
        ap (λ (i : ℕ). place_of i client (map key_of ls)) (sym key.0) ∙ ap (λ (n : ℕ). place_of k.id n (map key_of ls)) (sym key.1) ∙ apart.0 in
        ap (λ (b : Bool). cond (is_listener id client k && not b) (Some k) (find (listens id client) ls)) (ap (λ (x : Listener). x.left) same ∙ left)
        ∙ ap (λ (b : Bool). cond (b && false) (Some k) (find (listens id client) ls)) t ∙ (nobody id client ls none).0
    by more (later p t rest at) =
        ap (λ (b : Bool). cond (b && not k.left) (Some k) (find (listens id client) ls)) t ∙ more p rest (sym (ap (slice_get (k ∷ ls)) at) ∙ is) left

-- one that listens, and another in its place
pub there : (id client place : ℕ) (l : Listener) (ls : List Listener) → place_of id client (map key_of ls) ≡ Some place → slice_get ls place ≡ Some l → l.left ≡ false
    → (find (listens id client) ls ≡ Some l) × ((new : Listener) → first_replaced (listens id client) new ls ≡ set ls place new)
unfolding place_of first_replaced
there id client place l [] e is stays = absurd cc
there id client place l (k ∷ ls) e is stays = by (λ p. there id client p l ls) (placed (is_listener id client k) (place_of id client (map key_of ls)) place e)
  where
    by : ((p : ℕ) → place_of id client (map key_of ls) ≡ Some p → slice_get ls p ≡ Some l → l.left ≡ false
        → (find (listens id client) ls ≡ Some l) × ((new : Listener) → first_replaced (listens id client) new ls ≡ set ls p new))
        → Placed (is_listener id client k) (place_of id client (map key_of ls)) place
        → (find (listens id client) (k ∷ ls) ≡ Some l) × ((new : Listener) → first_replaced (listens id client) new (k ∷ ls) ≡ set (k ∷ ls) place new)
    by more (here t at) =
        let same : k ≡ l = cc (sym (ap (slice_get (k ∷ ls)) at) ∙ is) in
        let hears : (is_listener id client k && not k.left) ≡ true =
        ap (λ (b : Bool). b && not k.left) t ∙ ap (λ (x : Listener). not x.left) same ∙ ap not stays in (
          ap (λ (b : Bool). cond b (Some k) (find (listens id client) ls)) hears ∙ ap Some same,
          λ new. ap (λ (b : Bool). cond b (new ∷ ls) (k ∷ first_replaced (listens id client) new ls)) hears ∙ ap (λ (i : ℕ). set (k ∷ ls) i new) (sym at),
        )
    by more (later p t rest at) =
        let deaf : (is_listener id client k && not k.left) ≡ false = ap (λ (b : Bool). b && not k.left) t in
        let further = more p rest (sym (ap (slice_get (k ∷ ls)) at) ∙ is) stays in (
          ap (λ (b : Bool). cond b (Some k) (find (listens id client) ls)) deaf ∙ further.0,
          λ new. ap (λ (b : Bool). cond b (new ∷ ls) (k ∷ first_replaced (listens id client) new ls)) deaf
              ∙ ap (λ (xs : List Listener). k ∷ xs) (further.1 new) ∙ ap (λ (i : ℕ). set (k ∷ ls) i new) (sym at),
        )

-- another listener of the same channel and client leaves the keys as they are
pub same_keys : (place : ℕ) (l new : Listener) (ls : List Listener) → slice_get ls place ≡ Some l → key_of new ≡ key_of l → map key_of (set ls place new) ≡ map key_of ls
same_keys place l new [] is same = refl
same_keys zero l new (k ∷ ls) is same =
    let its : k ≡ l = cc is in
    ap (λ (x : ℕ × ℕ). x ∷ map key_of ls) (same ∙ ap key_of (sym its))
same_keys (suc place) l new (k ∷ ls) is same = ap (λ (xs : List (ℕ × ℕ)). key_of k ∷ xs) (same_keys place l new ls is same)

-- one more key
pub place_more : (id client : ℕ) (k : ℕ × ℕ) (ks : List (ℕ × ℕ)) → place_of id client (ks ++ k ∷ []) ≡ option_or (place_of id client ks) (cond {A = Option ℕ} (eqb k.0 id && eqb k.1 client) (Some (length ks)) None)
unfolding place_of
place_more id client k [] = by (eqb k.0 id && eqb k.1 client)
  where
    by : (b : Bool) → cond {A = Option ℕ} b (Some 0) None ≡ cond {A = Option ℕ} b (Some 0) None
    by b = refl
place_more id client k (j ∷ ks) =
    ap (λ (o : Option ℕ). cond (eqb j.0 id && eqb j.1 client) (Some 0) (option_map (λ p. suc p) o)) (place_more id client k ks)
    ∙ by (eqb j.0 id && eqb j.1 client) (place_of id client ks) (eqb k.0 id && eqb k.1 client)
  where
    by : (b : Bool) (o : Option ℕ) (t : Bool) → cond b (Some 0) (option_map (λ p. suc p) (option_or o (cond t (Some (length ks)) None)))
        ≡ option_or (cond b (Some 0) (option_map (λ p. suc p) o)) (cond t (Some (length (j ∷ ks))) None)
    by true o t = refl
    by false (Some p) t = refl
    by false None true = refl
    by false None false = refl

apart_from : (a b : ℕ × ℕ) → (eqb a.0 b.0 && eqb a.1 b.1) ≡ false → (eqb b.0 a.0 && eqb b.1 a.1) ≡ false
apart_from a b f = by (eqb b.0 a.0 && eqb b.1 a.1) refl
  where
    by : (t : Bool) → (eqb b.0 a.0 && eqb b.1 a.1) ≡ t → (eqb b.0 a.0 && eqb b.1 a.1) ≡ false
    by false e = e
    by true e =
        let parts = and_parts (eqb b.0 a.0) (eqb b.1 a.1) e in
        let no : true ≡ false =
        sym (ap (λ (x : Bool). x && eqb a.1 b.1) (eq-eqb a.0 b.0 (sym (eqb-true b.0 a.0 parts.0))) ∙ eq-eqb a.1 b.1 (sym (eqb-true b.1 a.1 parts.1))) ∙ f in
        absurd cc

pub apart_more : (k : ℕ × ℕ) (ks : List (ℕ × ℕ)) → AreApart ks → place_of k.0 k.1 ks ≡ None → AreApart (ks ++ k ∷ [])
unfolding place_of
apart_more k [] apart none = (refl, tt)
apart_more k (j ∷ ks) apart none =
    let parts = none_placed (eqb j.0 k.0 && eqb j.1 k.1) (place_of k.0 k.1 ks) none in (
      place_more j.0 j.1 k ks ∙ ap (λ (o : Option ℕ). option_or o (cond (eqb k.0 j.0 && eqb k.1 j.1) (Some (length ks)) None)) apart.0
          ∙ ap (λ (b : Bool). cond b (Some (length ks)) None) (apart_from j k parts.0),
      apart_more k ks apart.1 parts.1,
    )
