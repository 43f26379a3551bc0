-- The access points among packets whose numbers follow one another.
use Rattle.std.proofs.Common.{◌≡◌, ℕ, ◌+◌, ◌<◌, ◌≤◌, ◌⊎◌, min, max, Bool, true, false, nat_le, if◌then◌else◌, List, [], ◌∷◌, ◌++◌, length, map, filter, refl, sym, ◌∙◌, ap, inl, inr, subst, arith}
use Rattle.std.proofs.lemmas.Bool.{cases_lt}
use Rattle.std.proofs.lemmas.Bool.Decides.{nat_tests}
use Rattle.std.proofs.lemmas.List.Sums.{sum_by_push}
use Rattle.rams_model.specs.declared.Held.{Held}
use Rattle.rams_model.specs.Packets.{wires, from_number, behind, last_timestamp, Follows}
use Rattle.rams_model.proofs.Holding.{all_from, one_behind}
use Rattle.rams_model.proofs.Rising.{not_from}
use Rattle.channel_cache.specs.access_index.{AccessPoint, more_behind, point_of, points_of}

-- an access point in front of others
abbrev pub in_front : Bool → AccessPoint → List AccessPoint → List AccessPoint
in_front b p ps = if b then p ∷ ps else ps

-- the same access points, from the last packet on
abbrev pub points_from : List Held → List AccessPoint
points_from [] = []
points_from (h ∷ hs) = in_front h.access (record { n = h.n; ts = h.ts; behind = wires (h ∷ hs) }) (points_from hs)

-- ---- both say the same
pub points_same_step : (all hs : List Held) (h : Held) (b : Bool) → behind h.n all ≡ wires (h ∷ hs) → map (point_of all) (filter (λ k. k.access) hs) ≡ points_from hs
    → map (point_of all) (if b then h ∷ filter (λ k. k.access) hs else filter (λ k. k.access) hs) ≡ in_front b (record { n = h.n; ts = h.ts; behind = wires (h ∷ hs) }) (points_from hs)
points_same_step all hs h true bytes rest =
    ap (λ (n : ℕ). record { n = h.n; ts = h.ts; behind = n } ∷ map (point_of all) (filter (λ k. k.access) hs)) bytes
    ∙ ap (λ ps. record { n = h.n; ts = h.ts; behind = wires (h ∷ hs) } ∷ ps) rest
points_same_step all hs h false bytes rest = rest

pub points_same_in : (k : ℕ) (all hs : List Held) → Follows k hs → ((n : ℕ) → k ≤ n → from_number n all ≡ from_number n hs) → map (point_of all) (filter (λ h. h.access) hs) ≡ points_from hs
points_same_in k all [] follows same = refl
points_same_in k all (h ∷ hs) follows same =
    points_same_step all hs h h.access (ap wires (same h.n (omega (arith, follows.0)) ∙ all_from h.n k (h ∷ hs) follows (omega (arith, follows.0))))
    (points_same_in (k + 1) all hs follows.1 (λ n above. same n (omega arith) ∙ not_from n h hs (omega (arith, follows.0))))

pub points_same : (k : ℕ) (hs : List Held) → Follows k hs → points_of hs ≡ points_from hs
points_same k hs follows = points_same_in k hs hs follows (λ n above. refl)

-- ---- one more packet
pub last-append : (hs : List Held) (h : Held) → last_timestamp (hs ++ h ∷ []) ≡ h.ts
last-append [] h = refl
last-append (j ∷ []) h = refl
last-append (j ∷ k ∷ hs) h = last-append (k ∷ hs) h

-- the access point that a packet is, if it is one
abbrev pub own_point : Held → List AccessPoint
own_point h = if h.access then record { n = h.n; ts = h.ts; behind = h.wire } ∷ [] else []

pub own_step : (h : Held) (b : Bool) → in_front b (record { n = h.n; ts = h.ts; behind = 0 + h.wire }) [] ≡ (if b then record { n = h.n; ts = h.ts; behind = h.wire } ∷ [] else [])
own_step h true = ap (λ (n : ℕ). record { n = h.n; ts = h.ts; behind = n } ∷ []) (omega arith)
own_step h false = refl

pub more_step : (j : Held) (bytes bytes' wire : ℕ) (ps qs end : List AccessPoint) (b : Bool) → bytes' ≡ bytes + wire → ps ≡ map (more_behind wire) qs ++ end
    → in_front b (record { n = j.n; ts = j.ts; behind = bytes' }) ps ≡ map (more_behind wire) (in_front b (record { n = j.n; ts = j.ts; behind = bytes }) qs) ++ end
more_step j bytes bytes' wire ps qs end true more rest =
    ap (λ (n : ℕ). record { n = j.n; ts = j.ts; behind = n } ∷ ps) more ∙ ap (λ rs. record { n = j.n; ts = j.ts; behind = bytes + wire } ∷ rs) rest
more_step j bytes bytes' wire ps qs end false more rest = rest

pub wires-append : (hs : List Held) (h : Held) → wires (hs ++ h ∷ []) ≡ wires hs + h.wire
wires-append hs h = sum_by_push (λ (k : Held). k.wire) hs h

pub points_from-append : (hs : List Held) (h : Held) → points_from (hs ++ h ∷ []) ≡ map (more_behind h.wire) (points_from hs) ++ own_point h
points_from-append [] h = own_step h h.access
points_from-append (j ∷ hs) h =
    more_step j (wires (j ∷ hs)) (wires (j ∷ (hs ++ h ∷ []))) h.wire (points_from (hs ++ h ∷ [])) (points_from hs) (own_point h) j.access (wires-append (j ∷ hs) h) (points_from-append hs h)

-- the access points are those of before, with more bytes behind them, and the packet itself if it is one
pub points-append : (k : ℕ) (hs : List Held) (h : Held) → Follows k hs → h.n ≡ k + length hs → points_of (hs ++ h ∷ []) ≡ map (more_behind h.wire) (points_of hs) ++ own_point h
points-append k hs h follows next =
    points_same k (hs ++ h ∷ []) (one_behind k hs h follows next)
    ∙ (points_from-append hs h ∙ ap (λ ps. map (more_behind h.wire) ps ++ own_point h) (sym (points_same k hs follows)))

-- ---- the first packets go
pub passing_step : (test : AccessPoint → Bool) (p : AccessPoint) (ps : List AccessPoint) (b : Bool) → test p ≡ true → filter test ps ≡ ps → filter test (in_front b p ps) ≡ in_front b p ps
passing_step test p ps true is rest = ap (λ b. if b then p ∷ filter test ps else filter test ps) is ∙ ap (λ qs. p ∷ qs) rest
passing_step test p ps false is rest = rest

pub points_all_from : (k from : ℕ) (hs : List Held) → Follows k hs → from ≤ k → filter (λ p. nat_le from p.n) (points_from hs) ≡ points_from hs
points_all_from k from [] follows low = refl
points_all_from k from (h ∷ hs) follows low =
    passing_step (λ p. nat_le from p.n) (record { n = h.n; ts = h.ts; behind = wires (h ∷ hs) }) (points_from hs) h.access (let n = follows.0 in grind (arith, nat_tests))
    (points_all_from (k + 1) from hs follows.1 (omega arith))

pub failing_step : (test : AccessPoint → Bool) (p : AccessPoint) (ps : List AccessPoint) (b : Bool) → test p ≡ false → filter test (in_front b p ps) ≡ filter test ps
failing_step test p ps true is = ap (λ b. if b then p ∷ filter test ps else filter test ps) is
failing_step test p ps false is = refl

pub points_from-from_step : (k from : ℕ) (h : Held) (hs : List Held) → Follows k (h ∷ hs) → (k < from) ⊎ (from ≤ k) → points_from (from_number from hs) ≡ filter (λ p. nat_le from p.n) (points_from hs)
    → points_from (from_number from (h ∷ hs)) ≡ filter (λ p. nat_le from p.n) (points_from (h ∷ hs))
points_from-from_step k from h hs follows (inr low) rest = ap points_from (all_from from k (h ∷ hs) follows low) ∙ sym (points_all_from k from (h ∷ hs) follows low)
points_from-from_step k from h hs follows (inl high) rest =
    ap points_from (not_from from h hs (omega (arith, follows.0)))
    ∙ (rest ∙ sym (failing_step (λ p. nat_le from p.n) (record { n = h.n; ts = h.ts; behind = wires (h ∷ hs) }) (points_from hs) h.access (let n = follows.0 in grind (arith, nat_tests))))

pub points_from-from : (k from : ℕ) (hs : List Held) → Follows k hs → points_from (from_number from hs) ≡ filter (λ p. nat_le from p.n) (points_from hs)
points_from-from k from [] follows = refl
points_from-from k from (h ∷ hs) follows = points_from-from_step k from h hs follows (cases_lt k from) (points_from-from (k + 1) from hs follows.1)

-- their numbers
pub follows-from_step : (k from : ℕ) (h : Held) (hs : List Held) → Follows k (h ∷ hs) → (k < from) ⊎ (from ≤ k)
    → Follows (min (max (k + 1) from) (k + 1 + length hs)) (from_number from hs) → Follows (min (max k from) (k + length (h ∷ hs))) (from_number from (h ∷ hs))
follows-from_step k from h hs follows (inr low) rest =
    let same : k ≡ min (max k from) (k + length (h ∷ hs)) = omega arith in
    subst (λ (n : ℕ). Follows n (from_number from (h ∷ hs))) same (subst (λ (js : List Held). Follows k js) (sym (all_from from k (h ∷ hs) follows low)) follows)
follows-from_step k from h hs follows (inl high) rest =
    let same : min (max (k + 1) from) (k + 1 + length hs) ≡ min (max k from) (k + length (h ∷ hs)) = omega arith in
    subst (λ (n : ℕ). Follows n (from_number from (h ∷ hs))) same
    (subst (λ (js : List Held). Follows (min (max (k + 1) from) (k + 1 + length hs)) js) (sym (not_from from h hs (omega (arith, follows.0)))) rest)

pub follows-from : (k from : ℕ) (hs : List Held) → Follows k hs → Follows (min (max k from) (k + length hs)) (from_number from hs)
follows-from k from [] follows = tt
follows-from k from (h ∷ hs) follows = follows-from_step k from h hs follows (cases_lt k from) (follows-from (k + 1) from hs follows.1)

pub length-from_step : (k from : ℕ) (h : Held) (hs : List Held) → Follows k (h ∷ hs) → (k < from) ⊎ (from ≤ k)
    → min (max (k + 1) from) (k + 1 + length hs) + length (from_number from hs) ≡ k + 1 + length hs
    → min (max k from) (k + length (h ∷ hs)) + length (from_number from (h ∷ hs)) ≡ k + length (h ∷ hs)
length-from_step k from h hs follows (inr low) rest = omega (arith, ap length (all_from from k (h ∷ hs) follows low))
length-from_step k from h hs follows (inl high) rest = omega (arith, rest, ap length (not_from from h hs (omega (arith, follows.0))))

pub length-from : (k from : ℕ) (hs : List Held) → Follows k hs → min (max k from) (k + length hs) + length (from_number from hs) ≡ k + length hs
length-from k from [] follows = omega arith
length-from k from (h ∷ hs) follows = length-from_step k from h hs follows (cases_lt k from) (length-from (k + 1) from hs follows.1)

-- the last packet stays while any does
pub last-from_step : (k from : ℕ) (h : Held) (hs : List Held) → Follows k (h ∷ hs) → from < k + length (h ∷ hs) → (k < from) ⊎ (from ≤ k)
    → (from < k + 1 + length hs → last_timestamp (from_number from hs) ≡ last_timestamp hs) → last_timestamp (from_number from (h ∷ hs)) ≡ last_timestamp (h ∷ hs)
last-from_step k from h hs follows some (inr low) rest = ap last_timestamp (all_from from k (h ∷ hs) follows low)
last-from_step k from h [] follows some (inl high) rest = absurd (omega arith)
last-from_step k from h (j ∷ hs) follows some (inl high) rest = ap last_timestamp (not_from from h (j ∷ hs) (omega (arith, follows.0))) ∙ rest (omega arith)

pub last-from : (k from : ℕ) (hs : List Held) → Follows k hs → from < k + length hs → last_timestamp (from_number from hs) ≡ last_timestamp hs
last-from k from [] follows some = refl
last-from k from (h ∷ hs) follows some = last-from_step k from h hs follows some (cases_lt k from) (last-from (k + 1) from hs follows.1)
