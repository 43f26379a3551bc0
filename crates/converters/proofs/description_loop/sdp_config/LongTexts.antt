-- A description that is too long has a fault in its first bytes.
use Rattle.std.proofs.Common.{◌≡◌, ℕ, zero, suc, ◌+◌, ◌*◌, ◌<◌, ◌≤◌, Bool, true, false, ◌==◌, not, eqb, nat_lt, List, [], ◌∷◌, ◌++◌, length, Option, None, Some, Err, refl, sym, ap, ◌∙◌, arith, append_assoc, append-nil, length-append, inl, inr}
use Rattle.std.specs.Prelude.{◌⊎◌, IsErr}
use Rattle.std.specs.Option.{option_or}
use Rattle.std.proofs.lemmas.Bool.{and_parts, eqb-true}
use Rattle.std.proofs.lemmas.Bool.Decides.{nat_tests}
use Rattle.std.specs.List.{onto_first}
use Rattle.trace_lines.proofs.Spelled.{and_both}
use Rattle.converters.specs.declared.description_loop.sdp_config.sdp.SdpFault.{SdpFault}
use Rattle.converters.specs.declared.description_loop.sdp_config.sdp.SdpFault.TheVariants.{Form, Long}
use Rattle.converters.specs.description_loop.sdp_config.{lines_in, bare, is_line, line_fault, first_fault, settings_of, settings_in, sdp_at}
use Rattle.converters.specs.description_loop.sdp_config.Description.{unless_fault}
use Rattle.converters.proofs.description_loop.sdp_config.Cuts.{lines-feed, lines-other, no_return, two, some_lines}
use Rattle.converters.proofs.description_loop.sdp_config.Faults.{some_fault}
use Rattle.converters.proofs.description_loop.sdp_config.WrittenLines.{has_no}

apart : (b : ℕ) → not (b == 10) ≡ true → eqb b 10 ≡ false
apart b h = grind (arith, nat_tests)

-- a text in front of a line feed
at_feed : (line rest : List ℕ) → has_no 10 line ≡ true → lines_in (line ++ 10 ∷ rest) ≡ bare line ∷ lines_in rest
at_feed [] rest h = lines-feed 10 rest refl
at_feed (b ∷ []) rest h = let parts = and_parts (not (b == 10)) true h in two b rest (apart b parts.0) (eqb b 13) refl
at_feed (b ∷ c ∷ line) rest h =
    let parts = and_parts (not (b == 10)) (has_no 10 (c ∷ line)) h in
    let more = and_parts (not (c == 10)) (has_no 10 line) parts.1 in
    lines-other b (c ∷ line ++ 10 ∷ rest) (apart b parts.0) (no_return b (eqb c 10) (apart c more.0))
    ∙ ap (onto_first b) (at_feed (c ∷ line) rest parts.1)

-- lines of which the first has so many bytes, or one fewer
record Begins (most : ℕ) (ls : List (List ℕ)) : Type 0 where
  line : List ℕ
  others : List (List ℕ)
  are : ls ≡ line ∷ others
  long : most ≤ length line + 1

begins_onto : (b n : ℕ) (ls : List (List ℕ)) → Begins n ls → Begins (suc n) (onto_first b ls)
begins_onto b n ls h = record { line = b ∷ h.line; others = h.others; are = ap (onto_first b) h.are; long = let l = h.long in omega arith }

begins_some : (ls : List (List ℕ)) → 0 < length ls → Begins 1 ls
begins_some [] h = absurd (omega arith)
begins_some (l ∷ ls) h = record { line = l; others = ls; are = refl; long = omega arith }

-- the first line of a text whose first bytes have no line feed
begins_long : (front rest : List ℕ) → 0 < length front → has_no 10 front ≡ true → Begins (length front) (lines_in (front ++ rest))
begins_long [] rest some h = absurd (omega arith)
begins_long (b ∷ []) rest some h = begins_some (lines_in (b ∷ rest)) (some_lines (b ∷ rest) (omega arith))
begins_long (b ∷ c ∷ front) rest some h =
    let parts = and_parts (not (b == 10)) (has_no 10 (c ∷ front)) h in
    let more = and_parts (not (c == 10)) (has_no 10 front) parts.1 in
    rw (lines-other b (c ∷ front ++ rest) (apart b parts.0) (no_return b (eqb c 10) (apart c more.0)))
    (begins_onto b (length (c ∷ front)) (lines_in (c ∷ front ++ rest)) (begins_long (c ∷ front) rest (omega arith) parts.1))

bare_short : (line : List ℕ) → length line ≤ length (bare line) + 1
bare_short [] = omega arith
bare_short (b ∷ []) = omega arith
bare_short (b ∷ c ∷ line) = let h = bare_short (c ∷ line) in omega arith

-- the text up to its first line feed, where it has one
record IsCut (text : List ℕ) : Type 0 where
  line : List ℕ
  rest : List ℕ
  clean : has_no 10 line ≡ true
  is : text ≡ line ++ 10 ∷ rest

cut_of : (text : List ℕ) → (has_no 10 text ≡ true) ⊎ IsCut text
cut_of [] = inl refl
cut_of (b ∷ text) = by (eqb b 10) refl (cut_of text)
  where
    kept : eqb b 10 ≡ false → not (b == 10) ≡ true
    kept e = rw e refl

    by : (t : Bool) → eqb b 10 ≡ t → ((has_no 10 text ≡ true) ⊎ IsCut text) → (has_no 10 (b ∷ text) ≡ true) ⊎ IsCut (b ∷ text)
    by true e h = inr (record { line = []; rest = text; clean = refl; is = ap (λ k. k ∷ text) (eqb-true b 10 e) })
    by false e (inl h) = inl (and_both (kept e) h)
    by false e (inr h) = inr (record { line = b ∷ h.line; rest = h.rest; clean = and_both (kept e) h.clean; is = ap (λ l. b ∷ l) h.is })

long_line : (line : List ℕ) → 4096 < length line → is_line line ≡ false
long_line [] h = refl
long_line (b ∷ []) h = refl
long_line (b ∷ c ∷ line) h = grind (arith, nat_tests)

line_short : (line : List ℕ) → is_line line ≡ true → length line ≤ 4096
line_short [] h = absurd cc
line_short (b ∷ []) h = absurd cc
line_short (b ∷ c ∷ line) h = grind (arith, nat_tests)

few : (k : ℕ) → k ≤ 1000 → nat_lt 1000 k ≡ false
few k h = grind (arith, nat_tests)

-- a line that is too long
long_fault : (k : ℕ) (line : List ℕ) (others : List (List ℕ)) → k ≤ 1000 → 4096 < length line → first_fault k (line ∷ others) ≡ Some (Form k)
long_fault k line others h l = rw (few k h, long_line line l) refl

-- in a line in which nothing is wrong
none_wrong : (k : ℕ) (line : List ℕ) → line_fault k line ≡ None → is_line line ≡ true
none_wrong k line h = by (nat_lt 1000 k) (is_line line) refl refl h
  where
    by : (s t : Bool) → nat_lt 1000 k ≡ s → is_line line ≡ t → line_fault k line ≡ None → is_line line ≡ true
    by true t e f h = absurd (let none = rw e at h in cc)
    by false true e f h = f
    by false false e f h = absurd (let none = rw (e, f) at h in cc)

-- both texts have this fault first
record BothFail (k : ℕ) (front more : List ℕ) : Type 0 where
  fault : SdpFault
  one : first_fault k (lines_in front) ≡ Some fault
  other : first_fault k (lines_in more) ≡ Some fault

last_line : (ls : List (List ℕ)) → 0 < length ls → first_fault 1001 ls ≡ Some Long
last_line [] h = absurd (omega arith)
last_line (l ∷ ls) h = refl

after : (k : ℕ) (line : List ℕ) (front more : List ℕ) (ls ms : List (List ℕ)) → lines_in front ≡ line ∷ ls → lines_in more ≡ line ∷ ms
    → (o : Option SdpFault) → line_fault k line ≡ o
    → (o ≡ None → (f : SdpFault) × (first_fault (k + 1) ls ≡ Some f) × (first_fault (k + 1) ms ≡ Some f)) → BothFail k front more
after k line front more ls ms e1 e2 None h behind =
    let rest = behind refl in record {
      fault = rest.0;
      one = ap (first_fault k) e1 ∙ ap (λ o. option_or o (first_fault (k + 1) ls)) h ∙ rest.1;
      other = ap (first_fault k) e2 ∙ ap (λ o. option_or o (first_fault (k + 1) ms)) h ∙ rest.2;
    }
after k line front more ls ms e1 e2 (Some f) h behind = record {
  fault = f;
  one = ap (first_fault k) e1 ∙ ap (λ o. option_or o (first_fault (k + 1) ls)) h;
  other = ap (first_fault k) e2 ∙ ap (λ o. option_or o (first_fault (k + 1) ms)) h;
}

-- a text of more bytes than as many lines as are left can have
both_fail : (left k : ℕ) (front rest : List ℕ) → k + left ≡ 1001 → 4098 * left < length front → BothFail k front (front ++ rest)
both_fail zero k front rest e long =
    let last : k ≡ 1001 = omega arith in
    let more : 0 < length (front ++ rest) = omega (arith, length-append front rest) in record {
      fault = Long;
      one = rw last (last_line (lines_in front) (some_lines front (omega arith)));
      other = rw last (last_line (lines_in (front ++ rest)) (some_lines (front ++ rest) more));
    }
both_fail (suc left) k front rest e long = by (cut_of front) (λ more h. both_fail left (k + 1) more rest (omega arith) h)
  where
    by : ((has_no 10 front ≡ true) ⊎ IsCut front) → ((more : List ℕ) → 4098 * left < length more → BothFail (k + 1) more (more ++ rest)) → BothFail k front (front ++ rest)
    by (inl clean) ih =
        let begun = begins_long front rest (omega arith) clean in
        let alone = begins_long front [] (omega arith) clean in
        let wide : 4096 < length begun.line = let l = begun.long in omega arith in
        let whole : 4096 < length alone.line = let l = alone.long in omega arith in record {
          fault = Form k;
          one = ap (λ t. first_fault k (lines_in t)) (sym (append-nil front)) ∙ ap (first_fault k) alone.are ∙ long_fault k alone.line alone.others (omega arith) whole;
          other = ap (first_fault k) begun.are ∙ long_fault k begun.line begun.others (omega arith) wide;
        }
    by (inr c) ih =
        let one = ap lines_in c.is ∙ at_feed c.line c.rest c.clean in
        let other = ap (λ t. lines_in (t ++ rest)) c.is ∙ ap lines_in (append_assoc c.line (10 ∷ c.rest) rest) ∙ at_feed c.line (c.rest ++ rest) c.clean in
        after k (bare c.line) front (front ++ rest) (lines_in c.rest) (lines_in (c.rest ++ rest)) one other (line_fault k (bare c.line)) refl
        (λ none.
        let short = line_short (bare c.line) (none_wrong k (bare c.line) none) in
        let most = bare_short c.line in
        let len : length front ≡ length c.line + suc (length c.rest) = ap length c.is ∙ length-append c.line (10 ∷ c.rest) in
        let both = ih c.rest (omega arith) in
        (both.fault, both.one, both.other))

fails : (front more : List ℕ) → 0 < length (lines_in front) → 0 < length (lines_in more) → BothFail 1 front more → IsErr (sdp_at front) × (sdp_at more ≡ sdp_at front)
unfolding settings_of
fails front more h k both =
    let one : sdp_at front ≡ Err both.fault = ap (unless_fault (settings_in (lines_in front))) (some_fault (lines_in front) h ∙ both.one) in
    let other : sdp_at more ≡ Err both.fault = ap (unless_fault (settings_in (lines_in more))) (some_fault (lines_in more) k ∙ both.other) in
    (rw one refl, other ∙ sym one)

pub long_texts : (front rest : List ℕ) → 4098000 < length front → IsErr (sdp_at front) × (sdp_at (front ++ rest) ≡ sdp_at front)
long_texts front rest h =
    let more : 0 < length (front ++ rest) = omega (arith, length-append front rest) in
    fails front (front ++ rest) (some_lines front (omega arith)) (some_lines (front ++ rest) more) (both_fail 1000 1 front rest (omega arith) (omega arith))
