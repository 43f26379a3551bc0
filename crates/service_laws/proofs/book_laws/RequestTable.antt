-- The verdict on a request is the note of the first line of the table that applies.
use Rattle.std.proofs.Common.{◌≡◌, ℕ, ◌+◌, ◌-◌, ◌≤◌, Bool, true, false, not, inl, inr, ⊎_elim, List, [], ◌∷◌, length, Option, Some, None, refl, ap, sym, ◌∙◌, subst, arith, eqb, leb}
use Rattle.std.specs.Prelude.{Contains, is_some, IsSomeAnd, Result, Ok, Err}
use Rattle.std.specs.List.{list_any}
use Rattle.std.proofs.lemmas.Bool.{cond_both, both_ways, and_parts, and_from, or_cases, not-true, not-false, not_from_false, eqb-true, eqb-false, eq-eqb, ltb-true, ltb-false, leb-true, leb-false, le-leb, true≢false}
use Rattle.std.proofs.lemmas.List.Elements.{Contains-append_right}
use Rattle.std.proofs.lemmas.List.Folds.{list_any_at}
use Rattle.rams_model.specs.declared.{TlvFault.TlvFault, Held.Held, Note.Note}
use Rattle.rams_model.specs.declared.Note.TheVariants.{Update, Again, Refuse}
use Rattle.rams_model.specs.Service.{Settings, rate_of, History, hold, known, opened, is_among, Burst, next, open_burst, has_open, most_of, reserved, is_slow, is_too_much, is_full, join_from, begins, changes, on_burst, on_request, verdict}
use Rattle.rams_model.specs.Formats.{Request, is_listed, names}
use Rattle.rams_model.specs.Packets.{is_eligible, age, is_at_most, chosen}
use Rattle.rams_model.specs.Laws.{Rises, IsAmong, IsNewest, is_old_enough, IsRefusedFor, IsChoice}
use Rattle.rams_model.specs.Laws.Meaning as laws
use Rattle.rams_model.proofs.Since.{opened_stands}
use Rattle.rams_model.proofs.LastAccept.{open_stands}
use Rattle.rams_model.proofs.Rising.{at_least}
use Rattle.rams_model.proofs.Choosing.{newest_chosen}
use Rattle.rams_model.proofs.Granting.{held_rises}
use Rattle.service_laws.specs.book_laws.{IsFirst}
use Rattle.service_laws.specs.book_laws.Refusals.{Line, unread, preamble, foreign, again, slow_update, large_update, update, full, no_start, young, old, slow, large, accept, table, asked, NamesOthers, IsSlow, AsksNoOther, IsLargeInPlace, HasBurst, IsFull, least_age, IsTooOld, Applies, joins_in, Gives}
use Rattle.service_laws.proofs.book_laws.FirstLines.{first_here, first_later}
use Rattle.service_laws.proofs.book_laws.Sums.{part_of_sum}

-- the first of these lines that applies gives the note
pub record ByLines (s : Settings) (k : ℕ) (history : History) (request : Result Request TlvFault) (lines : List Line) (note : Note) : Type 0 where
  pub line : Line
  pub first : IsFirst (Applies s k history request) lines line
  pub gives : Gives s k history request line note

here : (s : Settings) (k : ℕ) (history : History) (request : Result Request TlvFault) (line : Line) (lines : List Line) (note : Note)
    → Applies s k history request line → Gives s k history request line note → ByLines s k history request (line ∷ lines) note
here s k history request line lines note a g = record { line = line; first = first_here (Applies s k history request) line lines a; gives = g }

skip : (s : Settings) (k : ℕ) (history : History) (request : Result Request TlvFault) (line : Line) (lines : List Line) (note : Note)
    → ¬ Applies s k history request line → ByLines s k history request lines note → ByLines s k history request (line ∷ lines) note
skip s k history request line lines note n b =
    record { line = b.line; first = first_later (Applies s k history request) line lines b.line n b.first; gives = b.gives }

-- a source among those that are listed
pub listed_contains : (ssrc : ℕ) (xs : List ℕ) → Contains xs ssrc → list_any (λ x. eqb x ssrc) xs ≡ true
listed_contains ssrc xs c = list_any_at (λ x. eqb x ssrc) xs c.0 ssrc c.1 (eq-eqb _ ssrc c.2)

pub contains_listed : (ssrc : ℕ) (xs : List ℕ) → list_any (λ x. eqb x ssrc) xs ≡ true → Contains xs ssrc
contains_listed ssrc [] e = absurd (true≢false (sym e))
contains_listed ssrc (x ∷ xs) e =
    ⊎_elim (λ t. (0, omega arith, eqb-true x ssrc t))
    (λ t. Contains-append_right (x ∷ []) xs ssrc (contains_listed ssrc xs t))
    (or_cases (eqb x ssrc) (list_any (λ y. eqb y ssrc) xs) e)

others_named : (ssrc : ℕ) (o : Option (List ℕ)) → is_listed ssrc o ≡ false → NamesOthers ssrc o
others_named ssrc None e = absurd (true≢false e)
others_named ssrc (Some []) e = absurd (true≢false e)
others_named ssrc (Some (x ∷ xs)) e = (omega arith, λ c. both_ways (list_any (λ y. eqb y ssrc) (x ∷ xs)) e (listed_contains ssrc (x ∷ xs) c))

not_others : (ssrc : ℕ) (o : Option (List ℕ)) → is_listed ssrc o ≡ true → ¬ NamesOthers ssrc o
not_others ssrc None e n = n
not_others ssrc (Some []) e n = omega (arith, n.0)
not_others ssrc (Some (x ∷ xs)) e n = n.1 (contains_listed ssrc (x ∷ xs) e)

-- the rate that is asked for
same_rate : (s : Settings) (bps : Option ℕ) → rate_of bps s.tick s.channel.burst ≡ asked s bps
same_rate s None = refl
same_rate s (Some bps) = refl

-- what an open burst reserves is part of what is reserved
pub burst_reserved : (s : Settings) (k : ℕ) (history : History) (b : Burst) → open_burst s k history ≡ Some b → b.rate + s.channel.depth ≤ reserved s history
burst_reserved s k history b e =
    let is_open : has_open s k history ≡ true = ap (λ (o : Option Burst). is_some o) e in
    let among : is_among k (opened history) ≡ true = opened_stands k history ∙ sym (open_stands s k history) ∙ is_open in
    let own : most_of s (open_burst s k history) ≡ b.rate + s.channel.depth = ap (most_of s) e in
    omega (arith, own, part_of_sum (λ j. most_of s (open_burst s j history)) k (opened history) among)

-- what is said of an open burst
has_burst : (s : Settings) (k : ℕ) (history : History) (b : Burst) (P : Burst → Type 0) → open_burst s k history ≡ Some b → P b → HasBurst s k history P
has_burst s k history b P e p = subst (λ (o : Option Burst). IsSomeAnd o P) (sym e) p

of_burst : (s : Settings) (k : ℕ) (history : History) (b : Burst) (P : Burst → Type 0) → open_burst s k history ≡ Some b → HasBurst s k history P → P b
of_burst s k history b P e p = subst (λ (o : Option Burst). IsSomeAnd o P) e p

no_burst : (s : Settings) (k : ℕ) (history : History) (P : Burst → Type 0) → open_burst s k history ≡ None → ¬ HasBurst s k history P
no_burst s k history P e p = subst (λ (o : Option Burst). IsSomeAnd o P) e p

-- packets of one number are one
pub one_packet : (n : ℕ) (one other : Held) (hs : List Held) → Rises n hs → IsAmong one hs → IsAmong other hs → one.n ≡ other.n → one ≡ other
one_packet n one other [] r a b same = absurd a
one_packet n one other (k ∷ ks) r a b same =
    ⊎_elim
    (λ (i : k ≡ one). ⊎_elim (λ (j : k ≡ other). sym i ∙ j)
    (λ later. absurd (let le = at_least (k.n + 1) other ks r.1 later in let e : k.n ≡ one.n = ap (λ (h : Held). h.n) i in omega (arith, le, e, same))) b)
    (λ earlier. ⊎_elim
    (λ (j : k ≡ other). absurd (let le = at_least (k.n + 1) one ks r.1 earlier in let e : k.n ≡ other.n = ap (λ (h : Held). h.n) j in omega (arith, le, e, same)))
    (λ later. one_packet (k.n + 1) one other ks r.1 earlier later same) b)
    a

-- there is one newest packet that passes
one_newest : (held : List Held) (test : Held → Bool) (one other : Held) → Rises 0 held → IsNewest held test one → IsNewest held test other → one ≡ other
one_newest held test one other r i j =
    let up = j.newest one i.among i.passes in
    let down = i.newest other j.among j.passes in
    one_packet 0 one other held r i.among j.among (omega (arith, up, down))

-- too old, or not
too_old : (held : List Held) (h : Held) (most : Option ℕ) → is_at_most (age held h) most ≡ false → IsTooOld held most h
too_old held h None e = absurd (true≢false e)
too_old held h (Some ms) e = leb-false (age held h) ms e

not_too_old : (held : List Held) (h : Held) (most : Option ℕ) → is_at_most (age held h) most ≡ true → ¬ IsTooOld held most h
not_too_old held h None e n = n
not_too_old held h (Some ms) e n = omega (arith, leb-true (age held h) ms e, n)

-- from the choice of the access point on
start_lines : (s : Settings) (k : ℕ) (history : History) (r : Request) (o : Result Held ℕ) → IsChoice s.channel (hold s history) (least_age r) r.max_ms o
    → ByLines s k history (Ok r) (no_start ∷ young ∷ old ∷ slow ∷ large ∷ accept ∷ []) (begins s (hold s history) k (asked s r.bps) history o)
start_lines s k history r (Err code) i = refused code i
  where
    refused : (code : ℕ) → IsRefusedFor s.channel (hold s history) (least_age r) r.max_ms code
        → ByLines s k history (Ok r) (no_start ∷ young ∷ old ∷ slow ∷ large ∷ accept ∷ []) (Refuse k code)
    refused code (laws.none n) = here s k history (Ok r) no_start (young ∷ old ∷ slow ∷ large ∷ accept ∷ []) (Refuse k 507) n refl
    refused code (laws.young h among eligible n) =
        skip s k history (Ok r) no_start (young ∷ old ∷ slow ∷ large ∷ accept ∷ []) (Refuse k 401) (λ m. both_ways (is_eligible s.channel (hold s history) h) (m h among) eligible)
        (here s k history (Ok r) young (old ∷ slow ∷ large ∷ accept ∷ []) (Refuse k 401) n refl)
    refused code (laws.old h newest above) =
        let tests = and_parts (is_eligible s.channel (hold s history) h) (leb (least_age r) (age (hold s history) h)) newest.passes in
        skip s k history (Ok r) no_start (young ∷ old ∷ slow ∷ large ∷ accept ∷ []) (Refuse k 402) (λ m. both_ways (is_eligible s.channel (hold s history) h) (m h newest.among) tests.0)
        (skip s k history (Ok r) young (old ∷ slow ∷ large ∷ accept ∷ []) (Refuse k 402)
        (λ m. both_ways (is_old_enough s.channel (hold s history) (least_age r) h) (m h newest.among) newest.passes)
        (here s k history (Ok r) old (slow ∷ large ∷ accept ∷ []) (Refuse k 402) (h, newest, too_old (hold s history) h r.max_ms above) refl))
start_lines s k history r (Ok h) i =
    let rate = asked s r.bps in
    let amount = reserved s history + rate + s.channel.depth in
    let tests = and_parts (is_eligible s.channel (hold s history) h) (leb (least_age r) (age (hold s history) h)) i.0.passes in
    let begin = begins s (hold s history) k rate history (Ok h) in
    skip s k history (Ok r) no_start (young ∷ old ∷ slow ∷ large ∷ accept ∷ []) begin (λ m. both_ways (is_eligible s.channel (hold s history) h) (m h i.0.among) tests.0)
    (skip s k history (Ok r) young (old ∷ slow ∷ large ∷ accept ∷ []) begin
    (λ m. both_ways (is_old_enough s.channel (hold s history) (least_age r) h) (m h i.0.among) i.0.passes)
    (skip s k history (Ok r) old (slow ∷ large ∷ accept ∷ []) begin
    (λ m. let same = one_newest (hold s history) (is_old_enough s.channel (hold s history) (least_age r)) m.0 h (held_rises s history) m.1 i.0 in
    not_too_old (hold s history) h r.max_ms i.1 (subst (IsTooOld (hold s history) r.max_ms) same m.2))
    (cond_both (is_slow s rate) _ _ (ByLines s k history (Ok r) (slow ∷ large ∷ accept ∷ []))
    (λ t. here s k history (Ok r) slow (large ∷ accept ∷ []) (Refuse k 403) (ltb-true rate (s.channel.declared + 1500) t) refl)
    (λ f. skip s k history (Ok r) slow (large ∷ accept ∷ []) _ (λ m. omega (arith, m, ltb-false rate (s.channel.declared + 1500) f))
    (cond_both (is_too_much s amount) _ _ (ByLines s k history (Ok r) (large ∷ accept ∷ []))
    (λ t. here s k history (Ok r) large (accept ∷ []) (Refuse k 501) (ltb-true s.channel.share (amount + s.channel.reserve) t) refl)
    (λ g. skip s k history (Ok r) large (accept ∷ []) _ (λ m. omega (arith, m, ltb-false s.channel.share (amount + s.channel.reserve) g))
    (here s k history (Ok r) accept [] _ tt (record { start = h; is_start = i.0; is_accept = refl }))))))))

-- with an open burst
change_lines : (s : Settings) (k : ℕ) (history : History) (r : Request) (b : Burst) → open_burst s k history ≡ Some b
    → ByLines s k history (Ok r) (slow_update ∷ large_update ∷ update ∷ full ∷ no_start ∷ young ∷ old ∷ slow ∷ large ∷ accept ∷ []) (changes s (hold s history) k (asked s r.bps) history b)
change_lines s k history r b e =
    let rate = asked s r.bps in
    let rest = full ∷ no_start ∷ young ∷ old ∷ slow ∷ large ∷ accept ∷ [] in
    let le = burst_reserved s k history b e in
    cond_both (is_slow s rate) _ _ (ByLines s k history (Ok r) (slow_update ∷ large_update ∷ update ∷ rest))
    (λ t. here s k history (Ok r) slow_update (large_update ∷ update ∷ rest) (Refuse k 403)
    (has_burst s k history b (λ c. IsSlow s rate) e (ltb-true rate (s.channel.declared + 1500) t)) refl)
    (λ f. skip s k history (Ok r) slow_update (large_update ∷ update ∷ rest) _
    (λ m. let is = of_burst s k history b (λ c. IsSlow s rate) e m in omega (arith, is, ltb-false rate (s.channel.declared + 1500) f))
    (cond_both (is_too_much s (reserved s history - b.rate + rate)) _ _ (ByLines s k history (Ok r) (large_update ∷ update ∷ rest))
    (λ t. let above = ltb-true s.channel.share (reserved s history - b.rate + rate + s.channel.reserve) t in
    here s k history (Ok r) large_update (update ∷ rest) (Refuse k 501) (has_burst s k history b (IsLargeInPlace s history rate) e (omega (arith, above, le))) refl)
    (λ g. let within = ltb-false s.channel.share (reserved s history - b.rate + rate + s.channel.reserve) g in
    skip s k history (Ok r) large_update (update ∷ rest) _
    (λ m. let is = of_burst s k history b (IsLargeInPlace s history rate) e m in omega (arith, is, within, le))
    (here s k history (Ok r) update rest _ (has_burst s k history b (λ c. Unit {0}) e tt)
    (has_burst s k history b (λ c. Update k rate (join_from s (hold s history) (next b) rate) ≡ Update k rate (joins_in s history (next c) rate)) e refl)))))

burst_lines : (s : Settings) (k : ℕ) (history : History) (r : Request) (b : Burst) (bps : Option ℕ) → open_burst s k history ≡ Some b → r.bps ≡ bps
    → ByLines s k history (Ok r) (again ∷ slow_update ∷ large_update ∷ update ∷ full ∷ no_start ∷ young ∷ old ∷ slow ∷ large ∷ accept ∷ [])
    (on_burst s (hold s history) k (asked s r.bps) history b bps)
burst_lines s k history r b None e named =
    here s k history (Ok r) again (slow_update ∷ large_update ∷ update ∷ full ∷ no_start ∷ young ∷ old ∷ slow ∷ large ∷ accept ∷ []) (Again k)
    (has_burst s k history b (AsksNoOther s r.bps) e (inl named)) refl
burst_lines s k history r b (Some bps) e named =
    let rest = slow_update ∷ large_update ∷ update ∷ full ∷ no_start ∷ young ∷ old ∷ slow ∷ large ∷ accept ∷ [] in
    cond_both (eqb (asked s r.bps) b.rate) _ _ (ByLines s k history (Ok r) (again ∷ rest))
    (λ t. here s k history (Ok r) again rest (Again k) (has_burst s k history b (AsksNoOther s r.bps) e (inr (eqb-true (asked s r.bps) b.rate t))) refl)
    (λ f. skip s k history (Ok r) again rest _
    (λ m. ⊎_elim (λ (none : r.bps ≡ None). absurd cc) (λ same. eqb-false (asked s r.bps) b.rate f same) (of_burst s k history b (AsksNoOther s r.bps) e m))
    (change_lines s k history r b e))

-- one client more can't be known
pub is_full_so : (s : Settings) (k : ℕ) (history : History) → is_full s k history ≡ true → IsFull s k history
is_full_so s k history t =
    let tests = and_parts (not (is_among k (known history))) (leb s.channel.clients (length (known history))) t in
    (not-true (is_among k (known history)) tests.0, leb-true s.channel.clients (length (known history)) tests.1)

pub isn't_full_so : (s : Settings) (k : ℕ) (history : History) → is_full s k history ≡ false → ¬ IsFull s k history
isn't_full_so s k history f m =
    both_ways (is_full s k history) f
    (and_from (not (is_among k (known history))) (leb s.channel.clients (length (known history))) (not_from_false (is_among k (known history)) m.0)
    (le-leb s.channel.clients (length (known history)) m.1))

request_lines : (s : Settings) (k : ℕ) (history : History) (r : Request) (o : Option Burst) → open_burst s k history ≡ o
    → ByLines s k history (Ok r) (again ∷ slow_update ∷ large_update ∷ update ∷ full ∷ no_start ∷ young ∷ old ∷ slow ∷ large ∷ accept ∷ [])
    (on_request s (hold s history) k r history o)
request_lines s k history r (Some b) e =
    subst (λ (rate : ℕ). ByLines s k history (Ok r) (again ∷ slow_update ∷ large_update ∷ update ∷ full ∷ no_start ∷ young ∷ old ∷ slow ∷ large ∷ accept ∷ [])
    (on_burst s (hold s history) k rate history b r.bps))
    (sym (same_rate s r.bps)) (burst_lines s k history r b r.bps e refl)
request_lines s k history r None e =
    let starts = no_start ∷ young ∷ old ∷ slow ∷ large ∷ accept ∷ [] in
    let choice = chosen s.channel (hold s history) (least_age r) r.max_ms in
    skip s k history (Ok r) again (slow_update ∷ large_update ∷ update ∷ full ∷ starts) _ (no_burst s k history (AsksNoOther s r.bps) e)
    (skip s k history (Ok r) slow_update (large_update ∷ update ∷ full ∷ starts) _ (no_burst s k history (λ b. IsSlow s (asked s r.bps)) e)
    (skip s k history (Ok r) large_update (update ∷ full ∷ starts) _ (no_burst s k history (IsLargeInPlace s history (asked s r.bps)) e)
    (skip s k history (Ok r) update (full ∷ starts) _ (no_burst s k history (λ b. Unit {0}) e)
    (cond_both (is_full s k history) _ _ (ByLines s k history (Ok r) (full ∷ starts))
    (λ t. here s k history (Ok r) full starts (Refuse k 503) (is_full_so s k history t) refl)
    (λ f. skip s k history (Ok r) full starts _ (isn't_full_so s k history f)
    (subst (λ (rate : ℕ). ByLines s k history (Ok r) starts (begins s (hold s history) k rate history choice)) (sym (same_rate s r.bps))
    (start_lines s k history r choice (newest_chosen s.channel (hold s history) (least_age r) r.max_ms (held_rises s history)))))))))

pub verdict_lines : (s : Settings) (k : ℕ) (history : History) (request : Result Request TlvFault) → ByLines s k history request table (verdict s k history request)
unfolding verdict
verdict_lines s k history (Err fault) =
    here s k history (Err fault) unread
    (preamble ∷ foreign ∷ again ∷ slow_update ∷ large_update ∷ update ∷ full ∷ no_start ∷ young ∷ old ∷ slow ∷ large ∷ accept ∷ []) (Refuse k 400) refl refl
verdict_lines s k history (Ok r) =
    let rest = again ∷ slow_update ∷ large_update ∷ update ∷ full ∷ no_start ∷ young ∷ old ∷ slow ∷ large ∷ accept ∷ [] in
    skip s k history (Ok r) unread (preamble ∷ foreign ∷ rest) _ (λ m. true≢false (sym m))
    (cond_both r.preamble _ _ (ByLines s k history (Ok r) (preamble ∷ foreign ∷ rest))
    (λ t. here s k history (Ok r) preamble (foreign ∷ rest) (Refuse k 512) t refl)
    (λ f. skip s k history (Ok r) preamble (foreign ∷ rest) _ (λ m. both_ways r.preamble f m)
    (cond_both (not (names r s.channel.ssrc)) _ _ (ByLines s k history (Ok r) (foreign ∷ rest))
    (λ t. here s k history (Ok r) foreign rest (Refuse k 509) (others_named s.channel.ssrc r.ssrcs (not-true (names r s.channel.ssrc) t)) refl)
    (λ g. skip s k history (Ok r) foreign rest _ (not_others s.channel.ssrc r.ssrcs (not-false (names r s.channel.ssrc) g))
    (request_lines s k history r (open_burst s k history) refl)))))
