-- A packet's number, and the packets in time after it.
use Rattle.std.proofs.Common.{◌≡◌, ℕ, ◌+◌, ◌-◌, ◌^◌, ◌<◌, ◌≤◌, ◌⊎◌, max, Bool, true, false, nat_lt, if◌then◌else◌, List, [], ◌∷◌, ◌++◌, length, Option, Some, None, refl, sym, ap, ◌∙◌, subst, inl, inr, arith, append-nil, IfSome}
use Rattle.std.proofs.lemmas.Bool.Decides.{nat_tests}
use Rattle.rams_model.specs.declared.{Held.Held, LiveNote.LiveNote}
use Rattle.rams_model.specs.declared.LiveNote.TheVariants.{Took, Restart as Restarted, Jump as Jumped}
use Rattle.rams_model.specs.Packets.{hi, Numbered, first, forward, backward, jump, restart, ahead, is_kept, numbered, Arrival, Stream, held_as, with_packet, greatest, in_time, note_of, live_note, stream_after, stream_of}
use Rattle.channel_cache.specs.packet_ring.Seen as rings
use Rattle.reckoning.specs.declared.ext_seq.numbering.Noted.{Noted}
use Rattle.reckoning.specs.ext_seq.{noted, moved}
use Rattle.reckoning.specs.declared.ext_seq.numbering.Noted.TheVariants.{First, Forward, Behind, Jump, Restart}
use Rattle.reckoning.specs.ext_seq.Numbers as numbers
use Rattle.channel_cache.specs.reorder_window.{first_free}
use Rattle.channel_cache.specs.reorder_window.Seen as windows
use Rattle.channel_cache.specs.declared.intake.Intake.{Intake}
use Rattle.channel_cache.specs.{IsIntake, due, Brings, UnlessTaken, IsTop, AreInStep, Stand, kept_other}

-- ---- what the numbering may say after a greatest number
abbrev pub Suits : Option ℕ → Noted → Type 0
Suits None (First n) = 65536 ≤ n
Suits None _ = ⊥
Suits (Some g) (First n) = ⊥
Suits (Some g) (Forward n) = g ≤ n
Suits (Some g) (Behind n) = n ≤ g
Suits (Some g) Jump = Unit {0}
Suits (Some g) (Restart n) = g < n

suits_step : (g u : ℕ) (near far again : Bool) → nat_lt u 3000 ≡ near
    → Suits (Some g) (noted (if near then forward (g + u) else if far then backward (g - (65536 - u)) else if again then restart (g + u) else jump))
suits_step g u true far again test = omega arith
suits_step g u false true again test = omega arith
suits_step g u false false true test = let far : 3000 ≤ u = grind (arith, nat_tests) in omega arith
suits_step g u false false false test = tt

suits_numbered : (g kept : Option ℕ) (sequence : ℕ) → Suits g (noted (numbered g kept sequence))
unfolding numbered
suits_numbered None kept sequence = omega arith
suits_numbered (Some g) kept sequence = let u = ahead sequence g in suits_step g u (nat_lt u 3000) (nat_lt 65436 u) (is_kept kept sequence) refl

-- ---- the numbers stay small
abbrev IsSmall : Noted → Type 0
IsSmall (First n) = n < 2 ^ 62
IsSmall (Forward n) = n < 2 ^ 62
IsSmall (Behind n) = Unit {0}
IsSmall Jump = Unit {0}
IsSmall (Restart n) = n < 2 ^ 62

-- the greatest number leaves room for one more
abbrev HasRoom : Option ℕ → Type 0
HasRoom g = IfSome g (λ n. n < 2 ^ 61)

small_step : (g u : ℕ) (near far again : Bool) → u < 65536 → g < 2 ^ 61
    → IsSmall (noted (if near then forward (g + u) else if far then backward (g - (65536 - u)) else if again then restart (g + u) else jump))
small_step g u true far again low room = omega (arith, low, room)
small_step g u false true again low room = tt
small_step g u false false true low room = omega (arith, low, room)
small_step g u false false false low room = tt

small_numbered : (g kept : Option ℕ) (sequence : ℕ) → sequence < 65536 → HasRoom g → IsSmall (noted (numbered g kept sequence))
unfolding numbered
small_numbered None kept sequence low room = omega (arith, low)
small_numbered (Some g) kept sequence low room =
    let u = ahead sequence g in
    let few : u < 65536 = omega arith in
    small_step g u (nat_lt u 3000) (nat_lt 65436 u) (is_kept kept sequence) few room

pub note_room : (g : Option ℕ) → HasRoom g → IfSome g (λ n. n < 2 ^ 62)
note_room None room = tt
note_room (Some g) room = omega (arith, room)

-- ---- what is known in each case
pub record Begins (v : numbers.Seen) (i : Intake) (n : ℕ) : Type 0 where
  pub none : v.greatest ≡ None
  pub empty : i.window.kept ≡ []
  pub above : hi i.stock.ring.held ≤ n
  pub small : n < 2 ^ 62

begins_at : (v : numbers.Seen) (i : Intake) (n : ℕ) (g : Option ℕ) → v.greatest ≡ g → IsTop g i.window → Suits g (First n) → IsIntake i → n < 2 ^ 62 → Begins v i n
begins_at v i n (Some g) is top suits intake small = absurd suits
begins_at v i n None is top suits intake small =
    let rises = subst (λ (es : List (ℕ × Held)). windows.RisesIn (hi i.stock.ring.held) (i.window.greatest + 1) es) top.0 intake.behind in
    record { none = is; empty = top.0; above = omega (arith, rises, top.1, suits); small = small }

pub begins : (v : numbers.Seen) (i : Intake) (sequence n : ℕ) (r : Noted) → AreInStep v i → HasRoom v.greatest → sequence < 65536 → r ≡ noted (numbered v.greatest v.kept sequence) → r ≡ First n → Begins v i n
begins v i sequence n r step few low is one =
    let same = sym is ∙ one in
    begins_at v i n v.greatest refl step.top (subst (Suits v.greatest) same (suits_numbered v.greatest v.kept sequence)) step.lawful
    (subst IsSmall same (small_numbered v.greatest v.kept sequence low few))

pub record Reaches (v : numbers.Seen) (i : Intake) (n : ℕ) (r : Noted) : Type 0 where
  pub top : ℕ
  pub is : v.greatest ≡ Some top
  pub going : i.window.ended ≡ false
  pub same : i.window.greatest ≡ top
  pub small : n < 2 ^ 62
  -- the greatest number after it
  pub later : (kept_of : ℕ) → (moved v kept_of r).greatest ≡ Some (max top n)

reaches_at : (v : numbers.Seen) (i : Intake) (n : ℕ) (r : Noted) (g : Option ℕ) → v.greatest ≡ g → IsTop g i.window → (r ≡ Forward n) ⊎ (r ≡ Behind n) → Suits g r → HasRoom g → IsSmall r → Reaches v i n r
reaches_at v i n r None is top (inl near) suits room small = absurd (subst (Suits None) near suits)
reaches_at v i n r None is top (inr near) suits room small = absurd (subst (Suits None) near suits)
reaches_at v i n r (Some g) is top (inl near) suits room small =
    let above : g ≤ n = subst (Suits (Some g)) near suits in
    let most : n ≡ max g n = omega arith in
    record {
      top = g;
      is = is;
      going = top.0;
      same = top.1;
      small = subst IsSmall near small;
      later = λ k. ap (λ (x : Noted). (moved v k x).greatest) near ∙ ap Some most;
    }
reaches_at v i n r (Some g) is top (inr near) suits room small =
    let below : n ≤ g = subst (Suits (Some g)) near suits in
    let most : g ≡ max g n = omega arith in
    record {
      top = g;
      is = is;
      going = top.0;
      same = top.1;
      small = omega (arith, below, room);
      later = λ k. ap (λ (x : Noted). (moved v k x).greatest) near ∙ (is ∙ ap Some most);
    }

pub reaches : (v : numbers.Seen) (i : Intake) (sequence n : ℕ) (r : Noted) → AreInStep v i → HasRoom v.greatest → sequence < 65536 → r ≡ noted (numbered v.greatest v.kept sequence) → (r ≡ Forward n) ⊎ (r ≡ Behind n) → Reaches v i n r
reaches v i sequence n r step few low is near =
    reaches_at v i n r v.greatest refl step.top near (subst (Suits v.greatest) (sym is) (suits_numbered v.greatest v.kept sequence)) few
    (subst IsSmall (sym is) (small_numbered v.greatest v.kept sequence low few))

pub record Restarts (v : numbers.Seen) (i : Intake) (n : ℕ) : Type 0 where
  pub above : i.window.greatest < n
  pub small : n < 2 ^ 62

restarts_at : (v : numbers.Seen) (i : Intake) (n : ℕ) (g : Option ℕ) → IsTop g i.window → Suits g (Restart n) → n < 2 ^ 62 → Restarts v i n
restarts_at v i n None top suits small = absurd suits
restarts_at v i n (Some g) top suits small = record { above = omega (arith, top.1, suits); small = small }

pub restarts : (v : numbers.Seen) (i : Intake) (sequence n : ℕ) (r : Noted) → AreInStep v i → HasRoom v.greatest → sequence < 65536 → r ≡ noted (numbered v.greatest v.kept sequence) → r ≡ Restart n → Restarts v i n
restarts v i sequence n r step few low is again =
    let same = sym is ∙ again in
    restarts_at v i n v.greatest step.top (subst (Suits v.greatest) same (suits_numbered v.greatest v.kept sequence))
    (subst IsSmall same (small_numbered v.greatest v.kept sequence low few))

-- ---- numbering and packets are in step again
pub in_step : (w : numbers.Seen) (j : Intake) (g : ℕ) → w.greatest ≡ Some g → IsIntake j → first_free j.window ≡ None → j.window.ended ≡ false → j.window.greatest ≡ g → AreInStep w j
in_step w j g is intake settled going same = record {
  lawful = intake;
  settled = settled;
  top = subst (λ (o : Option ℕ). IsTop o j.window) (sym is) (going, same);
}

-- ---- what a dropped packet leaves
pub UnlessTaken-map : (note : LiveNote) (P Q : Type 0) → (P → Q) → UnlessTaken note P → UnlessTaken note Q
UnlessTaken-map (Took n) P Q f p = tt
UnlessTaken-map (Restarted n) P Q f p = tt
UnlessTaken-map _ P Q f p = f p

pub only_kept : (v w : numbers.Seen) (i j : Intake) (n : ℕ) (r : Noted) (sequence : ℕ) → Reaches v i n r → w ≡ moved v sequence r → j.window.greatest ≡ max i.window.greatest n → j ≡ i → (w ≡ kept_other v w) × (j ≡ i)
only_kept v w i j n r sequence reach step most same =
    let stays : i.window.greatest ≡ j.window.greatest = ap (λ (x : Intake). x.window.greatest) (sym same) in
    let top : max reach.top n ≡ reach.top = omega (arith, stays, most, reach.same) in
    let kept : w.greatest ≡ v.greatest = ap (λ (x : numbers.Seen). x.greatest) step ∙ (reach.later sequence ∙ (ap Some top ∙ sym reach.is)) in
    (ap (λ (g : Option ℕ). record w { greatest = g }) kept, same)

-- ---- the packets that they stand for
some_at : (hs : List Held) (g : ℕ) → greatest hs ≡ Some g → 0 < length hs
some_at [] g is = absurd cc
some_at (h ∷ hs) g is = omega arith

none_at : (hs : List Held) → greatest hs ≡ None → hs ≡ []
none_at [] is = refl
none_at (h ∷ hs) is = absurd cc

-- a packet of which the numbering said so
pub stand_after : (w : numbers.Seen) (j : Intake) (width : ℕ) (arrivals : List Arrival) (a : Arrival) (x : Numbered) (note : LiveNote) → let s = stream_of width arrivals in
    numbered (greatest s.present) s.kept a.sequence ≡ x → note ≡ note_of width s.present x → j.window.width ≡ width → numbers.StandsFor w width (a ∷ arrivals) → Brings j (stream_after s a note)
    → (note ≡ live_note width s a.sequence) × Stand w j (a ∷ arrivals)
unfolding stream_of live_note
stand_after w j width arrivals a x note is answer same counted brings =
    let s = stream_of width arrivals in
    let right : note ≡ live_note width s a.sequence = answer ∙ ap (note_of width s.present) (sym is) in
    let brought : Brings j (stream_of width (a ∷ arrivals)) = subst (λ (n : LiveNote). Brings j (stream_after s a n)) right brings in (
      right,
      record {
        numbered = subst (λ (m : ℕ). numbers.StandsFor w m (a ∷ arrivals)) (sym same) counted;
        brought = subst (λ (m : ℕ). Brings j (stream_of m (a ∷ arrivals))) (sym same) brought;
      },
    )

-- the number as the definitions have it
says : (v : numbers.Seen) (width : ℕ) (arrivals : List Arrival) (sequence : ℕ) (r : Noted) → numbers.StandsFor v width arrivals → r ≡ noted (numbered v.greatest v.kept sequence)
    → let s = stream_of width arrivals in noted (numbered (greatest s.present) s.kept sequence) ≡ r
says v width arrivals sequence r stood is =
    let s = stream_of width arrivals in
    sym (is ∙ (ap (λ (g : Option ℕ). noted (numbered g v.kept sequence)) stood.greatest ∙ ap (λ (k : Option ℕ). noted (numbered (greatest s.present) k sequence)) stood.kept))

is_first : (x : Numbered) (n : ℕ) → noted x ≡ First n → x ≡ first n
is_first (first m) n is = let same : m ≡ n = cc in ap first same
is_first (forward m) n is = absurd cc
is_first (backward m) n is = absurd cc
is_first jump n is = absurd cc
is_first (restart m) n is = absurd cc

is_near : (width : ℕ) (present : List Held) (x : Numbered) (n : ℕ) → (noted x ≡ Forward n) ⊎ (noted x ≡ Behind n) → note_of width present x ≡ in_time width present n
is_near width present (first m) n (inl is) = absurd cc
is_near width present (first m) n (inr is) = absurd cc
is_near width present (forward m) n (inl is) = let same : m ≡ n = cc in ap (in_time width present) same
is_near width present (forward m) n (inr is) = absurd cc
is_near width present (backward m) n (inl is) = absurd cc
is_near width present (backward m) n (inr is) = let same : m ≡ n = cc in ap (in_time width present) same
is_near width present jump n (inl is) = absurd cc
is_near width present jump n (inr is) = absurd cc
is_near width present (restart m) n (inl is) = absurd cc
is_near width present (restart m) n (inr is) = absurd cc

is_jump : (x : Numbered) → noted x ≡ Jump → x ≡ jump
is_jump (first m) is = absurd cc
is_jump (forward m) is = absurd cc
is_jump (backward m) is = absurd cc
is_jump jump is = refl
is_jump (restart m) is = absurd cc

is_restart : (x : Numbered) (n : ℕ) → noted x ≡ Restart n → x ≡ restart n
is_restart (first m) n is = absurd cc
is_restart (forward m) n is = absurd cc
is_restart (backward m) n is = absurd cc
is_restart jump n is = absurd cc
is_restart (restart m) n is = let same : m ≡ n = cc in ap restart same

pub first_stands : (v w : numbers.Seen) (i j : Intake) (arrivals : List Arrival) (a : Arrival) (n : ℕ) (r : Noted) → Stand v i arrivals → Begins v i n → r ≡ noted (numbered v.greatest v.kept a.sequence) → r ≡ First n → j.window.width ≡ i.window.width
    → numbers.StandsFor w i.window.width (a ∷ arrivals) → ((before : List Held) (kept : Option ℕ) → rings.StandsFor i.stock.ring before → Brings j (record { ended = before; present = held_as n a ∷ []; kept = kept }))
    → (Took n ≡ live_note i.window.width (stream_of i.window.width arrivals) a.sequence) × Stand w j (a ∷ arrivals)
first_stands v w i j arrivals a n r stood began is one same counted brings =
    let width = i.window.width in
    let s = stream_of width arrivals in
    let says_first = is_first _ n (says v width arrivals a.sequence r stood.numbered is ∙ one) in
    let none : s.present ≡ [] = none_at s.present (sym stood.numbered.greatest ∙ began.none) in
    let source : rings.StandsFor i.stock.ring s.ended =
    subst (λ (l : List Held). rings.StandsFor i.stock.ring l) (append-nil s.ended) (subst (λ (l : List Held). rings.StandsFor i.stock.ring (s.ended ++ due width l)) none stood.brought.holds) in
    let new : Brings j (stream_after s a (Took n)) = subst (λ (l : List Held). Brings j (record s { present = with_packet (held_as n a) l })) (sym none) (brings s.ended s.kept source) in
    stand_after w j width arrivals a (first n) (Took n) says_first refl same counted new

pub near_stands : (v w : numbers.Seen) (i j : Intake) (arrivals : List Arrival) (a : Arrival) (n : ℕ) (r : Noted) (note : LiveNote) → Stand v i arrivals → Reaches v i n r → r ≡ noted (numbered v.greatest v.kept a.sequence) → (r ≡ Forward n) ⊎ (r ≡ Behind n)
    → j.window.width ≡ i.window.width → numbers.StandsFor w i.window.width (a ∷ arrivals)
    → ((s : Stream) → 0 < length s.present → Brings i s → (note ≡ in_time i.window.width s.present n) × Brings j (stream_after s a note))
    → (note ≡ live_note i.window.width (stream_of i.window.width arrivals) a.sequence) × Stand w j (a ∷ arrivals)
near_stands v w i j arrivals a n r note stood reach is near same counted brings =
    let width = i.window.width in
    let s = stream_of width arrivals in
    let x = numbered (greatest s.present) s.kept a.sequence in
    let some = some_at s.present reach.top (sym stood.numbered.greatest ∙ reach.is) in
    let new = brings s some stood.brought in
    let near_x = subst (λ (y : Noted). (y ≡ Forward n) ⊎ (y ≡ Behind n)) (sym (says v width arrivals a.sequence r stood.numbered is)) near in
    stand_after w j width arrivals a x note refl (new.0 ∙ sym (is_near width s.present x n near_x)) same counted new.1

pub jump_stands : (v w : numbers.Seen) (i : Intake) (arrivals : List Arrival) (a : Arrival) (r : Noted) → Stand v i arrivals → r ≡ noted (numbered v.greatest v.kept a.sequence) → r ≡ Jump
    → numbers.StandsFor w i.window.width (a ∷ arrivals) → (Jumped ≡ live_note i.window.width (stream_of i.window.width arrivals) a.sequence) × Stand w i (a ∷ arrivals)
jump_stands v w i arrivals a r stood is jumps counted =
    let width = i.window.width in
    let s = stream_of width arrivals in
    let says_jump = is_jump _ (says v width arrivals a.sequence r stood.numbered is ∙ jumps) in
    stand_after w i width arrivals a jump Jumped says_jump refl refl counted (record { waits = stood.brought.waits; holds = stood.brought.holds })

restart_some : (g : Option ℕ) (n : ℕ) → Suits g (Restart n) → (top : ℕ) × (g ≡ Some top)
restart_some None n suits = absurd suits
restart_some (Some g) n suits = (g, refl)

pub restart_stands : (v w : numbers.Seen) (i j : Intake) (arrivals : List Arrival) (a : Arrival) (n : ℕ) (r : Noted) → Stand v i arrivals → r ≡ noted (numbered v.greatest v.kept a.sequence) → r ≡ Restart n → j.window.width ≡ i.window.width
    → numbers.StandsFor w i.window.width (a ∷ arrivals) → ((s : Stream) → 0 < length s.present → Brings i s → Brings j (stream_after s a (Restarted n)))
    → (Restarted n ≡ live_note i.window.width (stream_of i.window.width arrivals) a.sequence) × Stand w j (a ∷ arrivals)
restart_stands v w i j arrivals a n r stood is again same counted brings =
    let width = i.window.width in
    let s = stream_of width arrivals in
    let says_restart = is_restart _ n (says v width arrivals a.sequence r stood.numbered is ∙ again) in
    let top = restart_some v.greatest n (subst (Suits v.greatest) (sym is ∙ again) (suits_numbered v.greatest v.kept a.sequence)) in
    let some = some_at s.present top.0 (sym stood.numbered.greatest ∙ top.1) in
    stand_after w j width arrivals a (restart n) (Restarted n) says_restart refl same counted (brings s some stood.brought)
