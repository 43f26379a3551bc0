-- A repair that still waits after a tick had its turn in it, and didn't fit.
use Rattle.std.proofs.Common.{◌≡◌, ℕ, ◌<◌, Bool, true, false, cond, not, ◌&&◌, ◌⊎◌, inl, inr, ⊎_elim, List, [], ◌∷◌, ◌++◌, Option, Some, None, refl, ap, sym, ◌∙◌, subst, arith, eqb, leb, append_assoc}
use Rattle.std.specs.Prelude.{Contains, filter, find}
use Rattle.std.proofs.lemmas.Bool.{cases_Bool, and_from, eqb-true, eq-eqb, leb-false, not-true, true≢false}
use Rattle.std.proofs.lemmas.List.Elements.{Contains-append_right}
use Rattle.rams_model.specs.declared.{Event.Event, Held.Held, Note.Note, Event.TheVariants.Tick}
use Rattle.rams_model.specs.declared.Note.TheVariants as note
use Rattle.rams_model.specs.Service.{Settings, tick, began, noted, History, hold, known, opened, sequence, Wanted, wanted, is_wanted, pending, channel_left, run_left, kept_from_repairs, may_take, open_burst, repaired, all_repaired, idle_forgotten, history_of}
use Rattle.rams_model.specs.Laws.{NoneIs, is_event}
use Rattle.rams_model.proofs.Adding.{no_event, none_of_both}
use Rattle.rams_model.proofs.Induction.{through}
use Rattle.rams_model.proofs.Items.{Puts, is_repair, is_forgotten, repaired_puts, all_repaired_put, all_served_put, all_forgotten_put}
use Rattle.rams_model.proofs.Legal.{is_of_runs, IsGone}
use Rattle.service_laws.specs.tick_laws.{HadItsTurn}
use Rattle.service_laws.proofs.book_laws.Members.{first_or_later}
use Rattle.service_laws.proofs.tick_laws.Takes.{may_keep, too_large_for_client, too_large_for_channel}
use Rattle.service_laws.proofs.book_laws.Members.{of_filter}
use Rattle.service_laws.proofs.tick_laws.Ticks.{start, ran, repaired_all, tick_is, held_ran, passed}

-- ---- runs and forgetting leave what waits as it is

pub runs_leave : (n : Note) (packet : Option Held) (history : History) → is_of_runs n ≡ true → pending (noted n packet ∷ history) ≡ pending history
unfolding pending
runs_leave (note.Burst client n number) packet history e = refl
runs_leave (note.End client why) packet history e = refl
runs_leave n packet history e = absurd (true≢false (sym e))

forgetting_leaves : (n : Note) (packet : Option Held) (history : History) → is_forgotten n ≡ true → pending (noted n packet ∷ history) ≡ pending history
unfolding pending
forgetting_leaves (note.Forgot client) packet history e = refl
forgetting_leaves n packet history e = absurd (true≢false (sym e))

same_after_forgetting : (s : Settings) (history : History) → pending (idle_forgotten s history) ≡ pending history
same_after_forgetting s history =
    through is_forgotten (λ h. pending h ≡ pending history) (λ n packet h k e. forgetting_leaves n packet h k ∙ e) history (idle_forgotten s history)
    (all_forgotten_put s (known history) history) refl

-- ---- each repair in its turn

-- the turn came between these two histories
record HadTurn (s : Settings) (held : List Held) (from to : History) (w : Wanted) : Type 0 where
  packet : Held
  held_is : Contains held packet
  number : packet.n ≡ w.n
  now : History
  since : History
  splits : to ≡ since ++ (now ++ from)
  here : NoneIs is_event now
  large : (may_take s held w.client (now ++ from) < packet.wire) ⊎ (channel_left s (now ++ from) < packet.wire)

-- it came later than something else
turn_later : (s : Settings) (held : List Held) (first from to : History) (w : Wanted) (p : Puts is_repair first from) → HadTurn s held from to w → HadTurn s held first to w
turn_later s held first from to w p t =
    let same : t.now ++ from ≡ (t.now ++ p.items) ++ first = ap (λ (h : History). t.now ++ h) p.splits ∙ sym (append_assoc t.now p.items first) in
    record {
      packet = t.packet;
      held_is = t.held_is;
      number = t.number;
      now = t.now ++ p.items;
      since = t.since;
      splits = t.splits ∙ ap (λ (h : History). t.since ++ h) same;
      here = none_of_both t.now p.items t.here (no_event is_repair p.items p.notes);
      large = subst (λ (h : History). (may_take s held w.client h < t.packet.wire) ⊎ (channel_left s h < t.packet.wire)) same t.large;
    }

-- a repair that is noted waits no more
gone_from : (client n : ℕ) (xs : List Wanted) → Contains (filter (λ w. not (is_wanted client n w)) xs) (wanted client n) → ⊥
gone_from client n xs c =
    let is : is_wanted client n (wanted client n) ≡ true = and_from (eqb client client) (eqb n n) (eq-eqb client client refl) (eq-eqb n n refl) in
    true≢false (sym is ∙ not-true (is_wanted client n (wanted client n)) (passed (λ w. not (is_wanted client n w)) xs (wanted client n) c))

found_held : (n : ℕ) (held : List Held) (h : Held) → find (λ x. eqb x.n n) held ≡ Some h → Contains held h × (h.n ≡ n)
found_held n [] h e = cc
found_held n (x ∷ xs) h e = by_case (eqb x.n n) refl (λ f. found_held n xs h f) e
  where
    by_case : (b : Bool) → eqb x.n n ≡ b → (find (λ y. eqb y.n n) xs ≡ Some h → Contains xs h × (h.n ≡ n)) → cond b (Some x) (find (λ y. eqb y.n n) xs) ≡ Some h
        → Contains (x ∷ xs) h × (h.n ≡ n)
    by_case true t more f = let same : x ≡ h = cc in subst (λ (y : Held). Contains (x ∷ xs) y × (y.n ≡ n)) same ((0, omega arith, refl), eqb-true x.n n t)
    by_case false t more f = let later = more f in (Contains-append_right (x ∷ []) xs h later.0, later.1)

-- what still waits waited before, and where this was its turn it didn't fit
record Waited (s : Settings) (held : List Held) (history after to : History) (v w : Wanted) : Type 0 where
  before : Contains (pending history) w
  turn : v ≡ w → HadTurn s held history to w

one_turn : (s : Settings) (held : List Held) (v w : Wanted) (o : Option Held) (history to since : History) → find (λ h. eqb h.n v.n) held ≡ o
    → to ≡ since ++ repaired s held v o history → Contains (pending (repaired s held v o history)) w → Waited s held history (repaired s held v o history) to v w
unfolding pending
one_turn s held v w None history to since found splits c =
    record { before = of_filter _ (pending history) w c; turn = λ e. absurd (gone_from v.client v.n (pending history) (subst (λ (x : Wanted). Contains (filter (λ y. not (is_wanted v.client v.n y)) (pending history)) x) (sym e) c)) }
one_turn s held v w (Some h) history to since found splits c =
    by_case (leb h.wire (may_take s held v.client history) && leb h.wire (channel_left s history)) refl splits c
  where
    sent : History
    sent = noted (note.Repair v.client v.n (sequence s v.client history)) (Some h) ∷ history

    there : Contains held h × (h.n ≡ v.n)
    there = found_held v.n held h found

    too_large : (leb h.wire (may_take s held v.client history) && leb h.wire (channel_left s history)) ≡ false
        → (may_take s held v.client history < h.wire) ⊎ (channel_left s history < h.wire)
    too_large f =
        ⊎_elim (λ (t : leb h.wire (may_take s held v.client history) ≡ true). ⊎_elim
        (λ (u : leb h.wire (channel_left s history) ≡ true). absurd (true≢false (sym (and_from _ _ t u) ∙ f)))
        (λ u. inr (leb-false h.wire (channel_left s history) u)) (cases_Bool (leb h.wire (channel_left s history))))
        (λ t. inl (leb-false h.wire (may_take s held v.client history) t)) (cases_Bool (leb h.wire (may_take s held v.client history)))

    by_case : (b : Bool) → (leb h.wire (may_take s held v.client history) && leb h.wire (channel_left s history)) ≡ b → to ≡ since ++ cond b sent history
        → Contains (pending (cond b sent history)) w → Waited s held history (cond b sent history) to v w
    by_case true t splits c =
        record { before = of_filter _ (pending history) w c; turn = λ e. absurd (gone_from v.client v.n (pending history) (subst (λ (x : Wanted). Contains (filter (λ y. not (is_wanted v.client v.n y)) (pending history)) x) (sym e) c)) }
    by_case false f splits c =
        record {
          before = c;
          turn = λ e. subst (HadTurn s held history to) e (record {
            packet = h;
            held_is = there.0;
            number = there.1;
            now = [];
            since = since;
            splits = splits;
            here = tt;
            large = too_large f;
          });
        }

-- the same of all of them
record AllWaited (s : Settings) (held : List Held) (ws : List Wanted) (history to : History) (w : Wanted) : Type 0 where
  before : Contains (pending history) w
  turn : Contains ws w → HadTurn s held history to w

all_turns : (s : Settings) (held : List Held) (ws : List Wanted) (w : Wanted) (history : History) → Contains (pending (all_repaired s held ws history)) w
    → AllWaited s held ws history (all_repaired s held ws history) w
unfolding all_repaired
all_turns s held [] w history c = record { before = c; turn = λ (none : Contains [] w). absurd (omega arith) }
all_turns s held (v ∷ vs) w history c =
    let o = find (λ h. eqb h.n v.n) held in
    let mid = repaired s held v o history in
    let later = all_turns s held vs w mid c in
    let rest = all_repaired_put s held vs mid in
    let here = one_turn s held v w o history (all_repaired s held vs mid) rest.items refl rest.splits later.before in
    record {
      before = here.before;
      turn = λ d. ⊎_elim (λ (first : v ≡ w). here.turn first)
          (λ more. turn_later s held history mid (all_repaired s held vs mid) w (repaired_puts s held v o history) (later.turn more)) (first_or_later v vs w d);
    }

-- said of the whole tick
of_tick : (s : Settings) (held : List Held) (before runs after final a b : History) (w : Wanted) → held ≡ hold s before → runs ≡ a ++ (began tick ∷ before) → NoneIs is_event a
    → final ≡ b ++ after → HadTurn s held runs after w → HadItsTurn s before final w
of_tick s held before runs after final a b w same_held ran none forgot t =
    let begin : History = began tick ∷ before in
    let same : t.now ++ runs ≡ (t.now ++ a) ++ begin = ap (λ (h : History). t.now ++ h) ran ∙ sym (append_assoc t.now a begin) in
    let whole : History = (t.now ++ a) ++ (began tick ∷ before) in
    let here = none_of_both t.now a t.here none in
    record {
      packet = t.packet;
      held = subst (λ (hs : List Held). Contains hs t.packet) same_held t.held_is;
      number = t.number;
      now = t.now ++ a;
      since = b ++ t.since;
      splits = forgot ∙ (ap (λ (h : History). b ++ h) t.splits ∙ (ap (λ (h : History). b ++ (t.since ++ h)) same ∙ sym (append_assoc b t.since ((t.now ++ a) ++ begin))));
      here = here;
      kept = kept_from_repairs s (hold s before) (run_left s w.client whole) (open_burst s w.client whole);
      keeps = may_keep s (hold s before) whole w.client (run_left s w.client whole);
      large =
          ⊎_elim (λ (lt : may_take s (hold s before) w.client whole < t.packet.wire). inl (too_large_for_client s (hold s before) w.client t.packet.wire (t.now ++ a) before here lt))
          (λ (lt : channel_left s whole < t.packet.wire). inr (too_large_for_channel s t.packet.wire (t.now ++ a) before here lt))
          (subst (λ (hs : List Held). (may_take s hs w.client whole < t.packet.wire) ⊎ (channel_left s whole < t.packet.wire)) same_held
          (subst (λ (h : History). (may_take s held w.client h < t.packet.wire) ⊎ (channel_left s h < t.packet.wire)) same t.large));
    }

pub waited : (s : Settings) (events : List Event) (w : Wanted) → Contains (pending (history_of s (Tick ∷ events))) w
    → HadItsTurn s (history_of s events) (history_of s (Tick ∷ events)) w
waited s events w c =
    let runs = ran s events in
    let after = repaired_all s events in
    let still : Contains (pending after) w =
    subst (λ (ws : List Wanted). Contains ws w) (same_after_forgetting s after) (subst (λ (h : History). Contains (pending h) w) (tick_is s events) c) in
    let all = all_turns s (hold s runs) (pending runs) w runs still in
    let first = all_served_put s (hold s (start s events)) (opened (start s events)) (start s events) in
    let last = all_forgotten_put s (known after) after in
    of_tick s (hold s runs) (history_of s events) runs after (history_of s (Tick ∷ events)) first.items last.items w (held_ran s events) first.splits (no_event is_of_runs first.items first.notes) (tick_is s events ∙ last.splits)
    (all.turn all.before)

-- ---- what is given up

none_held : (n : ℕ) (held : List Held) → find (λ h. eqb h.n n) held ≡ None → (h : Held) → Contains held h → h.n ≡ n → ⊥
none_held n [] e h c at = absurd (omega arith)
none_held n (x ∷ xs) e h c at = by_case (eqb x.n n) refl (λ g later. none_held n xs g h later at) e
  where
    by_case : (b : Bool) → eqb x.n n ≡ b → (find (λ y. eqb y.n n) xs ≡ None → Contains xs h → ⊥) → cond b (Some x) (find (λ y. eqb y.n n) xs) ≡ None → ⊥
    by_case true t more f = cc
    by_case false f more g =
        ⊎_elim (λ (is : x ≡ h). true≢false (sym (eq-eqb x.n n (ap (λ (y : Held). y.n) is ∙ at)) ∙ f)) (λ later. more g later) (first_or_later x xs h c)

pub gone_is_not_held : (s : Settings) (client n : ℕ) (history : History) → IsGone s history client n
    → Contains (pending history) (wanted client n) × ((h : Held) → Contains (hold s history) h → h.n ≡ n → ⊥)
gone_is_not_held s client n history g = (g.waits, none_held n (hold s history) g.unheld)
