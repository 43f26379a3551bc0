-- A client is forgotten after as many idle ticks as the settings say.
use Rattle.std.proofs.Common.{◌≡◌, ℕ, ◌+◌, ◌<◌, ◌≤◌, Bool, true, false, cond, inl, inr, List, [], ◌∷◌, ◌++◌, refl, ap, sym, ◌∙◌, subst, arith, eqb}
use Rattle.rams_model.specs.declared.{Event.Event, Note.Note}
use Rattle.rams_model.specs.declared.Note.TheVariants as note
use Rattle.rams_model.specs.Service.{Settings, live, dropped, feedback, unframed, tick, Item, began, told, noted, History, known, is_among, is_busy, is_served, quiet_ticks, idle, history_of}
use Rattle.rams_model.specs.Laws.{ticks_begun}
use Rattle.rams_model.proofs.Legal.{IsForgotten}
use Rattle.service_laws.specs.tick_laws.{serves, shows_life, IsIdleThrough, WasIdle, IsIdleAllThrough}
use Rattle.service_laws.proofs.tick_laws.Idling.{idle_less}

serves_is : (k : ℕ) (n : Note) → serves k n ≡ is_served k n
serves_is k (note.Burst client n q) = refl
serves_is k (note.Repair client n q) = refl
serves_is k (note.Gone client n) = refl
serves_is k (note.End client why) = refl
serves_is k n = refl

-- the stretch through which a client was idle for the ticks that are counted
record IdleFor (s : Settings) (k : ℕ) (history : History) (n : ℕ) : Type 0 where
  stretch : History
  rest : History
  splits : history ≡ stretch ++ rest
  through : IsIdleThrough s k stretch rest
  ticks : ticks_begun stretch ≡ n

from_here : (s : Settings) (k : ℕ) (history : History) → IdleFor s k history 0
from_here s k history = record { stretch = []; rest = history; splits = refl; through = tt; ticks = refl }

more_idle : (s : Settings) (k : ℕ) (i : Item) (history : History) (n : ℕ) → ((stretch rest : History) → IsIdleThrough s k stretch rest → IsIdleThrough s k (i ∷ stretch) rest)
    → ((stretch : History) → ticks_begun (i ∷ stretch) ≡ ticks_begun stretch) → IdleFor s k history n → IdleFor s k (i ∷ history) n
more_idle s k i history n f same w =
    record { stretch = i ∷ w.stretch; rest = w.rest; splits = ap (λ (h : History). i ∷ h) w.splits; through = f w.stretch w.rest w.through; ticks = same w.stretch ∙ w.ticks }

tick_more : (s : Settings) (k : ℕ) (history : History) (n : ℕ) (b : Bool) → is_busy s k history ≡ b → IdleFor s k history n → IdleFor s k (began tick ∷ history) (cond b 0 n + 1)
tick_more s k history n true e w =
    record { stretch = began tick ∷ []; rest = history; splits = refl; through = (inl refl, tt); ticks = refl }
tick_more s k history n false e w =
    record {
      stretch = began tick ∷ w.stretch;
      rest = w.rest;
      splits = ap (λ (h : History). began tick ∷ h) w.splits;
      through = (inr (subst (λ (h : History). is_busy s k h ≡ false) w.splits e), w.through);
      ticks = let t = w.ticks in omega (arith, t);
    }

-- where what shows life does, the count begins anew
anew_or_more : (s : Settings) (k : ℕ) (i : Item) (history : History) (n : ℕ) (b : Bool) → shows_life k i ≡ b
    → (shows_life k i ≡ false → IdleFor s k history n → IdleFor s k (i ∷ history) n) → IdleFor s k history n → IdleFor s k (i ∷ history) (cond b 0 n)
anew_or_more s k i history n true e f w = from_here s k (i ∷ history)
anew_or_more s k i history n false e f w = f e w

idle_for : (s : Settings) (k : ℕ) (history : History) → IdleFor s k history (quiet_ticks s k history)
unfolding quiet_ticks
idle_for s k [] = from_here s k []
idle_for s k (began tick ∷ history) = tick_more s k history (quiet_ticks s k history) (is_busy s k history) refl (idle_for s k history)
idle_for s k (began (feedback client messages) ∷ history) =
    anew_or_more s k (began (feedback client messages)) history (quiet_ticks s k history) (eqb client k) refl
    (λ e w. more_idle s k (began (feedback client messages)) history (quiet_ticks s k history) (λ stretch rest t. (e, t)) (λ stretch. refl) w) (idle_for s k history)
idle_for s k (began (live a) ∷ history) = more_idle s k (began (live a)) history (quiet_ticks s k history) (λ stretch rest t. (refl, t)) (λ stretch. refl) (idle_for s k history)
idle_for s k (began (dropped n) ∷ history) = more_idle s k (began (dropped n)) history (quiet_ticks s k history) (λ stretch rest t. (refl, t)) (λ stretch. refl) (idle_for s k history)
idle_for s k (began (unframed client fault) ∷ history) =
    more_idle s k (began (unframed client fault)) history (quiet_ticks s k history) (λ stretch rest t. (refl, t)) (λ stretch. refl) (idle_for s k history)
idle_for s k (told client message ∷ history) = more_idle s k (told client message) history (quiet_ticks s k history) (λ stretch rest t. (refl, t)) (λ stretch. refl) (idle_for s k history)
idle_for s k (noted n packet ∷ history) =
    anew_or_more s k (noted n packet) history (quiet_ticks s k history) (is_served k n) (serves_is k n)
    (λ e w. more_idle s k (noted n packet) history (quiet_ticks s k history) (λ stretch rest t. (e, t)) (λ stretch. refl) w) (idle_for s k history)

pub was_idle : (s : Settings) (k : ℕ) (history : History) → 1 ≤ s.channel.idle → IsForgotten s history k → WasIdle s k history
was_idle s k history some f = by_busy (is_busy s k history) refl f.is_idle
  where
    by_busy : (b : Bool) → is_busy s k history ≡ b → cond b 0 (quiet_ticks s k history) ≡ s.channel.idle → WasIdle s k history
    by_busy true e is = absurd (omega (arith, is, some))
    by_busy false e is =
        let w = idle_for s k history in record { stretch = w.stretch; rest = w.rest; splits = w.splits; through = w.through; ticks = w.ticks ∙ is; still = e }

-- ---- and no later

as_many : (s : Settings) (k : ℕ) (stretch rest : History) → IsIdleAllThrough s k stretch rest → ticks_begun stretch ≤ quiet_ticks s k (stretch ++ rest)
unfolding quiet_ticks
as_many s k [] rest t = omega arith
as_many s k (began tick ∷ stretch) rest t =
    let more = as_many s k stretch rest t.1 in
    subst (λ (b : Bool). ticks_begun stretch + 1 ≤ cond b 0 (quiet_ticks s k (stretch ++ rest)) + 1) (sym t.0) (omega (arith, more))
as_many s k (began (feedback client messages) ∷ stretch) rest t =
    subst (λ (b : Bool). ticks_begun stretch ≤ cond b 0 (quiet_ticks s k (stretch ++ rest))) (sym t.0) (as_many s k stretch rest t.1)
as_many s k (began (live a) ∷ stretch) rest t = as_many s k stretch rest t.1
as_many s k (began (dropped n) ∷ stretch) rest t = as_many s k stretch rest t.1
as_many s k (began (unframed client fault) ∷ stretch) rest t = as_many s k stretch rest t.1
as_many s k (told client message ∷ stretch) rest t = as_many s k stretch rest t.1
as_many s k (noted n packet ∷ stretch) rest t =
    subst (λ (b : Bool). ticks_begun stretch ≤ cond b 0 (quiet_ticks s k (stretch ++ rest))) (sym (sym (serves_is k n) ∙ t.0)) (as_many s k stretch rest t.1)

pub in_time : (s : Settings) (k : ℕ) (events : List Event) (stretch rest : History) → 1 ≤ s.channel.idle → history_of s events ≡ stretch ++ rest → IsIdleAllThrough s k stretch rest
    → is_busy s k (history_of s events) ≡ false → is_among k (known (history_of s events)) ≡ true → ticks_begun stretch < s.channel.idle
in_time s k events stretch rest some splits t calm is_known =
    let less = idle_less s k events some is_known in
    let counted : idle s k (history_of s events) ≡ quiet_ticks s k (stretch ++ rest) =
    ap (λ (b : Bool). cond b 0 (quiet_ticks s k (history_of s events))) calm ∙ ap (quiet_ticks s k) splits in
    let many = as_many s k stretch rest t in
    omega (arith, less, counted, many)
