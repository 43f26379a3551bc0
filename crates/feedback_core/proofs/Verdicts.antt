-- Which line of the table a request meets.
use Rattle.std.proofs.Common.{◌≡◌, ℕ, ◌+◌, ◌-◌, ◌≤◌, ◌<◌, ◌^◌, Bool, true, false, not, ◌&&◌, ⊎_elim, List, [], ◌∷◌, Option, Some, None, Result, Ok, Err, refl, ap, sym, ◌∙◌, subst, arith, eqb, leb, ltb}
use Rattle.std.specs.Prelude.{length, is_some, unwrap_or, ◌↔◌}
use Rattle.std.proofs.lemmas.Bool.{cond_both, cond-true, cond-false, cases_Bool, lt-ltb, le-ltb, lt-leb, le-leb, ltb-true, ltb-false, not_from_false, not_from_true, eq-eqb, ne_eqb}
use Rattle.rams_model.specs.declared.{Channel.Channel, Held.Held, Info.Info, Note.Note, TlvFault.TlvFault}
use Rattle.rams_model.specs.declared.Note.TheVariants as note
use Rattle.rams_model.specs.Service.{Settings, rate_of, join_ticks, noted, History, hold, known, without, newest_sender, accept_info, update_info, next, open_burst, Wanted, reserved, verdict, is_slow, is_too_much, is_full, join_from, begins, changes, on_burst, on_request}
use Rattle.rams_model.specs.Packets.{behind, is_at_most, age, newest, of_age, eligible, not_too_old, chosen_of, chosen, Follows, lo}
use Rattle.rams_model.specs.Formats.Rams as rams
use Rattle.rams_model.specs.Service.Bursts as model
use Rattle.rams_model.specs.Laws.{IsAmong, Rises}
use Rattle.rams_model.specs.Laws.Meaning as laws
use Rattle.rams_model.proofs.Holding.{rises_from}
use Rattle.rams_model.proofs.Choosing.{newest_chosen}
use Rattle.reckoning.specs.link_budget.{HasRoom}
use Rattle.reckoning.specs.link_budget.Amounts.{Amounts}
use Rattle.channel_cache.specs.declared.access_index.choice.Choice.{Choice}
use Rattle.channel_cache.specs.access_index.{choice_of}
use Rattle.channel_cache.specs.declared.access_index.choice.Choice.TheVariants.{Start, NoStart, MinUnmet, MaxUnmet}
use Rattle.client_table.specs.declared.{Burst.Burst, Entry.Entry}
use Rattle.channel_parts.specs.{IsBudget, burst_kept}
use Rattle.channel_parts.proofs.Tables.{without_none}
use Rattle.feedback_core.specs.declared.{visitor.Open.Open, visitor.Visitor.Visitor}
use Rattle.feedback_core.specs.{open_of, entry_under, begun_burst, IsClient, IsVisit, IsHeldRun, rate_for, IsAnswered}
use Rattle.feedback_core.proofs.Visiting.{idle_visit, accepted, is_closed, is_opened}
use Rattle.feedback_core.proofs.Turning.{updated}

pub answered_by : (s : Settings) (before history : History) (queue : List Wanted) (v : Visitor) (given lawful same : Note) → given ≡ same → lawful ≡ same
    → IsVisit s before (noted same None ∷ history) v queue → IsAnswered s before history queue v given lawful
answered_by s before history queue v given lawful same e f w = record {
  is_lawful = e ∙ sym f;
  visit = subst (λ (n : Note). IsVisit s before (noted n None ∷ history) v queue) (sym e) w;
}

pub refused : (s : Settings) (before history : History) (queue : List Wanted) (v : Visitor) (given lawful : Note) (code : ℕ) → given ≡ note.Refuse v.client code
    → lawful ≡ note.Refuse v.client code → IsVisit s before history v queue → IsAnswered s before history queue v given lawful
refused s before history queue v given lawful code e f w =
    answered_by s before history queue v given lawful (note.Refuse v.client code) e f (idle_visit s (note.Refuse v.client code) before history v queue refl tt w)

-- the rate
pub begins_slow : (s : Settings) (held : List Held) (k rate : ℕ) (history : History) (h : Held) → rate < s.channel.declared + 1500
    → begins s held k rate history (Ok h) ≡ note.Refuse k 403
begins_slow s held k rate history h lt = cond-true (is_slow s rate) _ _ (lt-ltb rate (s.channel.declared + 1500) lt)

fast : (s : Settings) (rate : ℕ) → s.channel.declared + 1500 ≤ rate → is_slow s rate ≡ false
fast s rate le = le-ltb rate (s.channel.declared + 1500) le

-- the share
room_of : (s : Settings) (history : History) (b : Amounts) (amount : ℕ) → IsBudget s history b → HasRoom b amount → reserved s history + amount + s.channel.reserve ≤ s.channel.share
room_of s history b amount is room = subst (λ (a : Amounts). HasRoom a amount) is room

no_room_of : (s : Settings) (history : History) (b : Amounts) (amount : ℕ) → IsBudget s history b → (HasRoom b amount → ⊥) → s.channel.share < reserved s history + amount + s.channel.reserve
no_room_of s history b amount is none =
    let none' : reserved s history + amount + s.channel.reserve ≤ s.channel.share → ⊥ = λ r. none (subst (λ (a : Amounts). HasRoom a amount) (sym is) r) in omega (arith, none')

pub begins_much : (s : Settings) (held : List Held) (k rate : ℕ) (history : History) (h : Held) (b : Amounts) → s.channel.declared + 1500 ≤ rate → IsBudget s history b
    → (HasRoom b (rate + s.channel.depth) → ⊥) → begins s held k rate history (Ok h) ≡ note.Refuse k 501
begins_much s held k rate history h b le is none =
    let lt = no_room_of s history b (rate + s.channel.depth) is none in
    cond-false (is_slow s rate) _ _ (fast s rate le)
    ∙ cond-true (is_too_much s (reserved s history + rate + s.channel.depth)) _ _
    (lt-ltb s.channel.share (reserved s history + rate + s.channel.depth + s.channel.reserve) (omega (arith, lt)))

pub begins_accepts : (s : Settings) (held : List Held) (k rate : ℕ) (history : History) (h : Held) (b : Amounts) → s.channel.declared + 1500 ≤ rate → IsBudget s history b
    → HasRoom b (rate + s.channel.depth) → begins s held k rate history (Ok h) ≡ note.Accept k h.n rate (join_from s held h.n rate)
begins_accepts s held k rate history h b le is room =
    let fits = room_of s history b (rate + s.channel.depth) is room in
    cond-false (is_slow s rate) _ _ (fast s rate le)
    ∙ cond-false (is_too_much s (reserved s history + rate + s.channel.depth)) _ _
    (le-ltb s.channel.share (reserved s history + rate + s.channel.depth + s.channel.reserve) (omega (arith, fits)))

pub accepts : (s : Settings) (held : List Held) (sender : ℕ) (before history : History) (queue : List Wanted) (v : Visitor) (rate first size join : ℕ) (h : Held) (channel : Channel)
    (budget : Amounts) (under : Entry) (info : Info) (burst : Burst) → channel ≡ s.channel → s.channel.seq0 ≤ 65535 → h.n ≡ first → behind first held ≡ size
    → s.channel.declared + 1500 ≤ rate → HasRoom v.budget (rate + channel.depth) → budget ≡ record v.budget { reserved = v.budget.reserved + (rate + channel.depth) }
    → join ≡ join_ticks size rate channel.declared channel.depth → under ≡ entry_under v.entry sender channel.seq0 → info ≡ accept_info s under.seq rate join
    → burst ≡ begun_burst first rate info → open_of v.entry ≡ None → newest_sender history ≡ Some sender → IsVisit s before history v queue
    → IsAnswered s before history queue
    (record { client = v.client; entry = Some (record { ssrc = sender; seq = under.seq; idle = under.idle; burst = Some burst }); has_place = v.has_place; budget = budget })
    (note.Accept v.client first rate join) (begins s held v.client rate history (Ok h))
accepts s held sender before history queue v rate first size join h channel budget under info burst ce le ne be fast' room taken je ue ie bu none from w =
    let taken' : budget ≡ record v.budget { reserved = v.budget.reserved + (rate + s.channel.depth) } =
    taken ∙ ap (λ (c : Channel). record v.budget { reserved = v.budget.reserved + (rate + c.depth) }) ce in
    let room' = subst (λ (c : Channel). HasRoom v.budget (rate + c.depth)) ce room in
    let under' : under ≡ entry_under v.entry sender s.channel.seq0 = ue ∙ ap (λ (c : Channel). entry_under v.entry sender c.seq0) ce in
    let visit = accepted s first rate join sender before history v queue budget le from (is_closed s before history v queue w none) taken' w in
    let made : Option Entry → Visitor = λ e. record { client = v.client; entry = e; has_place = v.has_place; budget = budget } in
    let burst' : burst ≡ begun_burst first rate (accept_info s (entry_under v.entry sender s.channel.seq0).seq rate join) =
    bu ∙ ap (begun_burst first rate) (ie ∙ ap (λ (e : Entry). accept_info s e.seq rate join) under') in
    let join' : join ≡ join_from s held h.n rate =
    je ∙ ap (λ (c : Channel). join_ticks size rate c.declared c.depth) ce
    ∙ ap (λ (a : ℕ). join_ticks a rate s.channel.declared s.channel.depth) (sym be ∙ ap (λ (a : ℕ). behind a held) (sym ne)) in
    answered_by s before history queue
    (made (Some (record { ssrc = sender; seq = under.seq; idle = under.idle; burst = Some burst })))
    (note.Accept v.client first rate join) (begins s held v.client rate history (Ok h)) (note.Accept v.client first rate join) refl
    (begins_accepts s held v.client rate history h v.budget fast' w.budget_is room' ∙ ap (λ (a : ℕ). note.Accept v.client a rate (join_from s held h.n rate)) ne
    ∙ ap (note.Accept v.client first rate) (sym join'))
    (subst (λ (e : Entry). IsVisit s before (noted (note.Accept v.client first rate join) None ∷ history) (made (Some (record { ssrc = sender; seq = e.seq; idle = e.idle; burst = Some burst }))) queue)
    (sym under')
    (subst (λ (b : Burst). IsVisit s before (noted (note.Accept v.client first rate join) None ∷ history)
    (made (Some (record {
      ssrc = sender;
      seq = (entry_under v.entry sender s.channel.seq0).seq;
      idle = (entry_under v.entry sender s.channel.seq0).idle;
      burst = Some b;
    }))) queue)
    (sym burst') visit))

-- where a client can't be known
full_of : (s : Settings) (k : ℕ) (history : History) (has_place : Bool) (o : Option Entry) → IsClient s k history o
    → has_place ≡ ltb (length (without k (known history))) s.channel.clients → is_full s k history ≡ (not (is_some o) && not has_place)
full_of s k history has_place None c place =
    let same = without_none k (known history) c.unknown in
    ap (λ (b : Bool). not b && leb s.channel.clients (length (known history))) c.unknown
    ∙ at_most (length (known history)) s.channel.clients
    ∙ ap not (ap (λ (ks : List ℕ). ltb (length ks) s.channel.clients) (sym same) ∙ sym place)
  where
    at_most : (n m : ℕ) → leb m n ≡ not (ltb n m)
    at_most n m = ⊎_elim (λ t. lt-leb m n (ltb-true n m t) ∙ sym (not_from_true (ltb n m) t)) (λ f. le-leb m n (ltb-false n m f) ∙ sym (not_from_false (ltb n m) f)) (cases_Bool (ltb n m))
full_of s k history has_place (Some e) c place = ap (λ (b : Bool). not b && leb s.channel.clients (length (known history))) c.is_known

pub full_is : (s : Settings) (before history : History) (queue : List Wanted) (v : Visitor) → IsVisit s before history v queue
    → is_full s v.client history ≡ (not (is_some v.entry) && not v.has_place)
full_is s before history queue v w = full_of s v.client history v.has_place v.entry w.client_is w.place_is

-- a client without an open burst
pub request_full : (s : Settings) (held : List Held) (k : ℕ) (r : rams.Request) (history : History) → is_full s k history ≡ true
    → on_request s held k r history None ≡ note.Refuse k 503
request_full s held k r history full = cond-true (is_full s k history) _ _ full

pub request_begins : (s : Settings) (held : List Held) (k : ℕ) (r : rams.Request) (history : History) (rate least : ℕ) (o : Result Held ℕ) → is_full s k history ≡ false
    → rate ≡ rate_of r.bps s.tick s.channel.burst → least ≡ unwrap_or r.min_ms 0 → chosen s.channel held least r.max_ms ≡ o
    → on_request s held k r history None ≡ begins s held k rate history o
request_begins s held k r history rate least o free re le choice =
    cond-false (is_full s k history) _ _ free
    ∙ ap (begins s held k (rate_of r.bps s.tick s.channel.burst) history) (ap (λ (n : ℕ). chosen s.channel held n r.max_ms) (sym le) ∙ choice)
    ∙ ap (λ (n : ℕ). begins s held k n history o) (sym re)

-- the choice of an access point, by its answer
pub data IsChoice (held : List Held) (c : Choice) : Result Held ℕ → Type 0 where
  starts : (h : Held) → c ≡ Start h.n (behind h.n held) → IsChoice held c (Ok h)
  none : c ≡ NoStart → IsChoice held c (Err 507)
  young : c ≡ MinUnmet → IsChoice held c (Err 401)
  old : c ≡ MaxUnmet → IsChoice held c (Err 402)

choice_too_old : (held : List Held) (most : Option ℕ) (c : Choice) (o : Option Held) → c ≡ choice_of held (not_too_old held most o) → IsChoice held c (not_too_old held most o)
choice_too_old held most c None e = young e
choice_too_old held most c (Some h) e =
    let P : Result Held ℕ → Type 0 = λ r. c ≡ choice_of held r → IsChoice held c r in
    cond_both (is_at_most (age held h) most) (Ok h) (Err 402) P (λ t q. starts h q) (λ f q. old q) e

choice_among : (held : List Held) (least : ℕ) (most : Option ℕ) (c : Choice) (hs : List Held) → c ≡ choice_of held (chosen_of held least most hs) → IsChoice held c (chosen_of held least most hs)
choice_among held least most c [] e = none e
choice_among held least most c (h ∷ hs) e = choice_too_old held most c (newest (of_age held least (h ∷ hs))) e

pub choice_is : (channel : Channel) (held : List Held) (least : ℕ) (most : Option ℕ) (c : Choice) → c ≡ choice_of held (chosen channel held least most)
    → IsChoice held c (chosen channel held least most)
unfolding chosen
choice_is channel held least most c e = choice_among held least most c (eligible channel held) e

-- another rate
pub changes_slow : (s : Settings) (held : List Held) (k rate : ℕ) (history : History) (b : model.Burst) → rate < s.channel.declared + 1500
    → changes s held k rate history b ≡ note.Refuse k 403
changes_slow s held k rate history b lt = cond-true (is_slow s rate) _ _ (lt-ltb rate (s.channel.declared + 1500) lt)

-- the budget without the rate of before
abbrev less_rate : Amounts → ℕ → Amounts
less_rate a rate = record a { reserved = a.reserved - rate }

less_room : (s : Settings) (history : History) (a : Amounts) (before amount : ℕ) → IsBudget s history a
    → HasRoom (less_rate a before) amount ↔ (reserved s history - before + amount + s.channel.reserve ≤ s.channel.share)
less_room s history a before amount is =
    (λ r. subst (λ (x : Amounts). HasRoom (less_rate x before) amount) is r, λ r. subst (λ (x : Amounts). HasRoom (less_rate x before) amount) (sym is) r)

pub changes_much : (s : Settings) (held : List Held) (k rate : ℕ) (history : History) (b : model.Burst) (budget : Amounts) (o : Open) → s.channel.declared + 1500 ≤ rate
    → IsBudget s history budget → o.burst ≡ burst_kept s b → (HasRoom (less_rate budget o.burst.rate) rate → ⊥) → changes s held k rate history b ≡ note.Refuse k 501
changes_much s held k rate history b budget o le is same no_room =
    let no_room' : HasRoom (less_rate budget b.rate) rate → ⊥ = subst (λ (x : Burst). HasRoom (less_rate budget x.rate) rate → ⊥) same no_room in
    let over : reserved s history - b.rate + rate + s.channel.reserve ≤ s.channel.share → ⊥ = λ r. no_room' ((less_room s history budget b.rate rate is).1 r) in
    cond-false (is_slow s rate) _ _ (fast s rate le)
    ∙ cond-true (is_too_much s (reserved s history - b.rate + rate)) _ _ (lt-ltb s.channel.share (reserved s history - b.rate + rate + s.channel.reserve) (omega (arith, over)))

pub changes_rate : (s : Settings) (held : List Held) (k rate : ℕ) (history : History) (b : model.Burst) (budget : Amounts) (o : Open) → s.channel.declared + 1500 ≤ rate
    → IsBudget s history budget → o.burst ≡ burst_kept s b → HasRoom (less_rate budget o.burst.rate) rate → changes s held k rate history b ≡ note.Update k rate (join_from s held (next b) rate)
changes_rate s held k rate history b budget o le is same room =
    let room' : HasRoom (less_rate budget b.rate) rate = subst (λ (x : Burst). HasRoom (less_rate budget x.rate) rate) same room in
    let fits : reserved s history - b.rate + rate + s.channel.reserve ≤ s.channel.share = (less_room s history budget b.rate rate is).0 room' in
    cond-false (is_slow s rate) _ _ (fast s rate le)
    ∙ cond-false (is_too_much s (reserved s history - b.rate + rate)) _ _ (le-ltb s.channel.share (reserved s history - b.rate + rate + s.channel.reserve) fits)

pub updates : (s : Settings) (held : List Held) (before history : History) (queue : List Wanted) (v : Visitor) (rate size join : ℕ) (b : model.Burst) (o : Open) (channel : Channel)
    (less budget : Amounts) (info : Info) → channel ≡ s.channel → s.channel.declared + 1500 ≤ rate → less ≡ less_rate v.budget o.burst.rate → HasRoom less rate
    → budget ≡ record less { reserved = less.reserved + rate } → size ≡ behind o.burst.next held → join ≡ join_ticks size rate channel.declared channel.depth
    → info ≡ update_info s o.burst.last o.burst.ticks rate join → open_of v.entry ≡ Some o → open_burst s v.client history ≡ Some b → o.burst ≡ burst_kept s b
    → IsVisit s before history v queue
    → IsAnswered s before history queue
    (record { client = v.client; entry = Some (record o.entry { burst = Some (record o.burst { rate = rate; last = info }) }); has_place = v.has_place; budget = budget })
    (note.Update v.client rate join) (changes s held v.client rate history b)
updates s held before history queue v rate size join b o channel less budget info ce fast' le room taken se je ie opened is_open same w =
    let is = is_opened s before history v queue o w opened in
    let room' : HasRoom (less_rate v.budget o.burst.rate) rate = subst (λ (a : Amounts). HasRoom a rate) le room in
    let taken' : budget ≡ record v.budget { reserved = v.budget.reserved - o.burst.rate + rate } = taken ∙ ap (λ (a : Amounts). record a { reserved = a.reserved + rate }) le in
    let join' : join ≡ join_from s held (next b) rate =
    je ∙ ap (λ (c : Channel). join_ticks size rate c.declared c.depth) ce
    ∙ ap (λ (a : ℕ). join_ticks a rate s.channel.declared s.channel.depth) (se ∙ ap (λ (x : Burst). behind x.next held) same) in
    let made : Info → Visitor = λ i. record {
      client = v.client;
      entry = Some (record o.entry { burst = Some (record o.burst { rate = rate; last = i }) });
      has_place = v.has_place;
      budget = budget;
    } in
    answered_by s before history queue (made info) (note.Update v.client rate join) (changes s held v.client rate history b) (note.Update v.client rate join) refl
    (changes_rate s held v.client rate history b v.budget o fast' w.budget_is same room' ∙ ap (note.Update v.client rate) (sym join'))
    (subst (λ (i : Info). IsVisit s before (noted (note.Update v.client rate join) None ∷ history) (made i) queue) (sym ie)
    (updated s rate join before history v queue o budget is taken' w))

-- a client with an open burst
pub again : (s : Settings) (held : List Held) (before history : History) (queue : List Wanted) (v : Visitor) (rate : ℕ) (bps : Option ℕ) (b : model.Burst)
    → on_burst s held v.client rate history b bps ≡ note.Again v.client → IsVisit s before history v queue
    → IsAnswered s before history queue v (note.Again v.client) (on_burst s held v.client rate history b bps)
again s held before history queue v rate bps b e w =
    answered_by s before history queue v (note.Again v.client) (on_burst s held v.client rate history b bps) (note.Again v.client) refl e
    (idle_visit s (note.Again v.client) before history v queue refl tt w)

-- where a burst begins
pub record Starts (held : List Held) (n size : ℕ) (r : Result Held ℕ) : Type 0 where
  pub packet : Held
  pub chosen_is : r ≡ Ok packet
  pub number : packet.n ≡ n
  pub sizes : behind n held ≡ size

pub starts_at : (held : List Held) (c : Choice) (n size : ℕ) (r : Result Held ℕ) → c ≡ Start n size → IsChoice held c r → Starts held n size r
starts_at held c n size r e (starts h is) =
    let same : Start n size ≡ Start h.n (behind h.n held) = sym e ∙ is in
    let number : h.n ≡ n = cc in
    record { packet = h; chosen_is = refl; number = number; sizes = ap (λ (m : ℕ). behind m held) (sym number) ∙ cc }
starts_at held c n size r e (none is) = absurd cc
starts_at held c n size r e (young is) = absurd cc
starts_at held c n size r e (old is) = absurd cc

pub refused_choice : (held : List Held) (c : Choice) (r : Result Held ℕ) → IsChoice held c r → (c ≡ NoStart → r ≡ Err 507) × (c ≡ MinUnmet → r ≡ Err 401) × (c ≡ MaxUnmet → r ≡ Err 402)
refused_choice held c r (starts h is) = (λ e. absurd cc, λ e. absurd cc, λ e. absurd cc)
refused_choice held c r (none is) = (λ e. refl, λ e. absurd cc, λ e. absurd cc)
refused_choice held c r (young is) = (λ e. absurd cc, λ e. refl, λ e. absurd cc)
refused_choice held c r (old is) = (λ e. absurd cc, λ e. absurd cc, λ e. refl)

among_below : (m : ℕ) (hs : List Held) (h : Held) → Follows m hs → IsAmong h hs → h.n < m + length hs
among_below m [] h f a = absurd a
among_below m (k ∷ ks) h f a =
    ⊎_elim (λ (e : k ≡ h). let number : h.n ≡ m = ap (λ (x : Held). x.n) (sym e) ∙ f.0 in omega (arith, number)) (λ r. let below = among_below (m + 1) ks h f.1 r in omega (arith, below)) a

pub start_small : (channel : Channel) (held : List Held) (least : ℕ) (most : Option ℕ) (h : Held) → IsHeldRun held → chosen channel held least most ≡ Ok h → h.n < 2 ^ 63
start_small channel held least most h run e =
    let newest = subst (laws.IsChoice channel held least most) e (newest_chosen channel held least most (rises_weaker (lo held) 0 held (rises_from (lo held) held run.follows) (omega arith))) in
    let below = among_below (lo held) held h run.follows newest.0.among in
    omega (arith, below, run.ends, run.small)
  where
    rises_weaker : (m n : ℕ) (hs : List Held) → Rises m hs → n ≤ m → Rises n hs
    rises_weaker m n [] r le = tt
    rises_weaker m n (k ∷ ks) r le = (omega (arith, r.0, le), r.1)

-- another spelling of the lawful note
pub answers_so : (s : Settings) (before history : History) (queue : List Wanted) (v : Visitor) (given lawful other : Note) → lawful ≡ other → IsAnswered s before history queue v given lawful
    → IsAnswered s before history queue v given other
answers_so s before history queue v given lawful other e a = subst (IsAnswered s before history queue v given) e a

-- a request that is read
pub only_preamble : (s : Settings) (k : ℕ) (history : History) (r : rams.Request) → r.preamble ≡ true → verdict s k history (Ok r) ≡ note.Refuse k 512
unfolding verdict
only_preamble s k history r t = cond-true r.preamble _ _ t

pub foreign_request : (s : Settings) (k : ℕ) (history : History) (r : rams.Request) → r.preamble ≡ false → rams.names r s.channel.ssrc ≡ false
    → verdict s k history (Ok r) ≡ note.Refuse k 509
unfolding verdict
foreign_request s k history r f g =
    cond-false r.preamble _ _ f ∙ cond-true (not (rams.names r s.channel.ssrc)) _ _ (not_from_false (rams.names r s.channel.ssrc) g)

pub asked_request : (s : Settings) (k : ℕ) (history : History) (r : rams.Request) (held : List Held) (o : Option model.Burst) → r.preamble ≡ false
    → rams.names r s.channel.ssrc ≡ true → hold s history ≡ held → open_burst s k history ≡ o → verdict s k history (Ok r) ≡ on_request s held k r history o
unfolding verdict
asked_request s k history r held o f g he oe =
    cond-false r.preamble _ _ f ∙ cond-false (not (rams.names r s.channel.ssrc)) _ _ (not_from_true (rams.names r s.channel.ssrc) g)
    ∙ ap (λ (hs : List Held). on_request s hs k r history (open_burst s k history)) he ∙ ap (on_request s held k r history) oe

pub unread_request : (s : Settings) (k : ℕ) (history : History) (fault : TlvFault) → verdict s k history (Err fault) ≡ note.Refuse k 400
unfolding verdict
unread_request s k history fault = refl

-- a client without an open burst, by the choice
pub begin_full : (s : Settings) (held : List Held) (before history : History) (queue : List Wanted) (v : Visitor) (r : rams.Request) (given : Note)
    → (not (is_some v.entry) && not v.has_place) ≡ true → given ≡ note.Refuse v.client 503 → IsVisit s before history v queue
    → IsAnswered s before history queue v given (on_request s held v.client r history None)
begin_full s held before history queue v r given full e w =
    refused s before history queue v given (on_request s held v.client r history None) 503 e (request_full s held v.client r history (full_is s before history queue v w ∙ full)) w

-- what was asked of the cache
pub record IsAsked (s : Settings) (held : List Held) (r : rams.Request) (rate : ℕ) (c : Choice) : Type 0 where
  pub channel : Channel
  pub tick : ℕ
  pub least : ℕ
  pub channel_is : channel ≡ s.channel
  pub tick_is : tick ≡ s.tick
  pub rate_is : rate ≡ rate_of r.bps tick channel.burst
  pub least_is : least ≡ unwrap_or r.min_ms 0
  pub settings : Settings
  pub settings_are : settings ≡ s
  pub choice_is : c ≡ choice_of held (chosen settings.channel held least r.max_ms)

asked_rate_is : (s : Settings) (held : List Held) (r : rams.Request) (rate : ℕ) (c : Choice) (a : IsAsked s held r rate c) → rate ≡ rate_of r.bps s.tick s.channel.burst
asked_rate_is s held r rate c a =
    a.rate_is ∙ ap (λ (n : ℕ). rate_of r.bps n a.channel.burst) a.tick_is ∙ ap (λ (x : Channel). rate_of r.bps s.tick x.burst) a.channel_is

asked_choice : (s : Settings) (held : List Held) (r : rams.Request) (rate : ℕ) (c : Choice) (a : IsAsked s held r rate c) → IsChoice held c (chosen s.channel held a.least r.max_ms)
asked_choice s held r rate c a =
    choice_is s.channel held a.least r.max_ms c (a.choice_is ∙ ap (λ (x : Settings). choice_of held (chosen x.channel held a.least r.max_ms)) a.settings_are)

pub begin_refused : (s : Settings) (held : List Held) (before history : History) (queue : List Wanted) (v : Visitor) (r : rams.Request) (rate : ℕ) (c : Choice) (given : Note) (code : ℕ)
    (a : IsAsked s held r rate c) → (IsChoice held c (chosen s.channel held a.least r.max_ms) → chosen s.channel held a.least r.max_ms ≡ Err code)
    → (not (is_some v.entry) && not v.has_place) ≡ false → given ≡ note.Refuse v.client code → IsVisit s before history v queue
    → IsAnswered s before history queue v given (on_request s held v.client r history None)
begin_refused s held before history queue v r rate c given code a coded free e w =
    refused s before history queue v given (on_request s held v.client r history None) code e
    (request_begins s held v.client r history rate a.least (Err code) (full_is s before history queue v w ∙ free) (asked_rate_is s held r rate c a) a.least_is
    (coded (asked_choice s held r rate c a))) w

pub begin_start : (s : Settings) (held : List Held) (r : rams.Request) (rate n size : ℕ) (c : Choice) (a : IsAsked s held r rate c) → c ≡ Start n size
    → Starts held n size (chosen s.channel held a.least r.max_ms)
begin_start s held r rate n size c a e = starts_at held c n size (chosen s.channel held a.least r.max_ms) e (asked_choice s held r rate c a)

pub begin_small : (s : Settings) (held : List Held) (r : rams.Request) (rate n size : ℕ) (c : Choice) (a : IsAsked s held r rate c) → IsHeldRun held → c ≡ Start n size → n < 2 ^ 63
begin_small s held r rate n size c a run e =
    let at = begin_start s held r rate n size c a e in
    subst (λ (m : ℕ). m < 2 ^ 63) at.number (start_small s.channel held a.least r.max_ms at.packet run at.chosen_is)

pub begin_accepts : (s : Settings) (held : List Held) (sender : ℕ) (before history : History) (queue : List Wanted) (v w : Visitor) (r : rams.Request) (rate n size : ℕ) (c : Choice) (given : Note)
    (a : IsAsked s held r rate c) → c ≡ Start n size → (not (is_some v.entry) && not v.has_place) ≡ false
    → ((h : Held) → h.n ≡ n → behind n held ≡ size → IsAnswered s before history queue w given (begins s held v.client rate history (Ok h))) → IsVisit s before history v queue
    → IsAnswered s before history queue w given (on_request s held v.client r history None)
begin_accepts s held sender before history queue v w r rate n size c given a e free accept' is =
    let at = begin_start s held r rate n size c a e in
    answers_so s before history queue w given (begins s held v.client rate history (Ok at.packet)) (on_request s held v.client r history None)
    (sym (request_begins s held v.client r history rate a.least (Ok at.packet) (full_is s before history queue v is ∙ free) (asked_rate_is s held r rate c a) a.least_is at.chosen_is))
    (accept' at.packet at.number at.sizes)

-- a client with an open burst, by the bit rate that it names
named_rate : (s : Settings) (rate tick : ℕ) (channel : Channel) (bps : Option ℕ) → tick ≡ s.tick → channel ≡ s.channel → rate ≡ rate_of bps tick channel.burst → rate ≡ rate_for s bps
named_rate s rate tick channel bps te ce re = re ∙ ap (λ (n : ℕ). rate_of bps n channel.burst) te ∙ ap (λ (x : Channel). rate_of bps s.tick x.burst) ce

pub again_unnamed : (s : Settings) (held : List Held) (before history : History) (queue : List Wanted) (v : Visitor) (bps : Option ℕ) (b : model.Burst) → is_some bps ≡ false
    → IsVisit s before history v queue → IsAnswered s before history queue v (note.Again v.client) (on_burst s held v.client (rate_for s bps) history b bps)
again_unnamed s held before history queue v None b e w = again s held before history queue v (rate_for s None) None b refl w
again_unnamed s held before history queue v (Some n) b e w = absurd cc

same_on_burst : (s : Settings) (held : List Held) (k rate : ℕ) (history : History) (b : model.Burst) (bps : Option ℕ) → rate ≡ b.rate
    → on_burst s held k rate history b bps ≡ note.Again k
same_on_burst s held k rate history b None e = refl
same_on_burst s held k rate history b (Some n) e = cond-true (eqb rate b.rate) _ _ (eq-eqb rate b.rate e)

other_on_burst : (s : Settings) (held : List Held) (k rate : ℕ) (history : History) (b : model.Burst) (bps : Option ℕ) → is_some bps ≡ true → (rate ≡ b.rate → ⊥)
    → on_burst s held k rate history b bps ≡ changes s held k rate history b
other_on_burst s held k rate history b None e ne = absurd cc
other_on_burst s held k rate history b (Some n) e ne = cond-false (eqb rate b.rate) _ _ (ne_eqb rate b.rate ne)

pub again_same : (s : Settings) (held : List Held) (before history : History) (queue : List Wanted) (v : Visitor) (rate tick : ℕ) (channel : Channel) (bps : Option ℕ) (b : model.Burst)
    (o : Open) → tick ≡ s.tick → channel ≡ s.channel → rate ≡ rate_of bps tick channel.burst → o.burst ≡ burst_kept s b → rate ≡ o.burst.rate → IsVisit s before history v queue
    → IsAnswered s before history queue v (note.Again v.client) (on_burst s held v.client (rate_for s bps) history b bps)
again_same s held before history queue v rate tick channel bps b o te ce re same e w =
    let rate_is = named_rate s rate tick channel bps te ce re in
    again s held before history queue v (rate_for s bps) bps b
    (same_on_burst s held v.client (rate_for s bps) history b bps (sym rate_is ∙ e ∙ ap (λ (x : Burst). x.rate) same)) w

pub changes_named : (s : Settings) (held : List Held) (before history : History) (queue : List Wanted) (v w : Visitor) (rate tick : ℕ) (channel : Channel) (bps : Option ℕ) (b : model.Burst)
    (o : Open) (given : Note) → tick ≡ s.tick → channel ≡ s.channel → rate ≡ rate_of bps tick channel.burst → is_some bps ≡ true → o.burst ≡ burst_kept s b
    → (rate ≡ o.burst.rate → ⊥) → IsAnswered s before history queue w given (changes s held v.client rate history b)
    → IsAnswered s before history queue w given (on_burst s held v.client (rate_for s bps) history b bps)
changes_named s held before history queue v w rate tick channel bps b o given te ce re named same ne a =
    let rate_is = named_rate s rate tick channel bps te ce re in
    let ne' : rate ≡ b.rate → ⊥ = λ e. ne (e ∙ ap (λ (x : Burst). x.rate) (sym same)) in
    subst (λ (n : ℕ). IsAnswered s before history queue w given (on_burst s held v.client n history b bps)) rate_is
    (answers_so s before history queue w given (changes s held v.client rate history b) (on_burst s held v.client rate history b bps)
    (sym (other_on_burst s held v.client rate history b bps named ne')) a)

-- a request that is read and names this channel's source
pub request_on_burst : (s : Settings) (held : List Held) (before history : History) (queue : List Wanted) (v w : Visitor) (r : rams.Request) (o : Open) (given : Note) → r.preamble ≡ false
    → rams.names r s.channel.ssrc ≡ true → hold s history ≡ held → open_of v.entry ≡ Some o → IsVisit s before history v queue
    → ((b : model.Burst) → open_burst s v.client history ≡ Some b → o.burst ≡ burst_kept s b
    → IsAnswered s before history queue w given (on_burst s held v.client (rate_for s r.bps) history b r.bps))
    → IsAnswered s before history queue w given (verdict s v.client history (Ok r))
request_on_burst s held before history queue v w r o given f g he opened visit answers =
    let is = is_opened s before history v queue o visit opened in
    answers_so s before history queue w given (on_burst s held v.client (rate_for s r.bps) history is.burst r.bps) (verdict s v.client history (Ok r))
    (sym (asked_request s v.client history r held (Some is.burst) f g he is.is_open)) (answers is.burst is.is_open is.burst_is)

pub request_without : (s : Settings) (held : List Held) (before history : History) (queue : List Wanted) (v w : Visitor) (r : rams.Request) (given : Note) → r.preamble ≡ false
    → rams.names r s.channel.ssrc ≡ true → hold s history ≡ held → open_of v.entry ≡ None → IsVisit s before history v queue
    → IsAnswered s before history queue w given (on_request s held v.client r history None) → IsAnswered s before history queue w given (verdict s v.client history (Ok r))
request_without s held before history queue v w r given f g he closed visit a =
    answers_so s before history queue w given (on_request s held v.client r history None) (verdict s v.client history (Ok r))
    (sym (asked_request s v.client history r held None f g he (is_closed s before history v queue visit closed))) a
