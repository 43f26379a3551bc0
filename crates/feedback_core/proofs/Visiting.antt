-- What a note of a datagram makes of what is kept of its client.
use Rattle.std.proofs.Common.{◌≡◌, ℕ, ◌+◌, ◌%◌, ◌≤◌, Bool, false, cond, ◌||◌, List, ◌∷◌, Option, Some, None, refl, ap, sym, ◌∙◌, subst, arith, eqb, ltb}
use Rattle.std.specs.Prelude.{length, min, option_map, is_some}
use Rattle.std.proofs.lemmas.Bool.{cond_both, cond-true, eq-eqb}
use Rattle.rams_model.specs.declared.Note.{Note}
use Rattle.rams_model.specs.declared.Note.TheVariants as note
use Rattle.rams_model.specs.Service.{Settings, Message, told, noted, History, arrivals, known, opened, sendings, ssrc, newest_sender, sequence, accept_info, bursts, begun, newest_open, open_burst, Wanted, pending, is_busy, quiet_ticks, idle, reserved, channel_left}
use Rattle.rams_model.specs.Service.Bursts as model
use Rattle.reckoning.specs.link_budget.Amounts.{Amounts}
use Rattle.client_table.specs.declared.{Burst.Burst, Entry.Entry}
use Rattle.channel_parts.specs.{IsEntry, IsBudget, burst_kept, is_of_reserved}
use Rattle.channel_parts.proofs.Knowing.{made_known}
use Rattle.feedback_core.specs.declared.{visitor.Open.Open, visitor.Visitor.Visitor}
use Rattle.feedback_core.specs.{open_in, open_of, entry_under, begun_burst, IsAsBefore, IsKnown, IsClient, IsVisit}
use Rattle.feedback_core.proofs.Others.{IsOf, others_noted, rest_noted, left_noted, quiet_noted}
use Rattle.channel_parts.proofs.Facts.{accepts_reserve, other_notes_reserve_nothing}

-- a client of which all is as before
idle_same : (a b c d : Bool) (q r : ℕ) → a ≡ c → b ≡ d → q ≡ r → cond (a || b) 0 q ≡ cond (c || d) 0 r
idle_same a b c d q r e f g = cc

busy_same : (a b c d : Bool) → a ≡ c → b ≡ d → (a || b) ≡ (c || d)
busy_same a b c d e f = cc

pub entry_as_before : (s : Settings) (k : ℕ) (before history : History) (e : Entry) → IsAsBefore s k before history → IsEntry s k before e → IsEntry s k history e
entry_as_before s k before history e same was = record {
  ssrc_is = same.ssrc_is ∙ was.ssrc_is;
  seq_is = was.seq_is ∙ ap (λ (n : ℕ). (s.channel.seq0 + n) % 65536) (sym same.sendings_is);
  idle_is = λ free.
      let opens = ap (λ (bs : List model.Burst). is_some (newest_open bs)) (sym same.bursts_is) in
      was.idle_is (busy_same _ _ _ _ opens (sym same.waits_is) ∙ free) ∙ idle_same _ _ _ _ _ _ opens (sym same.waits_is) (sym same.quiet_is);
  burst_is = was.burst_is ∙ ap (λ (bs : List model.Burst). option_map (burst_kept s) (newest_open bs)) (sym same.bursts_is);
}

pub client_as_before : (s : Settings) (k : ℕ) (before history : History) (o : Option Entry) → IsAsBefore s k before history → IsClient s k before o → IsClient s k history o
client_as_before s k before history None same was = record {
  unknown = same.known_is ∙ was.unknown;
  unnamed = same.ssrc_is ∙ was.unnamed;
  unsent = same.sendings_is ∙ was.unsent;
  closed = ap newest_open same.bursts_is ∙ was.closed;
  unasked = same.waits_is ∙ was.unasked;
}
client_as_before s k before history (Some e) same was = record {
  is_known = same.known_is ∙ was.is_known;
  entry_is = entry_as_before s k before history e same was.entry_is;
  awake = was.awake;
}

pub as_itself : (s : Settings) (j : ℕ) (history : History) → IsAsBefore s j history history
as_itself s j history = record { known_is = refl; ssrc_is = refl; sendings_is = refl; bursts_is = refl; quiet_is = refl; waits_is = refl }

-- a message that is answered from here on
pub told_as_before : (s : Settings) (j k : ℕ) (m : Message) (before history : History) → IsAsBefore s j before history → IsAsBefore s j before (told k m ∷ history)
unfolding known ssrc sendings bursts quiet_ticks pending
told_as_before s j k m before history was = record {
  known_is = was.known_is;
  ssrc_is = was.ssrc_is;
  sendings_is = was.sendings_is;
  bursts_is = was.bursts_is;
  quiet_is = was.quiet_is;
  waits_is = was.waits_is;
}

pub told_visit : (s : Settings) (m : Message) (before history : History) (v : Visitor) (queue : List Wanted) → IsVisit s before history v queue
    → IsVisit s before (told v.client m ∷ history) v queue
unfolding arrivals known quiet_ticks pending opened bursts channel_left
told_visit s m before history v queue w = record {
  arrivals_are = w.arrivals_are;
  others = λ j ne. told_as_before s j v.client m before history (w.others j ne);
  rest = w.rest;
  client_is = client_as_before s v.client history (told v.client m ∷ history) v.entry (told_as_before s v.client v.client m history history (as_itself s v.client history)) w.client_is;
  quiet = w.quiet;
  place_is = w.place_is;
  budget_is = w.budget_is;
  queue_is = w.queue_is;
}

-- any note of the client
pub noted_visit : (s : Settings) (n : Note) (before history : History) (v : Visitor) (queue : List Wanted) (o : Option Entry) (budget : Amounts) (later : List Wanted)
    → IsOf v.client n → IsVisit s before history v queue → IsClient s v.client (noted n None ∷ history) o → IsBudget s (noted n None ∷ history) budget
    → later ≡ pending (noted n None ∷ history) → IsVisit s before (noted n None ∷ history) (record v { entry = o; budget = budget }) later
unfolding arrivals
noted_visit s n before history v queue o budget later of w client amounts_are waits = record {
  arrivals_are = w.arrivals_are;
  others = λ j ne. others_noted s j n v.client None before history ne of (w.others j ne);
  rest = rest_noted n v.client None history of ∙ w.rest;
  client_is = client;
  quiet = quiet_noted s n v.client None history w.quiet;
  place_is = w.place_is ∙ ap (λ (ks : List ℕ). ltb (length ks) s.channel.clients) (sym (rest_noted n v.client None history of));
  budget_is = amounts_are;
  queue_is = waits;
}

-- Most notes change nothing.
abbrev pub IsIdle : Note → Type 0
IsIdle (note.Again client) = Unit {0}
IsIdle (note.Refuse client code) = Unit {0}
IsIdle (note.StopKept client n) = Unit {0}
IsIdle (note.StopIdle client) = Unit {0}
IsIdle (note.Already client n) = Unit {0}
IsIdle (note.Unheld client low) = Unit {0}
IsIdle (note.Early client n) = Unit {0}
IsIdle (note.TableFull client n) = Unit {0}
IsIdle (note.ClientFull client n) = Unit {0}
IsIdle (note.QueueFull client n) = Unit {0}
IsIdle (note.ForeignNack client) = Unit {0}
IsIdle (note.ByeIdle client) = Unit {0}
IsIdle _ = ⊥

idle_as_before : (s : Settings) (k : ℕ) (n : Note) (history : History) → IsIdle n → IsAsBefore s k history (noted n None ∷ history)
unfolding known ssrc sendings bursts quiet_ticks pending
idle_as_before s k (note.Again client) history i = record { known_is = refl; ssrc_is = refl; sendings_is = refl; bursts_is = refl; quiet_is = refl; waits_is = refl }
idle_as_before s k (note.Refuse client code) history i = record { known_is = refl; ssrc_is = refl; sendings_is = refl; bursts_is = refl; quiet_is = refl; waits_is = refl }
idle_as_before s k (note.StopKept client n) history i = record { known_is = refl; ssrc_is = refl; sendings_is = refl; bursts_is = refl; quiet_is = refl; waits_is = refl }
idle_as_before s k (note.StopIdle client) history i = record { known_is = refl; ssrc_is = refl; sendings_is = refl; bursts_is = refl; quiet_is = refl; waits_is = refl }
idle_as_before s k (note.Already client n) history i = record { known_is = refl; ssrc_is = refl; sendings_is = refl; bursts_is = refl; quiet_is = refl; waits_is = refl }
idle_as_before s k (note.Unheld client low) history i = record { known_is = refl; ssrc_is = refl; sendings_is = refl; bursts_is = refl; quiet_is = refl; waits_is = refl }
idle_as_before s k (note.Early client n) history i = record { known_is = refl; ssrc_is = refl; sendings_is = refl; bursts_is = refl; quiet_is = refl; waits_is = refl }
idle_as_before s k (note.TableFull client n) history i = record { known_is = refl; ssrc_is = refl; sendings_is = refl; bursts_is = refl; quiet_is = refl; waits_is = refl }
idle_as_before s k (note.ClientFull client n) history i = record { known_is = refl; ssrc_is = refl; sendings_is = refl; bursts_is = refl; quiet_is = refl; waits_is = refl }
idle_as_before s k (note.QueueFull client n) history i = record { known_is = refl; ssrc_is = refl; sendings_is = refl; bursts_is = refl; quiet_is = refl; waits_is = refl }
idle_as_before s k (note.ForeignNack client) history i = record { known_is = refl; ssrc_is = refl; sendings_is = refl; bursts_is = refl; quiet_is = refl; waits_is = refl }
idle_as_before s k (note.ByeIdle client) history i = record { known_is = refl; ssrc_is = refl; sendings_is = refl; bursts_is = refl; quiet_is = refl; waits_is = refl }
idle_as_before s k n history i = absurd i

idle_waits : (n : Note) (history : History) → IsIdle n → pending (noted n None ∷ history) ≡ pending history
unfolding pending
idle_waits (note.Queued client n) history i = absurd i
idle_waits (note.Repair client n number) history i = absurd i
idle_waits (note.Gone client n) history i = absurd i
idle_waits (note.Bye client) history i = absurd i
idle_waits n history i = refl

idle_reserves : (n : Note) → IsIdle n → is_of_reserved n ≡ false
idle_reserves (note.Accept client first rate join) i = absurd i
idle_reserves (note.Update client rate join) i = absurd i
idle_reserves (note.End client cause) i = absurd i
idle_reserves n i = refl

pub budget_same : (s : Settings) (before history : History) (budget : Amounts) → reserved s history ≡ reserved s before → channel_left s history ≡ channel_left s before
    → IsBudget s before budget → IsBudget s history budget
budget_same s before history budget r l was = cc

pub idle_visit : (s : Settings) (n : Note) (before history : History) (v : Visitor) (queue : List Wanted) → IsOf v.client n → IsIdle n → IsVisit s before history v queue
    → IsVisit s before (noted n None ∷ history) v queue
idle_visit s n before history v queue of i w =
    noted_visit s n before history v queue v.entry v.budget queue of w
    (client_as_before s v.client history (noted n None ∷ history) v.entry (idle_as_before s v.client n history i) w.client_is)
    (budget_same s history (noted n None ∷ history) v.budget (other_notes_reserve_nothing s n None history (idle_reserves n i)) (left_noted s n v.client None history of) w.budget_is)
    (w.queue_is ∙ sym (idle_waits n history i))

-- the open burst of a visitor, and that of the history
pub record IsOpen (s : Settings) (history : History) (v : Visitor) (o : Open) : Type 0 where
  pub entry_is : v.entry ≡ Some o.entry
  pub burst : model.Burst
  pub is_open : open_burst s v.client history ≡ Some burst
  pub burst_is : o.burst ≡ burst_kept s burst
  pub known : IsKnown s v.client history o.entry

opened_in : (s : Settings) (history : History) (v : Visitor) (o : Open) (e : Entry) → v.entry ≡ Some e → IsKnown s v.client history e → (b : Option Burst) → e.burst ≡ b
    → open_in e b ≡ Some o → (m : Option model.Burst) → open_burst s v.client history ≡ m → IsOpen s history v o
opened_in s history v o e ve k None be q m me = absurd cc
opened_in s history v o e ve k (Some b) be q None me =
    let mapped : option_map (burst_kept s) (open_burst s v.client history) ≡ None = ap (option_map (burst_kept s)) me in absurd cc
opened_in s history v o e ve k (Some b) be q (Some m) me =
    let mapped : option_map (burst_kept s) (open_burst s v.client history) ≡ Some (burst_kept s m) = ap (option_map (burst_kept s)) me in
    let same : e ≡ o.entry = cc in
    record {
      entry_is = cc;
      burst = m;
      is_open = me;
      burst_is = cc;
      known = subst (IsKnown s v.client history) same k;
    }

opened_of : (s : Settings) (history : History) (v : Visitor) (o : Open) (x : Option Entry) → v.entry ≡ x → IsClient s v.client history x → open_of x ≡ Some o → IsOpen s history v o
opened_of s history v o None ve c q = absurd cc
opened_of s history v o (Some e) ve c q = opened_in s history v o e ve c e.burst refl q (open_burst s v.client history) refl

pub is_opened : (s : Settings) (before history : History) (v : Visitor) (queue : List Wanted) (o : Open) → IsVisit s before history v queue → open_of v.entry ≡ Some o → IsOpen s history v o
is_opened s before history v queue o w q = opened_of s history v o v.entry refl w.client_is q

-- where a visitor has none
closed_in : (s : Settings) (k : ℕ) (history : History) (e : Entry) → IsKnown s k history e → (b : Option Burst) → e.burst ≡ b → open_in e b ≡ None
    → (m : Option model.Burst) → open_burst s k history ≡ m → m ≡ None
closed_in s k history e known b be q None me = refl
closed_in s k history e known None be q (Some m) me =
    let mapped : option_map (burst_kept s) (open_burst s k history) ≡ Some (burst_kept s m) = ap (option_map (burst_kept s)) me in
    let was : e.burst ≡ option_map (burst_kept s) (open_burst s k history) = known.entry_is.burst_is in absurd cc
closed_in s k history e known (Some b) be q (Some m) me = absurd cc

closed_of : (s : Settings) (k : ℕ) (history : History) (x : Option Entry) → IsClient s k history x → open_of x ≡ None → open_burst s k history ≡ None
closed_of s k history None c q = c.closed
closed_of s k history (Some e) c q = closed_in s k history e c e.burst refl q (open_burst s k history) refl

pub is_closed : (s : Settings) (before history : History) (v : Visitor) (queue : List Wanted) → IsVisit s before history v queue → open_of v.entry ≡ None
    → open_burst s v.client history ≡ None
is_closed s before history v queue w q = closed_of s v.client history v.entry w.client_is q

-- a client with a message in this datagram isn't idle
pub idle_none : (s : Settings) (k : ℕ) (history : History) → quiet_ticks s k history ≡ 0 → idle s k history ≡ 0
idle_none s k history q = cond_both (is_busy s k history) 0 (quiet_ticks s k history) (λ a. a ≡ 0) (λ t. refl) (λ f. q)

-- the retransmission numbers of a client that isn't known begin anew
low_bits : (n : ℕ) → n ≤ 65535 → n ≡ (n + 0) % 65536
low_bits n le = omega arith

pub seq_of : (s : Settings) (k : ℕ) (history : History) (o : Option Entry) (ssrc' : ℕ) → s.channel.seq0 ≤ 65535 → IsClient s k history o
    → (entry_under o ssrc' s.channel.seq0).seq ≡ sequence s k history
seq_of s k history None ssrc' le c = low_bits s.channel.seq0 le ∙ ap (λ (n : ℕ). (s.channel.seq0 + n) % 65536) (sym c.unsent)
seq_of s k history (Some e) ssrc' le c = c.entry_is.seq_is

pub idle_of : (s : Settings) (k : ℕ) (history : History) (o : Option Entry) (ssrc' : ℕ) → IsClient s k history o → (entry_under o ssrc' s.channel.seq0).idle ≡ 0
idle_of s k history None ssrc' c = refl
idle_of s k history (Some e) ssrc' c = c.awake

-- an Accept
pub open_accepted : (s : Settings) (k first rate join : ℕ) (history : History)
    → open_burst s k (noted (note.Accept k first rate join) None ∷ history) ≡ Some (begun s first rate join (sequence s k history))
unfolding bursts
open_accepted s k first rate join history =
    ap newest_open (cond-true (eqb k k) (begun s first rate join (sequence s k history) ∷ bursts s k history) (bursts s k history) (eq-eqb k k refl))

begun_kept : (s : Settings) (first rate join number : ℕ) → Some (begun_burst first rate (accept_info s number rate join)) ≡ option_map (burst_kept s) (Some (begun s first rate join number))
begun_kept s first rate join number =
    let n : first ≡ first + 0 = omega arith in
    let m : 0 ≡ min s.channel.depth 0 = omega arith in
    ap (λ (x : Burst). Some x) cc

accepted_client : (s : Settings) (k first rate join sender : ℕ) (history : History) (o : Option Entry) → s.channel.seq0 ≤ 65535 → quiet_ticks s k history ≡ 0
    → IsClient s k history o → newest_sender history ≡ Some sender
    → IsKnown s k (noted (note.Accept k first rate join) None ∷ history) (record (entry_under o sender s.channel.seq0) {
      ssrc = sender;
      burst = Some (begun_burst first rate (accept_info s (entry_under o sender s.channel.seq0).seq rate join));
    })
unfolding ssrc sendings quiet_ticks
accepted_client s k first rate join sender history o le q c from =
    let seq = seq_of s k history o sender le c in
    let now = noted (note.Accept k first rate join) None ∷ history in
    let is_open = open_accepted s k first rate join history in
    record {
      is_known = made_known k (noted (note.Accept k first rate join) None) history (eq-eqb k k refl);
      entry_is = record {
        ssrc_is = cond-true (eqb k k) (newest_sender history) (ssrc k history) (eq-eqb k k refl) ∙ from;
        seq_is = seq;
        idle_is = λ free. idle_of s k history o sender c ∙ sym (idle_none s k now q);
        burst_is = ap (λ (n : ℕ). Some (begun_burst first rate (accept_info s n rate join))) seq ∙ begun_kept s first rate join (sequence s k history)
            ∙ ap (option_map (burst_kept s)) (sym is_open);
      };
      awake = idle_of s k history o sender c;
    }

pub budget_changed : (s : Settings) (before history : History) (budget : Amounts) (r : ℕ) → r ≡ reserved s history → channel_left s history ≡ channel_left s before → IsBudget s before budget
    → IsBudget s history (record budget { reserved = r })
budget_changed s before history budget r rr l was = cc

pub accepted : (s : Settings) (first rate join sender : ℕ) (before history : History) (v : Visitor) (queue : List Wanted) (budget : Amounts) → s.channel.seq0 ≤ 65535
    → newest_sender history ≡ Some sender → open_burst s v.client history ≡ None → budget ≡ record v.budget { reserved = v.budget.reserved + (rate + s.channel.depth) }
    → IsVisit s before history v queue
    → IsVisit s before (noted (note.Accept v.client first rate join) None ∷ history) (record v {
      entry = Some (record (entry_under v.entry sender s.channel.seq0) {
        ssrc = sender;
        burst = Some (begun_burst first rate (accept_info s (entry_under v.entry sender s.channel.seq0).seq rate join));
      });
      budget = budget;
    }) queue
unfolding pending
accepted s first rate join sender before history v queue budget le from none taken w =
    let n = note.Accept v.client first rate join in
    let r : v.budget.reserved ≡ reserved s history = ap (λ (a : Amounts). a.reserved) w.budget_is in
    let more : v.budget.reserved + (rate + s.channel.depth) ≡ reserved s (noted n None ∷ history) =
    ap (λ (a : ℕ). a + (rate + s.channel.depth)) r ∙ sym (accepts_reserve s v.client first rate join None history none) in
    let is_budget : IsBudget s (noted n None ∷ history) budget =
    taken ∙ budget_changed s history (noted n None ∷ history) v.budget (v.budget.reserved + (rate + s.channel.depth)) more (left_noted s n v.client None history refl) w.budget_is in
    noted_visit s n before history v queue (Some (record (entry_under v.entry sender s.channel.seq0) {
      ssrc = sender;
      burst = Some (begun_burst first rate (accept_info s (entry_under v.entry sender s.channel.seq0).seq rate join));
    })) budget queue refl w (accepted_client s v.client first rate join sender history v.entry le w.quiet w.client_is from) is_budget w.queue_is
