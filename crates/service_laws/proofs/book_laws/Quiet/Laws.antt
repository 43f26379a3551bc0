-- A quiet burst is never lost, and has caught up when the time that its client was told is over.
use Rattle.std.proofs.Common.{◌≡◌, ℕ, ◌-◌, ◌≤◌, Bool, true, false, not, ◌&&◌, ◌||◌, List, [], ◌∷◌, ◌++◌, length, drop, Option, Some, None, refl, ap, sym, ◌∙◌, subst, ⊎_elim, arith, eqb, leb}
use Rattle.std.specs.Prelude.{is_some}
use Rattle.std.proofs.lemmas.List.{length-drop}
use Rattle.std.proofs.lemmas.Bool.{cond_both, cond-true, cond-false, cases_Bool, both_ways, true≢false, false_from_ne_true, and_parts, not-true}
use Rattle.rams_model.specs.declared.{Event.Event, FrameFault.FrameFault, Held.Held, Cause.Cause, LiveNote.LiveNote, Note.Note}
use Rattle.rams_model.specs.declared.Event.TheVariants.{Tick}
use Rattle.rams_model.specs.declared.Cause.TheVariants as cause
use Rattle.rams_model.specs.declared.Note.TheVariants as note
use Rattle.rams_model.specs.Service.{Settings, Message, Heard, live, dropped, feedback, unframed, tick, heard_of, Item, began, told, noted, History, arrivals, hold, opened, is_among, Burst, next, kept as kept_of, bursts, open_burst, after_tick, after_hearing, history_of}
use Rattle.rams_model.specs.Packets.{hi, wires, from_number, Arrival, Follows, stream_of}
use Rattle.rams_model.specs.Packets.Source as sources
use Rattle.rams_model.specs.Laws.{source, until_end, moments, JoinsSlowly, IsQuiet, IsQuietBurst, AreAtLeast, told_join, NoneIs, is_accept_of, is_end_of}
use Rattle.rams_model.proofs.Growing.{source_grows}
use Rattle.rams_model.proofs.Since.{stands, opened_stands}
use Rattle.rams_model.proofs.LastAccept.{last_accept, open_stands, opened_open}
use Rattle.service_laws.specs.book_laws.{is_loss_of, ticks_since_told, QuietBurstsAreNeverLost, QuietBurstsKeepTheirJoinTimes}
use Rattle.service_laws.proofs.book_laws.Quiet.Packets.{held_to, no_fewer}
use Rattle.rams_model.proofs.Legal.{is_tick}
use Rattle.rams_model.proofs.Items.{is_of_tick, tick_puts}
use Rattle.rams_model.proofs.Induction.{through, is_at_once, between, arrivals_of_event, arrivals_of_part}
use Rattle.service_laws.proofs.book_laws.Quiet.Sizes.{sized_filter, sized_source, at_least_one, ArriveSmall}
use Rattle.reckoning.specs.burst_plan.{gain}
use Rattle.service_laws.proofs.book_laws.Quiet.Near.{Nears, nears_none}
use Rattle.service_laws.proofs.book_laws.Quiet.States.{Sound, Good, open_is, open_parts}
use Rattle.service_laws.proofs.book_laws.Quiet.Kept.{good_tick, good_live, front_follows, front_sizes, drop_sized, same_head}
use Rattle.service_laws.proofs.book_laws.Quiet.Notes.{Stays, good_other, good_message}
use Rattle.service_laws.proofs.book_laws.HeldPackets.{all_small}

-- The beginning of any other event than a live packet or a tick.
good_dropped : (s : Settings) (k : ℕ) (why : LiveNote) (history : History) → Good s k history → Good s k (began (dropped why) ∷ history)
unfolding bursts moments told_join ticks_since_told arrivals
good_dropped s k why history good = record { keeps = good.keeps; sound = good.sound }

good_unframed : (s : Settings) (k client : ℕ) (fault : FrameFault) (history : History) → Good s k history → Good s k (began (unframed client fault) ∷ history)
unfolding bursts moments told_join ticks_since_told arrivals
good_unframed s k client fault history good = record { keeps = good.keeps; sound = good.sound }

good_framed : (s : Settings) (k client : ℕ) (ms : List Message) (history : History) → Good s k history → Good s k (began (feedback client ms) ∷ history)
unfolding bursts moments told_join ticks_since_told arrivals
good_framed s k client ms history good = record { keeps = good.keeps; sound = good.sound }

good_begun : (s : Settings) (k : ℕ) (heard : Heard) (history : History) → is_tick heard ≡ false → Good s k history → Good s k (began heard ∷ history)
good_begun s k (live a) history other good = good_live s k a history good
good_begun s k (dropped why) history other good = good_dropped s k why history good
good_begun s k (feedback client ms) history other good = good_framed s k client ms history good
good_begun s k (unframed client fault) history other good = good_unframed s k client fault history good
good_begun s k tick history other good = absurd (true≢false other)

good_once : (s : Settings) (k : ℕ) (n : Note) (history : History) → is_at_once n ≡ true → Good s k history → Good s k (noted n None ∷ history)
good_once s k (note.Live n) history is good = good_other s k (note.Live n) None history refl good
good_once s k (note.BadFeedback client fault) history is good = good_other s k (note.BadFeedback client fault) None history refl good
good_once s k n history is good = absurd (true≢false (sym is))

-- what came of an event is small
small_event : (s : Settings) (event : Event) (events : List Event) → ArriveSmall (arrivals (began (heard_of s.channel event) ∷ history_of s events))
unfolding history_of
small_event s event events = subst ArriveSmall (arrivals_of_event s (heard_of s.channel event) (history_of s events)) (all_small s (event ∷ events))

-- Each event keeps it so.
stays_history : (s : Settings) (k : ℕ) (events : List Event) → Stays s k (history_of s events)
unfolding bursts arrivals
stays_history s k events =
    between s (Stays s k)
    (λ event before n other is p. let heard = heard_of s.channel event in
    (good_once s k n (began heard ∷ history_of s before) is (good_begun s k heard (history_of s before) other p.0), small_event s event before))
    (λ client ms history p. (good_framed s k client ms history p.0, p.1)) (λ client m history l p. good_message s k client m history l p)
    (λ before l p. let start = began tick ∷ history_of s before in
    (good_tick s k (history_of s before) p.1 l p.0, subst ArriveSmall (sym (arrivals_of_part is_of_tick start (after_tick s start) (tick_puts s start))) p.1))
    (record { keeps = λ b others m ms is_newest is_open marks quiet. absurd cc; sound = tt }, tt) events

good_history : (s : Settings) (k : ℕ) (events : List Event) → Good s k (history_of s events)
good_history s k events = (stays_history s k events).0

-- What a tick leaves as it was.
record Kept (k : ℕ) (base history : History) : Type 0 where
  same_moments : moments k history ≡ moments k base
  same_arrivals : arrivals history ≡ arrivals base

kept_note : (k : ℕ) (base : History) (note : Note) (packet : Option Held) (history : History) → is_of_tick note ≡ true → Kept k base history → Kept k base (noted note packet ∷ history)
unfolding moments arrivals
kept_note k base (note.Accept client first rate join) packet history is a = absurd (true≢false (sym is))
kept_note k base note packet history is a = record { same_moments = a.same_moments; same_arrivals = a.same_arrivals }

kept_tick : (s : Settings) (k : ℕ) (before : History) → Kept k (began tick ∷ before) (after_tick s (began tick ∷ before))
kept_tick s k before =
    let start = began tick ∷ before in
    through is_of_tick (Kept k start) (λ note packet h is p. kept_note k start note packet h is p) start (after_tick s start) (tick_puts s start)
    (record { same_moments = refl; same_arrivals = refl })

-- Right after a tick, a quiet burst that is open and whose time is over has caught up.
caught_up : (s : Settings) (k : ℕ) (before : History) (b : Burst) → let history = after_tick s (began tick ∷ before) in ArriveSmall (arrivals before) → Good s k history
    → open_burst s k history ≡ Some b → IsQuiet s k b.first history → told_join k history ≤ ticks_since_told k history → next b ≡ hi (hold s history)
unfolding moments arrivals
caught_up s k before b small good is_open quiet over =
    let history = after_tick s (began tick ∷ before) in
    let kept = kept_tick s k before in
    let p = open_parts s k history b is_open in
    let same : source s history ≡ source s before = ap (λ (arrived : List Arrival). sources.source s.channel.window (stream_of s.channel.window arrived)) kept.same_arrivals in
    let sum = ap wires same in
    let near = good.keeps b p.others before (moments k before) p.is_newest p.is_open kept.same_moments
    (record { follows = quiet.follows; sizes = quiet.sizes; joins = omega (arith, sum); before = subst (JoinsSlowly s) kept.same_moments quiet.joins }) in
    let packets = from_number b.first (source s before) in
    let packets_now : from_number b.first (source s history) ≡ packets = ap (λ (l : List Held). from_number b.first l) same in
    let steps : told_join k history - ticks_since_told k history ≡ 0 = omega (arith, over) in
    let none = nears_none (gain b.rate s.channel.declared s.channel.depth) (wires (drop (length b.sent) packets)) (kept_of s b)
    (subst (λ (n : ℕ). Nears (gain b.rate s.channel.declared s.channel.depth) n (wires (drop (length b.sent) packets)) (kept_of s b)) steps near.nears) in
    let sized = drop_sized (length b.sent) packets (sized_filter (λ h. leb b.first h.n) (source s before) (sized_source s.channel.window (arrivals before) small)) in
    let count = no_fewer (drop (length b.sent) packets) (at_least_one (drop (length b.sent) packets) sized) in
    let size = length-drop (length b.sent) packets in
    let same_size = ap (λ (l : List Held). length l) packets_now in
    let end = held_to s history b.first quiet.follows (omega (arith, same_size, near.some)) near.has_ring in
    omega (arith, end, same_size, near.reaches, count, size, none)

-- the newest burst is that of the last Accept
first_is : (s : Settings) (k first rate join : ℕ) (packet : Option Held) (since before : History) → NoneIs (is_accept_of k) since
    → (b : Burst) (others : List Burst) → bursts s k (since ++ noted (note.Accept k first rate join) packet ∷ before) ≡ b ∷ others → b.first ≡ first
first_is s k first rate join packet since before last b others e =
    let i = last_accept s k first rate join packet since before last in
    let head = same_head b i.burst others i.others (sym e ∙ i.is_newest) in
    ap (λ (x : Burst). x.first) head ∙ i.is_first

quiet_open : (s : Settings) (k first : ℕ) (history : History) → is_among k (opened history) ≡ true → IsQuietBurst s k first history → IsQuiet s k first history
quiet_open s k first history t quiet = subst (IsQuiet s k first) (cond-true (is_among k (opened history)) history (until_end k history) t) quiet

quiet_ended : (s : Settings) (k first : ℕ) (history : History) → is_among k (opened history) ≡ false → IsQuietBurst s k first history → IsQuiet s k first (until_end k history)
quiet_ended s k first history f quiet = subst (IsQuiet s k first) (cond-false (is_among k (opened history)) history (until_end k history) f) quiet

pub keeps_join_times : QuietBurstsKeepTheirJoinTimes
unfolding history_of heard_of after_hearing
keeps_join_times s events k accept b is_open quiet over =
    let history = history_of s (Tick ∷ events) in
    let p = open_parts s k history b is_open in
    let same = first_is s k accept.first accept.rate accept.join accept.packet accept.since accept.before accept.last b p.others (sym (ap (bursts s k) accept.splits) ∙ p.is_newest) in
    let among : is_among k (opened history) ≡ true = opened_open s k history ∙ ap (λ (x : Option Burst). is_some x) is_open in
    caught_up s k (history_of s events) b (all_small s events) (good_history s k (Tick ∷ events)) is_open
    (subst (λ (n : ℕ). IsQuiet s k n history) (sym same) (quiet_open s k accept.first history among quiet)) over

-- A burst that is quiet after an item that neither begins nor ends it was quiet before.
joins_before : (s : Settings) (later : History) (ms : List History) → JoinsSlowly s (later ∷ ms) → JoinsSlowly s ms
joins_before s later [] j = tt
joins_before s later (m ∷ ms) j = j.1

quiet_before : (s : Settings) (k first : ℕ) (i : Item) (history : History) → is_accept_of k i ≡ false → IsQuiet s k first (i ∷ history) → IsQuiet s k first history
unfolding moments arrivals
quiet_before s k first (began (live a)) history e q =
    let grows = source_grows s.channel.window a (arrivals history) in
    record {
      follows = front_follows first (source s history) grows.0 (subst (λ (l : List Held). Follows first (from_number first l)) grows.1 q.follows);
      sizes = front_sizes s.channel.minwire first (source s history) grows.0 (subst (λ (l : List Held). AreAtLeast s.channel.minwire (from_number first l)) grows.1 q.sizes);
      joins = q.joins;
    }
quiet_before s k first (began tick) history e q = record { follows = q.follows; sizes = q.sizes; joins = joins_before s history (moments k history) q.joins }
quiet_before s k first (began heard) history e q = record { follows = q.follows; sizes = q.sizes; joins = q.joins }
quiet_before s k first (told client message) history e q = record { follows = q.follows; sizes = q.sizes; joins = q.joins }
quiet_before s k first (noted (note.Accept client f rate join) packet) history e q =
    record { follows = q.follows; sizes = q.sizes; joins = subst (JoinsSlowly s) (cond-false (eqb client k) (history ∷ []) (moments k history) e) q.joins }
quiet_before s k first (noted note packet) history e q = record { follows = q.follows; sizes = q.sizes; joins = q.joins }

until_before : (k : ℕ) (i : Item) (history : History) → is_end_of k i ≡ false → until_end k (i ∷ history) ≡ until_end k history
unfolding until_end
until_before k (noted (note.End client why) packet) history e = cond-false (eqb client k) history (until_end k history) e
until_before k i history e = refl

-- an item that neither begins nor ends a burst
abbrev IsAside : ℕ → Item → Type 0
IsAside k i = (is_accept_of k i ≡ false) × (is_end_of k i ≡ false)

opened_before : (k : ℕ) (i : Item) (history : History) → IsAside k i → is_among k (opened (i ∷ history)) ≡ is_among k (opened history)
unfolding stands
opened_before k i history aside =
    opened_stands k (i ∷ history)
    ∙ (ap (λ (b : Bool). b || (not (is_end_of k i) && stands (is_accept_of k) (is_end_of k) history)) aside.0
    ∙ (ap (λ (b : Bool). not b && stands (is_accept_of k) (is_end_of k) history) aside.1 ∙ sym (opened_stands k history)))

quiet_burst_before : (s : Settings) (k first : ℕ) (i : Item) (history : History) → IsAside k i → IsQuietBurst s k first (i ∷ history) → IsQuietBurst s k first history
quiet_burst_before s k first i history aside quiet =
    let same = opened_before k i history aside in
    cond_both (is_among k (opened history)) history (until_end k history) (IsQuiet s k first)
    (λ t. quiet_before s k first i history aside.0 (quiet_open s k first (i ∷ history) (same ∙ t) quiet))
    (λ f. subst (IsQuiet s k first) (until_before k i history aside.1) (quiet_ended s k first (i ∷ history) (same ∙ f) quiet))

-- While a burst is open no End of it stands.
abbrev after_accept : ℕ → ℕ → ℕ → ℕ → Option Held → History → History → History
after_accept k first rate join packet since before = since ++ noted (note.Accept k first rate join) packet ∷ before

loss_is_end : (k : ℕ) (i : Item) → is_loss_of k i ≡ true → is_end_of k i ≡ true
loss_is_end k (noted (note.End client cause.Lost) packet) t = t
loss_is_end k (noted (note.End client why) packet) t = cc
loss_is_end k i t = absurd (true≢false (sym t))

is_loss_end : (k : ℕ) (i : Item) → is_end_of k i ≡ false → is_loss_of k i ≡ false
is_loss_end k i e = false_from_ne_true (is_loss_of k i) (λ t. both_ways (is_end_of k i) e (loss_is_end k i t))

open_has_none : (k first rate join : ℕ) (packet : Option Held) (since before : History) → NoneIs (is_accept_of k) since
    → stands (is_accept_of k) (is_end_of k) (after_accept k first rate join packet since before) ≡ true → NoneIs (is_loss_of k) since
unfolding stands
open_has_none k first rate join packet [] before last e = tt
open_has_none k first rate join packet (i ∷ since) before last e =
    let rest = after_accept k first rate join packet since before in
    let tests = and_parts (not (is_end_of k i)) (stands (is_accept_of k) (is_end_of k) rest)
    (ap (λ (b : Bool). b || (not (is_end_of k i) && stands (is_accept_of k) (is_end_of k) rest)) (sym last.0) ∙ e) in
    (is_loss_end k i (not-true (is_end_of k i) tests.0), open_has_none k first rate join packet since before last.1 tests.1)

-- After an End the burst was quiet until then.
ended_quiet : (s : Settings) (k first client : ℕ) (why : Cause) (packet : Option Held) (history : History) → eqb client k ≡ true
    → IsQuietBurst s k first (noted (note.End client why) packet ∷ history) → IsQuiet s k first history
unfolding stands until_end
ended_quiet s k first client why packet history t quiet =
    let later = noted (note.End client why) packet ∷ history in
    let none : is_among k (opened later) ≡ false =
    opened_stands k later ∙ ap (λ (b : Bool). not b && stands (is_accept_of k) (is_end_of k) history) t in
    subst (IsQuiet s k first) (cond-true (eqb client k) history (until_end k history) t) (quiet_ended s k first later none quiet)

no_loss : (k client : ℕ) (why : Cause) (packet : Option Held) → (why ≡ cause.Lost → ⊥) → is_loss_of k (noted (note.End client why) packet) ≡ false
no_loss k client cause.Lost packet other = absurd (other refl)
no_loss k client why packet other = refl

-- No End of a quiet burst is a loss.
none_lost : (s : Settings) (k first rate join : ℕ) (packet : Option Held) (since before : History) → NoneIs (is_accept_of k) since
    → Sound s k (after_accept k first rate join packet since before) → IsQuietBurst s k first (after_accept k first rate join packet since before) → NoneIs (is_loss_of k) since
none_lost s k first rate join packet [] before last sound quiet = tt
none_lost s k first rate join packet (noted (note.End client why) p ∷ since) before last sound quiet =
    let history = after_accept k first rate join packet since before in
    ⊎_elim
    (λ t.
    let ends = sound.0 t in
    let same = first_is s k first rate join packet since before last.1 ends.burst ends.others ends.is_newest in
    let quiet_then = subst (λ (n : ℕ). IsQuiet s k n history) (sym same) (ended_quiet s k first client why p history t quiet) in
    let open_then : stands (is_accept_of k) (is_end_of k) history ≡ true =
    sym (open_stands s k history) ∙ ap (λ (x : Option Burst). is_some x) (open_is (bursts s k history) ends.burst ends.others ends.is_newest ends.is_open) in
    (no_loss k client why p (λ lost. ends.quiet lost quiet_then), open_has_none k first rate join packet since before last.1 open_then))
    (λ f. (
      is_loss_end k (noted (note.End client why) p) f,
      none_lost s k first rate join packet since before last.1 sound.1 (quiet_burst_before s k first (noted (note.End client why) p) history (refl, f) quiet),
    ))
    (cases_Bool (eqb client k))
none_lost s k first rate join packet (i ∷ since) before last sound quiet =
    (refl, none_lost s k first rate join packet since before last.1 sound (quiet_burst_before s k first i (after_accept k first rate join packet since before) (last.0, refl) quiet))

sound_part : (s : Settings) (k : ℕ) (later history : History) → Sound s k (later ++ history) → Sound s k history
sound_part s k [] history sound = sound
sound_part s k (noted (note.End client why) packet ∷ later) history sound = sound_part s k later history sound.1
sound_part s k (i ∷ later) history sound = sound_part s k later history sound

pub never_lost : QuietBurstsAreNeverLost
never_lost s history k moment accept quiet =
    let sound = sound_part s k moment.later history (subst (Sound s k) moment.splits (good_history s k moment.events).sound) in
    none_lost s k accept.first accept.rate accept.join accept.packet accept.since accept.before accept.last (subst (Sound s k) accept.splits sound)
    (subst (IsQuietBurst s k accept.first) accept.splits quiet)
