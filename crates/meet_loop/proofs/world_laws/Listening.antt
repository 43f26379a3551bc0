-- A world stays right as something is delivered to a receiver, and as receivers come, ask and leave.
use Rattle.std.proofs.Common.{◌≡◌, ℕ, zero, suc, ◌+◌, Bool, true, false, not, inl, List, [], ◌∷◌, ◌++◌, length, map, Option, Some, None, option_map, option_and_then, refl, ap, ◌∙◌, arith, eqb, leb}
use Rattle.std.specs.Prelude.{All, Contains, ◌&&◌, option_to_list}
use Rattle.std.proofs.lemmas.Bool.{cond_both, and_parts, not-false, leb-true, eqb-true}
use Rattle.std.proofs.lemmas.List.Elements.{All-nil, All-cons, All-head, All-tail, All-push, All-contains}
use Rattle.rams_model.specs.Receiver.{Playing, presented, Told, told_answer, Media, media_answer, join_answer, join_datagram, request_datagram, bye_datagram, Turn, hears, delivers, presents, Reception, reception, shown, source_first, shown_now}
use Rattle.service_laws.specs.receiver_laws.{IsMedia, presented_often}
use Rattle.service_laws.specs.receiver_laws.Fair.{IsWithin, IsFair, AreFair}
use Rattle.service_laws.proofs.receiver_laws.Ending.{ends}
use Rattle.rams_model.proofs.Legality.{found}
use Rattle.server_hub.specs.Served.{Served}
use Rattle.meet_loop.specs.declared.world_laws.world.WorldItem.TheVariants as item
use Rattle.meet_loop.specs.declared.world_laws.world.WorldNote.{WorldNote}
use Rattle.meet_loop.specs.world_laws.{Listener, Step, note, refused, is_listener, listens, listener_of, first_replaced, source_of, AreMedia, HasFields, IsInfo, AreInfos, next_number, is_too_far, waiting, presenting, turns_to_present, presented_all, posted, after_turns, hearing, delivering, delivering_near, new_listener, with_listener, if_listening, post_all, leave}
use Rattle.meet_loop.specs.world_laws.World.{World}
use Rattle.meet_loop.proofs.world_laws.Right.{IsWell, IsRightSent, IsRightListener, IsRight}
use Rattle.meet_loop.proofs.world_laws.Serving.{more_sent}

-- ---- near enough

near_enough : (o : Option ℕ) (count x : ℕ) → is_too_far (option_map (λ f. f + count) o) x ≡ false → IsWithin o count x
near_enough None count x e = tt
near_enough (Some f) count x e =
    let both = not-false (leb (f + count) (x + 32768) && leb x (f + count + 32767)) e in
    let parts = and_parts (leb (f + count) (x + 32768)) (leb x (f + count + 32767)) both in
    (leb-true (f + count) (x + 32768) parts.0, leb-true x (f + count + 32767) parts.1)

-- ---- presenting

still_fair : (k : ℕ) (turns : List Turn) (P : List Turn → Type 0) → ((ts : List Turn) → P ts → P (presents ∷ ts)) → P turns → P (presenting k turns)
unfolding presenting
still_fair zero turns P more p = p
still_fair (suc k) turns P more p = still_fair k (presents ∷ turns) P more (more turns p)

pub as_often : (k : ℕ) (turns : List Turn) → reception (presenting k turns) ≡ presented_often k (reception turns)
unfolding presenting presented_often reception
as_often zero turns = refl
as_often (suc k) turns = as_often k (presents ∷ turns)

none_more : (r : Reception) (o : Option Playing) → r.play ≡ o → shown_now (presented_often (waiting o) r) ≡ None
unfolding presented_often
none_more r None e = ap (option_and_then presented) e
none_more r (Some p) e = ends (length p.waits) r p e (inl (omega arith))

settles : (turns : List Turn) → shown_now (reception (presenting (turns_to_present turns) turns)) ≡ None
settles turns = ap shown_now (as_often (turns_to_present turns) turns) ∙ none_more (reception turns) (reception turns).play refl

-- ---- one receiver in place of another

replaced_all : {A : Type 0} (P : A → Type 0) (test : A → Bool) (new : A) (xs : List A) → P new → All P xs → All P (first_replaced test new xs)
unfolding first_replaced
replaced_all P test new [] p a = a
replaced_all P test new (x ∷ xs) p a =
    cond_both (test x) (new ∷ xs) (x ∷ first_replaced test new xs) (All P) (λ t. All-cons P new xs p (All-tail P x xs a))
    (λ f. All-cons P x (first_replaced test new xs) (All-head P x xs a) (replaced_all P test new xs p (All-tail P x xs a)))

replaced_right : (w : World) (test : Listener → Bool) (l : Listener) → IsRight w → IsRightListener w.channels l → IsRight (record w { listeners = first_replaced test l w.listeners })
replaced_right w test l i r =
    record { channels = i.channels; datagrams = i.datagrams; listeners = replaced_all (IsRightListener w.channels) test l w.listeners r i.listeners }

-- what a receiver posts brings no packet
posts_right : (cs : List Served) (l : Listener) (bytes : List (List ℕ)) → All (IsRightSent cs) (map (posted l) bytes)
posts_right cs l [] = All-nil (IsRightSent cs)
posts_right cs l (b ∷ bytes) = All-cons (IsRightSent cs) (posted l b) (map (posted l) bytes) tt (posts_right cs l bytes)

pub posting_right : (w : World) (l : Listener) (bytes : List (List ℕ)) → IsRight w → IsRight (post_all bytes l w).world
posting_right w l bytes i = more_sent w (map (posted l) bytes) i (posts_right w.channels l bytes)

-- ---- a delivery

with_turns : (cs : List Served) (l : Listener) (turns : List Turn) (r : IsRightListener cs l) → AreFair (source_of r.channel) turns → AreMedia turns
    → (HasFields r.channel.settings → AreInfos turns) → IsRightListener cs (presented_all turns l)
with_turns cs l turns r fair media infos =
    let k = turns_to_present turns in
    record {
      channel = r.channel;
      found = r.found;
      tuned = r.tuned;
      fair = still_fair k turns (AreFair (source_of r.channel)) (λ ts p. p) fair;
      media = still_fair k turns AreMedia (λ ts p. p) media;
      infos = λ fields. still_fair k turns AreInfos (λ ts p. p) (infos fields);
      settled = settles turns;
    }

turns_right : (w : World) (said : WorldNote) (turns : List Turn) (sent : List (List ℕ)) (l : Listener) → IsRight w → (r : IsRightListener w.channels l)
    → AreFair (source_of r.channel) turns → AreMedia turns → (HasFields r.channel.settings → AreInfos turns) → IsRight (after_turns said turns sent l w).world
turns_right w said turns sent l i r fair media infos =
    let now = replaced_right w (listens l.id l.tuned.client) (presented_all turns l) i (with_turns w.channels l turns r fair media infos) in
    more_sent (record w { listeners = first_replaced (listens l.id l.tuned.client) (presented_all turns l) w.listeners }) (map (posted l) sent) now (posts_right w.channels l sent)

pub hearing_right : (w : World) (told : Told) (l : Listener) → IsRight w → (r : IsRightListener w.channels l) → (HasFields r.channel.settings → IsInfo told) → IsRight (hearing told l w).world
hearing_right w told l i r is =
    turns_right w (note l.id (item.Info l.tuned.client (told_answer told (reception l.turns)))) (hears told ∷ l.turns) [] l i r r.fair r.media (λ fields. (is fields, r.infos fields))

pub delivering_right : (w : World) (x : ℕ) (media : Media) (l : Listener) → IsRight w → (r : IsRightListener w.channels l) → IsMedia media
    → (IsWithin (source_first l.turns) (length (shown l.turns)) x → IsFair (source_of r.channel) l.turns x media) → IsRight (delivering_near x media l w).world
delivering_right w x media l i r is fair =
    cond_both (is_too_far (next_number l.turns) x) (refused w l.id (item.TooFar l.tuned.client)) (delivering x media l w) (λ (s : Step). IsRight s.world) (λ t. i)
    (λ f. turns_right w (note l.id (item.Media l.tuned.client (media_answer media (reception l.turns)))) (delivers x media ∷ l.turns)
    (option_to_list (option_map (join_datagram l.tuned) (join_answer media (reception l.turns)))) l i r
    (fair (near_enough (source_first l.turns) (length (shown l.turns)) x f), r.fair) (is, r.media) r.infos)

-- ---- receivers come, and leave

pub tuned_right : (w : World) (c : Served) (client ssrc : ℕ) → Contains w.channels c → IsRight w → IsRight (with_listener (new_listener c client ssrc) w).world
unfolding reception
tuned_right w c client ssrc has i =
    let l = new_listener c client ssrc in
    let well = All-contains (IsWell w.channels) w.channels c i.channels has in
    let new : IsRightListener w.channels l = record {
      channel = c;
      found = well.found;
      tuned = record { media = refl; pt = refl; rtx = refl };
      fair = tt;
      media = tt;
      infos = λ fields. tt;
      settled = refl;
    } in
    let now : IsRight (record w { listeners = w.listeners ++ l ∷ [] }) =
    record { channels = i.channels; datagrams = i.datagrams; listeners = All-push (IsRightListener w.channels) w.listeners l i.listeners new } in
    posting_right (record w { listeners = w.listeners ++ l ∷ [] }) l (request_datagram l.tuned ∷ []) now

pub leaving_right : (w : World) (l : Listener) → IsRight w → IsRightListener w.channels l → IsRight (leave l w).world
leaving_right w l i r =
    let gone : IsRightListener w.channels (record l { left = true }) =
    record { channel = r.channel; found = r.found; tuned = r.tuned; fair = r.fair; media = r.media; infos = r.infos; settled = r.settled } in
    let now = replaced_right w (listens l.id l.tuned.client) (record l { left = true }) i gone in
    posting_right (record w { listeners = first_replaced (listens l.id l.tuned.client) (record l { left = true }) w.listeners }) l (bye_datagram l.tuned ∷ []) now

-- ---- where there is a receiver

-- it is the one that is meant, and right
pub record IsMeant (w : World) (id : ℕ) (l : Listener) : Type 0 where
  pub id_is : l.id ≡ id
  pub right : IsRightListener w.channels l

meant : (w : World) (id client : ℕ) (l : Listener) → IsRight w → listener_of id client w ≡ Some l → IsMeant w id l
meant w id client l i e =
    let at = found (listens id client) w.listeners l e in
    let its = and_parts (is_listener id client l) (not l.left) at.1 in
    record {
      id_is = eqb-true l.id id (and_parts (eqb l.id id) (eqb l.tuned.client client) its.0).0;
      right = All-contains (IsRightListener w.channels) w.listeners l i.listeners at.0;
    }

listening_at : (w : World) (id client : ℕ) (o : Option Listener) (f : Listener → Step) → listener_of id client w ≡ o → IsRight w
    → ((l : Listener) → IsMeant w id l → IsRight (f l).world) → IsRight (if_listening id client o w f).world
listening_at w id client None f e i g = i
listening_at w id client (Some l) f e i g = g l (meant w id client l i e)

pub listening_right : (w : World) (id client : ℕ) (f : Listener → Step) → IsRight w → ((l : Listener) → IsMeant w id l → IsRight (f l).world)
    → IsRight (if_listening id client (listener_of id client w) w f).world
listening_right w id client f i g = listening_at w id client (listener_of id client w) f refl i g
