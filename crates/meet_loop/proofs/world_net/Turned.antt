-- A receiver's turns, as a seat has them.
use Rattle.std.proofs.Common.{◌≡◌, ℕ, zero, suc, ◌-◌, Bool, true, false, cond, List, [], ◌∷◌, ◌++◌, map, Option, None, Some, option_map, Result, Ok, Err, refl, sym, ap, ◌∙◌, subst, append_assoc}
use Rattle.std.specs.Prelude.{OnOk}
use Rattle.std.specs.Option.{option_or, option_to_list}
use Rattle.rams_model.specs.declared.{RtpFault.RtpFault, InfoCame.InfoCame, MediaCame.MediaCame, Tuned.Tuned}
use Rattle.rams_model.specs.declared.MediaCame.TheVariants as came
use Rattle.rams_model.specs.Formats.{Packet, packet_at, stripped}
use Rattle.rams_model.specs.Receiver.{Piece, Reception, Media, again, multicast, unfit, Turn, hears, delivers, presents, reception, source_first, first_by, shown_now, after_told, after_media, told_by, told_answer, brought_again, brought_by_multicast, read_multicast, is_of, media_answer, join_answer, join_datagram}
use Rattle.receiver_core.specs.{with_got, distance_of}
use Rattle.receiver_core.specs.States.{Seen}
use Rattle.meet_loop.specs.world_laws.World.{Datagram, Listener, note}
use Rattle.meet_loop.specs.world_laws.{presenting, pieces_in, turns_to_present}
use Rattle.meet_loop.specs.declared.{world_laws.world.WorldItem.WorldItem, world_laws.world.WorldNote.WorldNote, world_net.seat.Seat.Seat}
use Rattle.meet_loop.specs.declared.world_laws.world.WorldItem.TheVariants as item
use Rattle.meet_loop.proofs.world_laws.Listening.{as_often}
use Rattle.meet_loop.specs.world_net.{shown_in, all_shown, all_presented, FollowsBy, Follows, Hears, IsAt, Took, first_with, show_at, post_at, posted_at}

-- presenting changes no first number, and presents what the receiver has
same_first : (k : ℕ) (turns : List Turn) → source_first (presenting k turns) ≡ source_first turns
unfolding presenting source_first
same_first zero turns = refl
same_first (suc k) turns = same_first k (presents ∷ turns)

same_pieces : (k : ℕ) (turns : List Turn) → pieces_in k turns ≡ shown_in k (reception turns)
unfolding pieces_in shown_in reception
same_pieces zero turns = refl
same_pieces (suc k) turns = ap (λ (l : List Piece). option_to_list (shown_now (reception turns)) ++ l) (same_pieces k (presents ∷ turns))

-- what was said and posted is what the listener says and posts
took : (said : WorldItem) (turns : List Turn) (sent : List (List ℕ)) (l : Listener) (old notes new : List WorldNote) (before now : List Datagram) (id client : ℕ) (r after : Seen) (f : Option ℕ)
    → IsAt id client l → r.tuned ≡ l.tuned → r.got ≡ reception turns → f ≡ source_first turns → l.left ≡ false
    → notes ≡ old ++ note id said ∷ map (post_at id client) sent → now ≡ before ++ map (posted_at id client) sent
    → new ≡ notes ++ map (show_at id client) (all_shown r.got) → after ≡ with_got (all_presented r.got) r
    → Took said turns sent l old new before now (record { receiver = Some after; first = f })
took said turns sent l old notes new before now id client r after f at tuned got first stays said_so posted_so shown_so after_so =
    let pieces = pieces_in (turns_to_present turns) turns in
    let all : ℕ → ℕ → List WorldNote = λ i k. old ++ (note i said ∷ (map (post_at i k) sent ++ map (show_at i k) pieces)) in
    let shown : all_shown r.got ≡ pieces = ap all_shown got ∙ sym (same_pieces (turns_to_present turns) turns) in
    let here : new ≡ all id client =
    shown_so ∙ ap (λ (n : List WorldNote). n ++ map (show_at id client) (all_shown r.got)) said_so
    ∙ append_assoc old (note id said ∷ map (post_at id client) sent) (map (show_at id client) (all_shown r.got))
    ∙ ap (λ (qs : List Piece). old ++ (note id said ∷ (map (post_at id client) sent ++ map (show_at id client) qs))) shown in
    let left : all_presented r.got ≡ reception (presenting (turns_to_present turns) turns) = ap all_presented got ∙ sym (as_often (turns_to_present turns) turns) in
    record {
      notes = here ∙ ap (λ (i : ℕ). all i client) (sym at.0) ∙ ap (λ (k : ℕ). all l.id k) (sym at.1);
      parcels = posted_so ∙ ap (λ (i : ℕ). before ++ map (posted_at i client) sent) (sym at.0) ∙ ap (λ (k : ℕ). before ++ map (posted_at l.id k) sent) (sym at.1);
      seat = record {
        tuned = ap (λ (v : Seen). v.tuned) after_so ∙ tuned;
        got = ap (λ (v : Seen). v.got) after_so ∙ left;
        first = first ∙ sym (same_first (turns_to_present turns) turns);
        stays = stays;
      };
    }

-- the receiver of a seat
hearing : (s : Seat) (r : Seen) (l : Listener) → Follows s l → s.receiver ≡ Some r → Hears r s.first l
hearing s r l f is = subst (λ (o : Option Seen). FollowsBy o s.first l) is f

pub info_took : (id client : ℕ) (bytes : List ℕ) (s : Seat) (r r1 r2 : Seen) (came : InfoCame) (old notes new : List WorldNote) (l : Listener) → Follows s l → IsAt id client l → s.receiver ≡ Some r
    → came ≡ told_answer (told_by r.tuned bytes) r.got → r1 ≡ with_got (after_told (told_by r.tuned bytes) r.got) r
    → notes ≡ old ++ note id (item.Info client came) ∷ [] → new ≡ notes ++ map (show_at id client) (all_shown r1.got) → r2 ≡ with_got (all_presented r1.got) r1
    → Took (item.Info l.tuned.client (told_answer (told_by l.tuned bytes) (reception l.turns))) (hears (told_by l.tuned bytes) ∷ l.turns) [] l old new [] [] (record { receiver = Some r2; first = s.first })
unfolding reception source_first
info_took id client bytes s r r1 r2 what old notes new l f at is came_so after said_so shown_so all =
    let h = hearing s r l f is in
    let answer : what ≡ told_answer (told_by l.tuned bytes) (reception l.turns) =
    came_so ∙ ap (λ (t : Tuned). told_answer (told_by t bytes) r.got) h.tuned ∙ ap (told_answer (told_by l.tuned bytes)) h.got in
    took (item.Info l.tuned.client (told_answer (told_by l.tuned bytes) (reception l.turns))) (hears (told_by l.tuned bytes) ∷ l.turns) [] l old notes new [] [] id client r1 r2 s.first at
    (ap (λ (v : Seen). v.tuned) after ∙ h.tuned)
    (ap (λ (v : Seen). v.got) after ∙ ap (λ (t : Tuned). after_told (told_by t bytes) r.got) h.tuned ∙ ap (after_told (told_by l.tuned bytes)) h.got)
    h.first h.stays (said_so ∙ ap (λ (c : InfoCame). old ++ note id (item.Info client c) ∷ []) answer
    ∙ ap (λ (n : ℕ). old ++ note id (item.Info n (told_answer (told_by l.tuned bytes) (reception l.turns))) ∷ []) (sym at.1)) refl shown_so all

-- the first number that a delivery fixes
first_is : (x : ℕ) (media : Media) (r : Reception) → first_by x media r ≡ option_map (λ d. x - d) (distance_of media r)
first_is x (again sequence low packet) r = refl
first_is x (multicast low packet) r = refl
first_is x (unfit why) r = refl

pub again_took : (id client x : ℕ) (bytes : List ℕ) (s : Seat) (r r1 r2 : Seen) (distance f : Option ℕ) (came : MediaCame) (old notes new : List WorldNote) (l : Listener) → Follows s l → IsAt id client l → s.receiver ≡ Some r
    → distance ≡ distance_of (brought_again r.tuned bytes) r.got → f ≡ first_with s.first x distance
    → came ≡ media_answer (brought_again r.tuned bytes) r.got → r1 ≡ with_got (after_media (brought_again r.tuned bytes) r.got) r
    → notes ≡ old ++ note id (item.Media client came) ∷ [] → new ≡ notes ++ map (show_at id client) (all_shown r1.got) → r2 ≡ with_got (all_presented r1.got) r1
    → Took (item.Media l.tuned.client (media_answer (brought_again l.tuned bytes) (reception l.turns))) (delivers x (brought_again l.tuned bytes) ∷ l.turns) [] l old new [] [] (record { receiver = Some r2; first = f })
unfolding reception source_first
again_took id client x bytes s r r1 r2 distance f what old notes new l follows at is far first came_so after said_so shown_so all =
    let h = hearing s r l follows is in
    let media = brought_again l.tuned bytes in
    let answer : what ≡ media_answer media (reception l.turns) =
    came_so ∙ ap (λ (t : Tuned). media_answer (brought_again t bytes) r.got) h.tuned ∙ ap (media_answer media) h.got in
    let distance_so : distance ≡ distance_of media (reception l.turns) = far ∙ ap (λ (t : Tuned). distance_of (brought_again t bytes) r.got) h.tuned ∙ ap (distance_of media) h.got in
    let first_so : f ≡ option_or (source_first l.turns) (first_by x media (reception l.turns)) =
    first ∙ ap (λ (o : Option ℕ). option_or o (option_map (λ d. x - d) distance)) h.first
    ∙ ap (λ (o : Option ℕ). option_or (source_first l.turns) (option_map (λ d. x - d) o)) distance_so
    ∙ ap (option_or (source_first l.turns)) (sym (first_is x media (reception l.turns))) in
    took (item.Media l.tuned.client (media_answer media (reception l.turns))) (delivers x media ∷ l.turns) [] l old notes new [] [] id client r1 r2 f at
    (ap (λ (v : Seen). v.tuned) after ∙ h.tuned)
    (ap (λ (v : Seen). v.got) after ∙ ap (λ (t : Tuned). after_media (brought_again t bytes) r.got) h.tuned ∙ ap (after_media media) h.got)
    first_so h.stays (said_so ∙ ap (λ (c : MediaCame). old ++ note id (item.Media client c) ∷ []) answer ∙ ap (λ (n : ℕ). old ++ note id (item.Media n (media_answer media (reception l.turns))) ∷ []) (sym at.1)) refl shown_so all

-- a multicast packet fixes no first number
fixes_none : (x : ℕ) (t : Tuned) (o : Result Packet RtpFault) (r : Reception) → first_by x (read_multicast t o) r ≡ None
fixes_none x t (Err fault) r = refl
fixes_none x t (Ok p) r = by (is_of t t.pt p)
  where
    by : (b : Bool) → first_by x (cond b (multicast p.sequence (stripped p)) (unfit came.Foreign)) r ≡ None
    by true = refl
    by false = refl

or_none : {A : Type 0} (o : Option A) → option_or o None ≡ o
or_none None = refl
or_none (Some x) = refl

pub multicast_took : (id client x : ℕ) (bytes : List ℕ) (s : Seat) (r r1 r2 : Seen) (came : MediaCame) (joined : Option (List ℕ)) (old notes more new : List WorldNote) (before now : List Datagram) (l : Listener)
    → Follows s l → IsAt id client l → s.receiver ≡ Some r
    → came ≡ media_answer (brought_by_multicast r.tuned bytes) r.got → joined ≡ option_map (join_datagram r.tuned) (join_answer (brought_by_multicast r.tuned bytes) r.got)
    → r1 ≡ with_got (after_media (brought_by_multicast r.tuned bytes) r.got) r
    → notes ≡ old ++ note id (item.Media client came) ∷ [] → more ≡ notes ++ map (post_at id client) (option_to_list joined) → now ≡ before ++ map (posted_at id client) (option_to_list joined)
    → new ≡ more ++ map (show_at id client) (all_shown r1.got) → r2 ≡ with_got (all_presented r1.got) r1
    → Took (item.Media l.tuned.client (media_answer (brought_by_multicast l.tuned bytes) (reception l.turns))) (delivers x (brought_by_multicast l.tuned bytes) ∷ l.turns)
    (option_to_list (option_map (join_datagram l.tuned) (join_answer (brought_by_multicast l.tuned bytes) (reception l.turns)))) l old new before now (record { receiver = Some r2; first = s.first })
unfolding reception source_first
multicast_took id client x bytes s r r1 r2 what joined old notes more new before now l follows at is came_so joined_so after said_so posts_so posted_so shown_so all =
    let h = hearing s r l follows is in
    let media = brought_by_multicast l.tuned bytes in
    let answer : what ≡ media_answer media (reception l.turns) =
    came_so ∙ ap (λ (t : Tuned). media_answer (brought_by_multicast t bytes) r.got) h.tuned ∙ ap (media_answer media) h.got in
    let join : joined ≡ option_map (join_datagram l.tuned) (join_answer media (reception l.turns)) =
    joined_so ∙ ap (λ (t : Tuned). option_map (join_datagram t) (join_answer (brought_by_multicast t bytes) r.got)) h.tuned
    ∙ ap (λ (g : Reception). option_map (join_datagram l.tuned) (join_answer media g)) h.got in
    let first_so : s.first ≡ option_or (source_first l.turns) (first_by x media (reception l.turns)) =
    h.first ∙ sym (ap (option_or (source_first l.turns)) (fixes_none x l.tuned (packet_at bytes) (reception l.turns)) ∙ or_none (source_first l.turns)) in
    took (item.Media l.tuned.client (media_answer media (reception l.turns))) (delivers x media ∷ l.turns) (option_to_list (option_map (join_datagram l.tuned) (join_answer media (reception l.turns)))) l old more new before now
    id client r1 r2 s.first at
    (ap (λ (v : Seen). v.tuned) after ∙ h.tuned)
    (ap (λ (v : Seen). v.got) after ∙ ap (λ (t : Tuned). after_media (brought_by_multicast t bytes) r.got) h.tuned ∙ ap (after_media media) h.got)
    first_so h.stays
    (posts_so ∙ ap (λ (n : List WorldNote). n ++ map (post_at id client) (option_to_list joined)) said_so
    ∙ append_assoc old (note id (item.Media client what) ∷ []) (map (post_at id client) (option_to_list joined))
    ∙ ap (λ (c : MediaCame). old ++ note id (item.Media client c) ∷ map (post_at id client) (option_to_list joined)) answer
    ∙ ap (λ (o : Option (List ℕ)). old ++ note id (item.Media client (media_answer media (reception l.turns))) ∷ map (post_at id client) (option_to_list o)) join
    ∙ ap (λ (n : ℕ). old ++ note id (item.Media n (media_answer media (reception l.turns))) ∷ map (post_at id client) (option_to_list (option_map (join_datagram l.tuned) (join_answer media (reception l.turns))))) (sym at.1))
    (posted_so ∙ ap (λ (o : Option (List ℕ)). before ++ map (posted_at id client) (option_to_list o)) join) shown_so all

-- of what holds where a call goes well
pub ok_both : {X E A B C : Type 0} (r : Result X E) → OnOk r A → OnOk r B → (A → B → C) → OnOk r C
ok_both (Ok x) a b f = f a b
ok_both (Err e) a b f = tt
