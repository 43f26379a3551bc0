-- After any turns with fair deliveries, a receiver has the source's packets.
use Rattle.std.proofs.Common.{◌≡◌, ℕ, ◌+◌, ◌-◌, ◌%◌, ◌<◌, ◌≤◌, List, [], ◌∷◌, ◌++◌, length, Option, Some, None, IfSome, option_map, option_to_list, option_and_then, append-nil, refl, sym, ◌∙◌, subst, arith, ltb}
use Rattle.std.specs.Option.{option_or}
use Rattle.std.proofs.lemmas.Bool.{cond_both, ltb-true}
use Rattle.rams_model.specs.declared.{Held.Held, Info.Info, InfoCame.InfoCame}
use Rattle.rams_model.specs.declared.InfoCame.TheVariants as info
use Rattle.rams_model.specs.Packets.{ahead}
use Rattle.rams_model.specs.Receiver.{Piece, Playing, room, playing_from, presented, after_presenting, Told, informs, unread, Media, again, multicast, unfit, Reception, info_came, with_info, within_room, distance_from, or_begun, arrived, arrived_by_multicast, after_told, after_media, after_shown, Turn, hears, delivers, presents, reception, shown, source_first}
use Rattle.service_laws.specs.receiver_laws.Fair.{IsOf, IsWithin, IsFair, AreFair}
use Rattle.service_laws.proofs.receiver_laws.Arriving.{Plays, arrives, arrives_by_multicast, begins, shows}

-- what was got and presented is the source's, once the first number is fixed
abbrev pub Stands : List Held → Option ℕ → Option Playing → List Piece → Type 0
Stands source None None pieces = pieces ≡ []
Stands source (Some f) (Some p) pieces = Plays source f p pieces
Stands source _ _ pieces = ⊥

-- what is told changes nothing that is played
info_keeps : (c : InfoCame) (i : Info) (r : Reception) → (with_info c i r).play ≡ r.play
info_keeps info.Taken i r = refl
info_keeps info.Repeated i r = refl
info_keeps info.Updated i r = refl
info_keeps (info.Ended code) i r = refl
info_keeps (info.Refused code) i r = refl
info_keeps info.Foreign i r = refl
info_keeps info.Bad i r = refl

pub told_keeps : (told : Told) (r : Reception) → (after_told told r).play ≡ r.play
unfolding after_told
told_keeps (informs i) r = info_keeps (info_came r i) i r
told_keeps (unread why) r = refl

-- a first number is less than the room below
room_below : (d : ℕ) → IfSome (within_room d) (λ e. e < room)
room_below d = cond_both (ltb d room) (Some d) None (λ (o : Option ℕ). IfSome o (λ e. e < room)) (λ t. ltb-true d room t) (λ t. tt)

pub is_small : (named : Option ℕ) (sequence : ℕ) → IfSome (distance_from named sequence) (λ d. d < room)
is_small None sequence = tt
is_small (Some n) sequence = room_below (ahead sequence n)

-- a retransmission comes
again_stands : (source : List Held) (o : Option ℕ) (play : Option Playing) (d : Option ℕ) (pieces : List Piece) (x low : ℕ) (packet : List ℕ) → Stands source o play pieces
    → low ≡ x % 65536 → room ≤ x → IsOf source x packet → IsWithin o (length pieces) x → IfSome d (λ e. e < room)
    → Stands source (option_or o (option_map (λ e. x - e) d)) (option_map (arrived low packet) (or_begun play (option_map (λ e. 65536 + ahead low e) d))) pieces
again_stands source None None None pieces x low packet h bits high is near small = h
again_stands source None None (Some d) pieces x low packet h bits high is near small =
    let first : Plays source (x - d) (arrived low packet (playing_from (65536 + ahead low d))) [] =
    arrives source (x - d) (playing_from (65536 + ahead low d)) [] x low packet (begins source x low d bits high small) bits is (omega (arith, high, small), omega (arith, high, small)) in
    subst (λ (qs : List Piece). Plays source (x - d) (arrived low packet (playing_from (65536 + ahead low d))) qs) (sym h) first
again_stands source None (Some p) d pieces x low packet h bits high is near small = absurd h
again_stands source (Some f) None d pieces x low packet h bits high is near small = absurd h
again_stands source (Some f) (Some p) d pieces x low packet h bits high is near small = arrives source f p pieces x low packet h bits is near

-- a packet of the multicast comes
multicast_stands : (source : List Held) (o : Option ℕ) (play : Option Playing) (pieces : List Piece) (x low : ℕ) (packet : List ℕ) → Stands source o play pieces
    → low ≡ x % 65536 → IsOf source x packet → IsWithin o (length pieces) x → Stands source (option_or o None) (option_map (arrived_by_multicast low packet) play) pieces
multicast_stands source None None pieces x low packet h bits is near = h
multicast_stands source None (Some p) pieces x low packet h bits is near = absurd h
multicast_stands source (Some f) None pieces x low packet h bits is near = absurd h
multicast_stands source (Some f) (Some p) pieces x low packet h bits is near = arrives_by_multicast source f p pieces x low packet h bits is near

no_other : (o : Option ℕ) → option_or o None ≡ o
no_other None = refl
no_other (Some f) = refl

pub media_stands : (source : List Held) (x : ℕ) (media : Media) (turns : List Turn) → IsFair source turns x media → Stands source (source_first turns) (reception turns).play (shown turns)
    → Stands source (source_first (delivers x media ∷ turns)) (reception (delivers x media ∷ turns)).play (shown (delivers x media ∷ turns))
unfolding reception shown source_first after_media
media_stands source x (again sequence low packet) turns fair h =
    let r = reception turns in
    again_stands source (source_first turns) r.play (distance_from r.named sequence) (shown turns) x low packet h fair.0 fair.1 fair.2 fair.3 (is_small r.named sequence)
media_stands source x (multicast low packet) turns fair h = multicast_stands source (source_first turns) (reception turns).play (shown turns) x low packet h fair.0 fair.1 fair.2
media_stands source x (unfit why) turns fair h = subst (λ (o : Option ℕ). Stands source o (reception turns).play (shown turns)) (sym (no_other (source_first turns))) h

-- what is presented
shown_stands : (source : List Held) (o : Option ℕ) (play : Option Playing) (pieces : List Piece) → Stands source o play pieces
    → Stands source o (option_map after_presenting play) (pieces ++ option_to_list (option_and_then presented play))
shown_stands source None None pieces h = append-nil pieces ∙ h
shown_stands source None (Some p) pieces h = absurd h
shown_stands source (Some f) None pieces h = absurd h
shown_stands source (Some f) (Some p) pieces h = shows source f p pieces h

pub stands : (source : List Held) (turns : List Turn) → AreFair source turns → Stands source (source_first turns) (reception turns).play (shown turns)
unfolding reception shown source_first after_shown
stands source [] fair = refl
stands source (hears told ∷ turns) fair =
    subst (λ (play : Option Playing). Stands source (source_first turns) play (shown turns)) (sym (told_keeps told (reception turns))) (stands source turns fair)
stands source (delivers x media ∷ turns) fair = media_stands source x media turns fair.0 (stands source turns fair.1)
stands source (presents ∷ turns) fair = shown_stands source (source_first turns) (reception turns).play (shown turns) (stands source turns fair)
