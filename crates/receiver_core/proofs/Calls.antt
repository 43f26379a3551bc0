-- What a receiver is after a call, by what was got.
use Rattle.std.proofs.Common.{◌≡◌, ℕ, List, Option, option_map, refl, ap, ◌∙◌}
use Rattle.rams_model.specs.declared.{Info.Info, InfoCame.InfoCame, MediaCame.MediaCame}
use Rattle.rams_model.specs.declared.InfoCame.TheVariants.{Taken, Repeated, Updated, Ended, Refused, Foreign, Bad}
use Rattle.rams_model.specs.Receiver.{Playing, after_presenting, or_begun, first_number, arrived, arrived_by_multicast, Told, informs, unread, Media, again, multicast, unfit, Reception, info_came, with_info, after_told, after_media, after_shown}
use Rattle.receiver_core.specs.{Seen, with_got}

-- what is unfit leaves what was got
pub after_unfit : (s : Seen) (m : Media) (why : MediaCame) → unfit why ≡ m → s ≡ with_got (after_media m s.got) s
unfolding after_media
after_unfit s m why e = ap (λ (x : Media). with_got (after_media x s.got) s) e

pub after_again : (s : Seen) (m : Media) (sequence low : ℕ) (packet : List ℕ) (play : Option Playing) → again sequence low packet ≡ m
    → play ≡ option_map (arrived low packet) (or_begun s.got.play (first_number s.got.named sequence low)) → with_got (record s.got { play = play }) s ≡ with_got (after_media m s.got) s
unfolding after_media
after_again s m sequence low packet play e is =
    ap (λ (p : Option Playing). with_got (record s.got { play = p }) s) is ∙ ap (λ (x : Media). with_got (after_media x s.got) s) e

pub after_multicast : (s : Seen) (m : Media) (low : ℕ) (packet : List ℕ) (play : Option Playing) → multicast low packet ≡ m
    → play ≡ option_map (arrived_by_multicast low packet) s.got.play → with_got (record s.got { play = play }) s ≡ with_got (after_media m s.got) s
unfolding after_media
after_multicast s m low packet play e is =
    ap (λ (p : Option Playing). with_got (record s.got { play = p }) s) is ∙ ap (λ (x : Media). with_got (after_media x s.got) s) e

pub after_present : (s : Seen) (play : Option Playing) → play ≡ option_map after_presenting s.got.play → with_got (record s.got { play = play }) s ≡ with_got (after_shown s.got) s
unfolding after_shown
after_present s play is = ap (λ (p : Option Playing). with_got (record s.got { play = p }) s) is

-- what a RAMS-I makes of a receiver
pub after_info : (s : Seen) (t : Told) (i : Info) (c : InfoCame) → informs i ≡ t → c ≡ info_came s.got i → with_got (with_info c i s.got) s ≡ with_got (after_told t s.got) s
unfolding after_told
after_info s t i c e is =
    ap (λ (x : InfoCame). with_got (with_info x i s.got) s) is ∙ ap (λ (x : Told). with_got (after_told x s.got) s) e

pub after_unread : (s : Seen) (t : Told) (why : InfoCame) → unread why ≡ t → s ≡ with_got (after_told t s.got) s
unfolding after_told
after_unread s t why e = ap (λ (x : Told). with_got (after_told x s.got) s) e

-- only a RAMS-I that is taken, or tells of an end, changes what was got
pub others_keep : (c : InfoCame) (i : Info) (r : Reception) → (c ≡ Taken → ⊥) → ((code : ℕ) → c ≡ Ended code → ⊥) → with_info c i r ≡ r
others_keep Taken i r taken ended = absurd (taken refl)
others_keep (Ended code) i r taken ended = absurd (ended code refl)
others_keep Repeated i r taken ended = refl
others_keep Updated i r taken ended = refl
others_keep (Refused code) i r taken ended = refl
others_keep Foreign i r taken ended = refl
others_keep Bad i r taken ended = refl
