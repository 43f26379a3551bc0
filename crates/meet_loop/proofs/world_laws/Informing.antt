-- A receiver reads a RAMS-I of its channel as it was sent.
use Rattle.std.proofs.Common.{◌≡◌, ℕ, ◌+◌, ◌*◌, ◌<◌, ◌≤◌, ◌%◌, Bool, cond, List, ◌++◌, length, Option, Some, None, refl, ap, sym, ◌∙◌, arith, eqb}
use Rattle.std.specs.Option.{option_or}
use Rattle.std.specs.Int.{w16, w32, w64}
use Rattle.std.proofs.lemmas.Bool.{eq-eqb}
use Rattle.std.proofs.lemmas.List.{length-append}
use Rattle.rams_model.specs.declared.{Info.Info, Tuned.Tuned}
use Rattle.rams_model.specs.declared.InfoCame.TheVariants as came
use Rattle.rams_model.specs.Formats.{optional_tlv, info_fci, rams_info, Feedback}
use Rattle.rams_model.specs.Receiver.{informs, unread, if_info, first_info, read_told, read_first, read_framed, told_by}
use Rattle.rams_model.specs.Service.{Settings}
use Rattle.rams_model.proofs.PacketLaws.{feedback_written_back}
use Rattle.rams_model.proofs.RamsLaws.{info_written_back}
use Rattle.meet_loop.specs.world_laws.{IsTunedTo, HasFields}
use Rattle.meet_loop.proofs.world_laws.Infos.{IsSound}

-- ---- a RAMS-I is whole words

-- at most three words
record IsWords (bytes : List ℕ) : Type 0 where
  count : ℕ
  few : count ≤ 3
  long : length bytes ≡ 4 * count

words_32 : (o : Option ℕ) → IsWords (optional_tlv 32 w16 o)
words_32 None = record { count = 0; few = omega arith; long = refl }
words_32 (Some n) = record { count = 2; few = omega arith; long = refl }

words_33 : (o : Option ℕ) → IsWords (optional_tlv 33 w32 o)
words_33 None = record { count = 0; few = omega arith; long = refl }
words_33 (Some n) = record { count = 2; few = omega arith; long = refl }

words_34 : (o : Option ℕ) → IsWords (optional_tlv 34 w32 o)
words_34 None = record { count = 0; few = omega arith; long = refl }
words_34 (Some n) = record { count = 2; few = omega arith; long = refl }

words_35 : (o : Option ℕ) → IsWords (optional_tlv 35 w64 o)
words_35 None = record { count = 0; few = omega arith; long = refl }
words_35 (Some n) = record { count = 3; few = omega arith; long = refl }

info_words : (i : Info) → (length (info_fci i) % 4 ≡ 0) × (length (info_fci i) < 262136)
info_words i =
    let a = optional_tlv 32 w16 i.first in
    let b = optional_tlv 33 w32 i.join_ms in
    let c = optional_tlv 34 w32 i.length_ms in
    let d = optional_tlv 35 w64 i.bps in
    let one = length-append (a ++ b ++ c) d in
    let two = length-append (a ++ b) c in
    let three = length-append a b in
    let wa = words_32 i.first in
    let wb = words_33 i.join_ms in
    let wc = words_34 i.length_ms in
    let wd = words_35 i.bps in
    let long : length (info_fci i) ≡ 4 * (1 + wa.count + wb.count + wc.count + wd.count) =
    omega (arith, one, two, three, wa.long, wb.long, wc.long, wd.long) in
    (omega (arith, long), omega (arith, long, wa.few, wb.few, wc.few, wd.few))

pub told_read : (s : Settings) (i : Info) (t : Tuned) → HasFields s → IsSound i → IsTunedTo s.channel t → told_by t (rams_info s.channel.server s.channel.ssrc i) ≡ informs i
unfolding rams_info first_info
told_read s i t h is tuned =
    let words = info_words i in
    let f = feedback_written_back 6 s.channel.server s.channel.ssrc (info_fci i) (omega arith) h.server h.media words.0 words.1 in
    ap (read_framed t) f.framed
    ∙ (ap (λ (o : Option Feedback). read_first t (option_or (if_info o) None)) f.feedback
    ∙ (ap (read_told t s.channel.ssrc) (info_written_back i is.fits)
    ∙ (ap (λ (b : Bool). cond b (unread came.Bad) (cond (eqb s.channel.ssrc t.media) (informs i) (unread came.Foreign))) is.named
    ∙ ap (λ (b : Bool). cond b (informs i) (unread came.Foreign)) (eq-eqb s.channel.ssrc t.media (sym tuned.media)))))
