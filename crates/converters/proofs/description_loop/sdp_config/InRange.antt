-- What a description gives is in the range of a channel's settings.
use Rattle.std.proofs.Common.{◌≡◌, ◌≢◌, ℕ, ◌^◌, ◌<◌, ◌≤◌, Bool, true, false, ◌==◌, cond, nat_lt, nat_le, if◌then◌else◌, List, [], ◌∷◌, Option, None, Some, Result, Ok, Err, bytes_eq, codes, refl, sym, subst}
use Rattle.std.specs.Prelude.{option_map, option_and_then}
use Rattle.std.specs.List.{find, filter_map, cons_option}
use Rattle.std.specs.Option.{option_or}
use Rattle.std.proofs.lemmas.Bool.{leb-true, ltb-true, eq-eqb}
use Rattle.rams_model.specs.Texts.{number_in}
use Rattle.converters.specs.declared.{description_loop.sdp_config.sdp.Sdp.Sdp, description_loop.sdp_config.sdp.SdpFault.SdpFault}
use Rattle.converters.specs.declared.description_loop.sdp_config.sdp.SdpFault.TheVariants.{Same}
use Rattle.converters.specs.declared.description_loop.sdp_config.section.Role.{Role}
use Rattle.converters.specs.declared.description_loop.sdp_config.section.Role.TheVariants.{Media, Repair}
use Rattle.converters.specs.description_loop.sdp_config.{lines_in, behind, first_piece, type_in, ssrc_in, ssrc_number, sections_of, formats_of, first_ssrc, is_wanted, first_format, first_found, text_fault, settings_in, settings_of, Section, Found, IsInRange, SettingsAreInRange}
use Rattle.converters.specs.description_loop.sdp_config.Sections.{found_in}
use Rattle.converters.specs.description_loop.sdp_config.Description.{with_rtx, with_ssrc, with_channel, unless_fault}

-- ---- payload types

at_most : (m n : ℕ) (b : Bool) → nat_le m 127 ≡ b → (if b then Some m else None) ≡ Some n → n ≤ 127
at_most m n true h e = let same : m ≡ n = cc in subst (λ (k : ℕ). k ≤ 127) same (leb-true m 127 h)
at_most m n false h e = absurd cc

type_most : (field : List ℕ) (n : ℕ) → type_in field ≡ Some n → n ≤ 127
type_most field n = by (number_in field)
  where
    by : (o : Option ℕ) → option_and_then (λ m. if nat_le m 127 then Some m else None) o ≡ Some n → n ≤ 127
    by None e = absurd cc
    by (Some m) e = at_most m n (nat_le m 127) refl e

abbrev AreTypes : List ℕ → Type 0
AreTypes [] = Unit {0}
AreTypes (n ∷ types) = (n ≤ 127) × AreTypes types

one_more : (o : Option ℕ) (types : List ℕ) → ((n : ℕ) → o ≡ Some n → n ≤ 127) → AreTypes types → AreTypes (cons_option o types)
one_more None types each are = are
one_more (Some n) types each are = (each n refl, are)

types_in : (fields : List (List ℕ)) → AreTypes (filter_map type_in fields)
types_in [] = tt
types_in (field ∷ fields) = one_more (type_in field) (filter_map type_in fields) (type_most field) (types_in fields)

formats_are : (fields : List (List ℕ)) → AreTypes (formats_of fields)
formats_are [] = tt
formats_are (media ∷ []) = tt
formats_are (media ∷ port ∷ []) = tt
formats_are (media ∷ port ∷ protocol ∷ formats) = by (bytes_eq protocol (codes "RTP/AVPF"))
  where
    by : (b : Bool) → AreTypes (if b then filter_map type_in formats else [])
    by true = types_in formats
    by false = tt

found_type : (p : ℕ → Bool) (types : List ℕ) (n : ℕ) → AreTypes types → find p types ≡ Some n → n ≤ 127
found_type p [] n are e = absurd cc
found_type p (m ∷ types) n are e = by (p m) (λ rest. found_type p types n are.1 rest) e
  where
    by : (b : Bool) → (find p types ≡ Some n → n ≤ 127) → cond b (Some m) (find p types) ≡ Some n → n ≤ 127
    by true later e = let same : m ≡ n = cc in subst (λ (k : ℕ). k ≤ 127) same are.0
    by false later e = later e

first_type : (role : Role) (sections : List Section) (f : Found) → first_found role sections ≡ Some f → f.format ≤ 127
first_type role [] f e = absurd cc
first_type role (s ∷ sections) f e = by (first_format role s) (λ rest. first_type role sections f rest) refl e
  where
    by : (o : Option ℕ) → (first_found role sections ≡ Some f → f.format ≤ 127) → first_format role s ≡ o → option_or (option_map (found_in s) o) (first_found role sections) ≡ Some f
        → f.format ≤ 127
    by None later is e = later e
    by (Some n) later is e =
        let same : found_in s n ≡ f = cc in
        subst (λ (g : Found). g.format ≤ 127) same (found_type (is_wanted role s) (formats_of s.fields) n (formats_are s.fields) is)

-- ---- the media source

below : (m n : ℕ) (b : Bool) → nat_lt m (2 ^ 32) ≡ b → (if b then Some m else None) ≡ Some n → n < 2 ^ 32
below m n true h e = let same : m ≡ n = cc in subst (λ (k : ℕ). k < 2 ^ 32) same (ltb-true m (2 ^ 32) h)
below m n false h e = absurd cc

number_most : (n : ℕ) (o : Option ℕ) → option_and_then (λ m. if nat_lt m (2 ^ 32) then Some m else None) o ≡ Some n → n < 2 ^ 32
number_most n None e = absurd cc
number_most n (Some m) e = below m n (nat_lt m (2 ^ 32)) refl e

source_most : (n : ℕ) (o : Option (List ℕ)) → option_and_then ssrc_number o ≡ Some n → n < 2 ^ 32
source_most n None e = absurd cc
source_most n (Some bytes) e = number_most n (number_in (first_piece 32 bytes)) e

ssrc_most : (lines : List (List ℕ)) (n : ℕ) → first_ssrc lines ≡ Some n → n < 2 ^ 32
ssrc_most [] n e = absurd cc
ssrc_most (line ∷ lines) n e = by (ssrc_in line) (λ rest. ssrc_most lines n rest) refl e
  where
    by : (o : Option ℕ) → (first_ssrc lines ≡ Some n → n < 2 ^ 32) → ssrc_in line ≡ o → option_or o (first_ssrc lines) ≡ Some n → n < 2 ^ 32
    by None later is e = later e
    by (Some m) later is e =
        let same : m ≡ n = cc in
        subst (λ (k : ℕ). k < 2 ^ 32) same (source_most m (behind (codes "a=ssrc:") line) is)

-- ---- all of them

not_alike : (a b : ℕ) → (a == b) ≡ false → b ≢ a
not_alike a b h e = let same = eq-eqb a b (sym e) in cc

apart : (pt ssrc : ℕ) (rtx : Found) (b : Bool) (s : Sdp) → pt ≤ 127 → ssrc < 2 ^ 32 → rtx.format ≤ 127 → (rtx.format == pt) ≡ b
    → (let r : Result Sdp SdpFault = if b then Err Same else Ok (record { pt = pt; rtx = rtx.format; ssrc = ssrc }) in r ≡ Ok s) → IsInRange s
apart pt ssrc rtx true s p q r h e = absurd cc
apart pt ssrc rtx false s p q r h e =
    let made : Sdp = record { pt = pt; rtx = rtx.format; ssrc = ssrc } in
    let same : made ≡ s = cc in
    subst IsInRange same (record { pt = p; rtx = r; ssrc = q; apart = not_alike rtx.format pt h })

rtx_in : (pt ssrc : ℕ) (sections : List Section) (o : Option Found) (s : Sdp) → pt ≤ 127 → ssrc < 2 ^ 32 → first_found (Repair pt) sections ≡ o → with_rtx pt ssrc o ≡ Ok s → IsInRange s
rtx_in pt ssrc sections None s p q is e = absurd cc
rtx_in pt ssrc sections (Some rtx) s p q is e = apart pt ssrc rtx (rtx.format == pt) s p q (first_type (Repair pt) sections rtx is) refl e

ssrc_is : (pt : ℕ) (sections : List Section) (lines : List (List ℕ)) (o : Option ℕ) (s : Sdp) → pt ≤ 127 → first_ssrc lines ≡ o → with_ssrc pt (first_found (Repair pt) sections) o ≡ Ok s → IsInRange s
ssrc_is pt sections lines None s p is e = absurd cc
ssrc_is pt sections lines (Some ssrc) s p is e = rtx_in pt ssrc sections (first_found (Repair pt) sections) s p (ssrc_most lines ssrc is) refl e

channel_in : (lines : List (List ℕ)) (o : Option Found) (s : Sdp) → first_found Media (sections_of lines) ≡ o → with_channel lines o ≡ Ok s → IsInRange s
channel_in lines None s is e = absurd cc
channel_in lines (Some channel) s is e =
    ssrc_is channel.format (sections_of lines) channel.section.lines (first_ssrc channel.section.lines) s (first_type Media (sections_of lines) channel is) refl e

faultless : (r : Result Sdp SdpFault) (o : Option SdpFault) (s : Sdp) → unless_fault r o ≡ Ok s → r ≡ Ok s
faultless r None s e = e
faultless r (Some fault) s e = absurd cc

pub in_range : SettingsAreInRange
unfolding settings_of
in_range text s e =
    let lines = lines_in text in
    channel_in lines (first_found Media (sections_of lines)) s refl (faultless (settings_in lines) (text_fault lines) s e)
