-- What is taken over of a journal, and why nothing is.
use Rattle.std.proofs.Common.{◌≡◌, ℕ, ◌+◌, ◌<◌, ltb, Bool, true, false, List, length, Option, None, Some, refl, sym, ap, subst, ◌∙◌, arith}
use Rattle.std.specs.Prelude.{if◌then◌else◌}
use Rattle.std.proofs.lemmas.Bool.{lt-ltb}
use Rattle.rams_model.specs.declared.LineFault.TheVariants.{Order}
use Rattle.rams_model.specs.Texts.{Head, has_channel, whole_lines}
use Rattle.server_hub.specs.Seen as hubs
use Rattle.server_hub.specs.Served.{Served}
use Rattle.trace_loop.specs.trace_book.trace_serving.{Outcome, done, refused}
use Rattle.serve_loop.specs.{numbers}
use Rattle.takeover.specs.declared.standby.fault.FeedFault.{FeedFault}
use Rattle.takeover.specs.standby.{HasRead, Halted, HubServes, Refuses, Seen, count_of, end_of, lines_followed, stage_of}
use Rattle.takeover.proofs.standby.Ending.{all_followed}
use Rattle.takeover.specs.takeover_loop.{end_or, has_lines, opened_by, reading_end}
use Rattle.takeover.proofs.takeover_loop.Ends.{ended_has_channel}

-- without a fault the reading ends with `end`, or where the bytes do
data IsOpen (bytes : List ℕ) : Type 0 where
  ended : (events : ℕ) → end_of bytes ≡ Some (done events) → IsOpen bytes
  unended : end_of bytes ≡ None → IsOpen bytes

no_fault : (v : Seen) (bytes : List ℕ) → HasRead v bytes → v.fault ≡ None → IsOpen bytes
no_fault v bytes r is = by v.ended (subst (λ (f : Option FeedFault). Halted v.ended f (end_of bytes)) is r.halted)
  where
    by : (t : Bool) → Halted t None (end_of bytes) → IsOpen bytes
    by true h = ended h.0 h.1
    by false h = unended h

-- The number of the line that is missing, where no channel stands.
head_counts : (hub : Option hubs.Seen) (head : Option Head) (channels : List Served) (ids : List ℕ) (events lines : ℕ) → HubServes hub head channels events → ids ≡ numbers channels → count_of hub ids events ≡ lines
    → (if ltb 0 lines then 1 else 0) + length ids + events ≡ lines
head_counts None None channels ids events lines serves are count =
    let no_ids : length ids ≡ 0 = ap length (are ∙ ap numbers serves.0) in
    let no_lines : lines ≡ 0 = sym count ∙ (let none = serves.1 in let zero : count_of None ids events ≡ 0 = omega (arith, no_ids, none) in zero) in
    subst (λ n. (if ltb 0 n then 1 else 0) + length ids + events ≡ n) (sym no_lines) (let none = serves.1 in let zero : 0 + length ids + events ≡ 0 = omega (arith, no_ids, none) in zero)
head_counts None (Some head) channels ids events lines serves are count = absurd serves
head_counts (Some hub) None channels ids events lines serves are count = absurd serves
head_counts (Some hub) (Some head) channels ids events lines serves are count =
    let some : 0 < lines = omega (arith, count) in
    rw (lt-ltb 0 lines some) count

pub missing_ends : (v : Seen) (begun : Bool) (line : ℕ) (bytes : List ℕ) → HasRead v bytes → v.fault ≡ None → Refuses v → (end_of bytes ≡ None → begun ≡ has_lines bytes) → line ≡ (if begun then 1 else 0) + length v.ids + v.events + 1
    → reading_end bytes ≡ refused line Order
missing_ends v begun line bytes r none refuses counts is = by (no_fault v bytes r none)
  where
    has : has_channel (stage_of bytes).reached ≡ false
    has = ap has_channel (sym r.stands.lines) ∙ refuses none

    there : (events : ℕ) → end_of bytes ≡ Some (done events) → ⊥
    there events end = let clash : true ≡ false = sym (ended_has_channel bytes (done events) end refl) ∙ has in cc

    lines : end_of bytes ≡ None → length (lines_followed bytes) + 1 ≡ line
    lines still =
        let count = (r.going still).count in
        let followed = ap length (all_followed bytes still) in
        let serves = subst (λ n. HubServes v.hub (stage_of bytes).reached.head (stage_of bytes).state n) (sym r.stands.counted) r.stands.serves in
        let heads = head_counts v.hub (stage_of bytes).reached.head (stage_of bytes).state v.ids v.events (length (whole_lines bytes)) serves r.stands.ids_are count in
        let number : line ≡ (if has_lines bytes then 1 else 0) + length v.ids + v.events + 1 = is ∙ ap (λ (t : Bool). (if t then 1 else 0) + length v.ids + v.events + 1) (counts still) in
        ap (λ n. n + 1) (followed ∙ sym heads) ∙ sym number

    by : IsOpen bytes → reading_end bytes ≡ refused line Order
    by (ended events end) = absurd (there events end)
    by (unended still) =
        ap (λ (o : Option Outcome). end_or o (opened_by (has_channel (stage_of bytes).reached) (length (lines_followed bytes) + 1))) still
        ∙ ap (λ (t : Bool). opened_by t (length (lines_followed bytes) + 1)) has ∙ ap (λ n. refused n Order) (lines still)
