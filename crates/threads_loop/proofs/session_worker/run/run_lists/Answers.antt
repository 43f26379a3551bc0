-- What the closed lock has of the lists.
use Rattle.std.proofs.Common.{◌≡◌, ◌∙◌, ℕ, ◌^◌, ◌≤◌, List, [], length, map, ap, sym, subst, arith, All}
use Rattle.std.specs.Global.{Vec}
use Rattle.std.proofs.lemmas.List.{length-map}
use Rattle.std.proofs.lemmas.List.Elements.{All-map}
use Rattle.std.proofs.lemmas.Result.{IfOk-weaker}
use Rattle.rams_model.specs.declared.Event.{Event}
use Rattle.channel_book.specs.declared.Entry.{Entry}
use Rattle.channel_book.specs.{calls_by, IsInterleaving, IsLegal, Kept}
use Rattle.channel_book.specs.channel_lock.{Known, IsOfPass, NotAmong}
use Rattle.rams_model.specs.Service.{Settings}
use Rattle.threads_loop.specs.session_worker.{AreReady, answered_with, events_of, queue_of}
use Rattle.threads_loop.proofs.session_worker.Passes.{fresh_count, ready_staff}
use Rattle.threads_loop.proofs.session_worker.Lists.{same_lock, queues_are, interleaved}
use Rattle.threads_loop.proofs.session_worker.run.run_lists.Goals as goal

pub seat-requires : goal.seat-requires
seat-requires g c =
    let count : c.len.result ≡ length c.args.lists.items = omega (arith, c.len.ensures, c.args.lists.ok.0) in
    ap length c.in_ok-lock.ensures.passes ∙ fresh_count c.in_ok-lock.lock.lock c.args.core.settings c.len.result ∙ count

pub write_lists-staff-requires-clause-ready : goal.write_lists-staff-requires-clause-ready
write_lists-staff-requires-clause-ready g c κs within =
    let lock = c.in_ok-lock.lock.lock in
    let staff = c.in_ok-staff.staff.items in
    subst (λ (s : Settings). AreReady lock s staff) (sym c.config.ensures)
    (ready_staff lock c.args.core.settings c.len.result staff (c.in_ok-staff.ensures.passes ∙ c.in_ok-lock.ensures.passes))

pub write_lists-staff-requires-clause-lists : goal.write_lists-staff-requires-clause-lists
write_lists-staff-requires-clause-lists g c κs within =
    let staff = c.in_ok-staff.staff.items in
    let lists = c.args.lists.items in
    let count : length staff ≡ length lists = omega (arith, ap length c.in_ok-staff.ensures.events, length-map staff events_of, length-map lists (λ l. l.items)) in
    (omega (arith, count, c.requires.lists), omega (arith, count, c.requires.lists))

pub write_lists-staff-requires-clause-short : goal.write_lists-staff-requires-clause-short
write_lists-staff-requires-clause-short g c κs within =
    let short : List Event → Type 0 = λ es. length es ≤ 2 ^ 34 in
    subst (All short) (sym c.in_ok-staff.ensures.events) (All-map short (λ (l : Vec Event). l.items) c.args.lists.items c.requires.short)

pub close-requires : goal.close-requires
close-requires g c =
    let lock = c.in_ok-lock.lock.lock in
    let lists = map events_of c.in_ok-staff.staff.items in
    let staff = c.write_lists-staff.result.items in
    record { made = subst (λ (ps : List Known). All (λ (p : Known). p.lock ≡ lock) ps) (sym c.in_ok-left.ensures.passes) (same_lock lock c.config.result.now lists staff c.write_lists-staff.ensures) }

pub with_drawn-requires : goal.with_drawn-requires
with_drawn-requires g c =
    let s = c.config.result.now in
    let lists = map events_of c.in_ok-staff.staff.items in
    let staff = c.write_lists-staff.result.items in
    let left = c.in_ok-left in
    let entries = c.in-Ok.book.entries in
    let passes = subst (λ (ps : List Known). All (IsOfPass entries) ps) left.ensures.passes c.in-Ok.ensures.passes in
    let others = subst (λ (ps : List Known). (list : ℕ) → NotAmong ps list → calls_by list entries ≡ []) left.ensures.passes c.in-Ok.ensures.others in
    queues_are c.in_ok-lock.lock.lock s lists staff entries c.write_lists-staff.ensures left.ensures.wrote passes others (map queue_of left.left.queues.items) left.ensures.queues

pub returns-clause-settings : goal.returns-clause-settings
returns-clause-settings g c =
    let book = c.in-Ok.book in
    IfOk-weaker c.with_drawn.result (λ w. (w.book ≡ book) × (map (λ d. d.items) w.drawn.items ≡ answered_with c.config.result.now book.entries)) (λ w. w.book.settings ≡ c.args.core.settings)
    (λ w h. ap (λ (b : Kept). b.settings) h.0 ∙ (c.in-Ok.ensures.settings ∙ c.in_ok-lock.ensures.lock.0)) c.with_drawn.ensures

pub returns-clause-legal : goal.returns-clause-legal
returns-clause-legal g c =
    let book = c.in-Ok.book in
    let legal = subst (λ (s : Settings). IsLegal s book.entries) c.in_ok-lock.ensures.lock.0 c.in-Ok.ensures.legal in
    IfOk-weaker c.with_drawn.result (λ w. (w.book ≡ book) × (map (λ d. d.items) w.drawn.items ≡ answered_with c.config.result.now book.entries)) (λ w. IsLegal c.args.core.settings w.book.entries)
    (λ w h. subst (λ (b : Kept). IsLegal c.args.core.settings b.entries) (sym h.0) legal) c.with_drawn.ensures

pub returns-clause-drawn : goal.returns-clause-drawn
returns-clause-drawn g c =
    let s = c.args.core.settings in
    let book = c.in-Ok.book in
    IfOk-weaker c.with_drawn.result (λ w. (w.book ≡ book) × (map (λ d. d.items) w.drawn.items ≡ answered_with c.config.result.now book.entries)) (λ w. map (λ d. d.items) w.drawn.items ≡ answered_with s w.book.entries)
    (λ w h. h.1 ∙ (ap (λ (x : Settings). answered_with x book.entries) c.config.ensures ∙ ap (λ (b : Kept). answered_with s b.entries) (sym h.0))) c.with_drawn.ensures

pub returns-clause-interleaving : goal.returns-clause-interleaving
returns-clause-interleaving g c =
    let s = c.config.result.now in
    let lists = map events_of c.in_ok-staff.staff.items in
    let staff = c.write_lists-staff.result.items in
    let left = c.in_ok-left in
    let entries = c.in-Ok.book.entries in
    let passes = subst (λ (ps : List Known). All (IsOfPass entries) ps) left.ensures.passes c.in-Ok.ensures.passes in
    let others = subst (λ (ps : List Known). (list : ℕ) → NotAmong ps list → calls_by list entries ≡ []) left.ensures.passes c.in-Ok.ensures.others in
    let all = map (λ (l : Vec Event). l.items) c.args.lists.items in
    let whole : IsInterleaving all entries = subst (λ (ls : List (List Event)). IsInterleaving ls entries) c.in_ok-staff.ensures.events
    (interleaved c.in_ok-lock.lock.lock s lists staff entries c.write_lists-staff.ensures left.ensures.wrote passes others) in
    IfOk-weaker c.with_drawn.result (λ w. (w.book ≡ c.in-Ok.book) × (map (λ d. d.items) w.drawn.items ≡ answered_with s entries)) (λ w. IsInterleaving all w.book.entries)
    (λ w h. subst (λ (b : Kept). IsInterleaving all b.entries) (sym h.0) whole) c.with_drawn.ensures
