-- What is written is what may come of the trace.
use Rattle.std.proofs.Common.{◌∙◌, map, sym, ap}
use Rattle.rams_model.specs.Service.{Settings}
use Rattle.threads_loop.specs.session_worker.{answered_with}
use Rattle.threads_loop.proofs.Written.{own_answers, own_lists, worked_text, worked_front, worked_room, lists_short}
use Rattle.threads_loop.proofs.ending.work_and_write.Goals as goal

pub run_lists-requires-clause-short : goal.run_lists-requires-clause-short
run_lists-requires-clause-short g c = λ lifetimes outlive. lists_short c.args.dealt c.requires.0 c.requires.1

pub write_worked-written-requires : goal.write_worked-written-requires
write_worked-written-requires g c =
    let entries = c.in_ok-worked.worked.book.entries in
    ap (map (λ d. d.items)) c.deref-2.ensures.value ∙ c.in_ok-worked.ensures.drawn ∙ ap (λ (s : Settings). answered_with s entries) c.in_ok-core.ensures.settings ∙ ap (answered_with c.in-Some.config) (sym c.entries.ensures.entries)

pub returns-clause-text : goal.returns-clause-text
returns-clause-text g c = λ xs r.
    let d = c.args.dealt in
    let s = c.in-Some.config in
    let entries = c.entries.result.now in
    let book = c.in_ok-worked.worked.book in
    let lists = own_lists d entries book.entries c.entries.ensures.entries c.in_ok-worked.ensures.interleaving in
    let legal = own_answers s c.in_ok-core.core.settings entries book.entries c.in_ok-core.ensures.settings c.entries.ensures.entries c.in_ok-worked.ensures.legal in
    worked_text d xs s entries r c.in-Some.is c.deref.result.now c.deref.ensures.value lists legal c.runs_of_journals.ensures.text (g.K.Sink.held c.args.sink.now) (g.K.Sink.held c.write_worked-written.new.sink) c.write_worked-written.result c.write_worked-written.ensures.text

pub returns-clause-front : goal.returns-clause-front
returns-clause-front g c = λ xs r.
    let d = c.args.dealt in
    let s = c.in-Some.config in
    let entries = c.entries.result.now in
    let book = c.in_ok-worked.worked.book in
    let lists = own_lists d entries book.entries c.entries.ensures.entries c.in_ok-worked.ensures.interleaving in
    let legal = own_answers s c.in_ok-core.core.settings entries book.entries c.in_ok-core.ensures.settings c.entries.ensures.entries c.in_ok-worked.ensures.legal in
    worked_front d xs s entries r c.in-Some.is c.deref.result.now c.deref.ensures.value lists legal c.runs_of_journals.ensures.text (g.K.Sink.held c.args.sink.now) (g.K.Sink.held c.write_worked-written.new.sink) c.write_worked-written.result c.write_worked-written.ensures.front

pub returns-clause-steady : goal.returns-clause-steady
returns-clause-steady g c = λ xs r room.
    let d = c.args.dealt in
    let s = c.in-Some.config in
    let entries = c.entries.result.now in
    let book = c.in_ok-worked.worked.book in
    let lists = own_lists d entries book.entries c.entries.ensures.entries c.in_ok-worked.ensures.interleaving in
    let legal = own_answers s c.in_ok-core.core.settings entries book.entries c.in_ok-core.ensures.settings c.entries.ensures.entries c.in_ok-worked.ensures.legal in
    c.write_worked-written.ensures.steady (worked_room d xs s entries r c.in-Some.is c.deref.result.now c.deref.ensures.value lists legal c.runs_of_journals.ensures.text (g.K.Sink.is_steady c.args.sink.now) room)
