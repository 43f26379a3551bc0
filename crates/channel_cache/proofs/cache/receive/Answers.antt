use Rattle.std.proofs.Common.{max, refl, ◌∙◌, ap}
use Rattle.reckoning.specs.ext_seq.{moved}
use Rattle.reckoning.specs.ext_seq.Numbers as numbers
use Rattle.channel_cache.specs.{arrival_of}
use Rattle.channel_cache.proofs.Stepping.{begins, reaches, restarts, in_step, UnlessTaken-map, only_kept, first_stands, near_stands, jump_stands, restart_stands, note_room}
use Rattle.channel_cache.proofs.cache.receive.Goals as goal

pub note-requires : goal.note-requires
note-requires c = note_room c.args.numbering.now.greatest c.requires.numbered

pub begin_with-requires-clause-empty : goal.begin_with-requires-clause-empty
begin_with-requires-clause-empty c = (begins c.args.numbering.now c.args.intake.now c.args.incoming.sequence c.in-First.n c.note.result c.requires.in_step c.requires.numbered c.requires.low c.note.ensures.number c.in-First.is).empty

pub begin_with-requires-clause-above : goal.begin_with-requires-clause-above
begin_with-requires-clause-above c = (begins c.args.numbering.now c.args.intake.now c.args.incoming.sequence c.in-First.n c.note.result c.requires.in_step c.requires.numbered c.requires.low c.note.ensures.number c.in-First.is).above

pub begin_with-requires-clause-small : goal.begin_with-requires-clause-small
begin_with-requires-clause-small c = (begins c.args.numbering.now c.args.intake.now c.args.incoming.sequence c.in-First.n c.note.result c.requires.in_step c.requires.numbered c.requires.low c.note.ensures.number c.in-First.is).small

pub restart_with-requires-clause-above : goal.restart_with-requires-clause-above
restart_with-requires-clause-above c = (restarts c.args.numbering.now c.args.intake.now c.args.incoming.sequence c.in-Restart.n c.note.result c.requires.in_step c.requires.numbered c.requires.low c.note.ensures.number c.in-Restart.is).above

pub restart_with-requires-clause-small : goal.restart_with-requires-clause-small
restart_with-requires-clause-small c = (restarts c.args.numbering.now c.args.intake.now c.args.incoming.sequence c.in-Restart.n c.note.result c.requires.in_step c.requires.numbered c.requires.low c.note.ensures.number c.in-Restart.is).small

pub continue_with-requires-clause-settled : goal.continue_with-requires-clause-settled
continue_with-requires-clause-settled c = record { lawful = c.requires.in_step.lawful; settled = c.requires.in_step.settled; going = (reaches c.args.numbering.now c.args.intake.now c.args.incoming.sequence c.in-Forward.n c.note.result c.requires.in_step c.requires.numbered c.requires.low c.note.ensures.number c.in-Forward.is).going }

pub continue_with-requires-clause-small : goal.continue_with-requires-clause-small
continue_with-requires-clause-small c = (reaches c.args.numbering.now c.args.intake.now c.args.incoming.sequence c.in-Forward.n c.note.result c.requires.in_step c.requires.numbered c.requires.low c.note.ensures.number c.in-Forward.is).small

pub returns-in-First-clause-in_step : goal.returns-in-First-clause-in_step
returns-in-First-clause-in_step c =
    let v = c.args.numbering.now in
    let b = begins v c.args.intake.now c.args.incoming.sequence c.in-First.n c.note.result c.requires.in_step c.requires.numbered c.requires.low c.note.ensures.number c.in-First.is in
    let step = c.note.ensures.step ∙ ap (moved v c.args.incoming.sequence) c.in-First.is in
    let new = c.begin_with.ensures in
    in_step c.note.new.self c.begin_with.new.self c.in-First.n (ap (λ (w : numbers.Seen). w.greatest) step) new.settled.lawful new.settled.settled new.settled.going new.greatest

pub returns-in-First-clause-stands : goal.returns-in-First-clause-stands
returns-in-First-clause-stands c = λ arrivals stood.
    let v = c.args.numbering.now in
    let i = c.args.intake.now in
    let a = arrival_of c.args.incoming in
    let b = begins v i a.sequence c.in-First.n c.note.result c.requires.in_step c.requires.numbered c.requires.low c.note.ensures.number c.in-First.is in
    first_stands v c.note.new.self i c.begin_with.new.self arrivals a c.in-First.n c.note.result stood b c.note.ensures.number c.in-First.is c.begin_with.ensures.grows.width
    (c.note.ensures.stands i.window.width arrivals a refl stood.numbered) c.begin_with.ensures.stands

pub returns-in-Jump-clause-stands : goal.returns-in-Jump-clause-stands
returns-in-Jump-clause-stands c = λ arrivals stood.
    let i = c.args.intake.now in
    let a = arrival_of c.args.incoming in
    jump_stands c.args.numbering.now c.note.new.self i arrivals a c.note.result stood c.note.ensures.number c.in-Jump.is (c.note.ensures.stands i.window.width arrivals a refl stood.numbered)

pub returns-in-Restart-clause-in_step : goal.returns-in-Restart-clause-in_step
returns-in-Restart-clause-in_step c =
    let v = c.args.numbering.now in
    let b = restarts v c.args.intake.now c.args.incoming.sequence c.in-Restart.n c.note.result c.requires.in_step c.requires.numbered c.requires.low c.note.ensures.number c.in-Restart.is in
    let step = c.note.ensures.step ∙ ap (moved v c.args.incoming.sequence) c.in-Restart.is in
    let new = c.restart_with.ensures in
    in_step c.note.new.self c.restart_with.new.self c.in-Restart.n (ap (λ (w : numbers.Seen). w.greatest) step) new.settled.lawful new.settled.settled new.settled.going new.greatest

pub returns-in-Restart-clause-stands : goal.returns-in-Restart-clause-stands
returns-in-Restart-clause-stands c = λ arrivals stood.
    let i = c.args.intake.now in
    let a = arrival_of c.args.incoming in
    restart_stands c.args.numbering.now c.note.new.self i c.restart_with.new.self arrivals a c.in-Restart.n c.note.result stood c.note.ensures.number c.in-Restart.is c.restart_with.ensures.grows.width
    (c.note.ensures.stands i.window.width arrivals a refl stood.numbered) c.restart_with.ensures.stands

pub returns-in-Forward-clause-in_step : goal.returns-in-Forward-clause-in_step
returns-in-Forward-clause-in_step c =
    let v = c.args.numbering.now in
    let r = reaches v c.args.intake.now c.args.incoming.sequence c.in-Forward.n c.note.result c.requires.in_step c.requires.numbered c.requires.low c.note.ensures.number c.in-Forward.is in
    let greatest = ap (λ (w : numbers.Seen). w.greatest) c.note.ensures.step ∙ r.later c.args.incoming.sequence in
    let new = c.continue_with.ensures in
    let same = new.greatest ∙ ap (λ g. max g c.in-Forward.n) r.same in
    in_step c.note.new.self c.continue_with.new.self (max r.top c.in-Forward.n) greatest new.settled.lawful new.settled.settled new.settled.going same

pub returns-in-Forward-clause-kept : goal.returns-in-Forward-clause-kept
returns-in-Forward-clause-kept c =
    let v = c.args.numbering.now in
    let r = reaches v c.args.intake.now c.args.incoming.sequence c.in-Forward.n c.note.result c.requires.in_step c.requires.numbered c.requires.low c.note.ensures.number c.in-Forward.is in
    UnlessTaken-map c.continue_with.result _ _ (only_kept v c.note.new.self c.args.intake.now c.continue_with.new.self c.in-Forward.n c.note.result c.args.incoming.sequence r c.note.ensures.step c.continue_with.ensures.greatest) c.continue_with.ensures.dropped

pub returns-in-Forward-clause-stands : goal.returns-in-Forward-clause-stands
returns-in-Forward-clause-stands c = λ arrivals stood.
    let v = c.args.numbering.now in
    let i = c.args.intake.now in
    let a = arrival_of c.args.incoming in
    let r = reaches v i a.sequence c.in-Forward.n c.note.result c.requires.in_step c.requires.numbered c.requires.low c.note.ensures.number c.in-Forward.is in
    near_stands v c.note.new.self i c.continue_with.new.self arrivals a c.in-Forward.n c.note.result c.continue_with.result stood r c.note.ensures.number c.in-Forward.is c.continue_with.ensures.grows.width
    (c.note.ensures.stands i.window.width arrivals a refl stood.numbered) c.continue_with.ensures.stands
