use Rattle.std.proofs.Common.{◌≡◌, ◌<◌, Option, Some, sym, subst, arith}
use Rattle.std.specs.Prelude.{IfSome}
use Rattle.std.proofs.lemmas.List.Elements.{All-from_get_or}
use Rattle.server_hub.specs.declared.HubEvent.{HubEvent}
use Rattle.server_hub.specs.{event_of}
use Rattle.trace_loop.specs.journal_book.{CanCome, heard_from}
use Rattle.converters.proofs.capture_loop.events.arrival_heard.Goals as goal

pub returns-clause-spelled : goal.returns-clause-spelled
returns-clause-spelled c = λ channels numbered.
    let a = c.args.arrival in
    let bytes = c.args.bytes.now in
    let octets = All-from_get_or (λ b. b < 256) bytes 0 (λ i within. let fits = c.type_inv.bytes i in omega arith) in
    let heard : Some (event_of c.in_ok-addressed.addressed.heard) ≡ heard_from c.args.port channels a.from a.port bytes = c.in_ok-addressed.ensures.heard channels numbered.ids_are in
    let can = c.turns_make_journals.ensures.heard c.args.port a.from a.port channels bytes numbered.lawful (c.requires.sender, octets) c.requires.short in
    subst (λ (o : Option HubEvent). IfSome o CanCome) (sym heard) can
