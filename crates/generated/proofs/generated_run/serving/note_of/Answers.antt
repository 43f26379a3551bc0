use Rattle.std.proofs.Common.{◌≡◌, sym, subst}
use Rattle.rams_model.specs.Service.{Settings, heard_live, live}
use Rattle.generated.proofs.generated_run.Heard.{brought, heard_so, bare_so}
use Rattle.generated.proofs.generated_run.serving.note_of.Goals as goal

pub live_read-requires-clause-read : goal.live_read-requires-clause-read
live_read-requires-clause-read c =
    let p = c.args.packet in
    subst (λ (s : Settings). heard_live s.channel p.bytes ≡ live (brought p)) (sym c.requires.settings) (heard_so p c.requires.read)

pub live_read-requires-clause-bare : goal.live_read-requires-clause-bare
live_read-requires-clause-bare c = bare_so c.args.packet c.requires.read
