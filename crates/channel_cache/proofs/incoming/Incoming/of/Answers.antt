use Rattle.std.proofs.Common.{ℕ, List, sym, subst}
use Rattle.channel_cache.specs.{IsBare}
use Rattle.channel_cache.proofs.Wholes.{stripped_bare}
use Rattle.channel_cache.proofs.incoming.Incoming.of.Goals as goal

pub returns-clause-bare : goal.returns-clause-bare
returns-clause-bare c =
    subst (λ (bytes : List ℕ). IsBare bytes) (sym c.requires.kept) (stripped_bare c.args.packet.now c.requires.lawful c.requires.short)
