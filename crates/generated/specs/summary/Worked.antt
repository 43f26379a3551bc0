-- Worked summaries, from an independent model.
use Rattle.std.specs.Prelude.{◌≡◌, codes}
use Rattle.generated.specs.summary.Text.{made_summary}

-- no block; and one, to whose packets nobody listens
abbrev pub OneBlock : Type 0
OneBlock =
    (made_summary 7 0 ≡ codes "rams-made 7 0\nevents 0\ntook 0\naccept 0\nagain 0\nrefuse 0\nburst 0\nrepair 0\nend 0\nbytes 0\ndone\n")
    × (made_summary 7 1 ≡ codes "rams-made 7 1\nevents 11\ntook 10\naccept 0\nagain 0\nrefuse 0\nburst 0\nrepair 0\nend 0\nbytes 0\ndone\n")

-- four blocks: a burst of 30 packets that a RAMS-T ends
abbrev pub FourBlocks : Type 0
FourBlocks =
    made_summary 7 4 ≡ codes "rams-made 7 4\nevents 47\ntook 40\naccept 1\nagain 0\nrefuse 0\nburst 30\nrepair 0\nend 1\nbytes 22020\ndone\n"
