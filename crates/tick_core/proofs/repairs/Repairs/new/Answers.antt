use Rattle.tick_core.proofs.repairs.Repairs.new.Goals as goal

pub invariant_of-result : goal.invariant_of-result
invariant_of-result c = record { rising = c.requires.rising; known = c.requires.known; asked = tt }
