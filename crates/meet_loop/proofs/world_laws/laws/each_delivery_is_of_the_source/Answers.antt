use Rattle.meet_loop.proofs.world_laws.Told.{fair, media}
use Rattle.meet_loop.proofs.world_laws.laws.each_delivery_is_of_the_source.Goals as goal

pub returns-clause-fair : goal.returns-clause-fair
returns-clause-fair c = fair

pub returns-clause-media : goal.returns-clause-media
returns-clause-media c = media
