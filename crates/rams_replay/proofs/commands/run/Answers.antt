use Rattle.std.proofs.Common.{Some, ap, sym, ◌∙◌}
use Rattle.rams_replay.specs.{command_of}
use Rattle.rams_replay.proofs.Serving.{given_so, same_serve}
use Rattle.rams_replay.proofs.TakingOver.{same_takeover}
use Rattle.rams_replay.proofs.commands.run.Goals as goal

pub returns-in-Some-Serve-clause-served : goal.returns-in-Some-Serve-clause-served
returns-in-Some-Serve-clause-served g c = λ port turns given serves is.
    c.serve_status.ensures.served given (given_so given _ _ port turns _ _ _ (same_serve (command_of c.args.words.now) _ _ port turns (sym c.command_of.ensures.value ∙ (c.in-Some-Serve.is ∙ ap Some c.in-Some-Serve.field-0-is)) serves) is)

pub returns-in-Some-Serve-clause-served_whole : goal.returns-in-Some-Serve-clause-served_whole
returns-in-Some-Serve-clause-served_whole g c = λ port turns given serves is.
    c.serve_status.ensures.whole given (given_so given _ _ port turns _ _ _ (same_serve (command_of c.args.words.now) _ _ port turns (sym c.command_of.ensures.value ∙ (c.in-Some-Serve.is ∙ ap Some c.in-Some-Serve.field-0-is)) serves) is)

pub returns-in-Some-Takeover-clause-taken : goal.returns-in-Some-Takeover-clause-taken
returns-in-Some-Takeover-clause-taken g c = λ port turns given takes is.
    c.takeover_status.ensures.taken given (given_so given _ _ port turns _ _ _ (same_takeover (command_of c.args.words.now) _ _ port turns (sym c.command_of.ensures.value ∙ (c.in-Some-Takeover.is ∙ ap Some c.in-Some-Takeover.field-0-is)) takes) is)

pub returns-in-Some-Takeover-clause-taken_whole : goal.returns-in-Some-Takeover-clause-taken_whole
returns-in-Some-Takeover-clause-taken_whole g c = λ port turns given takes is.
    c.takeover_status.ensures.whole given (given_so given _ _ port turns _ _ _ (same_takeover (command_of c.args.words.now) _ _ port turns (sym c.command_of.ensures.value ∙ (c.in-Some-Takeover.is ∙ ap Some c.in-Some-Takeover.field-0-is)) takes) is)
