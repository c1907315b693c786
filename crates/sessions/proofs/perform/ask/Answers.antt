use Rattle.sessions.proofs.Performs.{one_call}
use Rattle.sessions.proofs.perform.ask.Goals as goal

pub returns-clause-did : goal.returns-clause-did
returns-clause-did g c = λ s k. let serve = c.serve-answer.ensures in let tell = c.tell.ensures in one_call _ _ s (serve.after s k) (serve.answer s k) tell.text tell.minted tell.fault
