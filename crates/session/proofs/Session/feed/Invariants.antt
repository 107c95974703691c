use Rattle.session.specs.Session.{session_of}
use Rattle.session.proofs.Feeding.{FedSoFar}
use Rattle.session.proofs.Session.feed.Given as goal

abbrev pub invariant-loop-read : goal.invariant-loop-read
invariant-loop-read l = FedSoFar (session_of l.initial.self l.initial.store) l.input l.initial.out l.read (session_of l.self l.store) l.out l.written
