use Rattle.std.proofs.Common.{rules}
use Rattle.std.proofs.lemmas.List.{take_more}
use Rattle.book.proofs.Performing.{performed_none, performed_more}
use Rattle.book.proofs.running.perform.Goals as goal

pub loop-call-init : goal.loop-call-init
loop-call-init g c = search (rules, performed_none)

pub loop-call-preserved : goal.loop-call-preserved
loop-call-preserved g c = search (rules, performed_more, take_more)
