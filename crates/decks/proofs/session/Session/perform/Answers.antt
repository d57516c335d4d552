use Rattle.decks.proofs.Turning.{opens}
use Rattle.decks.proofs.session.Session.perform.Goals as goal

pub returns-in_ok-opened-in-None-Pile : goal.returns-in_ok-opened-in-None-Pile
returns-in_ok-opened-in-None-Pile c =
    opens c.args.self.now.book c.args.card c.in-None-Pile.numbers c.in_ok-opened-in-None-Pile.field-0 c.opened.result c.in-None-Pile.is-0 c.in-None-Pile.is-1 c.opened.ensures c.in_ok-opened-in-None-Pile.was
