use Rattle.std.proofs.Common.{sym, ◌∙◌}
use Rattle.cards.proofs.Rejoined.{written, read_back}
use Rattle.cards.proofs.reading.read.Goals as goal

pub returns : goal.returns
returns c = record {
  is = c.parse.ensures;
  written = λ card e. written c.args.ready card c.args.line.now (sym c.parse.ensures ∙ e);
  accepted = λ card h e. c.parse.ensures ∙ read_back c.args.ready card c.args.line.now h e;
}
