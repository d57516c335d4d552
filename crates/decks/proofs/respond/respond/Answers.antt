use Rattle.std.proofs.Common.{◌++◌, string_bytes, ap, ◌∙◌, arith}
use Rattle.layers.proofs.Laws.{pile_usable}
use Rattle.cards.specs.Readers.{left, seen}
use Rattle.decks.specs.Sessions.{desk_of}
use Rattle.decks.proofs.Following.{sofar_none, sofar_more, deck_whole}
use Rattle.decks.proofs.respond.respond.Goals as goal

pub loop-line-init : goal.loop-line-init
loop-line-init c =
    let it = c.into_iter-line-iterator.result in
    let is = c.into_iter-line-iterator.ensures.into_iter_gives in
    let input = c.args.input.now in
    let begins = c.lines-line-items.ensures in
    (tt, tt, sofar_none input (left it) _ (seen it) _ (ap left is ∙ begins.1) c.new-out.ensures.bytes (ap seen is ∙ begins.2) c.new-session.ensures)

pub loop-line-preserved : goal.loop-line-preserved
loop-line-preserved c =
    let came = c.in-Some.ensures.steps in
    let said = c.in_ok-text.ensures in (
      tt,
      tt,
      sofar_more c.args.input.now (left c.loop-line.line-iterator) (left c.next.new.self) (string_bytes c.loop-line.out) (string_bytes c.push_str.new.self) (seen c.loop-line.line-iterator) (seen c.next.new.self) c.in-Some.line.number (desk_of c.loop-line.session) (desk_of c.answer.new.self) c.in-Some.line.bytes.now said.0 c.loop-line.invariant.2 came.first came.number came.count said.1
          (c.in_ok-push_str.ensures.bytes ∙ ap (λ x. string_bytes c.loop-line.out ++ x) (c.as_str.ensures.value ∙ said.2)),
    )

pub returns : goal.returns
returns c = record {
  deck = λ _.
      deck_whole c.args.input.now (left c.loop-line.line-iterator) (string_bytes c.loop-line.out) (string_bytes c.in_ok-last.last) _ (seen c.loop-line.line-iterator) (desk_of c.loop-line.session) c.loop-line.invariant.2 c.in-None.ensures.steps.0 c.in_ok-last.ensures
      (c.in_ok-push_str-2.ensures.bytes ∙ ap (λ x. string_bytes c.loop-line.out ++ x) c.as_str-2.ensures.value);
  much = λ h. absurd (omega arith);
  usable = pile_usable;
}
