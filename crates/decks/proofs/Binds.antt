-- Every check that stands on a desk binds, whatever lines came.
use Rattle.std.proofs.Common.{◌≡◌, ℕ, List, Ok, Err, Option, Result, sym, refl, subst}
use Rattle.layers.specs.declared.pile.Pile.{Pile}
use Rattle.layers.specs.PileMeanings.{pile_meaning}
use Rattle.layers.proofs.Laws.{pile_usable}
use Rattle.ledger.specs.Ledger.{Ledger}
use Rattle.ledger.specs.declared.refusal.Refusal.{Refusal}
use Rattle.book.specs.declared.calls.Call.{Call}
use Rattle.book.specs.declared.calls.Call.TheVariants as call
use Rattle.book.specs.declared.calls.Answer.{Answer}
use Rattle.book.specs.Standing.{Standing}
use Rattle.book.specs.Steps.{Step}
use Rattle.book.proofs.Laws.{stays}
use Rattle.cards.specs.declared.card.Card.{Card}
use Rattle.cards.specs.declared.card.Card.TheVariants as card
use Rattle.cards.specs.declared.card.CardFault.{CardFault}
use Rattle.cards.specs.Cards.{card_of}
use Rattle.decks.specs.declared.fault.Fault.{Fault}
use Rattle.decks.specs.declared.output.CheckLine.{CheckLine}
use Rattle.decks.specs.Desks.{Desk, closed, kept_by}
use Rattle.decks.specs.Sessions.{is_desk_open, Performs, on_card}
use Rattle.decks.specs.Responses.{Reads, end, next, Binding}

same : (d e : Desk) → e ≡ d → Binding d → Binding e
same d e is b = subst Binding (sym is) b

stepped : (p : Pile) (l k : Ledger) (e : Desk) → e ≡ kept_by p k → Standing (pile_meaning p) l → (c : Call) (a : Result Answer Refusal) → Step (pile_meaning p) l c a k → Binding e
stepped p l k e is s c a t = same (kept_by p k) e is (stays (pile_meaning p) (pile_usable p) l k s c a t)

performed : (d : Desk) (c : Card) (r : Result (Option CheckLine) Fault) (e : Desk) → Performs d c r e → Binding d → Binding e
performed closed (card.Pile n) (Ok x) e (_, _, p, _, is) b = same (kept_by p _) e is tt
performed closed (card.Pile n) (Err f) e (_, _, _, is) b = same closed e is b
performed closed (card.Joint j f) r e (_, is) b = same closed e is b
performed closed (card.Brace j n f) r e (_, is) b = same closed e is b
performed closed (card.Force j n f) r e (_, is) b = same closed e is b
performed closed (card.Check j n) r e (_, is) b = same closed e is b
performed (kept_by p l) (card.Pile n) r e (_, is) b = same (kept_by p l) e is b
performed (kept_by p l) (card.Joint j f) r e (k, q, s, _, is) b = stepped p l k e is b (call.Enter j f) _ (q, refl, s)
performed (kept_by p l) (card.Brace j n f) r e (k, q, s, _, is) b = stepped p l k e is b (call.Add j n f) _ (q, refl, s)
performed (kept_by p l) (card.Force j n f) r e (k, q, s, _, is) b = stepped p l k e is b (call.Load j n f) _ (q, refl, s)
performed (kept_by p l) (card.Check j n) r e (k, q, s, _, is) b = stepped p l k e is b (call.Check j n) _ (q, refl, s)

taken : (d : Desk) (o : Result Card CardFault) (r : Result (Option CheckLine) Fault) (e : Desk) → on_card d o r e → Binding d → Binding e
taken d (Ok c) r e t b = performed d c r e t b
taken d (Err f) r e (_, is) b = same d e is b

pub reads_bind : {d e : Desk} {n : ℕ} {ls : List (List ℕ)} {t : List ℕ} → Reads d n ls t e → Binding d → Binding e
reads_bind (end {d} {e} is) b = same d e is b
reads_bind (next {d} {e} {l = l} r t _ more) b = reads_bind more (taken d (card_of (is_desk_open d) l) r e t b)
