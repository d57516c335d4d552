-- What a card comes to on a desk.
use Rattle.std.proofs.Common.{◌≡◌, ℤ, IsErrAnd, None, Ok, Err, Option, Result, sym, refl, ap, ◌∙◌}
use Rattle.records.specs.declared.limits.BraceFigures.{BraceFigures}
use Rattle.verdicts.specs.declared.forces.ForceFigures.{ForceFigures}
use Rattle.layers.specs.declared.pile.Pile.{Pile}
use Rattle.ledger.specs.Ledger.{Adds, Loads}
use Rattle.ledger.specs.declared.refusal.Refusal.{Refusal}
use Rattle.book.specs.declared.book.Book.{Book}
use Rattle.book.specs.Steps.{ledger_of}
use Rattle.cards.specs.declared.card.PileNumbers.{PileNumbers}
use Rattle.cards.specs.declared.card.Card.{Card}
use Rattle.cards.specs.declared.card.Card.TheVariants.{Brace, Force, Pile as PileCard}
use Rattle.decks.specs.declared.output.CheckLine.{CheckLine}
use Rattle.decks.specs.declared.fault.Fault.{Fault}
use Rattle.decks.specs.declared.fault.Fault.TheVariants.{Book as OfBook}
use Rattle.decks.specs.declared.fault.Stop.{Stop}
use Rattle.decks.specs.Desks.{kept_by}
use Rattle.decks.specs.Sessions.{desk_with, told, quiet, Opening, Performs}

refused : {T : Type 0} (show : T → Option CheckLine) (q : Result T Refusal) (e : Refusal) (r : Result (Option CheckLine) Fault) → q ≡ Err e → IsErrAnd r (λ x. x ≡ OfBook e) → r ≡ told show q
refused show q e (Ok x) p h = absurd h
refused show q e (Err x) p h = ap Err h ∙ sym (ap (told show) p)

module _ (b a : Book Pile) (c : Card) (j n : ℤ) (q : Result (Unit {0}) Refusal) (same : a.edition ≡ b.edition) where
  pub add_refused : (f : BraceFigures) (e : Refusal) (r : Result (Option CheckLine) Fault) → c ≡ Brace j n f → Adds j n f (ledger_of b) (ledger_of a) q → q ≡ Err e → IsErrAnd r (λ x. x ≡ OfBook e)
      → Performs (kept_by b.edition (ledger_of b)) c r (kept_by a.edition (ledger_of a))
  add_refused f e r is adds was h = rw is (ledger_of a, q, adds, refused quiet q e r was h, ap (λ p. kept_by p (ledger_of a)) same)

  pub loaded : (f : ForceFigures) (x : Unit {0}) → c ≡ Force j n f → Loads j n f (ledger_of b) (ledger_of a) q → q ≡ Ok x → Performs (kept_by b.edition (ledger_of b)) c (Ok None) (kept_by a.edition (ledger_of a))
  loaded f x is loads was = rw is (ledger_of a, q, loads, sym (ap (told quiet) was), ap (λ p. kept_by p (ledger_of a)) same)

pub opens : (o : Option (Book Pile)) (c : Card) (n : PileNumbers) (b : Book Pile) (r : Result (Book Pile) Stop) → o ≡ None → c ≡ PileCard n → Opening n r → r ≡ Ok b → Performs (desk_with o) c (Ok None) (kept_by b.edition (ledger_of b))
opens o c n b r is card h was =
    let made = rw was at h in
    rw (is, card) (refl, made.0, b.edition, made.1, ap (λ l. kept_by b.edition l) made.2)
