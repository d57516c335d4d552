-- The desk that cards are laid on.
--
--     Desk     closed until a pile is accepted; then kept by the pile, with a ledger
--
-- Assumes nothing.
use Rattle.layers.specs.declared.pile.Pile.{Pile}
use Rattle.ledger.specs.Ledger.{Ledger}

pub data Desk : Type 0 where
  closed : Desk
  kept_by : Pile → Ledger → Desk
