-- The numbers of refusals for a pile's figures.
--
--     pile_number f    the number of a refusal for a pile's figure
--     pile_field f     the field that it names: 2 the edition, 3 the divisor, 4 the can
--
-- Assumes nothing.
use Rattle.std.specs.Prelude.{ℕ}
use Rattle.layers.specs.declared.pile_fault.PileFault.{PileFault}
use Rattle.layers.specs.declared.pile_fault.PileFault.TheVariants.{Edition, Divisor, Can}

abbrev pub pile_number : PileFault → ℕ
pile_number Edition = 7
pile_number Divisor = 7
pile_number Can = 7

abbrev pub pile_field : PileFault → ℕ
pile_field Edition = 2
pile_field Divisor = 3
pile_field Can = 4
