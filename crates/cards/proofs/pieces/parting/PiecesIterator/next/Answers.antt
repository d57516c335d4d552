use Rattle.std.proofs.Common.{◌≡◌, ℕ, ◌+◌, Bool, true, false, List, ◌∷◌, length, take, drop, sym, refl, ap, ◌∙◌, ⊎_elim, length-drop, arith, rules}
use Rattle.std.proofs.str.Laws.{order}
use Rattle.std.proofs.lemmas.List.{length-take-le, take_rest}
use Rattle.cards.specs.Pieces.{pieces_from}
use Rattle.cards.proofs.Cuts.{piece_step, front_again}
use Rattle.cards.proofs.pieces.parting.PiecesIterator.next.Goals as goal
use Rattle.cards.proofs.pieces.parting.PiecesIterator.next.Goals.{else-is_empty-via-then-is_empty+else-not-self, else-is_empty-via-else-is_empty}

pub returns : goal.returns
returns c =
    let reader = c.args.self.now in
    let all = reader.bytes.now in
    let rest = c.in_ok-rest.rest.now in
    let n = c.until-n.result in
    let told = c.until-n.ensures in
    let is : rest ≡ drop reader.at all = c.in_ok-rest.ensures.lookup.0.2 ∙ take_rest all reader.at in
    let some : length rest ≡ 0 → reader.last ≡ true = λ e. elim c.else-is_empty.branch [ else-is_empty-via-then-is_empty+else-not-self w ↦ search rules | else-is_empty-via-else-is_empty w ↦ search rules ] in
    let first : pieces_from reader.mark reader.last all reader.at ≡ take n rest ∷ pieces_from reader.mark reader.last all (reader.at + (n + 1)) =
    piece_step reader.mark reader.last all reader.at n _ is (omega arith) some told.within told.before told.found in
    record {
      steps = record {
        first = first;
        begins = refl;
        place = front_again _ n told.within ∙ ap (λ (x : List ℕ). take (length (take n rest)) x) is;
        number = refl;
        count = refl;
        same = refl;
        behind = omega (arith, length-take-le n rest told.within);
        alike = (refl, refl);
        shorter = λ e. ⊎_elim
            (λ lt. omega (arith, lt, ap length is, length-drop reader.at all, length-drop (reader.at + (n + 1)) all))
            (λ ge. let no : ◌≡◌ {A = Bool} true false = sym (some (omega (arith, ge))) ∙ e in cc)
            (order 0 (length rest));
      };
      goes = record { on = λ _. (tt, tt, omega (arith, ap length first)); keeps = tt; rests = λ _. tt };
    }
