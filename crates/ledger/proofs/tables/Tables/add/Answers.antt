use Rattle.std.proofs.Common.{◌≡◌, Ok, refl, ap, ◌∙◌, subst, arith, rules}
use Rattle.std.proofs.lemmas.Bool.{lt-leb}
use Rattle.records.specs.Limits.{IsBrace}
use Rattle.ledger.specs.Ledger.{holding, numbers_from, misfit_cause, Added}
use Rattle.ledger.proofs.Steps.{passed, numbered, add_outside, add_taken, add_nowhere, add_full, add_crowded, add_limits}
use Rattle.ledger.proofs.tables.Tables.add.Goals as goal

pub returns-in_err-n : goal.returns-in_err-n
returns-in_err-n c =
    passed _ (Added c.args.joint c.args.brace c.args.figures (holding c.args.self.now) (holding c.args.self.now)) (holding c.args.self.now) _ _ c.from_residual.ensures.1
    (add_outside c.args.joint c.args.brace c.args.figures (holding c.args.self.now) c.in_err-n.field-0.0 (search rules))

pub returns-then-is_ok : goal.returns-then-is_ok
returns-then-is_ok c = (add_taken c.args.joint c.args.brace c.args.figures (holding c.args.self.now) c.in_ok-n.n c.in_ok-n.number (search rules) (search rules), refl)

pub returns-in_err-i : goal.returns-in_err-i
returns-in_err-i c =
    passed _ (Added c.args.joint c.args.brace c.args.figures (holding c.args.self.now) (holding c.args.self.now)) (holding c.args.self.now) _ _ c.from_residual-in_err-i.ensures.1
    (add_nowhere c.args.joint c.args.brace c.args.figures (holding c.args.self.now) c.in_ok-n.n c.in_ok-n.number (search rules) (search rules) c.in_err-i.ensures.found.0 ∙ search rules)

pub returns-then-len-ge-MOST_BRACES : goal.returns-then-len-ge-MOST_BRACES
returns-then-len-ge-MOST_BRACES c =
    (add_full c.args.joint c.args.brace c.args.figures (holding c.args.self.now) c.in_ok-n.n c.in_ok-n.number (search rules) (search rules) c.in_ok-i.i c.in_ok-i.ensures.found (search rules), refl)

pub returns-then-count_at-ge-MOST_BRACES_AT_JOINT : goal.returns-then-count_at-ge-MOST_BRACES_AT_JOINT
returns-then-count_at-ge-MOST_BRACES_AT_JOINT c =
    (add_crowded c.args.joint c.args.brace c.args.figures (holding c.args.self.now) c.in_ok-n.n c.in_ok-n.number (search rules) (search rules) c.in_ok-i.i c.in_ok-i.ensures.found (search rules) (search rules), refl)

pub returns-in_err-figures : goal.returns-in_err-figures
returns-in_err-figures c =
    let same = ap (λ x. x.chord) (c.index.ensures ∙ c.in_ok-i.ensures.found.here _) in
    let why = add_limits c.args.joint c.args.brace c.args.figures (holding c.args.self.now) c.in_ok-n.n c.in_ok-n.number (search rules) (search rules) c.in_ok-i.i c.in_ok-i.ensures.found (search rules) (search rules) c.index.result.now.chord same in
    passed _ (Added c.args.joint c.args.brace c.args.figures (holding c.args.self.now) (holding c.args.self.now)) (holding c.args.self.now) _ _ c.from_residual-in_err-figures.ensures.1
    (why ∙ ap misfit_cause c.in_err-figures.ensures.fault)

pub returns : goal.returns
returns c =
    let numbers : numbers_from c.args.joint c.args.brace ≡ Ok (c.in_ok-n.n, c.in_ok-n.number) = search rules in
    let under = c.if-len-ge-MOST_BRACES.false in
    let counted = c.len.ensures in
    let long = c.args.self.now.braces.ok.0 in
    let fewer = c.if-count_at-ge-MOST_BRACES_AT_JOINT.false in
    let found = c.count_at.ensures in
    let same = ap (λ x. x.chord) (c.index.ensures ∙ c.in_ok-i.ensures.found.here _) in
    let why = add_limits c.args.joint c.args.brace c.args.figures (holding c.args.self.now) c.in_ok-n.n c.in_ok-n.number numbers (search rules) c.in_ok-i.i c.in_ok-i.ensures.found (lt-leb _ _ (omega (arith, under, counted, long))) (lt-leb _ _ (omega (arith, fewer, found))) c.index.result.now.chord same in (
      why ∙ ap misfit_cause c.in_ok-figures.ensures.fault,
      record {
        joint = c.in_ok-n.n;
        number = c.in_ok-n.number;
        stands = c.in_ok-i.ensures.found.held;
        figures = c.in_ok-figures.figures;
        joint_numbered = (numbered c.args.joint c.args.brace _ _ numbers).0;
        numbered = (numbered c.args.joint c.args.brace _ _ numbers).1;
        at = c.in_ok-i.ensures.found.there;
        is = subst (λ z. IsBrace c.in_ok-figures.figures z c.args.figures) same c.in_ok-figures.ensures.is;
        joints = refl;
        braces = c.push_reserved.ensures.items;
      },
    )
