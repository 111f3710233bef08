use Rattle.std.proofs.Common.{◌≡◌, Err, ap, ◌∙◌}
use Rattle.causes.specs.declared.cause.Cause.{Cause}
use Rattle.causes.specs.declared.cause.Cause.TheVariants.{BadWorld}
use Rattle.std.proofs.lemmas.Result.{err_from_is_err_and}
use Rattle.book.specs.Whole.{classes_of, nodes_of}
use Rattle.world.proofs.Meanings.{truth_laws}
use Rattle.world.proofs.Verdicts.{test_laws, answered_from}
use Rattle.world.proofs.testing.world_test.Goals as goal

pub returns-in_err-new : goal.returns-in_err-new
returns-in_err-new c =
    let b = c.args.book.now in
    let p = err_from_is_err_and c.from_residual.result c.from_residual.ensures.1 in
    let k = c.in_err-new.ensures in
    let e : c.from_residual.result ≡ Err (BadWorld k.0) = p.1 ∙ ap (λ (x : Cause). Err x) (p.2 ∙ k.1) in
    record {
      answer = rw e k.2;
      truth = truth_laws (classes_of b) (nodes_of b) b.rules.1;
      verdict = test_laws (classes_of b) (nodes_of b);
    }

pub returns : goal.returns
returns c =
    let b = c.args.book.now in
    let same = c.in_ok-new.ensures in
    let answered = answered_from c.in_ok-new.field-0 c.args.budget c.try_premises.result c.try_premises.ensures in
    record {
      answer = rw (same.0, same.1) at answered;
      truth = truth_laws (classes_of b) (nodes_of b) b.rules.1;
      verdict = test_laws (classes_of b) (nodes_of b);
    }
