-- The worked cases, computed.
use Rattle.std.proofs.Common.{◌≡◌, true, leb, List, [], ◌∷◌, length, sym, refl, subst, inr, arith, lit<, lit≤}
use Rattle.std.proofs.lemmas.Bool.{leb-true}
use Rattle.book.specs.declared.parts.Class.{Class}
use Rattle.book.specs.declared.parts.Node.{Node}
use Rattle.book.specs.Rules.{depth_of, atom_ok, body_ok, node_ok, heads_ok, WellFormed, Fault}
use Rattle.book.proofs.Tests.{holds_down, holds_by}
use Rattle.world.specs.Truth.{worth, evaluated}
use Rattle.world.specs.Worlds.{World, element_ok, element_at, most_elements}
use Rattle.world.specs.Test.{tested, Testable}
use Rattle.cases.specs.Book.{example_classes_lem, example_nodes_lem, rule_nodes, one_class, nested_nodes_lem}
use Rattle.cases.specs.Worked.{same_time, in_order, WorkedCases}
use Rattle.cases.specs.WorkedJudges.{WorkedJudgeCases}

pub example_made : WellFormed example_classes_lem example_nodes_lem
unfolding depth_of atom_ok body_ok node_ok heads_ok
example_made = (refl, holds_by 6 (node_ok example_classes_lem example_nodes_lem) refl)

pub rule_made : WellFormed example_classes_lem rule_nodes
unfolding depth_of atom_ok body_ok node_ok heads_ok
rule_made = (refl, holds_by 3 (node_ok example_classes_lem rule_nodes) refl)

five_made : WellFormed one_class (nested_nodes_lem (1 ∷ 1 ∷ 1 ∷ 1 ∷ 1 ∷ 0 ∷ []))
unfolding depth_of atom_ok body_ok node_ok heads_ok
five_made = (refl, holds_by 3 (node_ok one_class (nested_nodes_lem (1 ∷ 1 ∷ 1 ∷ 1 ∷ 1 ∷ 0 ∷ []))) refl)

six_refused : Fault one_class (nested_nodes_lem (1 ∷ 1 ∷ 1 ∷ 1 ∷ 1 ∷ 1 ∷ [])) 2
unfolding depth_of atom_ok body_ok node_ok heads_ok
six_refused =
    inr (
      refl,
      record {
        low = lit≤ tt;
        high = lit≤ tt;
        fails = refl;
        first = λ k lo hi. holds_by 1 (node_ok one_class (nested_nodes_lem (1 ∷ 1 ∷ 1 ∷ 1 ∷ 1 ∷ 1 ∷ []))) refl k lo (omega arith);
      },
    )

testable : (w : World) → leb (length w) most_elements ≡ true → holds_down (length w) (λ k. element_ok example_classes_lem (element_at w k)) ≡ true → Testable example_classes_lem w
testable w few each = record { few = leb-true (length w) most_elements few; each = holds_by (length w) (λ k. element_ok example_classes_lem (element_at w k)) each }

pub worked_cases_lem : WorkedCases
unfolding tested evaluated depth_of worth element_ok
worked_cases_lem = record {
  made = example_made;
  empty_world = (testable [] refl refl, refl, lit≤ tt);
  one_of_each = (testable same_time refl refl, refl, lit≤ tt);
  over_budget = (testable same_time refl refl, lit< tt);
  rule_made = rule_made;
  rule_kept = (testable in_order refl refl, refl, lit≤ tt);
  depth_five = five_made;
  depth_six = six_refused;
}

pub worked_judge_cases_lem : WorkedJudgeCases
worked_judge_cases_lem = record {
  odd_refuted = refl;
  modulus_one = refl;
  even_kept = refl;
  ring_refuted = refl;
  ring_kept = refl;
  sum_refuted = refl;
  sum_left = refl;
  sum_empty = refl;
}

pub lawful_at : (cs classes : List Class) (ns nodes : List Node) → cs ≡ classes → ns ≡ nodes → WellFormed classes nodes → WellFormed cs ns
lawful_at cs classes ns nodes p q ok = subst (λ xs. WellFormed xs ns) (sym p) (subst (λ ys. WellFormed classes ys) (sym q) ok)
