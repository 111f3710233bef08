-- How the test goes from premise to premise: what is left tells the whole.
use Rattle.std.proofs.Common.{◌≡◌, ℕ, ◌+◌, ◌-◌, ◌<◌, ◌≤◌, true, false, cond, not, List, [], ◌∷◌, length, get_or, drop, Ok, sym, ap, ◌∙◌, zero-le, zero-add, add_assoc, arith}
use Rattle.std.proofs.lemmas.List.{at_drop_more}
use Rattle.std.proofs.lemmas.Bool.{not-true, not-false}
use Rattle.std.proofs.lemmas.Bool.Decides.{nat_tests}
use Rattle.book.specs.Limits.{most_nodes}
use Rattle.book.specs.Rules.{no_node, heads_ok}
use Rattle.book.specs.Whole.{nodes_of}
use Rattle.book.specs.declared.parts.Node.{Node}
use Rattle.world.specs.Worlds.{world_of}
use Rattle.world.specs.Test.{then_rest, tested_from, tested}
use Rattle.world.specs.Inner.{values_at, Told, GivenWithin}
use Rattle.world.specs.Trials.{evaluated_in, tested_in}
use Rattle.world.specs.declared.elements.Trial.{Trial}
use Rattle.world.proofs.Walks.{told_ok}
use Rattle.world.specs.declared.parts.Answer.{Answer}
use Rattle.world.specs.declared.parts.Evaluation.{Evaluation}
use Rattle.world.specs.declared.parts.Verdict.TheVariants.{No}

-- an answer after some visits
abbrev pub later : ℕ → Answer → Answer
later visits o = record { verdict = o.verdict; visits = visits + o.visits }

-- what the premises from place i on say
abbrev pub rest_from : Trial → ℕ → Answer
rest_from t i = tested_from (nodes_of t.book.now) (world_of t.log.now) (i + 1) (drop i (nodes_of t.book.now))

abbrev no_slots : List ℕ
no_slots = 0 ∷ 0 ∷ 0 ∷ 0 ∷ 0 ∷ 0 ∷ []

pub record Gone (t : Trial) (i budget visits : ℕ) : Type 0 where
  pub within : visits ≤ budget
  pub so_far : tested_in t ≡ later visits (rest_from t i)

pub gone_none : (t : Trial) (budget : ℕ) → Gone t 0 budget 0
unfolding tested
gone_none t budget = record { within = zero-le; so_far = simp zero-add }

rest_least : (n : ℕ) (o : Evaluation) (rest : Answer) → o.visits ≤ (then_rest n o rest).visits
rest_least n o rest = grind arith

pub few_nodes : (t : Trial) {ns : List Node} → ns ≡ nodes_of t.book.now → length ns ≤ most_nodes
unfolding heads_ok
few_nodes t same = let h = t.book.now.rules.0 in rw same (grind (arith, nat_tests))

-- ns is the table that the code reads
module _ {t : Trial} {i budget visits : ℕ} (at : Gone t i budget visits) {ns : List Node} (same : ns ≡ nodes_of t.book.now) where
  -- what the node at place i says
  abbrev said : Evaluation
  said = evaluated_in t (i + 1) no_slots

  abbrev tail : Answer
  tail = rest_from t (i + 1)

  abbrev from_here : List Node → Answer
  from_here xs = tested_from (nodes_of t.book.now) (world_of t.log.now) (i + 1) xs

  module _ (l : i < length ns) where
    next : tested_in t ≡ later visits (cond (get_or ns i no_node).premise (then_rest (i + 1) said tail) tail)
    unfolding values_at
    next = rw same (at.so_far ∙ ap (later visits) (at_drop_more from_here (nodes_of t.book.now) i no_node (rw same at l)))

    pub gone_skips : (get_or ns i no_node).premise ≡ false → Gone t (i + 1) budget visits
    gone_skips h = record { within = at.within; so_far = next ∙ simp h }

    module _ (marked : (get_or ns i no_node).premise ≡ true) where
      met : tested_in t ≡ later visits (then_rest (i + 1) said tail)
      met = next ∙ simp marked

      pub gone_over : budget - visits < said.visits → budget < (tested_in t).visits
      gone_over h = rw met (omega (arith, rest_least (i + 1) said tail))

      module _ {b : Evaluation} (told : Told (budget - visits) said (Ok b)) where
        after : tested_in t ≡ later visits (then_rest (i + 1) b tail)
        after = met ∙ ap (λ o. later visits (then_rest (i + 1) o tail)) (sym told.0)

        fits : visits + b.visits ≤ budget
        fits = let e : b.visits ≤ budget - visits = rw told.0 told.1 in omega (arith, at.within)

        pub gone_stops : not b.truth ≡ true → GivenWithin budget (tested_in t) (Ok (record { verdict = No (i + 1); visits = visits + b.visits }))
        gone_stops h = told_ok (λ (x : Answer). x.visits) (after ∙ simp (not-true b.truth h)) fits

        pub gone_goes : not b.truth ≡ false → Gone t (i + 1) budget (visits + b.visits)
        gone_goes h = record { within = fits; so_far = after ∙ simp (not-false b.truth h, add_assoc) }
