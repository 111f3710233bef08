-- Scopes by their used slots, and tests that hold at each number.
use Rattle.std.proofs.Common.{◌≡◌, ℕ, zero, suc, ◌+◌, ◌<◌, ◌≤◌, Bool, true, false, ◌&&◌, List, [], ◌∷◌, length, take, drop, not, ◌==◌, refl, sym, ap, ◌∙◌, subst, ⊎_elim, arith}
use Rattle.std.proofs.lemmas.List.Sums.{prefix_len-le-length}
use Rattle.std.proofs.Math.Bool.{and_assoc}
use Rattle.std.proofs.Math.Numerals.{one-add}
use Rattle.std.specs.List.{list_all}
use Rattle.std.proofs.lemmas.Bool.{and_parts, both_ways, cases_lt}
use Rattle.std.proofs.lemmas.Bool.Decides.{nat_tests}
use Rattle.book.specs.Rules.{depth_of, is_empty, slots_ok, is_class, heads_ok, node_ok, WellFormed, Refused}
use Rattle.causes.specs.declared.cause.Cause.{Cause}
use Rattle.book.specs.Limits.{most_nodes}
use Rattle.book.specs.Lowest.{HoldsTo}
use Rattle.book.specs.declared.parts.Class.{Class}
use Rattle.book.specs.declared.parts.Node.{Node}

pub depth_le : (scope : List ℕ) → depth_of scope ≤ length scope
unfolding depth_of
depth_le scope = prefix_len-le-length (λ c. not (c == 0)) scope

-- a scope by its used slots and the rest
pub slots_split : (classes : List Class) (scope : List ℕ) → slots_ok classes scope ≡ (list_all (is_class classes) (take (depth_of scope) scope) && is_empty (drop (depth_of scope) scope))
unfolding depth_of
slots_split classes [] = refl
slots_split classes (c ∷ cs) = at (slots_split classes cs) (c == 0) refl
  where
    at : slots_ok classes cs ≡ (list_all (is_class classes) (take (depth_of cs) cs) && is_empty (drop (depth_of cs) cs)) → (b : Bool) → (c == 0) ≡ b → slots_ok classes (c ∷ cs) ≡ (list_all (is_class classes) (take (depth_of (c ∷ cs)) (c ∷ cs)) && is_empty (drop (depth_of (c ∷ cs)) (c ∷ cs)))
    at h true e = simp e
    at h false e = simp (e, one-add) (ap (λ b. is_class classes c && b) h ∙ sym (and_assoc (is_class classes c) _ _))

pub heads_few : (classes : List Class) (nodes : List Node) → heads_ok classes nodes ≡ true → length nodes ≤ most_nodes
unfolding heads_ok
heads_few classes nodes h = grind (arith, nat_tests)

-- a test that holds at each number to i, and at the next
pub holds_more : (i : ℕ) (test : ℕ → Bool) → HoldsTo i test → test (i + 1) ≡ true → HoldsTo (i + 1) test
holds_more i test h here k low high =
    ⊎_elim (λ (l : k < i + 1). h k low (omega arith)) (λ (g : i + 1 ≤ k). let e : i + 1 ≡ k = omega arith in subst (λ n. test n ≡ true) e here) (cases_lt k (i + 1))

-- a test that is computed at each number from count down to 1
abbrev pub holds_down : ℕ → (ℕ → Bool) → Bool
holds_down zero test = true
holds_down (suc k) test = test (suc k) && holds_down k test

pub holds_by : (count : ℕ) (test : ℕ → Bool) → holds_down count test ≡ true → HoldsTo count test
holds_by zero test h k low high = absurd (omega arith)
holds_by (suc n) test h k low high =
    let p = and_parts (test (suc n)) (holds_down n test) h in
    ⊎_elim
    (λ (l : k < suc n). holds_by n test p.1 k low (omega arith))
    (λ (g : suc n ≤ k). let e : suc n ≡ k = omega arith in subst (λ m. test m ≡ true) e p.0)
    (cases_lt k (suc n))

-- a book is granted or refused, never both
pub never_both : (classes : List Class) (nodes : List Node) (e : Cause) → WellFormed classes nodes → Refused classes nodes e → ⊥
never_both classes nodes e ok refused =
    ⊎_elim
    (λ h. both_ways (heads_ok classes nodes) h.0 ok.0)
    (λ h. both_ways (node_ok classes nodes refused.0) h.1.fails (ok.1 refused.0 h.1.low h.1.high))
    refused.2
