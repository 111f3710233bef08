-- A node of the book, as the code finds it.
use Rattle.std.proofs.Common.{◌≡◌, ℕ, ◌^◌, ◌<◌, eqb, List, ℤ, pos, negsuc, Result, sym, refl, subst, arith, w64, of_z}
use lib.Signed.{mag}
use Rattle.std.proofs.lemmas.Bool.Decides.{nat_tests}
use Rattle.causes.specs.declared.cause.Cause.{Cause}
use Rattle.book.specs.Rules.{depth_of, node_at}
use Rattle.book.specs.Whole.{classes_of, nodes_of}
use Rattle.book.specs.declared.parts.Formula.{Formula}
use Rattle.book.specs.declared.parts.Node.{Node}
use Rattle.world.specs.Worlds.{world_of}
use Rattle.world.specs.Truth.{said, evaluated, is_zero}
use Rattle.world.specs.Inner.{Told}
use Rattle.world.specs.Trials.{Known, env_in, evaluated_in}
use Rattle.world.specs.declared.elements.Trial.{Trial}
use Rattle.world.specs.declared.parts.Evaluation.{Evaluation}
use Rattle.world.proofs.Nodes.{Before, Sound, sound_at, evaluated_is}

-- ns is the table that the code reads
module _ {t : Trial} {n : ℕ} (known : Known t n) {ns : List Node} (same : ns ≡ nodes_of t.book.now) {f : Formula} (is : (node_at ns n).formula ≡ f) where
  here : (node_at (nodes_of t.book.now) n).formula ≡ f
  here = rw same at is

  pub arm_sound : Sound n (depth_of (node_at (nodes_of t.book.now) n).scope) f
  arm_sound = sound_at (classes_of t.book.now) (nodes_of t.book.now) t.book.now.rules.1 n known.low known.high here

  pub arm_says : (slots : List ℕ) → evaluated_in t n slots ≡ said (evaluated (nodes_of t.book.now) (world_of t.log.now)) (world_of t.log.now) (depth_of (node_at (nodes_of t.book.now) n).scope) (env_in t slots) f
  arm_says slots = evaluated_is (classes_of t.book.now) (nodes_of t.book.now) t.book.now.rules.1 (world_of t.log.now) n known.low known.high (env_in t slots) here

pub known_before : {t : Trial} {n k : ℕ} → Known t n → Before n k → Known t k
known_before known p = record { low = p.0; high = omega (arith, known.high, p.1) }

pub told_by : (budget : ℕ) {o p : Evaluation} (r : Result Evaluation Cause) → o ≡ p → Told budget p r → Told budget o r
told_by budget r e t = subst (λ o. Told budget o r) (sym e) t

pub zero_bits : (z : ℤ) → mag z < 2 ^ 63 → eqb (of_z w64 z) 0 ≡ is_zero z
zero_bits (pos n) h = refl
zero_bits (negsuc n) h = grind (arith, nat_tests)
