-- The worked cases of judges: what their definitions say of small rows, by computation.
use Rattle.std.specs.Prelude.{◌≡◌, [], ◌∷◌, pos, negsuc, Ok, Err}
use Rattle.rows.specs.declared.cause.JudgeCause.TheVariants.{BadVoucher, UnknownsLeft, NoConflict}
use Rattle.judges.specs.Chain.{chain_answer}
use Rattle.judges.specs.Residue.{residue_answer}
use Rattle.cases.specs.Judges.{example_answer, opposed_rows, doubled, own_ring}

pub record WorkedJudgeCases : Type 0 where
  -- 2 divides 2u, and not 1
  pub odd_refuted : residue_answer (doubled (negsuc 0)) (pos 2 ∷ pos 1 ∷ []) ≡ Ok tt
  pub modulus_one : residue_answer (doubled (negsuc 0)) (pos 1 ∷ pos 1 ∷ []) ≡ Err BadVoucher
  pub even_kept : residue_answer (doubled (negsuc 1)) (pos 2 ∷ pos 1 ∷ []) ≡ Err NoConflict
  -- no number is below itself
  pub ring_refuted : chain_answer (own_ring (negsuc 0)) [] ≡ Ok tt
  pub ring_kept : chain_answer (own_ring (pos 0)) [] ≡ Err NoConflict
  -- the example judge, its sum picked
  pub sum_refuted : example_answer opposed_rows (pos 0 ∷ pos 1 ∷ pos 1 ∷ []) ≡ Ok tt
  pub sum_left : example_answer opposed_rows (pos 0 ∷ pos 1 ∷ pos 0 ∷ []) ≡ Err UnknownsLeft
  pub sum_empty : example_answer opposed_rows (pos 0 ∷ pos 0 ∷ pos 0 ∷ []) ≡ Err NoConflict
