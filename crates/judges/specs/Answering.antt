-- The answer by tests is the answer by conditions, where each test decides its condition.
use Rattle.std.specs.Prelude.{◌≡◌, ◌<◌, Bool, true, false, T, is_ok, Ok, Err, Decides, refl}
use Rattle.std.proofs.Common.{arith}
use Rattle.std.proofs.lemmas.Bool.{both_ways}
use Rattle.rows.specs.Causes.{judge_cause_number}
use Rattle.rows.specs.declared.cause.JudgeCause.{JudgeCause}
use Rattle.rows.specs.declared.cause.JudgeCause.TheVariants.{TooManyRows, BadVoucher, BadShape, UnknownsLeft, NoConflict}
use Rattle.judges.specs.Judging.{Answer, Judged, tried, answer_of}

fails : (P : Type 0) → Decides false P → P → ⊥
fails P d p = both_ways false refl (d.1 p)

module _ (asks : JudgeCause → Type 0) where
  module _ (a : Bool) (A : Decides a (asks TooManyRows)) (b : Bool) (B : Decides b (asks BadVoucher)) (c : Bool) (C : Decides c (asks BadShape)) where
    before : (f : JudgeCause) (n : JudgeCause) → a ≡ true → (judge_cause_number BadVoucher < judge_cause_number n → b ≡ true) → (judge_cause_number BadShape < judge_cause_number n → c ≡ true) → (judge_cause_number UnknownsLeft < judge_cause_number n → asks UnknownsLeft) → judge_cause_number n < 6 → judge_cause_number f < judge_cause_number n → asks f
    before TooManyRows n h i j k m l = A.0 h
    before BadVoucher n h i j k m l = B.0 (i l)
    before BadShape n h i j k m l = C.0 (j l)
    before UnknownsLeft n h i j k m l = k l
    before NoConflict n h i j k m l = absurd (omega arith)

  chosen : (a b c d e : Bool) → Decides a (asks TooManyRows) → Decides b (asks BadVoucher) → Decides c (asks BadShape) → Decides d (asks UnknownsLeft) → Decides e (asks NoConflict) →
      Judged asks (tried a TooManyRows (tried b BadVoucher (tried c BadShape (tried d UnknownsLeft (tried e NoConflict (Ok tt))))))
  chosen false b c d e A B C D E = (λ f l. absurd (lowest f l), fails (asks TooManyRows) A)
    where
      lowest : (f : JudgeCause) → judge_cause_number f < 1 → ⊥
      lowest TooManyRows l = omega arith
      lowest BadVoucher l = omega arith
      lowest BadShape l = omega arith
      lowest UnknownsLeft l = omega arith
      lowest NoConflict l = omega arith
  chosen true false c d e A B C D E = (λ f l. before true A false B c C f BadVoucher refl (λ m. absurd (omega arith)) (λ m. absurd (omega arith)) (λ m. absurd (omega arith)) (omega arith) l, fails (asks BadVoucher) B)
  chosen true true false d e A B C D E = (λ f l. before true A true B false C f BadShape refl (λ m. refl) (λ m. absurd (omega arith)) (λ m. absurd (omega arith)) (omega arith) l, fails (asks BadShape) C)
  chosen true true true false e A B C D E = (λ f l. before true A true B true C f UnknownsLeft refl (λ m. refl) (λ m. refl) (λ m. absurd (omega arith)) (omega arith) l, fails (asks UnknownsLeft) D)
  chosen true true true true false A B C D E = (λ f l. before true A true B true C f NoConflict refl (λ m. refl) (λ m. refl) (λ m. D.0 refl) (omega arith) l, fails (asks NoConflict) E)
  chosen true true true true true A B C D E = all
    where
      all : (e : JudgeCause) → asks e
      all TooManyRows = A.0 refl
      all BadVoucher = B.0 refl
      all BadShape = C.0 refl
      all UnknownsLeft = D.0 refl
      all NoConflict = E.0 refl

  judged : (passes : JudgeCause → Bool) → ((e : JudgeCause) → Decides (passes e) (asks e)) → Judged asks (answer_of passes)
  judged passes d =
      chosen (passes TooManyRows) (passes BadVoucher) (passes BadShape) (passes UnknownsLeft) (passes NoConflict) (d TooManyRows) (d BadVoucher) (d BadShape) (d UnknownsLeft) (d NoConflict)

  -- a yes says that every condition holds
  all_asked : (r : Answer) → Judged asks r → T (is_ok r) → (e : JudgeCause) → asks e
  all_asked (Ok x) h k = h
  all_asked (Err e) h k = elim k [ ]

-- what a named judge promises of its answer
module _ (asks : JudgeCause → Type 0) (passes : JudgeCause → Bool) (d : (e : JudgeCause) → Decides (passes e) (asks e)) where
  pub by_rule : (r : Answer) → r ≡ answer_of passes → Judged asks r
  by_rule r is = rw is (judged asks passes d)

  -- what it admits, by its conditions
  pub asked : T (is_ok (answer_of passes)) → (e : JudgeCause) → asks e
  asked h = all_asked asks (answer_of passes) (judged asks passes d) h
