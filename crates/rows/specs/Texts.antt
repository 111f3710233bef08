-- Rows and causes as text.
use Rattle.std.specs.Prelude.{ℕ, Bool, true, false, cond, List, [], ◌∷◌, ◌++◌, ℤ, pos, codes, decimal, ◌==◌, int_lt, unsigned_abs}
use Rattle.std.specs.Fmt.{signed_decimal}
use Rattle.std.specs.List.{flat_map}
use Rattle.rows.specs.Meaning.{terms_of}
use Rattle.rows.specs.Causes.{judge_cause_number}
use Rattle.rows.specs.declared.cause.JudgeCause.{JudgeCause}
use Rattle.rows.specs.declared.cause.JudgeCause.TheVariants.{TooManyRows, BadVoucher, BadShape, UnknownsLeft, NoConflict}
use Rattle.rows.specs.declared.row.Unknown.{Unknown}
use Rattle.rows.specs.declared.row.Term.{Term}
use Rattle.rows.specs.declared.row.Relation.{Relation}
use Rattle.rows.specs.declared.row.Relation.TheVariants.{AtLeast, Equal}
use Rattle.rows.specs.declared.row.Row.{Row}

-- attribute 1 of object line 3 is u3.1
abbrev pub unknown_text : Unknown → List ℕ
unknown_text u = codes "u" ++ (decimal u.object ++ (codes "." ++ decimal u.attribute))

-- the sign of a number, which is the first one of its row or stands after another, and is negative or not
abbrev pub sign_text : Bool → Bool → List ℕ
sign_text true false = codes ""
sign_text true true = codes "-"
sign_text false false = codes " + "
sign_text false true = codes " - "

abbrev pub negative : ℤ → Bool
negative z = int_lt z (pos 0)

-- an unknown and its coefficient without the sign; one of 1 is not written
abbrev pub scaled_text : ℕ → Unknown → List ℕ
scaled_text n u = cond (n == 1) (unknown_text u) (decimal n ++ (codes " " ++ unknown_text u))

abbrev pub term_text : Bool → Term → List ℕ
term_text first t = sign_text first (negative t.coefficient) ++ scaled_text (unsigned_abs t.coefficient) t.unknown

-- terms that stand after another
abbrev pub more_terms_text : List Term → List ℕ
more_terms_text ts = flat_map (term_text false) ts

-- a constant after the terms; 0 is not written
abbrev pub more_text : ℤ → List ℕ
more_text z = cond (unsigned_abs z == 0) (codes "") (sign_text false (negative z) ++ decimal (unsigned_abs z))

-- the sum of the terms and the constant; the constant alone where there are no terms
abbrev pub sum_text : List Term → ℤ → List ℕ
sum_text [] z = signed_decimal z
sum_text (t ∷ ts) z = term_text true t ++ (more_terms_text ts ++ more_text z)

abbrev pub relation_text : Relation → List ℕ
relation_text AtLeast = codes " >= 0"
relation_text Equal = codes " = 0"

abbrev pub row_text : Row → List ℕ
row_text row = sum_text (terms_of row) row.constant ++ relation_text row.relation

abbrev pub judge_cause_meaning : JudgeCause → List ℕ
judge_cause_meaning TooManyRows = codes "too many rows"
judge_cause_meaning BadVoucher = codes "voucher of wrong length or range"
judge_cause_meaning BadShape = codes "a row of wrong shape"
judge_cause_meaning UnknownsLeft = codes "unknowns left over"
judge_cause_meaning NoConflict = codes "constant without conflict"

abbrev pub judge_cause_text : JudgeCause → List ℕ
judge_cause_text e = codes "cause " ++ (decimal (judge_cause_number e) ++ (codes ": " ++ judge_cause_meaning e))
