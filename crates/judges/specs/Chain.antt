-- The judge Chain: differences in a ring, whose constants add up to a negative one.
use Rattle.std.specs.Prelude.{◌≡◌, ℕ, ◌≤◌, Bool, true, false, ◌&&◌, ◌||◌, ◌⊎◌, List, [], ◌∷◌, length, ℤ, pos, negsuc, ◌+ℤ◌, ◌≤ℤ◌, ◌==◌, int_le, nat_le, slice_index_or}
use Rattle.std.specs.List.{AllByRecursion, find, list_all}
use Rattle.std.specs.Option.{option_map, unwrap_or}
use Rattle.rows.specs.Making.{no_term}
use Rattle.rows.specs.Meaning.{terms_of}
use Rattle.rows.specs.declared.cause.JudgeCause.{JudgeCause}
use Rattle.rows.specs.declared.cause.JudgeCause.TheVariants.{TooManyRows, BadVoucher, BadShape, UnknownsLeft, NoConflict}
use Rattle.rows.specs.declared.row.Unknown.{Unknown}
use Rattle.rows.specs.declared.row.Term.{Term}
use Rattle.rows.specs.declared.row.Relation.{Relation}
use Rattle.rows.specs.declared.row.Relation.TheVariants.{AtLeast, Equal}
use Rattle.rows.specs.declared.row.Row.{Row}
use Rattle.judges.specs.Judging.{Answer, answer_of}
use Rattle.judges.specs.Unknowns.{same_unknown, same_number, no_unknown}

abbrev pub chain_rows : ℕ
chain_rows = 64

-- the unknown of the first term with this coefficient; `no_unknown` where there is none
abbrev pub unknown_with_lem : ℤ → List Term → Unknown
unknown_with_lem c ts = unwrap_or (option_map (λ t. t.unknown) (find (λ t. same_number t.coefficient c) ts)) no_unknown

-- the unknown with 1, and the one with -1
abbrev pub plus_of : Row → Unknown
plus_of row = unknown_with_lem (pos 1) (terms_of row)

abbrev pub minus_of : Row → Unknown
minus_of row = unknown_with_lem (negsuc 0) (terms_of row)

-- a row leads to the one beside it: its unknown with -1 is that one's with 1
abbrev pub linked : Row × Row → Bool
linked p = same_unknown (minus_of p.0) (plus_of p.1)

-- a row says that one unknown, less another, plus the constant, is 0 or more; its two terms stand in either order
abbrev pub IsDifference : Row → Type 0
IsDifference row =
    (row.relation ≡ AtLeast) × ((u w : Unknown) × (
    (terms_of row ≡ record { coefficient = pos 1; unknown = u } ∷ (record { coefficient = negsuc 0; unknown = w } ∷ []))
    ⊎ (terms_of row ≡ record { coefficient = negsuc 0; unknown = w } ∷ (record { coefficient = pos 1; unknown = u } ∷ []))))

abbrev pub is_at_least : Relation → Bool
is_at_least AtLeast = true
is_at_least Equal = false

abbrev pub are_opposed_lem : ℤ → ℤ → Bool
are_opposed_lem a b = (same_number a (pos 1) && same_number b (negsuc 0)) || (same_number a (negsuc 0) && same_number b (pos 1))

abbrev pub is_difference : Row → Bool
is_difference row =
    is_at_least row.relation && (length (terms_of row) == 2 && are_opposed_lem (slice_index_or (terms_of row) 0 no_term).coefficient (slice_index_or (terms_of row) 1 no_term).coefficient)

abbrev pub all_differences : List Row → Bool
all_differences rows = list_all is_difference rows

-- the unknown with 1 of the first of these rows; where there is none, `home`
abbrev pub next_plus : Unknown → List Row → Unknown
next_plus home [] = home
next_plus home (r ∷ rs) = plus_of r

-- the unknown with -1 of each row is the next row's with 1, and the last row's is `home`
abbrev pub Leads : Unknown → List Row → Type 0
Leads home [] = Unit {0}
Leads home (r ∷ rs) = (minus_of r ≡ next_plus home rs) × Leads home rs

abbrev pub leads : Unknown → List Row → Bool
leads home [] = true
leads home (r ∷ rs) = same_unknown (minus_of r) (next_plus home rs) && leads home rs

-- the last row leads back to the first
abbrev pub home_of : List Row → Unknown
home_of rows = next_plus no_unknown rows

abbrev pub constants_of : List Row → ℤ
constants_of [] = pos 0
constants_of (r ∷ rs) = r.constant +ℤ constants_of rs

-- THE RULE, a condition for each cause
abbrev pub chain_asks : List Row → List ℤ → JudgeCause → Type 0
chain_asks rows voucher TooManyRows = length rows ≤ chain_rows
chain_asks rows voucher BadVoucher = length voucher ≡ 0
chain_asks rows voucher BadShape = AllByRecursion IsDifference rows
chain_asks rows voucher UnknownsLeft = Leads (home_of rows) rows
chain_asks rows voucher NoConflict = constants_of rows ≤ℤ negsuc 0

-- the same as tests
abbrev pub chain_passes : List Row → List ℤ → JudgeCause → Bool
chain_passes rows voucher TooManyRows = nat_le (length rows) chain_rows
chain_passes rows voucher BadVoucher = length voucher == 0
chain_passes rows voucher BadShape = all_differences rows
chain_passes rows voucher UnknownsLeft = leads (home_of rows) rows
chain_passes rows voucher NoConflict = int_le (constants_of rows) (negsuc 0)

abbrev pub chain_answer : List Row → List ℤ → Answer
chain_answer rows voucher = answer_of (chain_passes rows voucher)
