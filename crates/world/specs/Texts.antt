-- The answers of the world test by number and as text.
use Rattle.std.specs.Prelude.{ℕ, List, ◌++◌, codes, decimal}
use Rattle.world.specs.declared.parts.Answer.{Answer}
use Rattle.world.specs.declared.parts.Verdict.{Verdict}
use Rattle.world.specs.declared.parts.Verdict.TheVariants.{Yes, No}

-- the premise that a no names; 0 for a yes
abbrev pub verdict_number : Verdict → ℕ
verdict_number Yes = 0
verdict_number (No premise) = premise

-- a verdict, and the count of visits
abbrev pub told_text : Verdict → ℕ → List ℕ
told_text Yes visits = codes "yes, visits " ++ decimal visits
told_text (No premise) visits = codes "no, premise " ++ (decimal premise ++ (codes " is false, visits " ++ decimal visits))

abbrev pub answer_text : Answer → List ℕ
answer_text a = told_text a.verdict a.visits
