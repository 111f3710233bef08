use Rattle.std.proofs.Common.{take}
use Rattle.std.specs.Fmt.{IsPlainFormatter, HasWritten}
use Rattle.rows.specs.Texts.{more_terms_text}
use Rattle.rows.proofs.text.put_more_terms.Given as goal

abbrev pub invariant-loop-term : goal.invariant-loop-term
invariant-loop-term g l = IsPlainFormatter l.initial.f → HasWritten g.W.Write.write_str_gives l.initial.f (more_terms_text (take l.term-index l.terms)) l.f
