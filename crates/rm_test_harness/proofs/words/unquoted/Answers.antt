use Rattle.std.proofs.{Common.{None, arith, [], ◌∷◌, ◌++◌}, lemmas.Str.Pattern.{strip_prefix_char}}
use Rattle.rm_test_harness.proofs.words.unquoted.Goals as goal

pub returns-in_default : goal.returns-in_default
returns-in_default c t e = absurd (strip_prefix_char 34 c.args.text.now None c.in_default.ensures.cases (omega arith) (t ++ (34 ∷ [])) e)
