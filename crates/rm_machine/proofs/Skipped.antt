-- The lines of skipped records.
use Rattle.std.proofs.{Common.{ℕ, List, [], ◌∷◌, All}, lemmas.List.Elements.{All-cons, All-nil}}
use Rattle.rm_base.specs.declared.kinds.Bad.{Bad}
use Rattle.rm_machine.specs.Recovery.{skipped_lines}
use Rattle.rm_report.specs.{Reply.{IsPlain}, declared.line.Line.TheVariants.{Skipped}}

-- no line of it tells a moment
pub skipped-dated : (xs : List (ℕ × Bad)) → All IsPlain (skipped_lines xs)
skipped-dated [] = All-nil IsPlain
skipped-dated (x ∷ xs) = All-cons IsPlain (Skipped x.0 x.1) (skipped_lines xs) tt (skipped-dated xs)
