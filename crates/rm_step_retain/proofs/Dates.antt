-- No line of a list and its count is a refusal.
use Rattle.std.proofs.Common.{◌≡◌, ◌++◌, ℕ, List, [], ◌∷◌, All, map, subst, sym}
use Rattle.std.proofs.lemmas.List.Elements.{All-append, All-cons, All-map, All-nil}
use Rattle.rm_report.specs.{Reply.{IsPlain}, declared.line.Line.{Line}}

pub counted-dated : (line : ℕ → Line) (last : Line) → ((n : ℕ) → IsPlain (line n)) → IsPlain last → (ns : List ℕ) (lines : List Line) → lines ≡ map line ns ++ last ∷ [] → All IsPlain lines
counted-dated line last each at_end ns lines is =
    subst (All IsPlain) (sym is)
    (All-append IsPlain (map line ns) (last ∷ []) (All-map IsPlain line ns (λ k d inside. each _)) (All-cons IsPlain last [] at_end (All-nil IsPlain)))
