use Rattle.std.{specs.{Fmt.{decimal}, Prelude.{codes}}, proofs.Common.{◌∙◌, ◌++◌, ◌∷◌, [], ap, sym, append_assoc, List, ℕ}}
use Rattle.rm_tool_opening.proofs.opening.bad_record.Goals as goal

pub returns : goal.returns
returns c =
    let rest : List ℕ = 32 ∷ decimal c.args.key.id in
    c.from_string.ensures ∙ c.in_ok-format.ensures.ok ∙ ap (λ (t : List ℕ). codes "rman: bad record " ++ t) (sym (append_assoc (decimal c.args.key.kind) rest (10 ∷ [])))
