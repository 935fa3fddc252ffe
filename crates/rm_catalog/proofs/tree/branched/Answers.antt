use Rattle.std.{specs.Option.{option_map_or}, proofs.Common.{◌≡◌, ◌∙◌, ℕ, ◌+◌, ◌-◌, [], ◌∷◌, ◌++◌, length, set, List, Option, ap, arith}}
use Rattle.std.proofs.lemmas.List.{set_at, length-append}
use Rattle.rm_history.specs.{Tree.{with_end, with_branch, end_of}, declared.tree.Incarnation.{Incarnation}}
use Rattle.rm_catalog.proofs.Trees.{in_last}
use Rattle.rm_catalog.proofs.tree.branched.Goals as goal

-- the last one of a tree gets its end
ended : (t : List Incarnation) (p at e n : ℕ) → n ≡ length t + 1 → with_end (with_branch t p at) n e ≡ t ++ record { parent = p; reset = at; end = e } ∷ []
ended t p at e n is =
    let b : Incarnation = record { parent = p; reset = at; end = at } in
    let last = in_last t b n is in
    ap (λ (o : Option Incarnation). set (t ++ b ∷ []) (n - 1) (let made : Incarnation = record { parent = option_map_or (λ (x : Incarnation). x.parent) o 0; reset = option_map_or (λ (x : Incarnation). x.reset) o 0; end = e } in made)) last
    ∙ set_at t b [] (record { parent = p; reset = at; end = e }) (n - 1) (omega arith)

end_at : (t : List Incarnation) (p at n : ℕ) → n ≡ length t + 1 → end_of (with_branch t p at) n ≡ at
end_at t p at n is = ap (λ (o : Option Incarnation). option_map_or (λ (x : Incarnation). x.end) o 0) (in_last t (record { parent = p; reset = at; end = at }) n is)

pub returns-in_Ok-number : goal.returns-in_Ok-number
returns-in_Ok-number c =
    let t = c.args.tree in
    let i = c.args.i.now in
    let n = c.in_Ok-number.number in
    let number : n ≡ length t + 1 = c.in_Ok-number.ensures.number in
    let grown : c.branch-number.new.self ≡ with_branch t i.parent i.reset = c.in_Ok-number.ensures.grown in
    let ends : end_of c.branch-number.new.self n ≡ i.reset = ap (λ (x : List Incarnation). end_of x n) grown ∙ end_at t i.parent i.reset n number in
    let long : length c.branch-number.new.self ≡ length t + 1 = ap length grown ∙ length-append t _ in
    let le = c.requires.ends in
    c.set_end.ensures.after (c.set_end.ensures.raised.1 ((omega arith, omega arith), omega arith))
    ∙ ap (λ (x : List Incarnation). with_end x n i.end) grown ∙ ended t i.parent i.reset i.end n number
