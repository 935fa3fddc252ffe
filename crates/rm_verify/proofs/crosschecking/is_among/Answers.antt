use Rattle.std.{specs.{Cmp.Lexicographic.{slice_cmp}, Ordering.{nat_cmp}}, proofs.Common.{◌∙◌, List, ℕ, of_calls, rules}}
use Rattle.std.proofs.lemmas.Fn.{always_returns_same}
use Rattle.rm_verify.proofs.Among.{found-among}
use Rattle.rm_verify.proofs.crosschecking.is_among.Goals as goal

pub returns : goal.returns
returns c =
    let facts = c.binary_search_by.ensures in
    let compared = facts.position (λ (other : List ℕ). slice_cmp nat_cmp other c.args.name.now) (always_returns_same _ _ _ (λ a r f k. search (rules, of_calls))) in
    c.is_ok.ensures.value ∙ found-among c.args.names.now c.requires c.args.name.now c.binary_search_by.result facts.bound compared
