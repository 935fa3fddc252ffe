use Rattle.std.{specs.{Map.Iter.{deref}, BTreeMap.{keys}, String.{string_bytes}}, proofs.Common.{◌≡◌, ◌∙◌, rules, ap, sym, subst, map}}
use Rattle.std.proofs.lemmas.Map.Iter.{iter_end}
use Rattle.rm_base.{specs.Store.{Ascends}, proofs.Names.{lent-names, names-ascend}}
use Rattle.rm_store_dir.proofs.dir.texts.Goals as goal

pub returns : goal.returns
returns c =
    let all : map deref c.loop-name.yielded ≡ keys c.args.names.now = search (rules, iter_end) in
    let texts = c.from_vec.ensures ∙ c.loop-name.invariant ∙ lent-names c.loop-name.yielded ∙ ap (map string_bytes) all in
    subst (λ ns. Ascends ns) (sym texts) (names-ascend (keys c.args.names.now) c.keys-name-items.ensures.ordered)
