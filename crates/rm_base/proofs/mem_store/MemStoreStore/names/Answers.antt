use Rattle.std.{specs.{Map.Iter.{deref}, BTreeMap.{keys}, String.{string_bytes}}, proofs.Common.{◌≡◌, ◌∙◌, rules, ap, sym, subst, map}}
use Rattle.std.proofs.lemmas.Map.Iter.{iter_end}
use Rattle.rm_base.{specs.{Store.{Ascends, AreTheNames}, MemStore.{held_by}}, proofs.Names.{lent-names, names-ascend, names-found}}
use Rattle.rm_base.proofs.mem_store.MemStoreStore.names.Goals as goal

pub returns-clause-ascending : goal.returns-clause-ascending
returns-clause-ascending c =
    let all : map deref c.loop-name.yielded ≡ keys c.args.self.now.objects = search (rules, iter_end) in
    let names = c.from_vec.ensures ∙ c.loop-name.invariant ∙ lent-names c.loop-name.yielded ∙ ap (map string_bytes) all in
    subst (λ ns. Ascends ns) (sym names) (names-ascend (keys c.args.self.now.objects) c.keys-name-items.ensures.ordered)

pub returns-clause-exact : goal.returns-clause-exact
returns-clause-exact c =
    let all : map deref c.loop-name.yielded ≡ keys c.args.self.now.objects = search (rules, iter_end) in
    let names = c.from_vec.ensures ∙ c.loop-name.invariant ∙ lent-names c.loop-name.yielded ∙ ap (map string_bytes) all in
    subst (λ ns. AreTheNames ns (held_by c.args.self.now)) (sym names) (names-found c.args.self.now.objects.entries)
