use Rattle.std.proofs.Common.{◌≡◌, sym, true, false, refl}
use Rattle.rm_history.proofs.Segments.{is_within_some, is_within_none}
use Rattle.rm_history.proofs.tree.Tree.is_within.Goals as goal

pub returns-in-Some : goal.returns-in-Some
returns-in-Some c = is_within_some c.args.self.now c.args.j c.args.i c.args.high c.in-Some.end (c.in-Some.ensures.some.0 refl).1 (sym c.in-Some.ensures.value)

pub returns-in-None : goal.returns-in-None
returns-in-None c = is_within_none c.args.self.now c.args.j c.args.i c.args.high c.requires.there.0 (λ ancestor. let both : false ≡ true = c.in-None.ensures.some.1 ancestor in absurd (cc)) (sym c.in-None.ensures.value)
