use Rattle.std.proofs.Common.{◌∙◌, true, false, sym, ap}
use Rattle.rm_history.{specs.Tree.{is_on_path}, proofs.Paths.{standing-current, standing-other}}
use Rattle.rm_history.proofs.tree.Tree.standing.Goals as goal

pub returns-then-i-current-clause-value : goal.returns-then-i-current-clause-value
returns-then-i-current-clause-value c = standing-current c.args.self.now c.args.i c.args.current c.if-i-current.true

pub returns-then-is_on_path-clause-value : goal.returns-then-is_on_path-clause-value
returns-then-is_on_path-clause-value c =
    let on = ap (λ tree. is_on_path tree c.args.i c.args.current) (sym c.self.view_is ∙ sym c.deref.ensures.value) ∙ sym c.if-is_on_path.ensures in
    standing-other c.args.self.now c.args.i c.args.current true c.if-i-current.false on

pub returns-clause-value : goal.returns-clause-value
returns-clause-value c =
    let off = ap (λ tree. is_on_path tree c.args.i c.args.current) (sym c.self.view_is ∙ sym c.deref.ensures.value) ∙ sym c.if-is_on_path.ensures in
    standing-other c.args.self.now c.args.i c.args.current false c.if-i-current.false off
