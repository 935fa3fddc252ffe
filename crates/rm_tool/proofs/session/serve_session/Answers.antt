use Rattle.rm_tool.proofs.Closing.{closes, ends-at-saving}
use Rattle.rm_tool.proofs.session.serve_session.Goals as goal

pub returns-clause-ok : goal.returns-clause-ok
returns-clause-ok g c = closes c.requires.fresh c.args.drill c.in_ok-refused.ensures.ok c.in_ok-save.ensures.saved c.save.ensures.unapplied c.in_ok-save.ensures.ends

pub returns-in_err-save-clause-store : goal.returns-in_err-save-clause-store
returns-in_err-save-clause-store g c = λ is. ends-at-saving c.requires.fresh c.args.drill c.in_ok-refused.ensures.ok c.in_err-save.ensures.stopped c.save.ensures.unapplied

pub returns-in_err-save-clause-keeper : goal.returns-in_err-save-clause-keeper
returns-in_err-save-clause-keeper g c = λ is. ends-at-saving c.requires.fresh c.args.drill c.in_ok-refused.ensures.ok c.in_err-save.ensures.stopped c.save.ensures.unapplied

pub returns-in_err-save-clause-memory : goal.returns-in_err-save-clause-memory
returns-in_err-save-clause-memory g c = λ is. ends-at-saving c.requires.fresh c.args.drill c.in_ok-refused.ensures.ok c.in_err-save.ensures.stopped c.save.ensures.unapplied
