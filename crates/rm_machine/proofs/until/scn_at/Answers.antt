use Rattle.std.{specs.Prelude.{nat_le}, proofs.Common.{rules}}
use Rattle.rm_retain.specs.Window.{is_on_path}
use Rattle.rm_machine.specs.State.{ledger, tree}
use Rattle.rm_machine.proofs.until.scn_at.Goals as goal
use Rattle.rm_base.proofs.LastPicked.{last-picked}

pub returns-in_err-last_until : goal.returns-in_err-last_until
returns-in_err-last_until c = rw (← last-picked (is_on_path (tree c.args.state.now) c.args.i) (λ m. nat_le m.moment c.args.t) (ledger c.args.state.now).marks) (search rules)

pub returns-in-Some : goal.returns-in-Some
returns-in-Some c = rw (← last-picked (is_on_path (tree c.args.state.now) c.args.i) (λ m. nat_le m.moment c.args.t) (ledger c.args.state.now).marks) (search rules)

pub returns-in-None : goal.returns-in-None
returns-in-None c = rw (← last-picked (is_on_path (tree c.args.state.now) c.args.i) (λ m. nat_le m.moment c.args.t) (ledger c.args.state.now).marks) (search rules)
