use Rattle.std.{specs.Option.{option_copied}, proofs.Common.{rules}}
use Rattle.rm_backup.{specs.Parents.{MayBeParent}, proofs.Choices.{tells_one}}
use Rattle.rm_backup.proofs.parents.own.Goals as goal

pub returns-then-is_on_path : goal.returns-then-is_on_path
returns-then-is_on_path c =
    let P = MayBeParent c.args.catalog.now c.args.file c.args.cumulative (option_copied c.args.tag) in
    let passes : P c.args.piece.now = search rules in
    tells_one P c.args.piece.now passes
