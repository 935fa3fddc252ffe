use Rattle.std.proofs.{Common.{arith}, lemmas.Bool.{lt-ltb}}
use Rattle.rm_catalog.proofs.Counts.{lasting_few}
use Rattle.rm_catalog.proofs.rules.are_few.Goals as goal

pub returns-then-count_under-lt-MOST_RECORDS : goal.returns-then-count_under-lt-MOST_RECORDS
returns-then-count_under-lt-MOST_RECORDS c = (
  λ _. omega (arith, lasting_few c.args.place c.args.records.now, c.count_under.ensures, c.if-count_under-lt-MOST_RECORDS.true),
  λ _. lt-ltb _ _ c.if-count_under-lt-MOST_RECORDS.true,
)
