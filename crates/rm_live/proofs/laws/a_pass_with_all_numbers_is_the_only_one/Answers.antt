use Rattle.rm_live.proofs.Numbers.{is-only}
use Rattle.rm_live.proofs.laws.a_pass_with_all_numbers_is_the_only_one.Goals as goal

pub returns : goal.returns
returns c = is-only
